-- What is written as a token is read as it.
use Rattle.std.proofs.Common.{◌≡◌, ℕ, suc, ◌+◌, Bool, true, false, ◌||◌, ◌==◌, List, [], ◌∷◌, ◌++◌, length, take, drop}
use Rattle.std.proofs.Common.{codes, refl, ap, ◌∙◌, arith}
use Rattle.std.proofs.lemmas.{List.{take_at, drop_at}, Bool.{and_parts, eqb-true, and_right}}
use Rattle.std.specs.{List.list_all, Str.Parse.digits_value}
use Prim.Native.Char.{code}
use Rattle.mm_line.specs.declared.class.Class.{Class, TheVariants.{Blank, Letter, NameByte, Decimal, Hexadecimal}}
use Rattle.mm_line.specs.declared.token.Token.{Token, TheVariants.{Name, Directive, Comma, Colon, Plus}}
use Rattle.mm_line.specs.Tokens.{is_in, run, starts, behind, starts_hexadecimal, number, decimal, hexadecimal, front}
use Rattle.mm_line.specs.{Tokens.{token_at, next_token}, Forms.{is_name, is_digits}, TokenPlaces.written}
use Rattle.mm_line.proofs.Longest.{other, no_digit}

-- a run ends where a byte of another kind is behind it
pub run_ends : (c : Class) (text rest : List ℕ) → list_all (is_in c) text ≡ true → starts c rest ≡ false → run c (text ++ rest) ≡ length text
run_ends c [] [] all stop = refl
run_ends c [] (b ∷ rest) all stop = rw stop refl
run_ends c (b ∷ text) rest all stop =
    let two = and_parts (is_in c b) (list_all (is_in c) text) all in
    rw (two.0, run_ends c text rest two.1 stop) (omega arith)

front_written : (token : Token) (text rest : List ℕ) → front token (length text) (text ++ rest) ≡ written token text rest
front_written token text rest = rw (take_at text rest (length text) refl, drop_at text rest (length text) refl) refl

one_add : (n : ℕ) → 1 + n ≡ suc n
one_add n = omega arith

two_add : (n : ℕ) → 2 + n ≡ suc (suc n)
two_add n = omega arith

-- a blank before a token
pub blank_read : (b : ℕ) (line : List ℕ) → is_in Blank b ≡ true → next_token (b ∷ line) ≡ next_token line
unfolding next_token
blank_read b line h = rw h (ap (λ k. token_at (drop k (b ∷ line))) (one_add (run Blank line)))

-- a token with no blank before it
pub no_blank : (b : ℕ) (line : List ℕ) → is_in Blank b ≡ false → next_token (b ∷ line) ≡ token_at (b ∷ line)
unfolding next_token
no_blank b line h = rw h refl

-- a byte of a kind that no blank is of
not_blank : (p : ℕ → Bool) (b : ℕ) → p b ≡ true → p (code " ") ≡ false → p (code "\t") ≡ false → p (code "\r") ≡ false → is_in Blank b ≡ false
not_blank p b h space tab return = rw (other p b (code " ") h space, other p b (code "\t") h tab, other p b (code "\r") h return) refl

pub comma_read : (rest : List ℕ) → next_token (codes "," ++ rest) ≡ written Comma (codes ",") rest
unfolding next_token token_at
comma_read rest = refl

pub colon_read : (rest : List ℕ) → next_token (codes ":" ++ rest) ≡ written Colon (codes ":") rest
unfolding next_token token_at
colon_read rest = refl

pub plus_read : (rest : List ℕ) → next_token (codes "+" ++ rest) ≡ written Plus (codes "+") rest
unfolding next_token token_at
plus_read rest = refl

letter_at : (b : ℕ) (bytes : List ℕ) → is_in Letter b ≡ true → token_at (b ∷ bytes) ≡ front Name (run NameByte (b ∷ bytes)) (b ∷ bytes)
unfolding token_at
letter_at b bytes h =
    let not_a : (v : ℕ) → is_in Letter v ≡ false → (b == v) ≡ false = λ v f. other (is_in Letter) b v h f in
    rw (not_a (code ";") refl, not_a (code ",") refl, not_a (code ":") refl, not_a (code "+") refl, h) refl

pub name_read : (name rest : List ℕ) → is_name name ≡ true → starts NameByte rest ≡ false → next_token (name ++ rest) ≡ written Name name rest
name_read [] rest h stop = cc
name_read (b ∷ bs) rest h stop =
    let two = and_parts (is_in Letter b) (list_all (is_in NameByte) (b ∷ bs)) h in
    no_blank b (bs ++ rest) (not_blank (is_in Letter) b two.0 refl refl refl) ∙ letter_at b (bs ++ rest) two.0
    ∙ ap (λ k. front Name k (b ∷ (bs ++ rest))) (run_ends NameByte (b ∷ bs) rest two.1 stop) ∙ front_written Name (b ∷ bs) rest

directive_at : (bytes : List ℕ) → starts Letter bytes ≡ true → token_at (code "." ∷ bytes) ≡ front Directive (1 + run NameByte bytes) (code "." ∷ bytes)
unfolding token_at
directive_at bytes h = rw h refl

starts_append : (c : Class) (text rest : List ℕ) → starts c text ≡ true → starts c (text ++ rest) ≡ true
starts_append c [] rest h = cc
starts_append c (b ∷ bs) rest h = h

pub directive_read : (name rest : List ℕ) → is_name name ≡ true → starts NameByte rest ≡ false → next_token ((codes "." ++ name) ++ rest) ≡ written Directive (codes "." ++ name) rest
directive_read name rest h stop =
    let two = and_parts (starts Letter name) (list_all (is_in NameByte) name) h in
    no_blank (code ".") (name ++ rest) refl ∙ directive_at (name ++ rest) (starts_append Letter name rest two.0)
    ∙ ap (λ k. front Directive k (code "." ∷ (name ++ rest))) (ap (λ k. 1 + k) (run_ends NameByte name rest two.1 stop) ∙ one_add (length name)) ∙ front_written Directive (code "." ∷ name) rest

-- the digits that begin
digits_begin : (c : Class) (radix : ℕ) (digits rest : List ℕ) → list_all (is_in c) digits ≡ true → starts c rest ≡ false
    → digits_value radix (take (run c (digits ++ rest)) (digits ++ rest)) ≡ digits_value radix digits
digits_begin c radix digits rest all stop = rw (run_ends c digits rest all stop, take_at digits rest (length digits) refl) refl

negative_at : (bytes : List ℕ) → starts Decimal bytes ≡ true → token_at (code "-" ∷ bytes) ≡ front (decimal true bytes) (1 + run Decimal bytes) (code "-" ∷ bytes)
unfolding token_at
negative_at bytes h = rw h refl

pub negative_read : (digits rest : List ℕ) → is_digits Decimal digits ≡ true → starts Decimal rest ≡ false
    → next_token ((codes "-" ++ digits) ++ rest) ≡ written (number true (digits_value 10 digits)) (codes "-" ++ digits) rest
negative_read digits rest h stop =
    let two = and_parts (starts Decimal digits) (list_all (is_in Decimal) digits) h in
    no_blank (code "-") (digits ++ rest) refl ∙ negative_at (digits ++ rest) (starts_append Decimal digits rest two.0)
    ∙ ap (λ t. front t (1 + run Decimal (digits ++ rest)) (code "-" ∷ (digits ++ rest))) (ap (number true) (digits_begin Decimal 10 digits rest two.1 stop))
    ∙ ap (λ k. front (number true (digits_value 10 digits)) k (code "-" ∷ (digits ++ rest))) (ap (λ k. 1 + k) (run_ends Decimal digits rest two.1 stop) ∙ one_add (length digits))
    ∙ front_written (number true (digits_value 10 digits)) (code "-" ∷ digits) rest

hexadecimal_at : (bytes : List ℕ) → starts Hexadecimal bytes ≡ true → token_at (code "0" ∷ code "x" ∷ bytes) ≡ front (hexadecimal bytes) (2 + run Hexadecimal bytes) (code "0" ∷ code "x" ∷ bytes)
unfolding token_at
hexadecimal_at bytes h = rw h refl

pub hexadecimal_read : (digits rest : List ℕ) → is_digits Hexadecimal digits ≡ true → starts Hexadecimal rest ≡ false
    → next_token ((codes "0x" ++ digits) ++ rest) ≡ written (number false (digits_value 16 digits)) (codes "0x" ++ digits) rest
hexadecimal_read digits rest h stop =
    let two = and_parts (starts Hexadecimal digits) (list_all (is_in Hexadecimal) digits) h in
    no_blank (code "0") (code "x" ∷ (digits ++ rest)) refl ∙ hexadecimal_at (digits ++ rest) (starts_append Hexadecimal digits rest two.0)
    ∙ ap (λ t. front t (2 + run Hexadecimal (digits ++ rest)) (code "0" ∷ code "x" ∷ (digits ++ rest))) (ap (number false) (digits_begin Hexadecimal 16 digits rest two.1 stop))
    ∙ ap (λ k. front (number false (digits_value 16 digits)) k (code "0" ∷ code "x" ∷ (digits ++ rest))) (ap (λ k. 2 + k) (run_ends Hexadecimal digits rest two.1 stop) ∙ two_add (length digits))
    ∙ front_written (number false (digits_value 16 digits)) (code "0" ∷ code "x" ∷ digits) rest

-- a byte not of a kind is not one of that kind
not_of : (p : ℕ → Bool) (b v : ℕ) → p b ≡ false → p v ≡ true → (b == v) ≡ false
not_of p b v e f = of (b == v) refl
  where
    of : (w : Bool) → (b == v) ≡ w → w ≡ false
    of true h = let g : p b ≡ p v = ap p (eqb-true b v h) in cc
    of false h = refl

-- no `x` begins digits with no name behind them
no_x : (ds rest : List ℕ) → list_all (is_in Decimal) ds ≡ true → starts NameByte rest ≡ false → behind (code "x") (starts Hexadecimal) (ds ++ rest) ≡ false
no_x [] [] all stop = refl
no_x [] (y ∷ ys) all stop = rw (not_of (is_in NameByte) y (code "x") stop refl) refl
no_x (e ∷ es) rest all stop = let two = and_parts (is_in Decimal e) (list_all (is_in Decimal) es) all in rw (other (is_in Decimal) e (code "x") two.0 refl) refl

digit_no_letter : (d : ℕ) → is_in Decimal d ≡ true → is_in Letter d ≡ false
digit_no_letter d h = of (is_in Letter d) refl
  where
    of : (w : Bool) → is_in Letter d ≡ w → w ≡ false
    of true e = absurd (no_digit d e h)
    of false e = refl

decimal_at : (d : ℕ) (bytes : List ℕ) → is_in Decimal d ≡ true → behind (code "x") (starts Hexadecimal) bytes ≡ false
    → token_at (d ∷ bytes) ≡ front (decimal false (d ∷ bytes)) (run Decimal (d ∷ bytes)) (d ∷ bytes)
unfolding token_at
decimal_at d bytes h none =
    let not_a : (v : ℕ) → is_in Decimal v ≡ false → (d == v) ≡ false = λ v f. other (is_in Decimal) d v h f in
    let no_number : starts_hexadecimal (d ∷ bytes) ≡ false = and_right (d == code "0") (behind (code "x") (starts Hexadecimal) bytes) none in
    rw (not_a (code ";") refl, not_a (code ",") refl, not_a (code ":") refl, not_a (code "+") refl, digit_no_letter d h, not_a (code ".") refl, not_a (code "-") refl, no_number, h) refl

pub or_last : (a b : Bool) → (a || b) ≡ false → b ≡ false
or_last true b e = cc
or_last false b e = e

no_more_digits : (rest : List ℕ) → starts NameByte rest ≡ false → starts Decimal rest ≡ false
no_more_digits [] stop = refl
no_more_digits (y ∷ ys) stop = or_last (is_in Letter y) (is_in Decimal y) stop

pub decimal_read : (digits rest : List ℕ) → is_digits Decimal digits ≡ true → starts NameByte rest ≡ false → next_token (digits ++ rest) ≡ written (number false (digits_value 10 digits)) digits rest
decimal_read [] rest h stop = cc
decimal_read (d ∷ ds) rest h stop =
    let two = and_parts (is_in Decimal d) (list_all (is_in Decimal) (d ∷ ds)) h in
    let three = and_parts (is_in Decimal d) (list_all (is_in Decimal) ds) two.1 in
    let digits = d ∷ ds in
    let ends = no_more_digits rest stop in
    no_blank d (ds ++ rest) (not_blank (is_in Decimal) d two.0 refl refl refl) ∙ decimal_at d (ds ++ rest) two.0 (no_x ds rest three.1 stop)
    ∙ ap (λ t. front t (run Decimal (digits ++ rest)) (digits ++ rest)) (ap (number false) (digits_begin Decimal 10 digits rest two.1 ends))
    ∙ ap (λ k. front (number false (digits_value 10 digits)) k (digits ++ rest)) (run_ends Decimal digits rest two.1 ends)
    ∙ front_written (number false (digits_value 10 digits)) digits rest
