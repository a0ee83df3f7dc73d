-- Each token is the longest one that begins at its place.
use Rattle.std.proofs.Common.{◌≡◌, ◌≢◌, ℕ, zero, suc, ◌+◌, ◌<◌, ◌≤◌, ◌^◌, Bool, true, false, ◌&&◌, ◌==◌, nat_lt, nat_le}
use Rattle.std.proofs.Common.{if◌then◌else◌, List, [], ◌∷◌, length, take, drop, refl, sym, ap, subst, arith}
use Rattle.std.proofs.lemmas.Bool.{and_parts, eqb-true, and_right, and_from, or_left, Decides.nat_tests}
use Rattle.std.proofs.lemmas.List.{length-take-le, Sums.prefix_len-le-length}
use Rattle.std.specs.{List.list_all, Str.Parse.digits_value}
use Prim.Native.Char.{code}
use Rattle.mm_line.specs.declared.class.Class.{Class, TheVariants.{Blank, Letter, NameByte, Decimal, Hexadecimal}}
use Rattle.mm_line.specs.declared.token.Token.{Token}
use Rattle.mm_line.specs.declared.token.Token.TheVariants.{Name, Directive, Number, Wide, Comma, Colon, Plus, Bad, End}
use Rattle.mm_line.specs.Tokens.{Next, is_in, run, starts, behind, starts_hexadecimal, number, decimal, hexadecimal}
use Rattle.mm_line.specs.Tokens.{front, end, token_at, next_token}
use Rattle.mm_line.specs.Forms.{is_name, is_directive, is_digits, is_number, is_sign, is_token, has_form, IsLongest}
use Rattle.mm_line.proofs.{Cases.token_cases, TokenPlaces.{token_begins, run_all, name_form}}

-- a longer piece than a run is not all of its kind
run_stops : (c : Class) (bytes : List ℕ) (k : ℕ) → run c bytes < k → k ≤ length bytes → list_all (is_in c) (take k bytes) ≡ false
run_stops c [] k more le = absurd (omega arith)
run_stops c (b ∷ bytes) zero more le = absurd (omega arith)
run_stops c (b ∷ bytes) (suc k) more le =
    let step : (v : Bool) → is_in c b ≡ v → (if v then 1 + run c bytes else 0) < suc k
    → (is_in c b && list_all (is_in c) (take k bytes)) ≡ false = λ v. elim v as (λ w. is_in c b ≡ w
    → (if w then 1 + run c bytes else 0) < suc k → (is_in c b && list_all (is_in c) (take k bytes)) ≡ false) [
      | true ↦ λ e m. rw e (run_stops c bytes k (omega arith) (omega arith))
      | false ↦ λ e m. rw e refl
    ] in step (is_in c b) refl more

-- a byte of a kind is not one that is not of that kind
pub other : (p : ℕ → Bool) (b v : ℕ) → p b ≡ true → p v ≡ false → (b == v) ≡ false
other p b v e f = of (b == v) refl
  where
    of : (w : Bool) → (b == v) ≡ w → w ≡ false
    of true h = let g : p b ≡ p v = ap p (eqb-true b v h) in cc
    of false h = refl

pub no_digit : (b : ℕ) → is_in Letter b ≡ true → is_in Decimal b ≡ true → ⊥
no_digit b e f = grind (arith, nat_tests)

letter_no_digit : (b : ℕ) → is_in Letter b ≡ true → is_in Decimal b ≡ false
letter_no_digit b e = of (is_in Decimal b) refl
  where
    of : (w : Bool) → is_in Decimal b ≡ w → w ≡ false
    of true f = absurd (no_digit b e f)
    of false f = refl

-- a test that no piece passes where another test fails
starts_less : (c : Class) (r : List ℕ → Bool) (bytes : List ℕ) → starts c bytes ≡ false → (k : ℕ) → (starts c (take k bytes) && r (take k bytes)) ≡ false
starts_less c r [] e zero = refl
starts_less c r [] e (suc k) = refl
starts_less c r (b ∷ bytes) e zero = refl
starts_less c r (b ∷ bytes) e (suc k) = rw e refl

behind_less : (byte : ℕ) (p q : List ℕ → Bool) (bytes : List ℕ) → ((xs : List ℕ) → q xs ≡ false → (k : ℕ)
    → p (take k xs) ≡ false) → behind byte q bytes ≡ false → (k : ℕ) → behind byte p (take k bytes) ≡ false
behind_less byte p q [] less e zero = refl
behind_less byte p q [] less e (suc k) = refl
behind_less byte p q (b ∷ bytes) less e zero = refl
behind_less byte p q (b ∷ bytes) less e (suc k) = of (b == byte) e
  where
    of : (v : Bool) → (v && q bytes) ≡ false → (v && p (take k bytes)) ≡ false
    of true f = less bytes f k
    of false f = refl

-- the five forms, each of which fails
pub no_token : (bytes : List ℕ) → is_name bytes ≡ false → is_directive bytes ≡ false → is_number bytes ≡ false → is_sign (code ",") bytes ≡ false
    → is_sign (code ":") bytes ≡ false → is_sign (code "+") bytes ≡ false → is_token bytes ≡ false
no_token bytes a b c d e f = rw (a, b, c, d, e, f) refl

no_number : (bytes : List ℕ) → is_digits Decimal bytes ≡ false → behind (code "-") (is_digits Decimal) bytes ≡ false
    → behind (code "0") (behind (code "x") (is_digits Hexadecimal)) bytes ≡ false → is_number bytes ≡ false
no_number bytes a b c = rw (a, b, c) refl

-- what a token says of the bytes from its first on
pub record IsLongestAt (at : List ℕ) (n : Next) : Type 0 where
  pub form : has_form n.token n.text ≡ true
  pub longest : n.token ≢ End → (k : ℕ) → length n.text < k → k ≤ length at → is_token (take k at) ≡ false
  pub none : n.token ≡ Bad → (k : ℕ) → is_token (take k at) ≡ false

end_longest : (at : List ℕ) → IsLongestAt at end
end_longest at = record { form = refl; longest = λ other. absurd (other refl); none = λ e. cc }

front_longest : (token : Token) (size : ℕ) (at : List ℕ) → token ≢ Bad → size ≤ length at
    → has_form token (take size at) ≡ true → ((k : ℕ) → size < k → k ≤ length at → is_token (take k at) ≡ false)
    → IsLongestAt at (front token size at)
front_longest token size at good within form longest = record {
  form = form;
  longest = λ _ k more le. longest k (let s = length-take-le size at within in omega arith) le;
  none = λ e. absurd (good e);
}

-- a sign and a byte more are no token
sign_longest : (v : ℕ) → ((y : ℕ) (xs : List ℕ) → is_token (v ∷ y ∷ xs) ≡ false) → (b : ℕ) (bytes : List ℕ)
    → (b == v) ≡ true → (k : ℕ) → 1 < k → k ≤ length (b ∷ bytes) → is_token (take k (b ∷ bytes)) ≡ false
sign_longest v alone b bytes e zero more le = absurd (omega arith)
sign_longest v alone b bytes e (suc zero) more le = absurd (omega arith)
sign_longest v alone b [] e (suc (suc k)) more le = absurd (omega arith)
sign_longest v alone b (y ∷ ys) e (suc (suc k)) more le = subst (λ c. is_token (c ∷ y ∷ take k ys) ≡ false) (sym (eqb-true b v e)) (alone y (take k ys))

sign_form : (v b : ℕ) (bytes : List ℕ) → (b == v) ≡ true → is_sign v (take 1 (b ∷ bytes)) ≡ true
sign_form v b bytes e = rw e refl

-- a run that begins has the form of one
run_starts : (c : Class) (bytes : List ℕ) → starts c bytes ≡ true → starts c (take (run c bytes) bytes) ≡ true
run_starts c [] e = cc
run_starts c (b ∷ bytes) e = let s : 1 + run c bytes ≡ suc (run c bytes) = omega arith in rw (e, s) e

digits_form : (c : Class) (bytes : List ℕ) → starts c bytes ≡ true → is_digits c (take (run c bytes) bytes) ≡ true
digits_form c bytes e = and_from _ _ (run_starts c bytes e) (run_all c bytes)

digits_longest : (c : Class) (bytes : List ℕ) (k : ℕ) → run c bytes < k → k ≤ length bytes → is_digits c (take k bytes) ≡ false
digits_longest c bytes k more le = and_right (starts c (take k bytes)) _ (run_stops c bytes k more le)

names_form : (bytes : List ℕ) → starts Letter bytes ≡ true → is_name (take (run NameByte bytes) bytes) ≡ true
names_form [] e = cc
names_form (b ∷ bytes) e = name_form b bytes e

name_longest : (bytes : List ℕ) (k : ℕ) → run NameByte bytes < k → k ≤ length bytes → is_name (take k bytes) ≡ false
name_longest bytes k more le = and_right (starts Letter (take k bytes)) _ (run_stops NameByte bytes k more le)

number_or_wide_form : (b negative : Bool) (n : ℕ) (bytes : List ℕ) → is_number bytes ≡ true → has_form (if b then Number negative n else Wide) bytes ≡ true
number_or_wide_form true negative n bytes h = h
number_or_wide_form false negative n bytes h = h

number_form : (negative : Bool) (n : ℕ) (bytes : List ℕ) → is_number bytes ≡ true → has_form (number negative n) bytes ≡ true
number_form true n bytes h = number_or_wide_form (nat_le n (2 ^ 63)) true n bytes h
number_form false n bytes h = number_or_wide_form (nat_lt n (2 ^ 64)) false n bytes h

number_or_wide_good : (b negative : Bool) (n : ℕ) → (if b then Number negative n else Wide) ≢ Bad
number_or_wide_good true negative n = λ e. cc
number_or_wide_good false negative n = λ e. cc

number_good : (negative : Bool) (n : ℕ) → number negative n ≢ Bad
number_good true n = number_or_wide_good (nat_le n (2 ^ 63)) true n
number_good false n = number_or_wide_good (nat_lt n (2 ^ 64)) false n

decimal_form : (negative : Bool) (bytes text : List ℕ) → is_number text ≡ true → has_form (decimal negative bytes) text ≡ true
decimal_form negative bytes text h = number_form negative (digits_value 10 (take (run Decimal bytes) bytes)) text h

hexadecimal_form : (bytes text : List ℕ) → is_number text ≡ true → has_form (hexadecimal bytes) text ≡ true
hexadecimal_form bytes text h = number_form false (digits_value 16 (take (run Hexadecimal bytes) bytes)) text h

run_within : (c : Class) (bytes : List ℕ) → run c bytes ≤ length bytes
run_within c bytes = prefix_len-le-length (is_in c) bytes

name_case : (b : ℕ) (bytes : List ℕ) → is_in Letter b ≡ true → IsLongestAt (b ∷ bytes) (front Name (run NameByte (b ∷ bytes)) (b ∷ bytes))
name_case b bytes e = front_longest Name (run NameByte (b ∷ bytes)) (b ∷ bytes) (λ h. cc) (run_within NameByte (b ∷ bytes)) (name_form b bytes e) longest
  where
    not_a : (v : ℕ) → is_in Letter v ≡ false → (b == v) ≡ false
    not_a v f = other (is_in Letter) b v e f

    longest : (k : ℕ) → run NameByte (b ∷ bytes) < k → k ≤ length (b ∷ bytes) → is_token (take k (b ∷ bytes)) ≡ false
    longest zero more le = absurd (omega arith)
    longest (suc k) more le = no_token (b ∷ take k bytes) (name_longest (b ∷ bytes) (suc k) more le)
        (rw (not_a (code ".") refl) refl)
        (no_number (b ∷ take k bytes) (rw (letter_no_digit b e) refl) (rw (not_a (code "-") refl) refl) (rw (not_a (code "0") refl) refl))
        (rw (not_a (code ",") refl) refl) (rw (not_a (code ":") refl) refl) (rw (not_a (code "+") refl) refl)

directive_at : (bytes : List ℕ) → starts Letter bytes ≡ true → let at = code "." ∷ bytes in IsLongestAt at (front Directive (1 + run NameByte bytes) at)
directive_at bytes e = front_longest Directive (1 + run NameByte bytes) at (λ h. cc) (let w = run_within NameByte bytes in omega arith) (rw s (names_form bytes e)) longest
  where
    at : List ℕ
    at = code "." ∷ bytes

    s : 1 + run NameByte bytes ≡ suc (run NameByte bytes)
    s = omega arith

    longest : (k : ℕ) → 1 + run NameByte bytes < k → k ≤ length at → is_token (take k at) ≡ false
    longest zero more le = absurd (omega arith)
    longest (suc k) more le = no_token (code "." ∷ take k bytes) refl (name_longest bytes k (omega arith) (omega arith)) refl refl refl refl

negative_at : (bytes : List ℕ) → starts Decimal bytes ≡ true → let at = code "-" ∷ bytes in IsLongestAt at (front (decimal true bytes) (1 + run Decimal bytes) at)
negative_at bytes e = front_longest (decimal true bytes) (1 + run Decimal bytes) at (number_good true _)
    (let w = run_within Decimal bytes in omega arith) (decimal_form true bytes (take (1 + run Decimal bytes) at)
    (rw s form)) longest
  where
    at : List ℕ
    at = code "-" ∷ bytes

    s : 1 + run Decimal bytes ≡ suc (run Decimal bytes)
    s = omega arith

    form : is_number (code "-" ∷ take (run Decimal bytes) bytes) ≡ true
    form = or_left (is_digits Decimal (take (run Decimal bytes) bytes)) false (digits_form Decimal bytes e)

    longest : (k : ℕ) → 1 + run Decimal bytes < k → k ≤ length at → is_token (take k at) ≡ false
    longest zero more le = absurd (omega arith)
    longest (suc k) more le = no_token (code "-" ∷ take k bytes) refl refl
        (no_number (code "-" ∷ take k bytes) refl (digits_longest Decimal bytes k (omega arith) (omega arith)) refl) refl refl refl

hexadecimal_at : (bytes : List ℕ) → starts Hexadecimal bytes ≡ true → let at = code "0" ∷ code "x" ∷ bytes in IsLongestAt at (front (hexadecimal bytes) (2 + run Hexadecimal bytes) at)
hexadecimal_at bytes e = front_longest (hexadecimal bytes) (2 + run Hexadecimal bytes) at (number_good false _)
    (let w = run_within Hexadecimal bytes in omega arith) (hexadecimal_form bytes (take (2 + run Hexadecimal bytes) at)
    (rw s form)) longest
  where
    at : List ℕ
    at = code "0" ∷ code "x" ∷ bytes

    s : 2 + run Hexadecimal bytes ≡ suc (suc (run Hexadecimal bytes))
    s = omega arith

    form : is_number (code "0" ∷ code "x" ∷ take (run Hexadecimal bytes) bytes) ≡ true
    form = digits_form Hexadecimal bytes e

    longest : (k : ℕ) → 2 + run Hexadecimal bytes < k → k ≤ length at → is_token (take k at) ≡ false
    longest zero more le = absurd (omega arith)
    longest (suc zero) more le = absurd (omega arith)
    longest (suc (suc k)) more le = no_token (code "0" ∷ code "x" ∷ take k bytes) refl refl
        (no_number (code "0" ∷ code "x" ∷ take k bytes) refl refl (digits_longest Hexadecimal bytes k (omega arith) (omega arith))) refl refl refl

-- where no number in hexadecimal begins, no piece is one
hexadecimal_less : (bytes : List ℕ) → starts_hexadecimal bytes ≡ false → (k : ℕ) → behind (code "0") (behind (code "x") (is_digits Hexadecimal)) (take k bytes) ≡ false
hexadecimal_less bytes e k =
    behind_less (code "0") (behind (code "x") (is_digits Hexadecimal)) (behind (code "x") (starts Hexadecimal)) bytes
    (λ xs. behind_less (code "x") (is_digits Hexadecimal) (starts Hexadecimal) xs (starts_less Hexadecimal (list_all (is_in Hexadecimal)))) e k

decimal_case : (b : ℕ) (bytes : List ℕ) → is_in Letter b ≡ false → starts_hexadecimal (b ∷ bytes) ≡ false
    → is_in Decimal b ≡ true → IsLongestAt (b ∷ bytes) (front (decimal false (b ∷ bytes)) (run Decimal (b ∷ bytes))
    (b ∷ bytes))
decimal_case b bytes no_letter no_hexadecimal e = front_longest (decimal false at) (run Decimal at) at (number_good false _) (run_within Decimal at) (decimal_form false at text form) longest
  where
    at : List ℕ
    at = b ∷ bytes

    not_a : (v : ℕ) → is_in Decimal v ≡ false → (b == v) ≡ false
    not_a v f = other (is_in Decimal) b v e f

    text : List ℕ
    text = take (run Decimal at) at

    form : is_number text ≡ true
    form = or_left _ _ (or_left (is_digits Decimal text) _ (digits_form Decimal at e))

    longest : (k : ℕ) → run Decimal at < k → k ≤ length at → is_token (take k at) ≡ false
    longest zero more le = absurd (omega arith)
    longest (suc k) more le = no_token (b ∷ take k bytes) (rw no_letter refl) (rw (not_a (code ".") refl) refl)
        (no_number (b ∷ take k bytes) (digits_longest Decimal at (suc k) more le) (rw (not_a (code "-") refl) refl) (hexadecimal_less at no_hexadecimal (suc k)))
        (rw (not_a (code ",") refl) refl) (rw (not_a (code ":") refl) refl) (rw (not_a (code "+") refl) refl)

module _ (b : ℕ) (bytes : List ℕ) where
  bad_case : (b == code ",") ≡ false → (b == code ":") ≡ false → (b == code "+") ≡ false → is_in Letter b ≡ false → behind (code ".") (starts Letter) (b ∷ bytes) ≡ false
      → behind (code "-") (starts Decimal) (b ∷ bytes) ≡ false → starts_hexadecimal (b ∷ bytes) ≡ false → is_in Decimal b ≡ false → IsLongestAt (b ∷ bytes) (front Bad 1 (b ∷ bytes))
  bad_case comma colon plus letter directive negative hexadecimal digit = record { form = refl; longest = λ _ k _ _. none k; none = λ _. none }
    where
      at : List ℕ
      at = b ∷ bytes

      none : (k : ℕ) → is_token (take k at) ≡ false
      none zero = refl
      none (suc k) = no_token (b ∷ take k bytes) (rw letter refl)
          (behind_less (code ".") is_name (starts Letter) at (starts_less Letter (list_all (is_in NameByte))) directive (suc k))
          (no_number (b ∷ take k bytes) (rw digit refl)
          (behind_less (code "-") (is_digits Decimal) (starts Decimal) at (starts_less Decimal (list_all (is_in Decimal))) negative (suc k)) (hexadecimal_less at hexadecimal (suc k)))
          (rw comma refl) (rw colon refl) (rw plus refl)

  directive_case : behind (code ".") (starts Letter) (b ∷ bytes) ≡ true → IsLongestAt (b ∷ bytes) (front Directive (1 + run NameByte bytes) (b ∷ bytes))
  directive_case e =
      let two = and_parts (b == code ".") (starts Letter bytes) e in
      subst (λ c. IsLongestAt (c ∷ bytes) (front Directive (1 + run NameByte bytes) (c ∷ bytes))) (sym (eqb-true b (code ".") two.0)) (directive_at bytes two.1)

  negative_case : behind (code "-") (starts Decimal) (b ∷ bytes) ≡ true → IsLongestAt (b ∷ bytes) (front (decimal true bytes) (1 + run Decimal bytes) (b ∷ bytes))
  negative_case e =
      let two = and_parts (b == code "-") (starts Decimal bytes) e in
      subst (λ c. IsLongestAt (c ∷ bytes) (front (decimal true bytes) (1 + run Decimal bytes) (c ∷ bytes))) (sym (eqb-true b (code "-") two.0)) (negative_at bytes two.1)

hexadecimal_case : (b : ℕ) (bytes : List ℕ) → starts_hexadecimal (b ∷ bytes) ≡ true → IsLongestAt (b ∷ bytes)
    (front (hexadecimal (drop 2 (b ∷ bytes))) (2 + run Hexadecimal (drop 2 (b ∷ bytes))) (b ∷ bytes))
hexadecimal_case b [] e = let two = and_parts (b == code "0") false e in cc
hexadecimal_case b (x ∷ ys) e =
    let two = and_parts (b == code "0") (x == code "x" && starts Hexadecimal ys) e in
    let inner = and_parts (x == code "x") (starts Hexadecimal ys) two.1 in
    let P : ℕ → ℕ → Type 0 = λ c y. IsLongestAt (c ∷ y ∷ ys) (front (hexadecimal ys) (2 + run Hexadecimal ys) (c ∷ y ∷ ys)) in
    subst (λ c. P c x) (sym (eqb-true b (code "0") two.0)) (subst (P (code "0")) (sym (eqb-true x (code "x") inner.0)) (hexadecimal_at ys inner.1))

token_longest : (at : List ℕ) → IsLongestAt at (token_at at)
unfolding token_at
token_longest [] = end_longest []
token_longest (b ∷ bytes) =
    let at = b ∷ bytes in
    token_cases b bytes (IsLongestAt at)
    (λ _. end_longest at)
    (λ e. front_longest Comma 1 at (λ h. cc) (omega arith) (sign_form (code ",") b bytes e) (sign_longest (code ",") (λ y xs. refl) b bytes e))
    (λ e. front_longest Colon 1 at (λ h. cc) (omega arith) (sign_form (code ":") b bytes e) (sign_longest (code ":") (λ y xs. refl) b bytes e))
    (λ e. front_longest Plus 1 at (λ h. cc) (omega arith) (sign_form (code "+") b bytes e) (sign_longest (code "+") (λ y xs. refl) b bytes e))
    (name_case b bytes)
    (directive_case b bytes)
    (negative_case b bytes)
    (hexadecimal_case b bytes)
    (λ letter _ _ hexadecimal. decimal_case b bytes letter hexadecimal)
    (λ _. bad_case b bytes)

pub longest_next : (line : List ℕ) → IsLongest (next_token line)
unfolding next_token
longest_next line =
    let at = drop (run Blank line) line in
    let h = token_longest at in
    let begins = token_begins at in
    let n = token_at at in
    record {
      form = h.form;
      longest = λ other k more le. let all = begins.bytes other in rw all (h.longest other k more (let same = ap length all in omega arith));
      none = λ bad k. let good : n.token ≢ End = λ e. cc in rw (begins.bytes good) (h.none bad k);
    }
