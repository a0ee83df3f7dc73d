-- Numbers are read as they are written.
use Rattle.std.proofs.Common.{◌≡◌, ℕ, zero, suc, ◌/◌, ◌%◌, ◌^◌, ◌<◌, ◌≤◌, Bool, true, false, ◌&&◌, ◌||◌, ◌==◌, List, []}
use Rattle.std.proofs.Common.{◌∷◌, ◌++◌, length, codes, refl, ap, ◌∙◌, arith}
use Rattle.std.proofs.lemmas.{Bool.{lt-ltb, Decides.nat_tests}, Fmt.{decimal_is_IsNumeral, digits_is_IsNumeral}}
use Rattle.std.proofs.lemmas.{List.Folds.list_all-append, Int.Digits.{digits_push, digits_value_push}}
use Rattle.std.proofs.{lemmas.Str.digit_value-digit_char, Math.Bool.or-true}
use Rattle.std.specs.{List.list_all, Char.{digit_value, is_digit, is_ascii_alphabetic}}
use Rattle.std.specs.{Fmt.{decimal, digits, digit_glyph}, Str.Parse.{AllDigits, IsNumeral, digits_value}}
use Rattle.mm_model.specs.Digits.{hex}
use Rattle.mm_text.proofs.HexDigits.{length-hex}
use Rattle.mm_line.specs.{declared.token.Token.TheVariants.Number, Tokens.{number, next_token}, TokenPlaces.written}
use Rattle.mm_line.proofs.Written.{blank_read, decimal_read, negative_read, hexadecimal_read, or_last}
use Rattle.mm_disasm.specs.Canonical.{short_hex, long_hex}

pub all_append : {X : Type 0} (p : X → Bool) (a b : List X) → list_all p a ≡ true → list_all p b ≡ true → list_all p (a ++ b) ≡ true
all_append p a b h k = rw (list_all-append p a b, h, k) refl

-- a byte that a name goes on with
abbrev pub name_byte : ℕ → Bool
name_byte b = is_ascii_alphabetic b || b == 95 || is_digit b 10

-- the first byte passes a test
abbrev pub begins : (ℕ → Bool) → List ℕ → Bool
begins p [] = false
begins p (b ∷ bytes) = p b

-- one byte or more, and each passes a test
abbrev pub all_of : (ℕ → Bool) → List ℕ → Bool
all_of p bytes = begins p bytes && list_all p bytes

-- 1. Digits.

digits_pass : (radix : ℕ) (p : ℕ → Bool) → ((b : ℕ) → digit_value b < radix → p b ≡ true) → (ds : List ℕ) → AllDigits radix ds → list_all p ds ≡ true
digits_pass radix p f [] h = refl
digits_pass radix p f (d ∷ ds) h = rw (f d h.0, digits_pass radix p f ds h.1) refl

form_of : (radix : ℕ) (ds : List ℕ) → 0 < length ds → AllDigits radix ds → all_of (λ b. is_digit b radix) ds ≡ true
form_of radix [] some h = absurd (omega arith)
form_of radix (d ∷ ds) some h = rw (lt-ltb (digit_value d) radix h.0) (digits_pass radix (λ b. is_digit b radix) (λ b q. lt-ltb (digit_value b) radix q) ds h.1)

digit_goes_on : (b : ℕ) → digit_value b < 10 → name_byte b ≡ true
digit_goes_on b h = rw (lt-ltb (digit_value b) 10 h) (or-true (is_ascii_alphabetic b || b == 95))

-- decimal digits may stand in a name
pub digits_go_on : (n : ℕ) → n < 2 ^ 64 → list_all name_byte (decimal n) ≡ true
digits_go_on n h = digits_pass 10 name_byte digit_goes_on (decimal n) (decimal_is_IsNumeral n h).0.1

pub are_decimal : (n : ℕ) → n < 2 ^ 64 → all_of (λ b. is_digit b 10) (decimal n) ≡ true
are_decimal n h = let d = decimal_is_IsNumeral n h in form_of 10 (decimal n) d.0.0 d.0.1

glyph_value : (d : ℕ) → d < 16 → digit_value (digit_glyph false d) ≡ d
glyph_value d h = digit_value-digit_char d (omega arith)

all_hexadecimal : (k n : ℕ) → AllDigits 16 (hex k n)
unfolding hex
all_hexadecimal zero n = tt
all_hexadecimal (suc k) n =
    let last : digit_value (digit_glyph false (n % 16)) < 16 = omega (arith, glyph_value (n % 16) (omega arith)) in
    digits_push 16 (hex k (n / 16)) (digit_glyph false (n % 16)) (all_hexadecimal k (n / 16)) last

fewer : (k n : ℕ) → n < 16 ^ suc k → n / 16 < 16 ^ k
fewer k n h = omega arith

hex_value : (k n : ℕ) → n < 16 ^ k → digits_value 16 (hex k n) ≡ n
unfolding hex
hex_value zero n h = omega arith
hex_value (suc k) n h =
    let whole = digits_value_push 16 (hex k (n / 16)) (digit_glyph false (n % 16)) in
    let front = hex_value k (n / 16) (fewer k n h) in
    let last = glyph_value (n % 16) (omega arith) in
    omega (arith, whole, front, last)

pub are_hexadecimal : (k n : ℕ) → 0 < k → all_of (λ b. is_digit b 16) (hex k n) ≡ true
are_hexadecimal k n some = form_of 16 (hex k n) (omega (arith, length-hex k n)) (all_hexadecimal k n)

-- as few hexadecimal digits as a number needs
short_numeral : (n : ℕ) → n < 2 ^ 20 → IsNumeral 16 (digits 16 false n) × (digits_value 16 (digits 16 false n) ≡ n)
short_numeral n h = digits_is_IsNumeral 16 false (omega arith) (omega arith) n (omega arith)

pub are_short : (n : ℕ) → n < 2 ^ 20 → all_of (λ b. is_digit b 16) (digits 16 false n) ≡ true
are_short n h = let d = short_numeral n h in form_of 16 (digits 16 false n) d.0.0 d.0.1

-- 2. Tokens.

-- a blank before a token
pub blank : (line : List ℕ) → next_token (32 ∷ line) ≡ next_token line
blank line = blank_read 32 line refl

positive : (n : ℕ) → n < 2 ^ 64 → number false n ≡ Number false n
positive n h = rw (lt-ltb n (2 ^ 64) h) refl

pub decimal_token : (n : ℕ) (rest : List ℕ) → n < 2 ^ 64 → begins name_byte rest ≡ false → next_token (decimal n ++ rest) ≡ written (Number false n) (decimal n) rest
decimal_token n rest h stop =
    decimal_read (decimal n) rest (are_decimal n h) stop ∙ ap (λ t. written t (decimal n) rest) (ap (number false) (decimal_is_IsNumeral n h).1 ∙ positive n h)

negative : (n : ℕ) → n ≤ 2 ^ 63 → number true n ≡ Number true n
negative n h = grind (arith, nat_tests)

no_digits : (rest : List ℕ) → begins name_byte rest ≡ false → begins (λ b. is_digit b 10) rest ≡ false
no_digits [] stop = refl
no_digits (b ∷ rest) stop = or_last (is_ascii_alphabetic b || b == 95) (is_digit b 10) stop

pub negative_token : (n : ℕ) (rest : List ℕ) → n ≤ 2 ^ 63 → begins name_byte rest ≡ false
    → next_token ((codes "-" ++ decimal n) ++ rest) ≡ written (Number true n) (codes "-" ++ decimal n) rest
negative_token n rest h stop =
    let small : n < 2 ^ 64 = omega arith in
    negative_read (decimal n) rest (are_decimal n small) (no_digits rest stop)
    ∙ ap (λ t. written t (codes "-" ++ decimal n) rest) (ap (number true) (decimal_is_IsNumeral n small).1 ∙ negative n h)

pub hex_token : (k n : ℕ) (rest : List ℕ) → 0 < k → n < 16 ^ k → n < 2 ^ 64 → begins (λ b. is_digit b 16) rest ≡ false
    → next_token ((codes "0x" ++ hex k n) ++ rest) ≡ written (Number false n) (codes "0x" ++ hex k n) rest
hex_token k n rest some fits h stop =
    hexadecimal_read (hex k n) rest (are_hexadecimal k n some) stop
    ∙ ap (λ t. written t (codes "0x" ++ hex k n) rest) (ap (number false) (hex_value k n fits) ∙ positive n h)

pub short_token : (n : ℕ) (rest : List ℕ) → n < 2 ^ 20 → begins (λ b. is_digit b 16) rest ≡ false → next_token (short_hex n ++ rest) ≡ written (Number false n) (short_hex n) rest
short_token n rest h stop =
    hexadecimal_read (digits 16 false n) rest (are_short n h) stop
    ∙ ap (λ t. written t (short_hex n) rest) (ap (number false) (short_numeral n h).1 ∙ positive n (omega arith))

pub long_token : (n : ℕ) (rest : List ℕ) → n < 2 ^ 64 → begins (λ b. is_digit b 16) rest ≡ false → next_token (long_hex n ++ rest) ≡ written (Number false n) (long_hex n) rest
long_token n rest h stop = hex_token 16 n rest (omega arith) (omega arith) h stop
