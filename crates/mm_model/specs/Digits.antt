-- Numbers in hexadecimal digits.
use Rattle.std.specs.{Prelude.{ℕ, ◌/◌, ◌%◌, suc, zero, List, [], ◌∷◌, ◌++◌, false}, Fmt.digit_glyph}

-- the k last hexadecimal digits of n, in lower case: those of n / 16, one fewer, and then n's last digit
unfoldable pub hex : ℕ → ℕ → List ℕ
hex zero n = []
hex (suc k) n = hex k (n / 16) ++ digit_glyph false (n % 16) ∷ []
