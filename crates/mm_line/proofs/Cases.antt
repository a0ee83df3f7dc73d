-- The ways in which a token begins.
use Rattle.std.proofs.Common.{◌≡◌, ℕ, ◌+◌, true, false, ◌==◌, if◌then◌else◌, List, ◌∷◌, drop}
use Prim.Native.Char.{code}
use Rattle.mm_line.specs.declared.class.Class.TheVariants.{Letter, NameByte, Decimal, Hexadecimal}
use Rattle.mm_line.specs.declared.token.Token.TheVariants.{Name, Directive, Comma, Colon, Plus, Bad}
use Rattle.mm_line.specs.Tokens.{Next, is_in, run, starts, behind, starts_hexadecimal, decimal, hexadecimal, front, end}
use Rattle.mm_line.{specs.Tokens.token_at, proofs.Choices.either}

module _ (b : ℕ) (bytes : List ℕ) where
  abbrev from_decimals : Next
  from_decimals = if is_in Decimal b then front (decimal false (b ∷ bytes)) (run Decimal (b ∷ bytes)) (b ∷ bytes) else (front Bad 1 (b ∷ bytes))

  abbrev from_hexadecimals : Next
  from_hexadecimals = if starts_hexadecimal (b ∷ bytes) then front (hexadecimal (drop 2 (b ∷ bytes))) (2 + run Hexadecimal (drop 2 (b ∷ bytes))) (b ∷ bytes) else from_decimals

  abbrev from_negative : Next
  from_negative = if behind (code "-") (starts Decimal) (b ∷ bytes) then front (decimal true bytes) (1 + run Decimal bytes) (b ∷ bytes) else from_hexadecimals

  abbrev from_directive : Next
  from_directive = if behind (code ".") (starts Letter) (b ∷ bytes) then front Directive (1 + run NameByte bytes) (b ∷ bytes) else from_negative

  abbrev from_name : Next
  from_name = if is_in Letter b then front Name (run NameByte (b ∷ bytes)) (b ∷ bytes) else from_directive

  abbrev from_plus : Next
  from_plus = if b == code "+" then front Plus 1 (b ∷ bytes) else from_name

  abbrev from_colon : Next
  from_colon = if b == code ":" then front Colon 1 (b ∷ bytes) else from_plus

  abbrev from_comma : Next
  from_comma = if b == code "," then front Comma 1 (b ∷ bytes) else from_colon

  -- what holds of a token in each way holds of the token
  pub token_cases : (P : Next → Type 0)
      → ((b == code ";") ≡ true → P (end))
      → ((b == code ",") ≡ true → P (front Comma 1 (b ∷ bytes)))
      → ((b == code ":") ≡ true → P (front Colon 1 (b ∷ bytes)))
      → ((b == code "+") ≡ true → P (front Plus 1 (b ∷ bytes)))
      → ((is_in Letter b) ≡ true → P (front Name (run NameByte (b ∷ bytes)) (b ∷ bytes)))
      → ((behind (code ".") (starts Letter) (b ∷ bytes)) ≡ true → P (front Directive (1 + run NameByte bytes) (b ∷ bytes)))
      → ((behind (code "-") (starts Decimal) (b ∷ bytes)) ≡ true → P (front (decimal true bytes) (1 + run Decimal bytes) (b ∷ bytes)))
      → ((starts_hexadecimal (b ∷ bytes)) ≡ true → P (front (hexadecimal (drop 2 (b ∷ bytes))) (2 + run Hexadecimal (drop 2 (b ∷ bytes))) (b ∷ bytes)))
      → ((is_in Letter b) ≡ false → (behind (code ".") (starts Letter) (b ∷ bytes)) ≡ false → (behind (code "-") (starts Decimal) (b ∷ bytes)) ≡ false
      → (starts_hexadecimal (b ∷ bytes)) ≡ false → (is_in Decimal b) ≡ true → P (front (decimal false (b ∷ bytes)) (run Decimal (b ∷ bytes)) (b ∷ bytes)))
      → ((b == code ";") ≡ false → (b == code ",") ≡ false → (b == code ":") ≡ false → (b == code "+") ≡ false → (is_in Letter b) ≡ false
      → (behind (code ".") (starts Letter) (b ∷ bytes)) ≡ false → (behind (code "-") (starts Decimal) (b ∷ bytes)) ≡ false
      → (starts_hexadecimal (b ∷ bytes)) ≡ false → (is_in Decimal b) ≡ false → P (front Bad 1 (b ∷ bytes)))
      → P (token_at (b ∷ bytes))
  unfolding token_at
  token_cases P h0 h1 h2 h3 h4 h5 h6 h7 h8 other =
      either P (b == code ";") (end) from_comma h0 (λ n0.
      either P (b == code ",") (front Comma 1 (b ∷ bytes)) from_colon h1 (λ n1.
      either P (b == code ":") (front Colon 1 (b ∷ bytes)) from_plus h2 (λ n2.
      either P (b == code "+") (front Plus 1 (b ∷ bytes)) from_name h3 (λ n3.
      either P (is_in Letter b) (front Name (run NameByte (b ∷ bytes)) (b ∷ bytes)) from_directive h4 (λ n4.
      either P (behind (code ".") (starts Letter) (b ∷ bytes)) (front Directive (1 + run NameByte bytes) (b ∷ bytes)) from_negative h5 (λ n5.
      either P (behind (code "-") (starts Decimal) (b ∷ bytes)) (front (decimal true bytes) (1 + run Decimal bytes) (b ∷ bytes)) from_hexadecimals h6 (λ n6.
      either P (starts_hexadecimal (b ∷ bytes)) (front (hexadecimal (drop 2 (b ∷ bytes))) (2 + run Hexadecimal (drop 2 (b ∷ bytes))) (b ∷ bytes)) from_decimals h7 (λ n7.
      either P (is_in Decimal b) (front (decimal false (b ∷ bytes)) (run Decimal (b ∷ bytes)) (b ∷ bytes)) (front Bad 1 (b ∷ bytes)) (h8 n4 n5 n6 n7) (λ n8.
      other n0 n1 n2 n3 n4 n5 n6 n7 n8)))))))))
