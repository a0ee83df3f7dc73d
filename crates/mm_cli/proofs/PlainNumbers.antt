-- The digits of a number are not among the bytes below them.
use Rattle.std.proofs.Common.{◌≡◌, ℕ, zero, suc, ◌+◌, ◌/◌, ◌%◌, ◌^◌, ◌<◌, ◌==◌, false, List, [], ◌∷◌, ◌++◌}
use Rattle.std.proofs.{Common.{decimal, arith}, lemmas.{Bool.ne_eqb, Fmt.decimal_by_steps, List.Elements.All-append}}
use Rattle.std.specs.List.{All}

abbrev LacksByte : (c n : ℕ) → List ℕ → Type 0
LacksByte c n ds = All (λ b. (b == c) ≡ false) ds

one_digit : (c b : ℕ) → c < b → All (λ b. (b == c) ≡ false) (b ∷ [])
one_digit c b low zero d lt = ne_eqb b c (λ e. omega arith)
one_digit c b low (suc k) d lt = absurd (omega arith)

more_digits : (c n : ℕ) (ds : List ℕ) → c < 48 → LacksByte c (n / 10) ds → LacksByte c n (ds ++ ((48 + n % 10) ∷ []))
more_digits c n ds low lacks = All-append (λ b. (b == c) ≡ false) ds ((48 + n % 10) ∷ []) lacks (one_digit c (48 + n % 10) (omega arith))

pub plain : (c n : ℕ) → c < 48 → n < 2 ^ 64 → All (λ b. (b == c) ≡ false) (decimal n)
plain c n low few = decimal_by_steps (LacksByte c) (λ m lt. one_digit c (48 + m) (omega arith)) (λ m ds ten lacks. more_digits c m ds low lacks) n few
