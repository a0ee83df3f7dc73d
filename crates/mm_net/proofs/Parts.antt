-- The parts of a word at a byte that stands nowhere before.
use Rattle.std.proofs.Common.{◌≡◌, ℕ, ◌+◌, ◌%◌, ◌<◌, ◌≤◌, ◌^◌, Bool, true, false, ◌==◌, List, [], ◌∷◌, ◌++◌, decimal}
use Rattle.std.proofs.Common.{refl, ap, ◌∙◌, subst, arith}
use Rattle.std.proofs.{lemmas.{Fmt.decimal_by_steps, Bool.{or_parts, Decides.nat_tests}}, Math.Bool.or-true}
use Rattle.mm_net.specs.Marks.{has}

pub true_false : {b : Bool} → b ≡ true → b ≡ false → ⊥
true_false h k = cc

pub same_byte : (m : ℕ) → (m == m) ≡ true
same_byte m = grind (arith, nat_tests)

pub has_there : (m : ℕ) (a x : List ℕ) → has m (a ++ m ∷ x) ≡ true
has_there m [] x = rw (same_byte m) refl
has_there m (b ∷ a) x = rw (has_there m a x) (or-true (b == m))

pub lacks_both : (m : ℕ) (a x : List ℕ) → has m a ≡ false → has m x ≡ false → has m (a ++ x) ≡ false
lacks_both m [] x h k = k
lacks_both m (b ∷ a) x h k = let f = or_parts (b == m) (has m a) h in rw (f.0, lacks_both m a x f.1 k) refl

pub lacks_one : (m b : ℕ) → (b ≡ m → ⊥) → has m (b ∷ []) ≡ false
lacks_one m b h = let e : (b == m) ≡ false = grind (arith, nat_tests) in rw e refl

pub lacks_more : (m b : ℕ) (x : List ℕ) → (b ≡ m → ⊥) → has m x ≡ false → has m (b ∷ x) ≡ false
lacks_more m b x h k = let e : (b == m) ≡ false = grind (arith, nat_tests) in rw (e, k) refl

-- a word that lacks a byte is none that has it
pub lacking : (m : ℕ) (w a x : List ℕ) → has m w ≡ false → w ≡ a ++ m ∷ x → ⊥
lacking m w a x h e = let there : has m w ≡ true = ap (λ (v : List ℕ). has m v) e ∙ has_there m a x in true_false there h

-- the first byte of a part that lacks it, or the byte behind the part
pub lacking_first : (c m : ℕ) (rest a x : List ℕ) → has c a ≡ false → (c ≡ m → ⊥) → c ∷ rest ≡ a ++ m ∷ x → ⊥
lacking_first c m rest [] x h n e = let same : c ≡ m = cc in n same
lacking_first c m rest (b ∷ a) x h n e =
    let same : c ≡ b = cc in
    let there : (b == c) ≡ true = subst (λ (k : ℕ). (k == c) ≡ true) same (same_byte c) in
    true_false there (or_parts (b == c) (has c a) h).0

pub split_unique : (m : ℕ) (a b x y : List ℕ) → has m a ≡ false → has m b ≡ false → a ++ m ∷ x ≡ b ++ m ∷ y → (a ≡ b) × (x ≡ y)
split_unique m [] [] x y h k e = (refl, let t : x ≡ y = cc in t)
split_unique m [] (c ∷ b) x y h k e =
    let same : m ≡ c = cc in
    let there : (c == m) ≡ true = subst (λ (n : ℕ). (n == m) ≡ true) same (same_byte m) in
    absurd (true_false there (or_parts (c == m) (has m b) k).0)
split_unique m (c ∷ a) [] x y h k e =
    let same : m ≡ c = cc in
    let there : (c == m) ≡ true = subst (λ (n : ℕ). (n == m) ≡ true) same (same_byte m) in
    absurd (true_false there (or_parts (c == m) (has m a) h).0)
split_unique m (c ∷ a) (d ∷ b) x y h k e =
    let head : c ≡ d = cc in
    let tail : a ++ m ∷ x ≡ b ++ m ∷ y = cc in
    let f = split_unique m a b x y (or_parts (c == m) (has m a) h).1 (or_parts (d == m) (has m b) k).1 tail in
    (ap (λ (n : ℕ). n ∷ a) head ∙ ap (λ (xs : List ℕ). d ∷ xs) f.0, f.1)

-- the digits of a number have no byte but digits

abbrev pub IsDigit : ℕ → Type 0
IsDigit m = (48 ≤ m) × (m < 58)

abbrev Plain : (m : ℕ) → ℕ → List ℕ → Type 0
Plain m n ds = has m ds ≡ false

pub digits_lack : (m n : ℕ) → (IsDigit m → ⊥) → n < 2 ^ 64 → has m (decimal n) ≡ false
digits_lack m n h lt = decimal_by_steps (Plain m)
    (λ k small. lacks_one m (48 + k) (λ e. h (omega arith, omega arith)))
    (λ k ds big plain. lacks_both m ds ((48 + k % 10) ∷ []) plain (lacks_one m (48 + k % 10) (λ e. h (omega arith, omega arith)))) n lt
