-- The places at which lists of names differ.
use Rattle.std.proofs.Common.{◌≡◌, ℕ, suc, ◌+◌, ◌^◌, Bool, true, false, ◌==◌, if◌then◌else◌, List, [], ◌∷◌, ◌++◌, length, refl, sym, ap, ◌∙◌, arith, eq-eqb, append_assoc}
use Rattle.mm_pairs.specs.Trees.{pair_of, leaves, changed}
use Rattle.mm_pairs.proofs.Names.{length_leaves, both}

pub changed_none : (at : ℕ) (xs : List ℕ) → changed at xs xs ≡ []
changed_none at [] = refl
changed_none at (x ∷ xs) =
    ap (λ b. if b then changed (at + 1) xs xs else (at, x) ∷ changed (at + 1) xs xs) (eq-eqb x x refl) ∙ changed_none (at + 1) xs

pub changed_both : (at : ℕ) (was names was_right right : List ℕ) → length was ≡ length names
    → changed at (was ++ was_right) (names ++ right) ≡ changed at was names ++ changed (at + length was) was_right right
changed_both at [] [] was_right right e = ap (λ k. changed k was_right right) (let same : at ≡ at + length {A = ℕ} [] = omega arith in same)
changed_both at [] (y ∷ names) was_right right e = absurd (omega (arith, e))
changed_both at (x ∷ was) [] was_right right e = absurd (omega (arith, e))
changed_both at (x ∷ was) (y ∷ names) was_right right e =
    by (x == y) (changed_both (at + 1) was names was_right right (omega (arith, e))
    ∙ ap (λ k. changed (at + 1) was names ++ changed k was_right right) (let same : at + 1 + length was ≡ at + length (x ∷ was) = omega arith in same))
  where
    by : (b : Bool) → changed (at + 1) (was ++ was_right) (names ++ right) ≡ changed (at + 1) was names ++ changed (at + length (x ∷ was)) was_right right
        → (if b then changed (at + 1) (was ++ was_right) (names ++ right) else (at, y) ∷ changed (at + 1) (was ++ was_right) (names ++ right))
        ≡ (if b then changed (at + 1) was names else (at, y) ∷ changed (at + 1) was names) ++ changed (at + length (x ∷ was)) was_right right
    by true later = later
    by false later = ap (λ l. (at, y) ∷ l) later

-- two trees, each of two halves, whose changes are listed one after the other
module _ (pairs : List (ℕ × ℕ)) (depth d first half was tree : ℕ) (befores parts : ℕ × ℕ) (is : depth ≡ suc d) (b : befores ≡ pair_of pairs was)
    (p : parts ≡ pair_of pairs tree) (h : half ≡ 2 ^ d) where
  abbrev left : List (ℕ × ℕ)
  left = changed first (leaves pairs d befores.0) (leaves pairs d parts.0)

  abbrev right : ℕ → List (ℕ × ℕ)
  right n = changed (first + n) (leaves pairs d befores.1) (leaves pairs d parts.1)

  halves : left ++ right half ≡ changed first (leaves pairs depth was) (leaves pairs depth tree)
  halves =
      let long = length_leaves pairs d befores.0 in
      sym ((λ j. changed first (both pairs depth d was 0 befores is b j) (both pairs depth d tree 0 parts is p j))
      ∙ changed_both first (leaves pairs d befores.0) (leaves pairs d parts.0) (leaves pairs d befores.1) (leaves pairs d parts.1) (long ∙ sym (length_leaves pairs d parts.0))
      ∙ ap (λ n. left ++ right n) (long ∙ sym h))

  pub listed : (out mid new : List (ℕ × ℕ)) → mid ≡ out ++ left → new ≡ mid ++ right half → new ≡ out ++ changed first (leaves pairs depth was) (leaves pairs depth tree)
  listed out mid new m n = n ∙ ap (λ l. l ++ right half) m ∙ append_assoc out left (right half) ∙ ap (λ l. out ++ l) halves
