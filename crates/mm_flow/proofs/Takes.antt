-- A node taken at either end.
use Rattle.std.proofs.Common.{◌≡◌, ℕ, inl, inr, List, [], ◌∷◌, ◌++◌, length, length-append, refl, sym, subst, arith}
use Rattle.mm_flow.{specs.Work.IsTaken, proofs.Masks.{in_push_left, in_push_last, in_push_cases}}

first : (k : ℕ) (rest : List ℕ) → IsTaken k (k ∷ rest) rest
first k rest = record {
  there = inl refl;
  cases = λ n x. x;
  keeps = λ n x. inr x;
  len = omega arith;
}

last : (k : ℕ) (rest : List ℕ) → IsTaken k (rest ++ k ∷ []) rest
last k rest = record {
  there = in_push_last rest k;
  cases = λ n x. elim (in_push_cases n rest k x) [ inl m ↦ inr m | inr e ↦ inl e ];
  keeps = λ n x. in_push_left n rest k x;
  len = let e = length-append rest (k ∷ []) in omega arith;
}

pub taken_first : (k : ℕ) (all rest : List ℕ) → all ≡ k ∷ rest → IsTaken k all rest
taken_first k all rest is = subst (λ v. IsTaken k v rest) (sym is) (first k rest)

pub taken_last : (k : ℕ) (all rest : List ℕ) → all ≡ rest ++ k ∷ [] → IsTaken k all rest
taken_last k all rest is = subst (λ v. IsTaken k v rest) (sym is) (last k rest)

pub none_left : (xs : List ℕ) → length xs ≡ 0 → xs ≡ []
none_left [] h = refl
none_left (x ∷ xs) h = absurd (omega arith)
