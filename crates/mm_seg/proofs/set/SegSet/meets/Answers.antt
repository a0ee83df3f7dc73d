use Rattle.std.proofs.Common.{◌≡◌, ◌∙◌, ℕ, List, Option, MatchOption, subst}
use Rattle.mm_seg.specs.Segments.{AreApart, IsLeast}
use Rattle.mm_seg.proofs.set.SegSet.meets.Goals as goal

along : (xs ys us vs : List (ℕ × ℕ)) (r : Option ℕ) → us ≡ xs → vs ≡ ys → MatchOption r (AreApart us vs) (λ a. IsLeast us vs a) → MatchOption r (AreApart xs ys) (λ a. IsLeast xs ys a)
along xs ys us vs r e f h = subst (λ u. MatchOption r (AreApart u ys) (λ a. IsLeast u ys a)) e (subst (λ v. MatchOption r (AreApart us v) (λ a. IsLeast us v a)) f h)

pub returns : goal.returns
returns c = along _ _ _ _ c.least.result (c.deref.ensures.value ∙ c.self.view_is) (c.deref-2.ensures.value ∙ c.other.view_is) c.least.ensures
