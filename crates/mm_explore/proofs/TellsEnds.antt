-- The end of a schedule that is told.
use Rattle.std.proofs.Common.{◌≡◌, ℕ, List, sym, subst}
use Rattle.std.specs.{Prelude.Contains}
use Rattle.mm_model.specs.Image.{Image}
use Rattle.mm_span.proofs.Members.{all_at, map_in}
use Rattle.mm_explore.specs.Outcomes.{End, IsOutcome, AreEndsOf}

pub record HasEnd (i : Image) (ends : List End) (t : List ℕ) : Type 0 where
  pub end : End
  pub inside : Contains ends end
  pub is : end.schedule ≡ t
  pub outcome : IsOutcome i end.schedule end.outcome

pub end_for : (i : Image) (schedules : List (List ℕ)) (ends : List End) → AreEndsOf i schedules ends → (t : List ℕ) → Contains schedules t → HasEnd i ends t
end_for i schedules ends are t inside =
    let from = map_in (λ (e : End). e.schedule) ends t (subst (λ l. Contains l t) (sym are.schedules) inside) in
    record { end = from.source; inside = from.inside; is = from.gives; outcome = all_at (λ (e : End). IsOutcome i e.schedule e.outcome) ends from.source are.outcomes from.inside }
