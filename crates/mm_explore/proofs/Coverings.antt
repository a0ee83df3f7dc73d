-- Each schedule up to one of the list has, at or before it, one of the list that leads to the same configuration.
use Rattle.std.{proofs.Common.{◌≡◌, inl, inr, ℕ, List, [], ◌∷◌, refl, sym, ap, ◌∙◌}, specs.Prelude.Contains}
use Rattle.mm_model.specs.{State.State, Image.{Image, start}, Run.{after, run}}
use Rattle.mm_config.specs.Configurations.{configuration}
use Rattle.mm_explore.specs.Schedules.{Before}
use Rattle.mm_explore.specs.Explored.{leads_to, IsLeast, IsExplored}
use Rattle.mm_explore.specs.{Laws.GoOnAlike, Searching.{UpTo, Cover}}
use Rattle.mm_explore.proofs.Orders.{up_to_before, before_up_to, before_self, before_rec, more}
use Rattle.mm_span.proofs.Members.{all_at}
use Rattle.mm_explore.proofs.Goings.{configurations_go_on}

-- 1. Runs with one item more.

pub run_more : (s : State) (items : List ℕ) (n : ℕ) → run s (more items n) ≡ after (run s items) n
unfolding run
run_more s [] n = refl
run_more s (x ∷ items) n = run_more (after s x) items n

-- schedules that lead to one configuration go on alike
pub alike : (i : Image) (s t : List ℕ) → leads_to i s ≡ leads_to i t → GoOnAlike (run (start i) s) (run (start i) t)
alike i s t e = configurations_go_on (run (start i) s) (run (start i) t) e

pub leads_more : (i : Image) (s : List ℕ) (n : ℕ) → leads_to i (more s n) ≡ configuration (after (run (start i) s) n)
leads_more i s n = ap configuration (run_more (start i) s n)

pub leads_alike : (i : Image) (s t : List ℕ) (n : ℕ) → leads_to i s ≡ leads_to i t → leads_to i (more s n) ≡ leads_to i (more t n)
leads_alike i s t n e = leads_more i s n ∙ ((alike i s t e).each n).leads ∙ sym (leads_more i t n)

-- 2. Covers.

module _ (i : Image) (limit : ℕ) (list : List (List ℕ)) (k : IsExplored i limit list) where
  -- what is proved of each schedule: up to w, it cannot be that no schedule covers it
  abbrev IsCovered : List ℕ → List ℕ → Type 0
  IsCovered w s = UpTo s w → (Cover i list s → ⊥) → ⊥

  if_least : (w : List ℕ) → Contains list w → (s : List ℕ) → IsLeast i s → UpTo s w → (Cover i list s → ⊥) → ⊥
  if_least w inside s least early none = elim (k.first s least) [
    | inl there ↦ none (record { by = s; inside = there; early = inl refl; same = refl })
    | inr full ↦ before_self w (before_up_to w s w (all_at (λ u. Before u s) list w full.1 inside) early)
  ]

  covered : (w : List ℕ) → Contains list w → (s : List ℕ) → IsCovered w s
  covered w inside = before_rec (IsCovered w) (λ s lesser early none.
      if_least w inside s (λ t before same. lesser t before (inr (before_up_to t s w before early)) (λ c.
      none (record { by = c.by; inside = c.inside; early = inr (up_to_before c.by t s c.early before); same = c.same ∙ same })))
      early none)

  -- so what no cover allows does not hold of a schedule up to one of the list
  pub covers : (w : List ℕ) → Contains list w → (s : List ℕ) → UpTo s w → (Cover i list s → ⊥) → ⊥
  covers w inside s early none = covered w inside s early none
