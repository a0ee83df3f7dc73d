-- A run of a session, one cycle at a time.
use Rattle.std.proofs.Common.{◌≡◌, ℕ, zero, suc, ◌-◌, Bool, true, false, ◌&&◌, if◌then◌else◌, Option, None, Some, refl}
use Rattle.std.proofs.Common.{sym, ap, ◌∙◌, arith}
use Rattle.mm_model.specs.{declared.step.Step.Step, Run.turn_of}
use Rattle.mm_debug.specs.Session.{Session, Ran, total_of, next_item, issued, stops_before, stops_after, watched}
use Rattle.mm_debug.specs.Session.{stopped, after_cycle, before_cycle, run_from, ran}
use Rattle.mm_debug.specs.declared.stop.StopReason.TheVariants as stop

pub run_begins : (s : Session) (total : ℕ) → total ≡ total_of s → ran s ≡ run_from false s (1000000 - total)
unfolding ran
run_begins s total is = ap (λ (k : ℕ). run_from false s (1000000 - k)) (sym is)

-- it is over where no cycle is left below the limit
pub run_over : (begun : Bool) (s : Session) (left : ℕ) → left ≡ 0 → run_from begun s left ≡ stopped s stop.End
unfolding run_from
run_over begun s zero none = refl
run_over begun s (suc left) none = absurd (omega arith)

-- and where there is no next item
pub run_ends : (begun : Bool) (s : Session) (left : ℕ) → None ≡ next_item s → run_from begun s left ≡ stopped s stop.End
unfolding run_from
run_ends begun s zero next = refl
run_ends begun s (suc left) next =
    ap (λ o. before_cycle begun s o (λ item. after_cycle (issued s item) (stops_after s item) (run_from true (issued s item) left))) (sym next)

module _ (begun : Bool) (s : Session) (item left less : ℕ) (next : Some item ≡ next_item s) (more : left ≡ suc less) where
  -- what comes after the cycle of an item
  abbrev rest : ℕ → Ran
  rest n = after_cycle (issued s n) (stops_after s n) (run_from true (issued s n) less)

  at_item : run_from begun s left ≡ (if begun && stops_before s item then stopped s (stop.Break item) else rest item)
  unfolding run_from
  at_item = ap (run_from begun s) more ∙ ap (λ o. before_cycle begun s o rest) (sym next)

  -- a break stops it before the next item
  pub run_breaks : begun ≡ true → true ≡ stops_before s item → run_from begun s left ≡ stopped s (stop.Break item)
  run_breaks has_begun breaks =
      at_item
      ∙ ap (λ b. if b && stops_before s item then stopped s (stop.Break item) else rest item) has_begun
      ∙ ap (λ b. if b then stopped s (stop.Break item) else rest item) (sym breaks)

  after_the_item : (begun && stops_before s item) ≡ false → run_from begun s left ≡ rest item
  after_the_item passes = at_item ∙ ap (λ b. if b then stopped s (stop.Break item) else rest item) passes

  -- a watched word stops it after the item
  pub run_watches : (word : ℕ) → (begun && stops_before s item) ≡ false → stops_after s item ≡ Some word → run_from begun s left ≡ stopped (issued s item) (stop.Watch word)
  run_watches word passes seen = after_the_item passes ∙ ap (λ o. after_cycle (issued s item) o (run_from true (issued s item) less)) seen

  -- and else it goes on
  pub run_goes : (begun && stops_before s item) ≡ false → stops_after s item ≡ None → run_from begun s left ≡ run_from true (issued s item) less
  run_goes passes unseen = after_the_item passes ∙ ap (λ o. after_cycle (issued s item) o (run_from true (issued s item) less)) unseen

-- or where there is none
pub passes_later : (begun stops : Bool) → begun ≡ true → false ≡ stops → (begun && stops) ≡ false
passes_later begun stops has_begun none = ap (λ b. b && stops) has_begun ∙ sym none

-- what is seen in the step of a cycle
pub seen_after : (s t : Session) (item : ℕ) (step : Step) (word : Option ℕ) → t ≡ issued s item → step ≡ (turn_of s.state item).step → word ≡ watched t.watches step → stops_after s item ≡ word
seen_after s t item step word after_item step_is seen =
    ap (watched s.watches) (sym step_is) ∙ ap (λ (u : Session). watched u.watches step) (sym after_item) ∙ sym seen
