-- The text of a run, one cycle at a time.
use Rattle.std.proofs.Common.{◌≡◌, ℕ, Bool, true, false, List, [], ◌∷◌, ◌++◌, Option, refl, sym, ap, ◌∙◌, arith}
use Rattle.std.proofs.Common.{append_assoc, append-nil}
use Rattle.mm_machine.proofs.Keeping.{run_more}
use Rattle.mm_io.proofs.Known.{append_known-[]}
use Rattle.mm_text.specs.Appends.{Buffered, Appends, Became}
use Rattle.mm_model.specs.{declared.step.Step.Step, State.{State, slot_at}, Run.{turn_of, after, run}}
use Rattle.mm_model.specs.Trace.{trace, traced, step_line, turns_of}
use Rattle.mm_log.specs.{Log.{cycle_log, log, log_text}, Telling.{text_of_run, traced_cycle, logged_cycle}}
use Rattle.mm_log.proofs.Told.{text_append}

-- 1. One cycle more, where the state is that of the run so far.

pub state_more : (s t u : State) (items : List ℕ) (n : ℕ) → t ≡ run s items → u ≡ after t n → u ≡ run s (items ++ n ∷ [])
state_more s t u items n so_far is = is ∙ ap (λ (x : State). after x n) so_far ∙ sym (run_more s items n)

module _ (of_cycle : State → ℕ → List ℕ) where
  text_one_more : (s : State) (items : List ℕ) (n : ℕ) → text_of_run of_cycle s (items ++ n ∷ []) ≡ text_of_run of_cycle s items ++ of_cycle (run s items) n
  unfolding text_of_run run
  text_one_more s [] n = append-nil (of_cycle s n)
  text_one_more s (m ∷ items) n =
      ap (λ (text : List ℕ). of_cycle s m ++ text) (text_one_more (after s m) items n)
      ∙ sym (append_assoc (of_cycle s m) (text_of_run of_cycle (after s m) items) (of_cycle (run (after s m) items) n))

  pub lines_more : (s t : State) (items : List ℕ) (n : ℕ) → t ≡ run s items → text_of_run of_cycle s items ++ of_cycle t n ≡ text_of_run of_cycle s (items ++ n ∷ [])
  lines_more s t items n so_far = ap (λ (x : State). text_of_run of_cycle s items ++ of_cycle x n) so_far ∙ sym (text_one_more s items n)

  -- before the first cycle there is no line
  pub no_lines : {S : Type 0} {taken : S → Option (List ℕ)} {faults : S → ℕ} {out : S} {text : Buffered} (s : State) → Appends taken faults out out text text (text_of_run of_cycle s [])
  unfolding text_of_run
  no_lines {taken = taken} {faults = faults} {out = out} {text = text} s = record { later = omega arith; became = by text.failed }
    where
      by : (failed : Bool) → Became taken faults out out failed failed (text.kept ++ []) text.kept
      by false = record { part = []; splits = append-nil text.kept; took = sym (append_known-[] (taken out)) }
      by true = refl

pub no_state : (s : State) → s ≡ run s []
unfolding run
no_state s = refl

-- 2. What a trace and a log write.

pub traces : (s : State) (items : List ℕ) → text_of_run traced_cycle s items ≡ trace s items
unfolding text_of_run trace traced
traces s [] = refl
traces s (n ∷ items) = ap (λ (text : List ℕ). traced_cycle s n ++ text) (traces (after s n) items)

pub logs : (s : State) (items : List ℕ) → text_of_run logged_cycle s items ≡ log_text s items
unfolding text_of_run log
logs s [] = refl
logs s (n ∷ items) = ap (λ (text : List ℕ). logged_cycle s n ++ text) (logs (after s n) items) ∙ sym (text_append (cycle_log s n) (log (after s n) items))

-- the line of a cycle, by its step and what it leaves
pub trace_line_is : (s t : State) (n : ℕ) (step : Step) (turns : ℕ) → step ≡ (turn_of s n).step → t ≡ after s n → turns ≡ turns_of (slot_at t.core step.slot)
    → step_line turns step step.tick ≡ traced_cycle s n
unfolding after
trace_line_is s t n step turns is left counted =
    ap (λ (k : ℕ). step_line k step step.tick) (counted ∙ ap (λ (x : State). turns_of (slot_at x.core step.slot)) left)
    ∙ ap (λ (x : Step). step_line (turns_of (slot_at (turn_of s n).core x.slot)) x x.tick) is
