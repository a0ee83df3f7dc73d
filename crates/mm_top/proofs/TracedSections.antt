-- What groups see of what `trace` writes: whole lines stand before the report.
use Rattle.std.proofs.Common.{ℕ, inl, inr, Bool, true, List, [], ◌∷◌, ◌++◌, Option, codes, decimal, refl, sym, ap, ◌∙◌}
use Rattle.std.proofs.Common.{subst, append_assoc, append-nil}
use Rattle.mm_word.specs.Cause.{number_of}
use Rattle.mm_model.specs.declared.counts.Counts.{Counts}
use Rattle.mm_model.specs.declared.step.{Step.Step, Tick.{Tick, TheVariants.{Idle, Blocked, Did, Faulted, Delivered}}}
use Rattle.mm_model.specs.{Lines.{newline, cell_line}, State.State, Image.{Image, start}, Groups.HasSlot}
use Rattle.mm_model.specs.{Run.{turn_of, after, run}, Report.report, Spelling.IsImage}
use Rattle.mm_model.specs.Trace.{touch_text, enter_text, turn_line, step_line, trace_line, traced, trace}
use Rattle.mm_model.specs.{Reach.Entries.All, Worlds.Apart}
use Rattle.mm_laws.{specs.Runs.{EndsALine, AreLinesOf, IsLineOf, Isolates}, proofs.WholeRuns.runs_isolate}

-- 1. The lines of a trace are whole.

pub both : (a b : List ℕ) → EndsALine a → EndsALine b → EndsALine (a ++ b)
both a b first (inl none) = subst EndsALine (sym (ap (λ (t : List ℕ). a ++ t) none ∙ append-nil a)) first
both a b first (inr (rest, is)) = inr (a ++ rest, ap (λ (t : List ℕ). a ++ t) is ∙ sym (append_assoc a rest newline))

turn_ends : (turns : ℕ) (step : Step) (outcome : List ℕ) → EndsALine (turn_line turns step outcome)
turn_ends turns step outcome = inr (
  codes "t " ++ decimal step.slot ++ codes " " ++ decimal turns ++ codes " " ++ outcome ++ touch_text step.fetched
      ++ touch_text step.touched ++ enter_text step.entered,
  refl,
)

pub step_ends : (turns : ℕ) (step : Step) (tick : Tick) → EndsALine (step_line turns step tick)
unfolding step_line
step_ends turns step Idle = inl refl
step_ends turns step Did = turn_ends turns step (codes "did")
step_ends turns step Blocked = turn_ends turns step (codes "blocked")
step_ends turns step (Faulted cause) = turn_ends turns step (codes "faulted " ++ decimal (number_of cause))
step_ends turns step (Delivered reg) = inr (codes "m " ++ decimal step.slot ++ codes " " ++ decimal reg, refl)

lines_end : (s : State) (items : List ℕ) → EndsALine (traced (λ _. true) s items)
unfolding traced
lines_end s [] = inl refl
lines_end s (n ∷ items) =
    both (trace_line (turn_of s n)) (traced (λ _. true) (after s n) items) (step_ends _ _ _) (lines_end (after s n) items)

trace_ends : (s : State) (items : List ℕ) → EndsALine (trace s items)
unfolding trace
trace_ends s items = lines_end s items

-- 2. So what stands behind them are lines of the whole.

pub later : (first line text : List ℕ) → EndsALine first → IsLineOf line text → IsLineOf line (first ++ text)
later first line text ends is = record {
  before = first ++ is.before;
  behind = is.behind;
  stands = ap (λ (t : List ℕ). first ++ t) is.stands ∙ sym (append_assoc first (is.before ++ line) is.behind)
      ∙ ap (λ (t : List ℕ). t ++ is.behind) (sym (append_assoc first is.before line));
  begins = both first is.before ends is.begins;
}

pub traces_isolate : (i : Image) (items : List ℕ) (counts : Option Counts) (c : ℕ → Bool) → IsImage i → HasSlot i c
    → Apart i All c → Isolates i items (trace (start i) items ++ report (run (start i) items) i counts) c
traces_isolate i items counts c image has apart =
    let first = trace (start i) items in
    let text = report (run (start i) items) i counts in
    let alone = runs_isolate i items counts c image has apart in
    record {
      view = alone.view;
      sections = AreLinesOf.left_out (trace_ends (start i) items) alone.sections;
      cells = λ w cell touched changed.
          later first (cell_line w cell) text (trace_ends (start i) items) (alone.cells w cell touched changed);
    }
