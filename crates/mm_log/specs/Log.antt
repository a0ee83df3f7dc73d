-- The commit log of a run: the line of each turn, followed by all that the turn changed.
use Rattle.std.specs.{Prelude.{ℕ, List, [], ◌∷◌, ◌++◌}, List.flat_map}
use Rattle.mm_model.specs.{declared.step.{Step.Step, Tick.{Tick, TheVariants.Idle}}, State.{State, slot_at}}
use Rattle.mm_model.specs.{Turn.Turned, Trace.turns_of, Run.{turn_of, after}}
use Rattle.mm_log.specs.{Lines.{Line, line_text, Line.Traced}, Changes.changes}

-- the number of turns that the slot of a turn has taken, this one included
abbrev pub turns_in : Turned → ℕ
turns_in t = turns_of (slot_at t.core t.step.slot)

-- no line for an idle cycle; for any other cycle its line, and then the lines of what it changed
abbrev pub told : ℕ → Step → Tick → List Line → List Line
told turns step Idle changed = []
told turns step _ changed = Traced turns step ∷ changed

-- the lines of the cycle of an item
unfoldable pub cycle_log : State → ℕ → List Line
cycle_log s n =
    let t = turn_of s n in told (turns_in t) t.step t.step.tick (changes s (after s n))

-- the lines of a run
unfoldable pub log : State → List ℕ → List Line
log s [] = []
log s (n ∷ items) = cycle_log s n ++ log (after s n) items

abbrev pub text_of : List Line → List ℕ
text_of lines = flat_map line_text lines

abbrev pub log_text : State → List ℕ → List ℕ
log_text s items = text_of (log s items)
