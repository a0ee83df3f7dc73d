-- The text of a run, put together from what is written of each of its cycles.
use Rattle.std.specs.Prelude.{ℕ, List, [], ◌∷◌, ◌++◌}
use Rattle.mm_model.specs.{State.State, Run.{turn_of, after}, Trace.trace_line}
use Rattle.mm_log.specs.Log.{cycle_log, text_of}

-- `of_cycle` says what is written of the cycle of an item from a state.
unfoldable pub text_of_run : (of_cycle : State → ℕ → List ℕ) → State → List ℕ → List ℕ
text_of_run of_cycle s [] = []
text_of_run of_cycle s (n ∷ items) = of_cycle s n ++ text_of_run of_cycle (after s n) items

-- what a trace writes of a cycle
abbrev pub traced_cycle : State → ℕ → List ℕ
traced_cycle s n = trace_line (turn_of s n)

-- what a log writes of a cycle
abbrev pub logged_cycle : State → ℕ → List ℕ
logged_cycle s n = text_of (cycle_log s n)
