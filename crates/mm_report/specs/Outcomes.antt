-- The outcome of a turn in a trace.
use Rattle.std.specs.Prelude.{ℕ, List, [], ◌++◌, codes, decimal}
use Rattle.mm_word.specs.Cause.{number_of}
use Rattle.mm_model.specs.declared.step.Tick.{Tick, TheVariants.{Idle, Blocked, Did, Faulted, Delivered}}

abbrev pub outcome_text : Tick → List ℕ
outcome_text Did = codes "did"
outcome_text Blocked = codes "blocked"
outcome_text (Faulted cause) = codes "faulted " ++ decimal (number_of cause)
outcome_text Idle = []
outcome_text (Delivered reg) = []
