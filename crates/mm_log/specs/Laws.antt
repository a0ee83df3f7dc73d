-- What holds of every commit log.
use Rattle.std.specs.Prelude.{◌≡◌, ℕ, List, ◌++◌}
use Rattle.mm_model.specs.{Image.{Image, start}, Spelling.IsImage, State.State, Run.run}
use Rattle.mm_log.specs.{Log.log, Replay.replay}

-- a state except for its number of cycles
abbrev pub but_cycles : State → State
but_cycles s = record s { cycles = 0 }

-- The lines up to any cycle are a prefix of the log. Carried out from the machine's start, they make the state that the
-- items up to that cycle make, except for the number of cycles.
pub record Replays (i : Image) (items later : List ℕ) : Type 0 where
  pub front : log (start i) (items ++ later) ≡ log (start i) items ++ log (run (start i) items) later
  pub state : but_cycles (replay (start i) (log (start i) items)) ≡ but_cycles (run (start i) items)

abbrev pub LogsReplay : Type 0
LogsReplay = (i : Image) (items later : List ℕ) → IsImage i → Replays i items later
