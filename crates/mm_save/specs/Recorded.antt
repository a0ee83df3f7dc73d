-- What a recorder keeps.
use Rattle.std.specs.{Prelude.{◌≡◌, List, map}, List.All}
use Rattle.mm_debug.specs.{Session.{Session, total_of, stepped}, Standing.{Point, CanGo, total_at}}
use Rattle.mm_save.specs.Recorder.{Recording, began_at, bare}

-- a recorder by its parts: a session, the state at its start, and the states in the ring, the oldest first
abbrev pub recording_by : Session → (start : Point) → (ring : List Point) → Recording
recording_by s start ring = record { session = s; first = began_at s start; kept = map total_at ring }

-- a point at which a session that began with `first` was
pub record IsOnTheWay (first s : Session) (p : Point) : Type 0 where
  pub fits : CanGo s p
  pub there : stepped first (total_at p) ≡ began_at s p

-- what a recorder keeps: it began with nothing issued, its session is where as many cycles lead as its total says, and
-- each kept state is on that way
pub record Remembers (s : Session) (start : Point) (ring : List Point) : Type 0 where
  pub begins : total_at start ≡ 0
  pub fits : CanGo s start
  pub here : stepped (began_at s start) (total_of s) ≡ bare s
  pub kept : All (IsOnTheWay (began_at s start) s) ring
