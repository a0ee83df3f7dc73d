-- What is found on the turns from a list of schedules: words, faults and outcomes.
use Rattle.std.specs.Prelude.{◌≡◌, ℕ, Bool, true, false, ◌&&◌, ◌==◌, List}
use Rattle.std.specs.Prelude.{[], ◌∷◌, ◌++◌, map, Contains, Option}
use Rattle.std.specs.List.{find, flat_map}
use Rattle.mm_word.specs.{declared.perm.Kind.Kind, Access.AccessValue, Cause.number_of}
use Rattle.mm_model.specs.{declared.step.{Step.Step, Tick.{Tick, TheVariants.Faulted}}}
use Rattle.mm_model.specs.{Image.{Image, start}, Turn.Turned, Run.{turn_of, run}, Trace.{touches, group_in}}
use Rattle.mm_model.specs.{Counted.writes}
use Rattle.mm_span.specs.Spans.{Span, AreSpans}
use Rattle.mm_explore.specs.Moves.{moves}
use Rattle.mm_explore.specs.Explored.{leads_to}

-- 1. The turns explored.

-- an item after a schedule
pub record Extension : Type 0 where
  pub schedule : List ℕ
  pub item : ℕ

-- the schedule with the item at its end
abbrev pub extended : Extension → List ℕ
extended x = x.schedule ++ x.item ∷ []

-- the turn of the item
abbrev pub turn_at : Image → Extension → Turned
turn_at i x = turn_of (run (start i) x.schedule) x.item

-- each move of the state to which a schedule leads
abbrev pub extensions : Image → List ℕ → List Extension
extensions i t = map (λ m. record { schedule = t; item = m }) (moves (run (start i) t))

-- the turns explored: each move from each schedule of a list, in order
unfoldable pub explored_turns : Image → List (List ℕ) → List Extension
explored_turns i list = flat_map (extensions i) list

-- 2. Words.

abbrev pub any_kind : Kind → Bool
any_kind kind = true

-- in a turn explored, a slot of the group makes an access to the word, of a kind that passes
pub record Reaches (passes : Kind → Bool) (i : Image) (list : List (List ℕ)) (group word : ℕ) : Type 0 where
  pub turn : Extension
  pub explored : Contains (explored_turns i list) turn
  pub access : AccessValue
  pub made : Contains (touches (turn_at i turn).step) access
  pub kind : passes access.kind ≡ true
  pub by : group_in (turn_at i turn) ≡ group
  pub at : access.addr ≡ word

-- what a group touched and what it wrote
pub record Reached : Type 0 where
  pub touched : List Span
  pub wrote : List Span

pub record IsReached (i : Image) (list : List (List ℕ)) (group : ℕ) (r : Reached) : Type 0 where
  pub touched : AreSpans (Reaches any_kind i list group) r.touched
  pub wrote : AreSpans (Reaches writes i list group) r.wrote

-- 3. Faults.

abbrev pub fails_by : ℕ → Tick → Bool
fails_by cause (Faulted c) = number_of c == cause
fails_by cause _ = false

-- in this step a slot has the fault with this number
abbrev pub has_fault : ℕ → ℕ → Step → Bool
has_fault slot cause step = step.slot == slot && fails_by cause step.tick

-- the first turn explored in which a slot has a fault
abbrev pub first_fault : Image → List (List ℕ) → ℕ → ℕ → Option Extension
first_fault i list slot cause = find (λ x. has_fault slot cause (turn_at i x).step) (explored_turns i list)

-- 4. Final configurations.

-- no move leads to another configuration
abbrev pub IsFinal : Image → List ℕ → Type 0
IsFinal i t = (m : ℕ) → Contains (moves (run (start i) t)) m → leads_to i (t ++ m ∷ []) ≡ leads_to i t

abbrev pub are_none : List ℕ → Bool
are_none [] = true
are_none (m ∷ ms) = false
