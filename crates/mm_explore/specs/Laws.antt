-- What holds of every exploration.
use Rattle.std.specs.Prelude.{◌≡◌, ◌⊎◌, ℕ, Bool, true, List, [], ◌∷◌, ◌++◌, Contains}
use Rattle.mm_word.specs.Access.{AccessValue}
use Rattle.mm_model.specs.{State.State, Image.{Image, start}, Spelling.IsImage, Run.{turn_of, after, run}}
use Rattle.mm_model.specs.{Trace.{touches, group_in}, Counted.writes}
use Rattle.mm_span.specs.Spans.{Span, InSpan}
use Rattle.mm_explore.specs.Closed.{LeadsOn, IsClosed, IsAtEnd, IsEndless}
use Rattle.mm_config.specs.Configurations.{configuration}
use Rattle.mm_explore.specs.Moves.{moves}
use Rattle.mm_explore.specs.{Explored.{leads_to, IsLeast, IsExplored, IsAll}, Finds.{Finds, outcome_found}}
use Rattle.mm_explore.specs.Findings.{Extension, extended, turn_at, has_fault, Reached, IsFinal}
use Rattle.mm_explore.specs.{Outcomes.{Outcome, IsOutcome}, Results.{Results, GroupFound, FaultFound, OutcomeFound}}
use Rattle.mm_explore.specs.Schedules.{Before}

-- 1. States of one configuration go on alike.

-- the cycle of an item has the same step in two states, asks the same of memory, and leads to one configuration
pub record GoesOnAlike (s t : State) (item : ℕ) : Type 0 where
  pub step : (turn_of s item).step ≡ (turn_of t item).step
  pub uses : (turn_of s item).uses ≡ (turn_of t item).uses
  pub group : group_in (turn_of s item) ≡ group_in (turn_of t item)
  pub leads : configuration (after s item) ≡ configuration (after t item)

pub record GoOnAlike (s t : State) : Type 0 where
  pub moves : moves s ≡ moves t
  pub each : (item : ℕ) → GoesOnAlike s t item

abbrev pub ConfigurationsGoOn : Type 0
ConfigurationsGoOn = (s t : State) → configuration s ≡ configuration t → GoOnAlike s t

-- an item that is no move leaves the configuration as it is
abbrev pub OthersAreIdle : Type 0
OthersAreIdle = (s : State) (item : ℕ) → (Contains (moves s) item → ⊥) → configuration (after s item) ≡ configuration s

-- 2. Closed sets.

-- the configurations for which a test holds
abbrev pub Passes : (State → Bool) → State → Type 0
Passes test c = test c ≡ true

-- a closed set is all to which any of its members leads on
pub record IsSetOf (i : Image) (test : State → Bool) (s : List ℕ) : Type 0 where
  pub closed : IsAtEnd i s
  pub inside : (t : List ℕ) → Passes test (leads_to i t) → LeadsOn i s t
  pub led : (t : List ℕ) → LeadsOn i s t → Passes test (leads_to i t)

abbrev pub ClosedSetsAreLedOn : Type 0
ClosedSetsAreLedOn = (i : Image) (test : State → Bool) → IsClosed i (Passes test) → (s : List ℕ)
    → Passes test (leads_to i s) → IsSetOf i test s

-- a final configuration by itself is a closed set
pub record IsAlone (i : Image) (t : List ℕ) : Type 0 where
  pub closed : IsAtEnd i t
  pub alone : (s : List ℕ) → LeadsOn i t s → leads_to i s ≡ leads_to i t

abbrev pub FinalsAreClosed : Type 0
FinalsAreClosed = (i : Image) (t : List ℕ) → IsFinal i t → IsAlone i t

-- the members of a closed set have one outcome
abbrev pub OutcomesAreOfSets : Type 0
OutcomesAreOfSets = (i : Image) (s t : List ℕ) (o : Outcome) → IsImage i → IsAtEnd i s → LeadsOn i s t → IsOutcome i s o
    → IsOutcome i t o

-- 3. Where all configurations are in a list, every run can go on into a closed set.

-- some items more lead to a configuration that is final or in an endless set
pub record EndsOrTurns (i : Image) (s : List ℕ) : Type 0 where
  pub items : List ℕ
  pub closed : IsAtEnd i (s ++ items)
  pub kind : IsFinal i (s ++ items) ⊎ IsEndless i (s ++ items)

abbrev pub RunsEndOrTurn : Type 0
RunsEndOrTurn = (i : Image) (limit : ℕ) (list : List (List ℕ)) → IsExplored i limit list → IsAll i list
    → (s : List ℕ) → EndsOrTurns i s

-- 4. What was found is all that runs come to, and is met first by its schedules.

-- a word is among those that a group touched, or wrote
pub record IsFoundIn (spans : Reached → List Span) (e : Results) (g word : ℕ) : Type 0 where
  pub found : GroupFound
  pub inside : Contains e.groups found
  pub group : found.group ≡ g
  pub at : (span : Span) × Contains (spans found.reached) span × InSpan word span

pub record IsFaultFound (e : Results) (s n : ℕ) : Type 0 where
  pub found : FaultFound
  pub inside : Contains e.faults found
  pub slot : found.slot ≡ s
  pub cause : found.cause ≡ n

-- the outcome of a schedule's closed set is found
pub record IsOutcomeFound (i : Image) (e : Results) (s : List ℕ) : Type 0 where
  pub outcome : Outcome
  pub is : IsOutcome i s outcome
  pub count : ℕ
  pub by : List ℕ
  pub inside : Contains e.outcomes (outcome_found i count outcome by)

-- what comes of a run under a schedule, and of one more item after it, is in what was found
pub record IsRunFound (i : Image) (e : Results) (s : List ℕ) : Type 0 where
  pub touched : (item : ℕ) (a : AccessValue) → Contains (touches (turn_of (run (start i) s) item).step) a
      → IsFoundIn (λ r. r.touched) e (group_in (turn_of (run (start i) s) item)) a.addr
  pub wrote : (item : ℕ) (a : AccessValue) → Contains (touches (turn_of (run (start i) s) item).step) a
      → writes a.kind ≡ true → IsFoundIn (λ r. r.wrote) e (group_in (turn_of (run (start i) s) item)) a.addr
  pub fault : (item slot cause : ℕ) → has_fault slot cause (turn_of (run (start i) s) item).step ≡ true
      → IsFaultFound e slot cause
  pub outcome : IsAtEnd i s → IsOutcomeFound i e s
  pub goes_on : EndsOrTurns i s

abbrev pub RunsAreFound : Type 0
RunsAreFound = (i : Image) (limit : ℕ) (e : Results) → IsImage i → Finds i limit e → e.all ≡ true
    → (s : List ℕ) → IsRunFound i e s

-- the last turn of a schedule is one in which a slot has a fault
pub record MeetsFault (i : Image) (slot cause : ℕ) (s : List ℕ) : Type 0 where
  pub last : Extension
  pub whole : extended last ≡ s
  pub faults : has_fault slot cause (turn_at i last).step ≡ true

-- a schedule leads into a closed set with an outcome
pub record MeetsOutcome (i : Image) (o : OutcomeFound) (s : List ℕ) : Type 0 where
  pub closed : IsAtEnd i s
  pub outcome : Outcome
  pub is : IsOutcome i s outcome
  pub told : o ≡ outcome_found i o.count outcome o.by

-- a schedule meets something, and none before it does
pub record IsFirst (meets : List ℕ → Type 0) (s : List ℕ) : Type 0 where
  pub met : meets s
  pub first : (t : List ℕ) → Before t s → meets t → ⊥

pub record AreMet (i : Image) (e : Results) : Type 0 where
  pub faults : (f : FaultFound) → Contains e.faults f → IsFirst (MeetsFault i f.slot f.cause) f.by
  pub outcomes : (o : OutcomeFound) → Contains e.outcomes o → IsFirst (MeetsOutcome i o) o.by

abbrev pub FindingsAreMet : Type 0
FindingsAreMet = (i : Image) (limit : ℕ) (e : Results) → IsImage i → Finds i limit e → AreMet i e

abbrev pub ExplorationsAreOne : Type 0
ExplorationsAreOne = (i : Image) (limit : ℕ) (e other : Results) → Finds i limit e → Finds i limit other → e ≡ other

-- 5. A least schedule is a least schedule and, after it, a move of the state to which that leads.

abbrev pub LeastSchedulesAreMoves : Type 0
LeastSchedulesAreMoves = (i : Image) (t : List ℕ) (item : ℕ) → IsLeast i (t ++ item ∷ [])
    → IsLeast i t × Contains (moves (run (start i) t)) item
