-- The meaning of schedules, and the items that round robin issues.
use Rattle.std.specs.Prelude.{◌≡◌, ℕ, ◌<◌, ◌≤◌, ◌⊎◌, List, ◌∷◌, ◌++◌, length, Option, Some, None}
use Rattle.mm_model.specs.{Slot.Slot, State.{Core, State}, Run.{run, robin_from, last_item}, Outcomes.Runs}
use Rattle.mm_model.specs.{Schedule.{Means, FaultsAt}, Fits.IsState}

-- 1. Texts.

-- a text means at most one list
abbrev pub MeanOneList : Type 0
MeanOneList = (text a b : List ℕ) → Means text a → Means text b → a ≡ b

-- the fault of a text is at one place at most
abbrev pub FaultOnce : Type 0
FaultOnce = (text : List ℕ) (p q : ℕ) → FaultsAt text p → FaultsAt text q → p ≡ q

-- a text never has both a meaning and a fault
abbrev pub NeverBoth : Type 0
NeverBoth = (text items : List ℕ) (p : ℕ) → Means text items → ¬ FaultsAt text p

-- a text always has a meaning or a fault
abbrev pub AlwaysOne : Type 0
AlwaysOne = (text : List ℕ) → ((items : List ℕ) × Means text items) ⊎ ((p : ℕ) × FaultsAt text p)

-- 2. Round robin.

-- the slot of this number is there and runs
abbrev pub RunsAt : Core → ℕ → Type 0
RunsAt core n = (s : Slot) × Runs core n s

-- no slot whose number passes runs
abbrev pub NoneRuns : Core → (ℕ → Type 0) → Type 0
NoneRuns core Passes = (n : ℕ) → Passes n → ¬ RunsAt core n

abbrev pub AnyNumber : ℕ → Type 0
AnyNumber n = Unit {0}

-- the least running slot among those whose number passes
pub record IsLeast (core : Core) (Passes : ℕ → Type 0) (n : ℕ) : Type 0 where
  pub runs : RunsAt core n
  pub passes : Passes n
  pub least : NoneRuns core (λ m. Passes m × (m < n))

-- the next running slot after the last item, cyclically by number; at the beginning the least one
abbrev pub IsNext : Core → Option ℕ → ℕ → Type 0
IsNext core None n = IsLeast core AnyNumber n
IsNext core (Some last) n = IsLeast core (λ m. last < m) n ⊎ (NoneRuns core (λ m. last < m) × IsLeast core AnyNumber n)

-- round robin issues no more items than it is asked for
abbrev pub RobinIsShort : Type 0
RobinIsShort = (s : State) (last : Option ℕ) (count : ℕ) → length (robin_from s last count) ≤ count

-- round robin issues fewer items only if no slot runs any more
abbrev pub RobinEndsWhereNoneRuns : Type 0
RobinEndsWhereNoneRuns =
    (s : State) (last : Option ℕ) (count : ℕ) → length (robin_from s last count) < count
    → NoneRuns (run s (robin_from s last count)).core AnyNumber

-- each item of round robin names the next running slot when its turn comes
abbrev pub RobinIssuesTheNext : Type 0
RobinIssuesTheNext =
    (s : State) (last : Option ℕ) (count : ℕ) → IsState s → (before : List ℕ) (n : ℕ) (behind : List ℕ)
    → robin_from s last count ≡ before ++ n ∷ behind
    → IsNext (run s before).core (last_item last before) n
