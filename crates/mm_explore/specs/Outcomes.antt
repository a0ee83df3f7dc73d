-- Outcomes of final configurations and of endless sets, and the list of them that is told.
use Rattle.std.specs.Prelude.{◌≡◌, ◌⊎◌, ℕ, ◌+◌, Bool, true, false, ◌&&◌, ◌==◌, nat_eq, if◌then◌else◌, List, [], ◌∷◌, ◌++◌}
use Rattle.std.specs.{Prelude.{map, slice_get}, List.{AllByRecursion, count_by, list_any}}
use lib.Pointwise.{pointwise}
use Rattle.mm_config.specs.StateNumbers.{state_number}
use Rattle.mm_model.specs.{Fits.slots_of, Image.{Image, start}, Report.groups_of, Run.run, Slot.Slot}
use Rattle.mm_model.specs.State.{output_of}
use Rattle.mm_explore.specs.declared.explored.Ending.{Ending, TheVariants.{Ended, Stuck, Endless}}
use Rattle.mm_explore.specs.declared.explored.Standing.{Standing, TheVariants.{Busy, In}}
use Rattle.mm_explore.specs.Closed.{IsEndless, IsFirstEndless}
use Rattle.mm_explore.specs.Moves.{moves}
use Rattle.mm_explore.specs.Explored.{leads_to}
use Rattle.mm_explore.specs.{Findings.IsFinal}

-- 1. The outcome of a set.

-- how it ends, how each slot stands in it, and the output of each group
pub record Outcome : Type 0 where
  pub ending : Ending
  pub slots : List Standing
  pub outputs : List (List ℕ)

-- the slots of a schedule's configuration, which have no counts of turns
abbrev pub slots_at : Image → List ℕ → List Slot
slots_at i t = slots_of (leads_to i t).core

-- whatever items follow, the slot at an index is the same
abbrev pub IsSteady : Image → List ℕ → ℕ → Type 0
IsSteady i t k = (items : List ℕ) → slice_get (slots_at i (t ++ items)) k ≡ slice_get (slots_at i t) k

-- a slot is busy if it is not the same in all configurations of a set; else it stands in its state
abbrev pub IsStanding : Image → List ℕ → ℕ → Slot → Standing → Type 0
IsStanding i t k s Busy = IsSteady i t k → ⊥
IsStanding i t k s (In state) = IsSteady i t k × (state ≡ s.state)

-- how slots from an index on stand
abbrev pub AreStanding : Image → List ℕ → ℕ → List Slot → List Standing → Type 0
AreStanding i t k [] [] = Unit {0}
AreStanding i t k (s ∷ slots) (x ∷ standings) = IsStanding i t k s x × AreStanding i t (k + 1) slots standings
AreStanding i t k _ _ = ⊥

abbrev pub IsEnding : Image → List ℕ → Ending → Type 0
IsEnding i t Ended = moves (run (start i) t) ≡ []
IsEnding i t Stuck = IsFinal i t × (moves (run (start i) t) ≡ [] → ⊥)
IsEnding i t Endless = IsEndless i t

pub record IsOutcome (i : Image) (t : List ℕ) (o : Outcome) : Type 0 where
  pub ending : IsEnding i t o.ending
  pub slots : AreStanding i t 0 (slots_at i t) o.slots
  pub outputs : o.outputs ≡ map (output_of (run (start i) t).core) (groups_of (start i).core)

-- how a final configuration ends, given whether it has no move
abbrev pub ending_of : Bool → Ending
ending_of true = Ended
ending_of false = Stuck

-- 2. Outcomes that are the same.

abbrev pub ending_number : Ending → ℕ
ending_number Ended = 0
ending_number Stuck = 1
ending_number Endless = 2

abbrev pub standing_number : Standing → ℕ
standing_number Busy = 0
standing_number (In state) = 1 + state_number state

abbrev pub same_outcome : Outcome → Outcome → Bool
same_outcome a b =
    ending_number a.ending == ending_number b.ending
    && (pointwise (λ x y. standing_number x == standing_number y) a.slots b.slots
    && pointwise (pointwise nat_eq) a.outputs b.outputs)

-- 3. What is told.

-- an end: the schedule that is told for it, and its outcome
pub record End : Type 0 where
  pub schedule : List ℕ
  pub outcome : Outcome

-- the schedules of a list of which something holds, in its order
abbrev pub Selects : (List ℕ → Type 0) → List (List ℕ) → List (List ℕ) → Type 0
Selects P [] some = some ≡ []
Selects P (t ∷ list) some =
    (P t × ((rest : List (List ℕ)) × (some ≡ t ∷ rest) × Selects P list rest)) ⊎ ((P t → ⊥) × Selects P list some)

-- the first schedules of endless sets, if the list is all
abbrev pub SelectsEndless : Bool → Image → List (List ℕ) → List (List ℕ) → Type 0
SelectsEndless true i list firsts = Selects (IsFirstEndless i) list firsts
SelectsEndless false i list firsts = firsts ≡ []

-- the ends of schedules, with the outcome of each
pub record AreEndsOf (i : Image) (told : List (List ℕ)) (ends : List End) : Type 0 where
  pub schedules : map (λ (e : End). e.schedule) ends ≡ told
  pub outcomes : AllByRecursion (λ (e : End). IsOutcome i e.schedule e.outcome) ends

-- the ends of a list: those of its final schedules and, if it is all, after them those of the first schedules of endless
-- sets
pub record AreEnds (i : Image) (list : List (List ℕ)) (all : Bool) (ends : List End) : Type 0 where
  pub finals : List (List ℕ)
  pub final : Selects (IsFinal i) list finals
  pub firsts : List (List ℕ)
  pub endless : SelectsEndless all i list firsts
  pub are : AreEndsOf i (finals ++ firsts) ends

abbrev pub has_outcome : Outcome → End → Bool
has_outcome o e = same_outcome o e.outcome

-- the ends whose outcome no earlier one has, and none of these
abbrev pub firsts_after : List Outcome → List End → List End
firsts_after seen [] = []
firsts_after seen (e ∷ ends) =
    if list_any (same_outcome e.outcome) seen then firsts_after seen ends
    else e ∷ firsts_after (e.outcome ∷ seen) ends

-- the first end of each outcome
unfoldable pub firsts : List End → List End
firsts ends = firsts_after [] ends

-- how many ends have an outcome
abbrev pub count_of : List End → Outcome → ℕ
count_of ends o = count_by (has_outcome o) ends
