-- What was found is what an exploration of the image finds.
use Rattle.std.specs.Prelude.{◌≡◌, ℕ, true, false, List, [], ◌∷◌, length, map, zip, Option, Some, None}
use Rattle.std.specs.List.{AllZip, flat_map}
use Rattle.mm_word.specs.Cause.{cause_numbers}
use Rattle.mm_model.specs.{Image.{Image, start}, Report.groups_of, Slot.Slot}
use Rattle.mm_thread.specs.Output.{Output}
use Rattle.mm_explore.specs.{Explored.{IsExplored, IsAll}, Findings.{Extension, extended, IsReached, first_fault}}
use Rattle.mm_explore.specs.{Outcomes.{Outcome, End, AreEnds, firsts, count_of}}
use Rattle.mm_explore.specs.Results.{Results, GroupFound, FaultFound, OutcomeFound, explored_text}

pub record IsGroupOf (i : Image) (list : List (List ℕ)) (g : ℕ) (found : GroupFound) : Type 0 where
  pub group : found.group ≡ g
  pub reached : IsReached i list g found.reached

-- the fault of a slot with a number, if a turn has it
abbrev pub fault_of : ℕ → ℕ → Option Extension → List FaultFound
fault_of slot cause None = []
fault_of slot cause (Some x) = record { slot = slot; cause = cause; by = extended x } ∷ []

-- the faults by slot and number, each with the first turn that has it
unfoldable pub faults_of : Image → List (List ℕ) → List FaultFound
faults_of i list =
    flat_map (λ (s : Slot). flat_map (λ cause. fault_of s.number cause (first_fault i list s.number cause)) cause_numbers)
    i.slots

abbrev pub as_output : ℕ × List ℕ → Output
as_output x = record { group = x.0; bytes = x.1 }

-- an outcome that so many ends have, the first of them by a schedule
abbrev pub outcome_found : Image → ℕ → Outcome → List ℕ → OutcomeFound
outcome_found i count o by = record {
  count = count;
  ending = o.ending;
  slots = zip (map (λ (s : Slot). s.number) i.slots) o.slots;
  outputs = map as_output (zip (groups_of (start i).core) o.outputs);
  by = by;
}

-- each outcome of ends once, in the order of the first ends that have them
unfoldable pub outcomes_of : Image → List End → List OutcomeFound
outcomes_of i ends = map (λ (e : End). outcome_found i (count_of ends e.outcome) e.outcome e.schedule) (firsts ends)

-- the results of an exploration of the image, up to a limit
pub record Finds (i : Image) (limit : ℕ) (e : Results) : Type 0 where
  pub list : List (List ℕ)
  pub explored : IsExplored i limit list
  pub count : e.count ≡ length list
  pub all : e.all ≡ true → IsAll i list
  pub more : e.all ≡ false → IsAll i list → ⊥
  pub groups : AllZip (IsGroupOf i list) (groups_of (start i).core) e.groups
  pub faults : e.faults ≡ faults_of i list
  pub ends : List End
  pub are : AreEnds i list e.all ends
  pub outcomes : e.outcomes ≡ outcomes_of i ends

-- the text of the exploration of an image, up to a limit
pub record Explores (i : Image) (limit : ℕ) (text : List ℕ) : Type 0 where
  pub found : Results
  pub finds : Finds i limit found
  pub written : text ≡ explored_text found
