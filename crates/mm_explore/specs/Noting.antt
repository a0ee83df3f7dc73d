-- What was noted of the turns and of the ends that a search went through.
use Rattle.std.specs.Prelude.{◌≡◌, ℕ, ◌+◌, nat_eq, Bool, true, false, if◌then◌else◌, List, [], ◌∷◌, ◌++◌, map, length}
use Rattle.std.specs.{Prelude.{Option, Some, None, slice_get}, List.{AllZip, find, flat_map}, BTreeMap.get}
use Rattle.indexmap.specs.IndexMap.{IsUnique}
use lib.Pointwise.{pointwise}
use Rattle.mm_model.specs.{Counted.writes, Fits.slots_of, Flags.flags, Image.{Image, start}, Report.groups_of, Slot.Slot}
use Rattle.mm_model.specs.State.{Core, output_of}
use Rattle.mm_explore.specs.declared.explored.Standing.{Standing, TheVariants.{Busy, In}}
use Rattle.mm_explore.specs.declared.{findings.Findings.Findings, ends.{Tally.Tally}, found.Origin.Origin}
use Rattle.mm_explore.specs.declared.ends.End as code_end
use Rattle.mm_explore.specs.{Explored.leads_to, Findings.{Extension, turn_at, any_kind, has_fault}}
use Rattle.mm_explore.specs.{FoundLists.{IsOrigin, led_by}, Results.FaultFound, Words.{order, AreKept, turn_words}}
use Rattle.mm_explore.specs.Outcomes.{Outcome, End, ending_number, standing_number, firsts, count_of}

-- 1. Faults.

-- the first of these turns in which a slot has a fault
abbrev pub first_in : Image → List Extension → ℕ → ℕ → Option Extension
first_in i done slot cause = find (λ x. has_fault slot cause (turn_at i x).step) done

-- a turn and its origin are both absent, or the origin is that of the turn
abbrev pub IsFrom : List (List ℕ) → Option Extension → Option Origin → Type 0
IsFrom list None None = Unit {0}
IsFrom list (Some x) (Some o) = IsOrigin list o x
IsFrom list _ _ = ⊥

-- what is kept under a number, if something else comes under it
abbrev pub first_kept : Option Origin → Bool → Origin → Option Origin
first_kept (Some p) here o = Some p
first_kept None true o = Some o
first_kept None false o = None

-- the fault that is kept of a slot under a number
abbrev pub fault_kept : List (List ℕ) → ℕ → ℕ → Option Origin → List FaultFound
fault_kept list slot cause None = []
fault_kept list slot cause (Some o) = record { slot = slot; cause = cause; by = led_by list o } ∷ []

-- 2. Ends.

abbrev pub bytes_form : List ℕ → List ℕ
bytes_form bytes = length bytes ∷ bytes

-- the numbers by which an outcome is kept
unfoldable pub outcome_form : Outcome → List ℕ
outcome_form o =
    ending_number o.ending ∷ length o.slots ∷ map standing_number o.slots ++ flat_map bytes_form o.outputs

-- how slots stand, given a flag for each: whether it is busy
abbrev pub standings_of : List Bool → List Slot → List Standing
standings_of (b ∷ busy) (s ∷ slots) = (if b then Busy else In s.state) ∷ standings_of busy slots
standings_of _ _ = []

-- the outcome of an end that is kept, given the machine at it and the groups
abbrev pub outcome_held : code_end.End → Core → List ℕ → Outcome
outcome_held e core groups = record {
  ending = e.ending;
  slots = standings_of (flags (length (slots_of core)) e.busy) (slots_of core);
  outputs = map (output_of core) groups;
}

-- what is kept of an end: the numbers of its outcome, how many of these ends have it, and the end itself
pub record IsKeptEnd (i : Image) (list : List (List ℕ)) (ends : List End) (e : End) (key : List ℕ) (tally : Tally) : Type 0 where
  pub form : key ≡ outcome_form e.outcome
  pub count : tally.count ≡ count_of ends e.outcome
  pub first : slice_get list tally.first.at ≡ Some e.schedule
  pub held : outcome_held tally.first (leads_to i e.schedule).core (groups_of (start i).core) ≡ e.outcome

-- one end more
abbrev pub tally_after : code_end.End → Option Tally → Tally
tally_after e None = record { count = 1; first = e }
tally_after e (Some t) = record { count = t.count + 1; first = t.first }

-- 3. What was noted.

-- the turns that were gone through were noted, in their order
pub record Noted (i : Image) (list : List (List ℕ)) (done : List Extension) (f : Findings) : Type 0 where
  pub touched : AreKept (flat_map (turn_words any_kind i) done) f.words.touched
  pub wrote : AreKept (flat_map (turn_words writes i) done) f.words.wrote
  pub faults : (slot cause : ℕ) → IsFrom list (first_in i done slot cause) (get order f.faults (slot, cause))

-- these ends were noted, in their order
pub record AreNoted (i : Image) (list : List (List ℕ)) (ends : List End) (f : Findings) : Type 0 where
  pub entries : AllZip (λ e entry. IsKeptEnd i list ends e entry.0.items entry.1) (firsts ends) f.ends.entries
  pub unique : IsUnique (λ a b. pointwise nat_eq a.items b.items) f.ends
