-- What an exploration finds, and its text.
use Rattle.std.specs.{Prelude.{ℕ, Bool, true, false, List, ◌++◌, length, codes, decimal}, List.flat_map}
use Rattle.mm_model.specs.{Lines.{newline, state_text, output_lines}, Report.group_line}
use Rattle.mm_span.specs.Spans.{span_line}
use Rattle.mm_thread.specs.Output.{Output}
use Rattle.mm_explore.specs.declared.explored.Ending.{Ending, TheVariants.{Ended, Stuck, Endless}}
use Rattle.mm_explore.specs.declared.explored.Standing.{Standing, TheVariants.{Busy, In}}
use Rattle.mm_explore.specs.{Findings.Reached, Texts.by_line}

-- 1. What is found.

-- what a group touched and wrote
pub record GroupFound : Type 0 where
  pub group : ℕ
  pub reached : Reached

-- a fault of a slot, by its number, and the schedule that meets it
pub record FaultFound : Type 0 where
  pub slot : ℕ
  pub cause : ℕ
  pub by : List ℕ

-- an outcome: how many ends have it, its kind, each slot's number with how the slot stands, the output of each group, and
-- the first schedule
pub record OutcomeFound : Type 0 where
  pub count : ℕ
  pub ending : Ending
  pub slots : List (ℕ × Standing)
  pub outputs : List Output
  pub by : List ℕ

pub record Results : Type 0 where
  pub count : ℕ
  pub all : Bool
  pub groups : List GroupFound
  pub faults : List FaultFound
  pub outcomes : List OutcomeFound

-- 2. The text.

abbrev pub extent_text : Bool → List ℕ
extent_text true = codes " all\n"
extent_text false = codes " more\n"

abbrev pub group_found_lines : GroupFound → List ℕ
group_found_lines g =
    codes "group " ++ decimal g.group ++ newline
    ++ flat_map (span_line (codes "touched ")) g.reached.touched ++ flat_map (span_line (codes "wrote ")) g.reached.wrote

unfoldable pub fault_found_lines : FaultFound → List ℕ
fault_found_lines f = codes "fault " ++ decimal f.slot ++ codes " " ++ decimal f.cause ++ newline ++ by_line f.by

abbrev pub ending_text : Ending → List ℕ
ending_text Ended = codes " ended\n"
ending_text Stuck = codes " stuck\n"
ending_text Endless = codes " endless\n"

abbrev pub standing_text : Standing → List ℕ
standing_text Busy = codes "busy"
standing_text (In state) = state_text state

abbrev pub slot_found_line : ℕ × Standing → List ℕ
slot_found_line x = codes "slot " ++ decimal x.0 ++ codes " " ++ standing_text x.1 ++ newline

abbrev pub output_text : Output → List ℕ
output_text o = group_line o.group (length o.bytes) ++ output_lines o.bytes

unfoldable pub outcome_found_lines : OutcomeFound → List ℕ
outcome_found_lines o =
    codes "outcome " ++ decimal o.count ++ ending_text o.ending
    ++ flat_map slot_found_line o.slots ++ flat_map output_text o.outputs ++ by_line o.by

-- the text of what was found
unfoldable pub explored_text : Results → List ℕ
explored_text e =
    codes "explored " ++ decimal e.count ++ extent_text e.all
    ++ flat_map group_found_lines e.groups ++ flat_map fault_found_lines e.faults
    ++ flat_map outcome_found_lines e.outcomes
