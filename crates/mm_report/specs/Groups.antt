-- The lines of the slots of a group, and the sections of groups.
use Rattle.std.specs.{Prelude.{ℕ, ◌==◌, if◌then◌else◌, List, []}, List.list_any}
use Rattle.mm_model.specs.{Slot.Slot, State.Core, Lines.slot_lines, Report.{is_of, section}}

-- the lines of a slot, if it is of the group
abbrev pub member_text : ℕ → Slot → List ℕ
member_text g s = if s.group == g then slot_lines s else []

-- the section of a group, if it has a slot
abbrev pub group_text : Core → ℕ → List ℕ
group_text core g = if list_any (is_of g) core.rows then section core g else []
