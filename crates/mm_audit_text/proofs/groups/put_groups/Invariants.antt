use Rattle.std.{proofs.Common.{ℕ, List, take}, specs.List.{filter, range_with_len}}
use Rattle.mm_model.specs.{Groups.has_group, Reach.Entries.All}
use Rattle.mm_text.specs.Appends.{Appends}
use Rattle.mm_audit.specs.Surveys.{Surveys}
use Rattle.mm_audit_text.specs.Parts.{IsPart}
use Rattle.mm_audit_text.proofs.groups.put_groups.Given as goal

-- what is written of the groups before one
abbrev pub invariant-loop-group : goal.invariant-loop-group
invariant-loop-group g l =
    (whole : List ℕ) × Appends g.O.Sink.taken g.O.Sink.faults l.initial.out l.out l.initial.text l.text whole
    × (Surveys l.img All l.survey → IsPart l.img l.apart (filter (has_group l.img.slots) (take l.group (range_with_len 0 64))) whole)
