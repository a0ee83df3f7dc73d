use Rattle.std.{proofs.Common.take, specs.List.{flat_map, range_with_len}}
use Rattle.mm_text.specs.Appends.{Appends}
use Rattle.mm_report.specs.Groups.{group_text}
use Rattle.mm_report.proofs.sections.put_sections.Given as goal

abbrev pub invariant-loop-group : goal.invariant-loop-group
invariant-loop-group g l = Appends g.O.Sink.taken g.O.Sink.faults l.initial.out l.out l.initial.text l.text
    (flat_map (group_text l.m.core) (take l.group (range_with_len 0 64)))
