use Rattle.std.{proofs.Common.take, specs.List.flat_map}
use Rattle.mm_text.specs.Appends.{Appends}
use Rattle.mm_audit_text.specs.Parts.{further}
use Rattle.mm_audit_text.proofs.lines.put_numbers.Given as goal

abbrev pub invariant-loop-group : goal.invariant-loop-group
invariant-loop-group g l = Appends g.O.Sink.taken g.O.Sink.faults l.initial.out l.out l.initial.text l.text
    (flat_map further (take l.group-index l.rest))
