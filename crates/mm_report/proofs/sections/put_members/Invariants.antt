use Rattle.std.{proofs.Common.take, specs.List.flat_map}
use Rattle.mm_text.specs.Appends.{Appends}
use Rattle.mm_model.specs.Fits.{slots_of}
use Rattle.mm_report.specs.Groups.{member_text}
use Rattle.mm_report.proofs.sections.put_members.Given as goal

abbrev pub invariant-loop-i : goal.invariant-loop-i
invariant-loop-i g l = Appends g.O.Sink.taken g.O.Sink.faults l.initial.out l.out l.initial.text l.text
    (flat_map (member_text l.group) (take l.i (slots_of l.m.core)))
