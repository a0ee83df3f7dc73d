use Rattle.std.proofs.Common.{take}
use Rattle.mm_text.specs.Appends.{Appends}
use Rattle.mm_disasm.specs.Canonical.{segment_text}
use Rattle.mm_asm.proofs.Built.{numbered}
use Rattle.mm_disasm.proofs.segments.put_segments.Given as goal

abbrev pub invariant-loop-number : goal.invariant-loop-number
invariant-loop-number g l = Appends g.O.Sink.taken g.O.Sink.faults l.initial.out l.out l.initial.text l.text (numbered (segment_text l.o) 0 (take l.number l.segments))
