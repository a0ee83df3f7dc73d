use Rattle.std.proofs.Common.{take}
use Rattle.mm_text.specs.Appends.{Appends}
use Rattle.mm_disasm.specs.Canonical.{register_line}
use Rattle.mm_asm.proofs.Built.{numbered}
use Rattle.mm_disasm.proofs.threads.put_registers.Given as goal

abbrev pub invariant-loop-k : goal.invariant-loop-k
invariant-loop-k g l = Appends g.O.Sink.taken g.O.Sink.faults l.initial.out l.out l.initial.text l.text (numbered (register_line l.o) 0 (take l.k l.values))
