use Rattle.std.proofs.Common.{take}
use Rattle.mm_text.specs.Appends.{Appends}
use Rattle.mm_disasm.specs.Canonical.{word_line}
use Rattle.mm_asm.proofs.Built.{numbered}
use Rattle.mm_disasm.proofs.words.put_words.Given as goal

abbrev pub invariant-loop-k : goal.invariant-loop-k
invariant-loop-k g l = Appends g.O.Sink.taken g.O.Sink.faults l.initial.out l.out l.initial.text l.text (numbered (word_line l.o l.segment) 0 (take l.k l.items))
