use Rattle.std.proofs.Common.{take}
use Rattle.mm_keep_text.specs.Parts.{AreAll, SomeUses, ReadsPart, WritesPart}
use Rattle.mm_keep_text.proofs.finding.all_used.Given as goal

abbrev pub invariant-loop-k : goal.invariant-loop-k
invariant-loop-k l = record {
  reads : AreAll (SomeUses (ReadsPart l.kernel.image l.kernel.kept) (take l.k l.tables.threads)) l.reads.keys;
  writes : AreAll (SomeUses (WritesPart l.kernel.image l.kernel.kept) (take l.k l.tables.threads)) l.writes.keys;
}
