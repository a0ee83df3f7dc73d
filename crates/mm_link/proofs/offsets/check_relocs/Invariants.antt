use Rattle.std.proofs.Common.{◌≡◌, drop}
use Rattle.mm_link.specs.Steps.{outside, reloc_targets}
use Rattle.mm_link.proofs.offsets.check_relocs.Given as goal

abbrev pub invariant-loop-reloc : goal.invariant-loop-reloc
invariant-loop-reloc l = outside l.sites l.object (reloc_targets (drop l.reloc-index l.reloc-items)) ≡ outside l.sites l.object (reloc_targets l.reloc-items)
