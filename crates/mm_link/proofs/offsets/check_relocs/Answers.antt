use Rattle.std.proofs.{Common.arith, lemmas.Grind.common_steps}
use Rattle.mm_link.proofs.Targets.{reloc_target}
use Rattle.mm_link.proofs.offsets.check_relocs.Goals as goal

pub check_target-requires : goal.check_target-requires
check_target-requires c = reloc_target c.args.object.now c.relocs-reloc-items.ensures.object c.relocs-reloc-items.result.now c.relocs-reloc-items.ensures.relocs
    c.loop-reloc.reloc-index _ c.loop-reloc-test.true

pub loop-reloc-preserved : goal.loop-reloc-preserved
loop-reloc-preserved c = grind (arith, common_steps)
