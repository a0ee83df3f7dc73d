use Rattle.std.proofs.Common.{get_or, arith}
use Rattle.mm_word.specs.declared.perm.Perm.TheVariants.{Ro}
use Rattle.mm_object.{specs.declared.target.Reloc.Reloc, proofs.Found.{standing, found_at}}
use Rattle.mm_object.proofs.object.reloc_standing.Goals as goal

pub returns-then-reloc-word-clause-reloc : goal.returns-then-reloc-word-clause-reloc
returns-then-reloc-word-clause-reloc c =
    let none : Reloc = record { segment = 0; word = 0; perm = Ro; target = record { index = 0; addend = 0 } } in
    let relocs = c.args.relocs.now in
    let this = standing c.args.segment c.args.word (get_or relocs c.args.at none) c.if-reloc-segment.true c.if-reloc-word.true in
    found_at c.args.segment c.args.word relocs c.requires c.args.at none (omega (arith, c.if-at-relocs.false)) this
