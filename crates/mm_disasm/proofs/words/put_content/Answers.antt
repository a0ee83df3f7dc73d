use Rattle.std.proofs.Common.{Option, ap}
use Rattle.mm_object.specs.declared.target.Reloc.{Reloc}
use Rattle.mm_text.proofs.Appending.{appends_then, appends_same}
use Rattle.mm_disasm.{specs.Canonical.word_by, proofs.Targets.reloc_target}
use Rattle.mm_disasm.proofs.words.put_content.Goals as goal

pub put_pointer-requires : goal.put_pointer-requires
put_pointer-requires g c = reloc_target c.args.o.now c.args.segment c.args.word c.in-Some.reloc c.requires c.in-Some.ensures

pub returns-in-Some : goal.returns-in-Some
returns-in-Some g c =
    appends_same (appends_then c.put_piece.ensures c.put_pointer.ensures) (ap (λ (r : Option Reloc). word_by c.args.o.now r c.args.bits) c.in-Some.ensures)

pub returns-in-None : goal.returns-in-None
returns-in-None g c = appends_same c.put_integer.ensures (ap (λ (r : Option Reloc). word_by c.args.o.now r c.args.bits) c.in-None.ensures)
