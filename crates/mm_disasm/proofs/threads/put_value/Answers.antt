use Rattle.std.proofs.Common.{length, sym, ap, ◌∙◌}
use Rattle.mm_object.specs.Objects.{is_value}
use Rattle.mm_text.proofs.Appending.{appends_then, appends_same}
use Rattle.mm_disasm.specs.Canonical.{value_text}
use Rattle.mm_disasm.proofs.threads.put_value.Goals as goal

pub put_pointer-requires : goal.put_pointer-requires
put_pointer-requires g c = ap (is_value c.args.o.now.segments (length c.args.o.now.externals)) (sym c.in-Ptr.is) ∙ c.requires

pub returns-in-Ptr : goal.returns-in-Ptr
returns-in-Ptr g c = appends_same (appends_then c.put_piece.ensures c.put_pointer.ensures) (ap (value_text c.args.o.now) (sym c.in-Ptr.is))
