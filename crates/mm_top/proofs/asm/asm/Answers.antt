use Rattle.std.proofs.Common.{[], refl}
use Rattle.mm_top.proofs.{Rows.{row_stops, row_ends}, NamedFiles.named}
use Rattle.mm_top.proofs.asm.asm.Goals as goal

pub returns-in_err-object : goal.returns-in_err-object
returns-in_err-object g c = row_stops [] c.from_residual.result (named c.name_at.ensures (c.in_err-object.ensures [] refl)) refl refl c.from_residual.ensures.1

pub returns : goal.returns
returns g c = row_ends _ _ (named c.name_at.ensures (c.in_ok-object.ensures [] refl)) refl c.write_object.ensures (λ r no. no) (λ text is. is)
