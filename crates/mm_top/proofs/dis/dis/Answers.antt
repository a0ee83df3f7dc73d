use Rattle.std.proofs.Common.{◌≡◌, [], refl}
use Rattle.mm_top.proofs.{Reported.ends_written, Rows.{row_stops, row_ends}, NamedFiles.named}
use Rattle.mm_disasm.specs.Canonical.{canonical}
use Rattle.mm_top.proofs.dis.dis.Goals as goal

pub returns-in_err-object : goal.returns-in_err-object
returns-in_err-object g c = row_stops [] c.from_residual.result (named c.name_at.ensures (c.in_err-object.ensures.read [] refl)) refl refl c.from_residual.ensures.1

pub returns : goal.returns
returns g c =
    row_ends (λ r. ⊥) (λ text. text ≡ canonical c.in_ok-object.object) (named c.name_at.ensures (c.in_ok-object.ensures.read [] refl)) refl
    (ends_written _ _ _ _ refl _ _ c.ended.ensures c.disassemble.ensures) (λ r no. no) (λ text is. is)
