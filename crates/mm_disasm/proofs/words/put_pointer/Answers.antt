use Rattle.std.proofs.Common.{ℕ, List, ◌++◌, length, codes, ap, ◌∙◌}
use Rattle.mm_text.proofs.Appending.{appends_then, appends_same}
use Rattle.mm_disasm.{specs.Canonical.{perm_text, short_hex, pointer_text}, proofs.Targets.index_inside}
use Rattle.mm_disasm.proofs.words.put_pointer.Goals as goal

pub target_name-requires : goal.target_name-requires
target_name-requires g c = index_inside c.args.o.now.segments (length c.args.o.now.externals) c.args.target c.requires

pub returns : goal.returns
unfolding pointer_text
returns g c =
    let addend = short_hex c.args.target.addend in
    let name = c.bytes.result.now in
    appends_same (appends_then (appends_then (appends_then c.put.ensures c.put_bytes.ensures) c.put_piece.ensures) c.put_short_hex.ensures)
    (ap (λ (perm : List ℕ). perm ++ codes " " ++ name ++ codes "+" ++ addend) c.perm_name.ensures
    ∙ ap (λ (text : List ℕ). perm_text c.args.perm ++ codes " " ++ text ++ codes "+" ++ addend) (c.bytes.ensures.bytes ∙ c.target_name.ensures))
