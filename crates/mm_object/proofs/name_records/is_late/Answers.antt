use Rattle.std.proofs.Common.{List, ℕ, not, ap, ◌∙◌}
use Rattle.mm_object.{specs.Names.is_before, proofs.Among.is_late-last}
use Rattle.mm_object.proofs.name_records.is_late.Goals as goal

pub returns-in-len1-up : goal.returns-in-len1-up
returns-in-len1-up c =
    ap not (c.is_before.ensures ∙ ap (λ (x : List ℕ). is_before x c.bytes-in-len1-up.result.now) c.bytes.ensures.bytes ∙ ap (is_before c.last-item.result) c.bytes-in-len1-up.ensures.bytes)
    ∙ is_late-last c.args.names.now c.args.name.now c.last-item.result c.in-len1-up.len_at_least c.last-item.is
