use Rattle.std.proofs.Common.{ℕ, List, ◌++◌, codes, decimal, sym, ap, ◌∙◌, append_assoc}
use Rattle.mm_model.specs.Lines.{newline}
use Rattle.mm_text.proofs.Appending.{appends_then, appends_same}
use Rattle.mm_disasm.specs.Canonical.{segment_line}
use Rattle.mm_disasm.proofs.segments.put_segment_line.Goals as goal

pub returns : goal.returns
returns g c =
    let s = c.segment.inside in
    let name = codes ".segment " ++ c.bytes.result.now in
    appends_same (appends_then (appends_then c.put_piece.ensures c.put_bytes.ensures) c.put.ensures)
    (sym (append_assoc name (codes " " ++ decimal s.log) newline) ∙ ap (λ (text : List ℕ). text ++ newline) (sym (append_assoc name (codes " ") (decimal s.log)))
    ∙ ap (λ (text : List ℕ). codes ".segment " ++ text ++ codes " " ++ decimal s.log ++ newline) c.bytes.ensures.bytes ∙ ap segment_line c.segment.view_is)
