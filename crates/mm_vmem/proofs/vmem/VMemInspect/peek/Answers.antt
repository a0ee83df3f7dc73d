use Rattle.std.proofs.Common.{◌/◌, List, Option, sym, ap, ◌∙◌}
use Rattle.mm_word.specs.declared.word.Cell.{Cell}
use Rattle.mm_model.{specs.Memory.{cell_at, cell_in, place_of}, proofs.Memories.cell_at-aligned}
use Rattle.mm_frames.{specs.Framed.{frame_of, memory_of}, proofs.Framed.page_in_frame}
use Rattle.mm_vmem.specs.{contracts.vmem.VMem.the_view, Cached.{Cached, meaning}}
use Rattle.mm_vmem.proofs.CellsRead.{same_page, cell_is_hit, no_cell_no_hit, no_frame_no_cell, read_there, read_missing}
use Rattle.mm_vmem.proofs.vmem.VMemInspect.peek.Goals as goal

pub returns-in-Some : goal.returns-in-Some
returns-in-Some c =
    let at = sym c.cell.ensures ∙ c.in-Some.is in
    sym (sym (ap (λ (m : Cached). cell_at (meaning m) c.args.word) c.self.view_is)
    ∙ read_there (the_view c.self.inside) c.args.word c.self.invariant c.requires.aligned (cell_is_hit c.self.inside.lines c.args.word c.in-Some.cell at) ∙ at)

pub returns-in_err-frame-in-None : goal.returns-in_err-frame-in-None
returns-in_err-frame-in-None c =
    c.from_residual.ensures
    ∙ sym (sym (ap (λ (m : Cached). cell_at (meaning m) c.args.word) c.self.view_is)
    ∙ no_frame_no_cell (the_view c.self.inside) c.args.word (ap (frame_of c.self.inside.frames) (same_page c.args.word) ∙ sym c.frame_of.ensures ∙ c.in_err-frame-in-None.was))

pub returns-in_ok-frame-in-None : goal.returns-in_ok-frame-in-None
returns-in_ok-frame-in-None c =
    let m = memory_of c.self.inside.frames in
    sym (sym (ap (λ (x : Cached). cell_at (meaning x) c.args.word) c.self.view_is)
    ∙ read_missing (the_view c.self.inside) c.args.word c.self.invariant (no_cell_no_hit c.self.inside.lines c.args.word c.self.invariant.cover.lines (sym c.cell.ensures ∙ c.in-None.is))
    ∙ cell_at-aligned m c.args.word c.requires.aligned
    ∙ ap (λ (o : Option (List Cell)). cell_in o (place_of c.args.word))
    (page_in_frame c.self.inside.frames (c.args.word / 4096) c.in_ok-frame-in-None.frame (sym c.frame_of.ensures ∙ c.in_ok-frame-in-None.was))
    ∙ c.peek_cell.ensures.cell)
