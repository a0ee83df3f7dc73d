use Rattle.std.proofs.Common.{◌≡◌, true, None, sym, ap, ◌∙◌}
use Rattle.mm_model.specs.{Memory.cell_at, Counted.{block_of, page_of_block}}
use Rattle.mm_frames.specs.Framed.{frame_of}
use Rattle.mm_cache.specs.Lines.{hits}
use Rattle.mm_vmem.specs.{contracts.vmem.VMem.the_view, Cached.{Cached, meaning}}
use Rattle.mm_vmem.proofs.CellsRead.{hit_has_cell, no_frame_no_cell, none_found, read_there, never_none}
use Rattle.mm_vmem.proofs.vmem.VMem.miss.Goals.{After-cell}
use Rattle.mm_vmem.proofs.vmem.VMem.miss.Goals as goal

there : (c : After-cell) → hits c.self.inside.lines (block_of c.args.word) ≡ true
there c = ap (λ (m : Cached). hits m.lines (block_of c.args.word)) c.self.view_is ∙ c.bring_mapped.ensures.there c.if-not-bring_mapped.false

pub returns-clause-answer : goal.returns-clause-answer
returns-clause-answer c =
    c.cell.ensures
    ∙ sym (read_there (the_view c.self.inside) c.args.word c.self.invariant c.requires.aligned (there c))
    ∙ ap (λ (m : Cached). cell_at (meaning m) c.args.word) c.self.view_is
    ∙ ap (λ m. cell_at m c.args.word) c.bring_mapped.ensures.after

pub returns-clause-same : goal.returns-clause-same
returns-clause-same c =
    let found = hit_has_cell c.self.inside.lines c.args.word c.self.invariant.cover.lines (there c) in
    never_none _ c.cell.result found.0 (c.cell.ensures ∙ found.1)

pub returns-then-not-bring_mapped-clause-answer : goal.returns-then-not-bring_mapped-clause-answer
returns-then-not-bring_mapped-clause-answer c =
    let none : frame_of c.args.self.now.frames (page_of_block (block_of c.args.word)) ≡ None = none_found _ (sym c.bring_mapped.ensures.answer ∙ c.if-not-bring_mapped.true) in
    sym (no_frame_no_cell c.args.self.now c.args.word none)
