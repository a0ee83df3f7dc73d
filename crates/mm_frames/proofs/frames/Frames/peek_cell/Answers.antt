use Rattle.std.proofs.{Common.{List, [], sym, ap, subst, ◌∙◌, arith, slice_get}, lemmas.List.get_or_default}
use Rattle.mm_word.specs.declared.word.Cell.{Cell}
use Rattle.mm_frames.{specs.Framed.{Framed, IsOccupied, cells_in}, proofs.Framed.{occupied_in_range, cell_in_frame}}
use Rattle.mm_frames.proofs.frames.Frames.peek_cell.Goals as goal

pub index-requires : goal.index-requires
index-requires c =
    let here = subst (λ (f : Framed). IsOccupied f c.args.frame) (sym c.self.view_is) c.requires.occupied in
    omega (arith, occupied_in_range _ _ c.self.invariant.framed c.args.frame here, c.self.inside.frames.ok.0)

pub returns-clause-cell : goal.returns-clause-cell
returns-clause-cell c =
    let within = occupied_in_range _ _ c.self.invariant.framed c.args.frame (subst (λ (f : Framed). IsOccupied f c.args.frame) (sym c.self.view_is) c.requires.occupied) in
    let cells = c.index.ensures ∙ get_or_default c.self.inside.frames.items c.args.frame c.index.result.now [] within in
    sym (ap (λ (f : Framed). slice_get (cells_in f c.args.frame) c.args.index) c.self.view_is) ∙ ap (λ (cells : List Cell). slice_get cells c.args.index) (sym cells) ∙ c.cell.ensures

pub returns-clause-memory : goal.returns-clause-memory
returns-clause-memory c = λ page found. cell_in_frame c.args.self.now page c.args.frame c.args.index found c.requires.in_page ∙ returns-clause-cell c
