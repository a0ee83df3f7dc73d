use Rattle.std.proofs.Common.{◌≡◌, ◌∙◌, ℕ, List, Option, None, sym, ap, subst, arith, slice_index_or}
use Rattle.std.specs.Option.{MatchOption}
use Rattle.mm_word.specs.declared.word.Cell.{Cell}
use Rattle.mm_model.specs.Memory.{page_at, zero_cell}
use Rattle.mm_mem.{specs.Places.IsAt, proofs.PagePlaces.any_default}
use Rattle.mm_report.{specs.Changes.{contents, cells_of}, proofs.CellPlaces.{zero_there, cells_here, cells_nowhere}}
use Rattle.mm_report.proofs.cells.cell_of.Goals as goal

pub returns-in-Some : goal.returns-in-Some
returns-in-Some c =
    let P : Option ℕ → Type 0 = λ o. MatchOption o (page_at (contents c.args.pages.now) c.args.number ≡ None) (IsAt c.args.number c.args.pages.now) in
    let here : IsAt c.args.number c.args.pages.now c.in-Some.at = subst P c.in-Some.is c.requires.page_index in
    let there : cells_of (contents c.args.pages.now) c.args.number ≡ c.index-pages-at.result.1 =
    cells_here c.args.pages.now c.args.number c.in-Some.at c.index-pages-at.result c.requires.rising here c.index-pages-at.is in
    c.index-cells-index.is
    ∙ any_default c.cells.result.now c.args.index c.index-cells-index.result zero_cell (omega (arith, c.cells.ensures.whole))
    ∙ ap (λ (cells : List Cell). slice_index_or cells c.args.index zero_cell) (c.cells.ensures.cells ∙ sym there)

pub returns-in-None : goal.returns-in-None
returns-in-None c =
    let P : Option ℕ → Type 0 = λ o. MatchOption o (page_at (contents c.args.pages.now) c.args.number ≡ None) (IsAt c.args.number c.args.pages.now) in
    let nowhere : page_at (contents c.args.pages.now) c.args.number ≡ None = subst P c.in-None.is c.requires.page_index in
    zero_there c.args.index c.requires.index ∙ ap (λ (cells : List Cell). slice_index_or cells c.args.index zero_cell) (sym (cells_nowhere c.args.pages.now c.args.number nowhere))
