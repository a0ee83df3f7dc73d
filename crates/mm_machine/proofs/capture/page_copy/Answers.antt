use Rattle.std.proofs.{Common.{ℕ, ◌<◌, ◌∙◌, List, length, sym, ap, subst, arith}, lemmas.List.{take_more, take_all}}
use Rattle.mm_word.specs.declared.word.Cell.{Cell}
use Rattle.mm_model.specs.Memory.{zero_cell, IsPage}
use Rattle.mm_machine.specs.Capture.{cells_of}
use Rattle.mm_mem.proofs.PagePlaces.{page_is}
use Rattle.mm_machine.proofs.capture.page_copy.Goals as goal

pub loop-cell_index-preserved : goal.loop-cell_index-preserved
loop-cell_index-preserved g c =
    let cells : List Cell = cells_of (g.M.Memory.meaning c.args.mem.now) c.args.number in
    let size = (page_is (g.M.Memory.meaning c.args.mem.now) c.args.number c.requires.paged c.requires.mapped).cells in
    let within : c.loop-cell_index.cell_index < length cells = omega (arith, size) in
    let more = take_more cells c.loop-cell_index.cell_index zero_cell within in
    let pushed = c.in_ok-push.ensures.items in
    let cell = c.cell_at.ensures in
    let before = c.loop-cell_index.invariant in
    cc

pub of-requires : goal.of-requires
of-requires g c =
    let page = page_is (g.M.Memory.meaning c.args.mem.now) c.args.number c.requires.paged c.requires.mapped in
    let all = c.loop-cell_index.invariant ∙ take_all c.loop-cell_index.cell_index (cells_of (g.M.Memory.meaning c.args.mem.now) c.args.number) (let size = page.cells in omega arith) in
    subst (λ (cells : List Cell). IsPage (c.args.number, cells)) (sym all) page

pub returns : goal.returns
returns g c =
    let page = page_is (g.M.Memory.meaning c.args.mem.now) c.args.number c.requires.paged c.requires.mapped in
    let all = c.loop-cell_index.invariant ∙ take_all c.loop-cell_index.cell_index (cells_of (g.M.Memory.meaning c.args.mem.now) c.args.number) (let size = page.cells in omega arith) in
    c.of.ensures ∙ ap (λ (cells : List Cell). let pair : ℕ × List Cell = (c.args.number, cells) in pair) all
