use Rattle.std.proofs.Common.{◌≤◌, ℕ, List, ◌++◌, length, slice_get, slice_index_or, sym, ap, ◌∙◌, subst, arith}
use Rattle.std.proofs.lemmas.Option.{slice_get-get_or}
use Rattle.mm_model.specs.Memory.{page_at}
use Rattle.mm_pairs.specs.Trees.{changed, leaves}
use Rattle.mm_config.proofs.PutCells.{start_cells, page_cells, no_cells_yet, cell_change, one_more_cell, all_cells, names_within, known_within}
use Rattle.mm_config.proofs.put_memory.put_page.Goals as goal

pub parts-was-requires : goal.parts-was-requires
parts-was-requires c = known_within c.args.store.now (page_at c.args.mem.now.memory c.args.number) c.args.before c.requires.known

pub parts-wanted-requires : goal.parts-wanted-requires
parts-wanted-requires c = c.requires.wanted.1.is.within

pub list_changed-requires : goal.list_changed-requires
list_changed-requires c =
    let k = c.args.store.now in
    let start = start_cells k c.args.mem.now c.map_unnamed.new.mem c.args.number c.args.before c.parts-was.result c.requires.known c.map_unnamed.ensures.mapped
    c.map_unnamed.ensures.same c.parts-was.ensures in
    let end = page_cells k c.requires.wanted.0 c.args.page c.parts-wanted.result c.requires.wanted.1 c.parts-wanted.ensures in
    record { was = start.2.inner; tree = end.inner; depth = omega arith; room = omega arith }

pub loop-at-init : goal.loop-at-init
loop-at-init c =
    let k = c.args.store.now in
    let start = start_cells k c.args.mem.now c.map_unnamed.new.mem c.args.number c.args.before c.parts-was.result c.requires.known c.map_unnamed.ensures.mapped
    c.map_unnamed.ensures.same c.parts-was.ensures in
    no_cells_yet k c.parts-was.result.1 c.parts-wanted.result.1 c.args.number c.args.mem.now c.map_unnamed.new.mem start.0 start.1 start.2

pub overflow_mul-at : goal.overflow_mul-at
overflow_mul-at c =
    let k = c.args.store.now in
    let was = leaves k.pairs 9 c.parts-was.result.1 in
    let wanted = leaves k.pairs 9 c.parts-wanted.result.1 in
    let is = c.as_slice-at-items.ensures.value ∙ c.in_ok-list_changed.ensures ∙ ap (λ (l : List (ℕ × ℕ)). l ++ changed 0 was wanted) c.clear.ensures.items in
    let i = c.loop-at.at-index in
    let got = ap (λ (l : List (ℕ × ℕ)). slice_get l i) (sym is) ∙ slice_get-get_or c.as_slice-at-items.result.now i (0, 0) c.loop-at-test.true in
    let at = (cell_change k c.parts-was.result.1 c.parts-wanted.result.1 c.args.number c.args.mem.now i (slice_index_or c.as_slice-at-items.result.now i (0, 0)) got).0 in
    omega (arith, at)

pub overflow_add-number : goal.overflow_add-number
overflow_add-number c =
    let k = c.args.store.now in
    let was = leaves k.pairs 9 c.parts-was.result.1 in
    let wanted = leaves k.pairs 9 c.parts-wanted.result.1 in
    let is = c.as_slice-at-items.ensures.value ∙ c.in_ok-list_changed.ensures ∙ ap (λ (l : List (ℕ × ℕ)). l ++ changed 0 was wanted) c.clear.ensures.items in
    let i = c.loop-at.at-index in
    let got = ap (λ (l : List (ℕ × ℕ)). slice_get l i) (sym is) ∙ slice_get-get_or c.as_slice-at-items.result.now i (0, 0) c.loop-at-test.true in
    let at = (cell_change k c.parts-was.result.1 c.parts-wanted.result.1 c.args.number c.args.mem.now i (slice_index_or c.as_slice-at-items.result.now i (0, 0)) got).0 in
    let small = c.requires.number in
    omega (arith, at, small)

pub get-requires : goal.get-requires
get-requires c =
    let k = c.args.store.now in
    let was = leaves k.pairs 9 c.parts-was.result.1 in
    let wanted = leaves k.pairs 9 c.parts-wanted.result.1 in
    let is = c.as_slice-at-items.ensures.value ∙ c.in_ok-list_changed.ensures ∙ ap (λ (l : List (ℕ × ℕ)). l ++ changed 0 was wanted) c.clear.ensures.items in
    let i = c.loop-at.at-index in
    let e : ℕ × ℕ = slice_index_or c.as_slice-at-items.result.now i (0, 0) in
    let got = ap (λ (l : List (ℕ × ℕ)). slice_get l i) (sym is) ∙ slice_get-get_or c.as_slice-at-items.result.now i (0, 0) c.loop-at-test.true in
    let name = (cell_change k c.parts-was.result.1 c.parts-wanted.result.1 c.args.number c.args.mem.now i e got).1 in
    let end = page_cells k c.requires.wanted.0 c.args.page c.parts-wanted.result c.requires.wanted.1 c.parts-wanted.ensures in
    subst (λ n. n ≤ length k.cells) (sym name) (names_within k c.requires.wanted.0 wanted end.names e.0)

pub loop-at-preserved : goal.loop-at-preserved
loop-at-preserved c =
    let k = c.args.store.now in
    let was = leaves k.pairs 9 c.parts-was.result.1 in
    let wanted = leaves k.pairs 9 c.parts-wanted.result.1 in
    let is = c.as_slice-at-items.ensures.value ∙ c.in_ok-list_changed.ensures ∙ ap (λ (l : List (ℕ × ℕ)). l ++ changed 0 was wanted) c.clear.ensures.items in
    let l = c.loop-at in
    let i = l.at-index in
    let e : ℕ × ℕ = slice_index_or c.as_slice-at-items.result.now i (0, 0) in
    let got = ap (λ (l : List (ℕ × ℕ)). slice_get l i) (sym is) ∙ slice_get-get_or c.as_slice-at-items.result.now i (0, 0) c.loop-at-test.true in
    let name = (cell_change k c.parts-was.result.1 c.parts-wanted.result.1 c.args.number c.args.mem.now i e got).1 in
    let end = page_cells k c.requires.wanted.0 c.args.page c.parts-wanted.result c.requires.wanted.1 c.parts-wanted.ensures in
    let within = subst (λ n. n ≤ length k.cells) (sym name) (names_within k c.requires.wanted.0 wanted end.names e.0) in
    one_more_cell k c.parts-was.result.1 c.parts-wanted.result.1 c.args.number c.args.mem.now i l.mem c.put.new.self e c.get.result l.invariant got within c.get.ensures c.put.ensures.memory c.put.ensures.uses

pub returns : goal.returns
returns c = λ cells named.
    let k = c.args.store.now in
    let was = leaves k.pairs 9 c.parts-was.result.1 in
    let wanted = leaves k.pairs 9 c.parts-wanted.result.1 in
    let is = c.as_slice-at-items.ensures.value ∙ c.in_ok-list_changed.ensures ∙ ap (λ (l : List (ℕ × ℕ)). l ++ changed 0 was wanted) c.clear.ensures.items in
    let end : length (changed 0 was wanted) ≤ c.loop-at.at-index = subst (λ (l : List (ℕ × ℕ)). length l ≤ c.loop-at.at-index) is c.loop-at-test.false in
    all_cells k c.parts-was.result.1 c.parts-wanted.result.1 c.args.number c.args.mem.now c.loop-at.at-index c.loop-at.mem cells c.loop-at.invariant end
    (page_cells k cells c.args.page c.parts-wanted.result named c.parts-wanted.ensures)
