use Rattle.std.proofs.Common.{◌≡◌, None, refl, sym, ◌∙◌, subst, slice_set}
use Rattle.std.proofs.lemmas.Result.{on_ok_weaker}
use Rattle.mm_model.specs.Memory.{cell_at, page_of, place_of}
use Rattle.mm_pairs.{specs.Trees.{leaves, IsTree, HasLeaves}, proofs.Names.grown_twice}
use Rattle.mm_config.specs.{declared.store.Store.Store, Naming.{IsOrNone, IsPageName}, Noting.HasMoreCells}
use Rattle.mm_config.proofs.Noted.{alike, not_written, written_page, tree_more, put_noted, only_others, page_set}
use Rattle.mm_config.proofs.memory.note_cell.Goals as goal

pub returns-in_default-clause-names : goal.returns-in_default-clause-names
returns-in_default-clause-names c =
    let known = c.requires.known in
    let now = c.args.mem.now.memory in
    let none : None ≡ cell_at now c.args.word = sym c.in_default.is ∙ c.peek.ensures in
    alike c.args.store.now known.0 now c.args.names.now (not_written known.0 now c.args.word known.1.0 known.1.1 c.requires.aligned none) known.2

pub with_leaf-requires-clause-tree : goal.with_leaf-requires-clause-tree
with_leaf-requires-clause-tree c =
    let known = c.requires.known in
    let k = c.args.store.now in
    let w = written_page k known.0 c.args.mem.now.memory c.args.names.now c.args.word c.page_of-page.result c.parts-cells.result known.1.0 c.in-Some.cell known.1.1 c.requires.aligned
    known.2 c.in-Some.ensures c.page_of-page.ensures c.parts-cells.ensures in
    subst (IsTree k.pairs 9) (sym w.same) w.was.named.inner

pub put_page-requires : goal.put_page-requires
put_page-requires c =
    let k = c.args.store.now in
    let kept = c.name.new.self in
    let q1 = c.with_leaf.new.self in
    let q2 = c.join.new.self in
    let k2 : Store = record k { pairs = q2; cells = kept } in
    let more : HasMoreCells k k2 = record { pairs = grown_twice k.pairs q1 q2 c.in_ok-cells.ensures.grown c.in_ok-page.ensures.grown; cells = c.in_ok-name.ensures.grown; others = refl } in
    tree_more k k2 more c.args.names.now c.requires.known.2.tree

pub returns-clause-names : goal.returns-clause-names
returns-clause-names c =
    let known = c.requires.known in
    let k = c.args.store.now in
    let m = known.0 in
    let now = c.args.mem.now.memory in
    let n0 = c.args.names.now in
    let word = c.args.word in
    let cell = c.in-Some.cell in
    let kept = c.name.new.self in
    let q1 = c.with_leaf.new.self in
    let q2 = c.join.new.self in
    let k2 : Store = record k { pairs = q2; cells = kept } in
    let k4 = c.put_page.new.store in
    let name = c.in_ok-name.name in
    let tree = c.in_ok-cells.cells in
    let page = c.in_ok-page.page in
    let more : HasMoreCells k k2 = record { pairs = grown_twice k.pairs q1 q2 c.in_ok-cells.ensures.grown c.in_ok-page.ensures.grown; cells = c.in_ok-name.ensures.grown; others = refl } in
    let w = written_page k m now n0 word c.page_of-page.result c.parts-cells.result known.1.0 cell known.1.1 c.requires.aligned known.2 c.in-Some.ensures c.page_of-page.ensures c.parts-cells.ensures in
    let made = subst (λ t. HasLeaves q1 9 tree (slice_set (leaves k.pairs 9 t) (place_of word) name)) w.same c.in_ok-cells.ensures.leaves in
    on_ok_weaker c.put_page.result
    (λ put. put_noted k k2 k4 more m now n0 c.put_page.new.names (page_of word) page known.2 put (only_others m now word known.1.0 known.1.1)
    (subst (λ o. IsOrNone (IsPageName k4) o page) (sym w.now_is)
    (page_set k k4 q1 q2 kept c.in_ok-cells.ensures.grown c.in_ok-page.ensures.grown c.in_ok-name.ensures.grown put.still w.cells c.page_of-page.result (place_of word) name tree page cell w.was
    c.in_ok-name.ensures.name made c.in_ok-page.ensures.name)))
    c.put_page.ensures
