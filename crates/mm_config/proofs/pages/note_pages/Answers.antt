use Rattle.std.proofs.{Common.{◌∙◌, ap, refl, sym, subst, length, T}, lemmas.Option.slice_get_read}
use Rattle.mm_config.specs.{declared.{store.Store.Store, names.Names.Names}, Naming.AreCells, Noting.PutsPage}
use Rattle.mm_config.proofs.{Noted.{page_noted, still_more, tree_more, twice}, PageCells.{more_twice, more_pairs}}
use Rattle.mm_config.proofs.pages.note_pages.Goals as goal

pub put_page-requires : goal.put_page-requires
put_page-requires c =
    let k = c.loop-page.store in
    let k1 = c.name_page.new.store in
    let k2 : Store = record k1 { pairs = c.join.new.self } in
    tree_more k k2 (more_twice k k1 k2 c.in_ok-cells.ensures.more (more_pairs k1 c.join.new.self c.in_ok-name.ensures.grown)) c.loop-page.names c.loop-page.invariant.names.tree

pub loop-page-preserved : goal.loop-page-preserved
loop-page-preserved c =
    let l = c.loop-page in
    let k = l.store in
    let k1 = c.name_page.new.store in
    let pairs = c.join.new.self in
    let k2 : Store = record k1 { pairs = pairs } in
    let k4 = c.put_page.new.store in
    let n4 = c.put_page.new.names in
    let page = c.page-item.result in
    let name = c.in_ok-name.name in
    let more = c.in_ok-cells.ensures.more in
    let grown = c.in_ok-name.ensures.grown in
    let put = subst (λ n. PutsPage k2 l.names n name k4 n4) c.number.ensures.number c.in_ok-put_page.ensures in
    record {
      names = page_noted k k1 k4 pairs l.names n4 c.args.pages.now l.page-index page c.in_ok-cells.cells name (subst T (sym c.requires.rising) tt)
          (slice_get_read c.args.pages.now (length c.args.pages.now) l.page-index page refl c.loop-page-test.true c.page-item.is) l.invariant.names more
          (subst (AreCells k1 9 c.in_ok-cells.cells) c.cells.ensures.cells c.in_ok-cells.ensures.tree) grown c.in_ok-name.ensures.name put;
      still = twice c.args.store.now k k4 l.invariant.still (twice k k2 k4 (still_more k k2 (more_twice k k1 k2 more (more_pairs k1 pairs grown))) put.still);
      others = put.others ∙ ap (λ (n : Names). record n { height = n4.height; pages = n4.pages }) l.invariant.others;
    }
