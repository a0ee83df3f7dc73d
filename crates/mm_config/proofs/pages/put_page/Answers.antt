use Rattle.std.proofs.Common.{◌∙◌, arith}
use Rattle.mm_config.proofs.PageTrees.{puts_page}
use Rattle.mm_config.proofs.pages.put_page.Goals as goal

pub returns : goal.returns
returns c =
    let place = c.from-place in
    let same = place.ensures in
    let inside = c.in_ok-place.ensures.within in
    let deep = c.in_ok-deepen.ensures in
    puts_page c.args.store.now c.args.names.now c.deepen.new.names c.lower.new.names c.place.new.self c.deepen.new.pairs c.with_leaf.new.self
    c.args.number c.args.page place.result c.in_ok-names.field-0 c.requires
    c.in_ok-place.ensures.grown (same ∙ c.in_ok-place.ensures.place) (omega (arith, same, inside))
    deep.0 deep.1 deep.2 c.in_ok-names.ensures.leaves c.in_ok-names.ensures.grown c.lower.ensures.same c.lower.ensures.low c.lower.ensures.few
