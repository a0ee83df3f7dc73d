use Rattle.std.proofs.Common.{◌∙◌, length, ap}
use Rattle.mm_graph.proofs.Nesting.{nested_keys, has_forest}
use Rattle.mm_graph.proofs.above.parents_of.Goals as goal

pub parents-requires : goal.parents-requires
parents-requires c =
    rw (c.deref.ensures.value, c.deref-2.ensures.value) (nested_keys c.args.keys.now c.in_ok-bases.bases.items
    c.in_ok-ends.ends.items c.requires.rising c.requires.keys c.in_ok-bases.ensures c.in_ok-ends.ensures)

pub returns : goal.returns
returns c =
    has_forest c.args.keys.now c.in_ok-bases.bases.items c.in_ok-ends.ends.items c.in_ok-above.above.items c.requires.rising c.requires.keys c.in_ok-bases.ensures c.in_ok-ends.ensures
    (rw (c.deref.ensures.value, c.deref-2.ensures.value) at c.in_ok-above.ensures.forest) (c.in_ok-above.ensures.len ∙ ap length c.deref.ensures.value)
