use Rattle.mm_graph.proofs.KeyLists.{held_are_keys, held_is, all_is}
use Rattle.mm_graph.proofs.keys.all_keys.Goals as goal

pub add_entries-requires : goal.add_entries-requires
add_entries-requires c = held_are_keys c.args.found.now c.args.seeds.now _ (held_is c.args.found.now c.args.seeds.now _
    _ _ c.new-keys.ensures.items c.in_ok-add_found.ensures c.in_ok-add_seeds.ensures) c.requires.found c.requires.seeds

pub returns : goal.returns
returns c = all_is c.args.found.now c.args.seeds.now _ _ (held_is c.args.found.now c.args.seeds.now _ _ _
    c.new-keys.ensures.items c.in_ok-add_found.ensures c.in_ok-add_seeds.ensures) c.in_ok-add_entries.ensures
