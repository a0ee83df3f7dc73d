use Rattle.mm_graph.specs.Placed.{all_keys_of}
use Rattle.mm_graph.proofs.{EntryKeys.entry_is_key, KeyLists.{keys_made, targets_made}}
use Rattle.mm_graph.proofs.Places.{same_through, placed_there}
use Rattle.mm_graph.proofs.keys.keys_and_targets.Goals as goal

pub targets_of-requires-clause-there : goal.targets_of-requires-clause-there
targets_of-requires-clause-there c = rw (c.deref-2.ensures.value, c.deref-3.ensures.value)
    (placed_there (all_keys_of c.args.found.now c.args.seeds.now) c.in_ok-keys.keys.items c.in_ok-order.order.items
    c.in_ok-order.ensures (rw c.deref.ensures.value at c.in_ok-keys.ensures.same))

pub returns-clause-keys : goal.returns-clause-keys
returns-clause-keys c =
    keys_made c.args.found.now c.args.seeds.now c.requires.found c.requires.seeds c.in_ok-keys.keys.items c.in_ok-keys.ensures.rising
    (same_through (all_keys_of c.args.found.now c.args.seeds.now) c.in_ok-keys.keys.items c.in_ok-order.order.items
    c.in_ok-order.ensures (rw c.deref.ensures.value at c.in_ok-keys.ensures.same)) entry_is_key

pub returns-clause-targets : goal.returns-clause-targets
returns-clause-targets c =
    targets_made c.args.found.now c.args.seeds.now c.in_ok-keys.keys.items c.in_ok-order.order.items c.in_ok-targets.targets.items c.in_ok-targets.ensures.len c.in_ok-order.ensures
    (rw (c.deref-2.ensures.value, c.deref-3.ensures.value) at c.in_ok-targets.ensures.each)
