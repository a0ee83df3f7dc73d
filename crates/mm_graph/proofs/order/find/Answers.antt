use Rattle.mm_graph.{specs.Key.no_key, proofs.Rising.{same_from_equal, not_there}}
use Rattle.mm_graph.proofs.order.find.Goals as goal

pub returns-in-Ok : goal.returns-in-Ok
returns-in-Ok c = (c.in-Ok.ensures.bound, same_from_equal _ c.args.key (c.in-Ok.ensures.position no_key))

pub returns-in-Err : goal.returns-in-Err
returns-in-Err c = not_there c.args.keys.now c.args.key _ c.requires c.in-Err.ensures.position
