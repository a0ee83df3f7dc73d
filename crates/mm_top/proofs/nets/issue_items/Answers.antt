use Rattle.std.proofs.Common.{List, ◌∙◌, subst, arith}
use Rattle.mm_net.specs.{declared.item.NetItem.NetItem, Net.{net_of, StandsFor}}
use Rattle.mm_top.proofs.Joined.{room_behind, one_event_more, same_nodes}
use Rattle.mm_top.proofs.nets.issue_items.Goals as goal

pub loop-item-preserved : goal.loop-item-preserved
loop-item-preserved g c =
    let items = c.args.items.now in
    let at = c.loop-item.item-index in
    record {
      few = omega (arith, c.step.ensures.steps);
      room = omega (arith, c.step.ensures.room, room_behind _ _ (net_of c.step.new.self) items at _ _ c.loop-item-test.true c.step.ensures.state c.loop-item.invariant.room);
      runs = λ images before h.
          let P : List NetItem → Type 0 = λ xs. StandsFor images xs c.step.new.self in
          subst P (one_event_more before items at _ c.loop-item-test.true) (c.step.ensures.runs images _ (c.loop-item.invariant.runs images before h));
      links = c.step.ensures.links ∙ c.loop-item.invariant.links;
      count = same_nodes _ (net_of c.loop-item.net) (net_of c.step.new.self) _ c.step.ensures.state ∙ c.loop-item.invariant.count;
    }
