use Rattle.std.proofs.{Common.◌≤◌, lemmas.List.Elements.All-push}
use Rattle.mm_net.{specs.Wires.Wired, proofs.Wiring.{links_more, carried_more}}
use Rattle.mm_net.proofs.wire.wires_of.Goals as goal

pub loop-link-preserved : goal.loop-link-preserved
loop-link-preserved c =
    let wires = c.loop-link.wires.items in
    let links = c.args.links.now in
    let w = c.in_ok-new.field-0 in
    record {
      links = rw c.in_ok-push.ensures.items (links_more wires links c.loop-link.link-index w _ c.loop-link-test.true c.in_ok-new.ensures.link c.loop-link.invariant.links);
      carried = rw c.in_ok-push.ensures.items (carried_more wires links c.loop-link.link-index w
          (record { from = 0; take = 0; to = 0; put = 0 }) c.loop-link-test.true c.in_ok-new.ensures.carried
          c.loop-link.invariant.carried);
      room = rw c.in_ok-push.ensures.items (All-push (λ (x : Wired). c.args.room ≤ x.room) wires w c.loop-link.invariant.room c.in_ok-new.ensures.room);
    }
