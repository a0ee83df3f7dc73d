use Rattle.std.proofs.Common.{subst}
use Rattle.mm_hold.specs.{Marks.{parties_at}, Parties.{Across, Adds}}
use Rattle.mm_hold.proofs.Meeting.{meet_none, meet_more, last_shared}
use Rattle.mm_hold.proofs.meets.share_at_nodes.Goals as goal

pub loop-node-init : goal.loop-node-init
loop-node-init c = record {
  so_far = meet_none c.args.stores.now c.args.loads.now c.args.sharing.now;
  last = λ y x k. absurd ((c.none-from.ensures y).0 k.0);
}

pub loop-node-preserved : goal.loop-node-preserved
loop-node-preserved c =
    let l = c.loop-node in
    let n = l.node in
    let stores = c.args.stores.now in
    let loads = c.args.loads.now in
    let new = c.share_next.new.sharing in
    record {
      so_far = meet_more stores loads n c.args.sharing.now l.sharing new l.invariant.so_far
          (subst (λ p. Adds (Across p (parties_at loads n)) l.sharing new) c.at-here.ensures
          (subst (λ p. Adds (Across c.at-here.result p) l.sharing new) c.at-there.ensures c.share_next.ensures));
      last = last_shared c.at-here.result c.at-there.result l.sharing new c.share_next.ensures;
    }
