use Rattle.mm_confine.specs.declared.party.Party.{Party}
use Rattle.mm_hold.specs.{Marks.MeetAt, Parties.{Across, Adds, Shares}}
use Rattle.mm_hold.proofs.meets.share_at_nodes.Given as goal

abbrev pub invariant-loop-node : goal.invariant-loop-node
invariant-loop-node l = record {
  so_far : Adds (MeetAt l.node l.stores l.loads) l.fn.sharing l.sharing;
  last : (y x : Party) → Across l.from l.to y x → Shares l.sharing y x;
}
