use Rattle.mm_hold.specs.{Marks.PassesBelow, Parties.Adds}
use Rattle.mm_hold.proofs.meets.share_meets.Given as goal

abbrev pub invariant-loop-n : goal.invariant-loop-n
invariant-loop-n l = Adds (PassesBelow l.meets l.senders l.n) l.fn.sharing l.sharing
