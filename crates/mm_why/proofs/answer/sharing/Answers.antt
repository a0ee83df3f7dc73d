use Rattle.mm_why.proofs.Deciding.{rounds_share}
use Rattle.mm_why.proofs.answer.sharing.Goals as goal

pub returns : goal.returns
returns c =
    rounds_share c.args.graph.now c.args.marks.now c.in_ok-meets.meets c.in_ok-rounds.rounds c.in_ok-meets.ensures c.in_ok-rounds.ensures.links c.in_ok-rounds.ensures.meets
    c.in_ok-rounds.ensures.rounds
