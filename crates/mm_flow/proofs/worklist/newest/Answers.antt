use Rattle.std.proofs.Common.{◌≡◌, length, arith}
use Rattle.mm_flow.proofs.Takes.{taken_last, none_left}
use Rattle.mm_flow.proofs.worklist.newest.Goals as goal

pub returns-in-Some : goal.returns-in-Some
returns-in-Some c = taken_last c.in-Some.k c.args.pending.now.items c.pop_back.new.self.items c.in-Some.ensures.items

pub returns-in-None : goal.returns-in-None
returns-in-None c =
    let zero_left : length c.args.pending.now.items ≡ 0 = omega (arith, c.in-None.ensures.cases) in
    none_left c.args.pending.now.items zero_left
