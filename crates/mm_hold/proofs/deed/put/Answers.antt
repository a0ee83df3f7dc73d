use Rattle.mm_hold.proofs.deed.put.Goals as goal

pub returns : goal.returns
returns g c = c.in_ok-push.ensures.items
