use Rattle.mm_hold.proofs.PartySets.{mask_is, no_mask}
use Rattle.mm_hold.proofs.parties.mask_of.Goals as goal

pub returns-then-number-lt64 : goal.returns-then-number-lt64
returns-then-number-lt64 c = λ g. mask_is c.args.number g c.if-number-lt64.true

pub returns-else-number-lt64 : goal.returns-else-number-lt64
returns-else-number-lt64 c = λ g. no_mask c.args.number g c.if-number-lt64.false
