use Rattle.std.{proofs.{Common.{◌≡◌, arith}, lemmas.Nat.Bits.bit_at_above}, specs.Int.bit_at}
use Rattle.mm_why.proofs.Rounding.{no_group}
use Rattle.mm_why.proofs.rounds.has.Goals as goal

pub returns-else-group-lt64 : goal.returns-else-group-lt64
returns-else-group-lt64 c =
    no_group c.args.group (bit_at c.args.mask c.args.group ≡ 1) c.if-group-lt64.false
    (λ one. let zero_bit = bit_at_above c.args.mask 64 c.args.group c.ranges.mask.fits c.if-group-lt64.false in omega arith)
