use Rattle.std.proofs.Common.{◌≡◌, ◌*◌, ◌%◌, ◌^◌, ◌<◌, arith, ◌/◌, rules}
use Rattle.std.proofs.{lemmas.Nat.and_mask, Math.Pow.pow-lt}
use Rattle.mm_isa.proofs.decoding.are_zero.Goals as goal

pub returns : goal.returns
returns c =
    let small : 2 ^ c.args.count < 2 ^ 64 = pow-lt {j = 64} (omega arith) in
    let mask : 1 * 2 ^ c.args.count % 2 ^ 64 ≡ 2 ^ c.args.count = omega arith in
    rw (mask, and_mask (c.args.w / 2 ^ c.args.from) c.args.count) (search rules)
