use Rattle.std.proofs.Common.{inl, refl, arith}
use Rattle.mm_disasm.proofs.ShortHex.{shortest, by_bits}
use Rattle.mm_disasm.proofs.numbers.digit_count.Goals as goal

pub returns-in-None-clause-digits : goal.returns-in-None-clause-digits
returns-in-None-clause-digits c = shortest 0 c.args.number (omega arith) (omega (arith, c.in-None.ensures.none)) (inl refl)

pub returns-in-Some-clause-digits : goal.returns-in-Some-clause-digits
returns-in-Some-clause-digits c = let told = c.in-Some.ensures in by_bits c.in-Some.bit c.args.number told.bound told.power_le told.next_power_gt
