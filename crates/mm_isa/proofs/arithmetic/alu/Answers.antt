use Rattle.std.proofs.{Common.arith, lemmas.Nat.{or_lt, xor_lt}}
use Rattle.mm_isa.proofs.arithmetic.alu.Goals as goal

pub returns-in-Or-clause-fits : goal.returns-in-Or-clause-fits
returns-in-Or-clause-fits c = or_lt 64 c.args.a c.args.b (omega arith) (omega arith)

pub returns-in-Xor-clause-fits : goal.returns-in-Xor-clause-fits
returns-in-Xor-clause-fits c = xor_lt 64 c.args.a c.args.b (omega arith) (omega arith)
