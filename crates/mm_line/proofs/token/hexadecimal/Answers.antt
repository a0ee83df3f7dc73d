use Rattle.mm_line.proofs.Numbers.{hexadecimal_run}
use Rattle.mm_line.proofs.token.hexadecimal.Goals as goal

pub value_of-requires-clause-digits : goal.value_of-requires-clause-digits
value_of-requires-clause-digits c = rw c.run.ensures.is (hexadecimal_run c.args.bytes.now)
