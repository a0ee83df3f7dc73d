use Rattle.mm_line.proofs.Numbers.{decimal_run}
use Rattle.mm_line.proofs.token.decimal.Goals as goal

pub value_of-requires-clause-digits : goal.value_of-requires-clause-digits
value_of-requires-clause-digits c = rw c.run.ensures.is (decimal_run c.args.bytes.now)
