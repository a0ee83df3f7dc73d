use Rattle.mm_line.proofs.Registers.{register_again, register_only}
use Rattle.mm_line.proofs.laws.registers_are_named_by_their_numbers.Goals as goal

pub returns-clause-named : goal.returns-clause-named
returns-clause-named c = register_again

pub returns-clause-only : goal.returns-clause-only
returns-clause-only c = register_only
