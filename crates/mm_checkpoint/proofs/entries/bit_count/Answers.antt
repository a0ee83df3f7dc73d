use Rattle.std.proofs.Common.{◌∙◌}
use Rattle.mm_checkpoint.proofs.Loads.{bits_counted}
use Rattle.mm_checkpoint.proofs.entries.bit_count.Goals as goal

pub returns-clause-count : goal.returns-clause-count
returns-clause-count c = c.registers_in.ensures.count ∙ bits_counted c.args.mask
