use Rattle.mm_config.proofs.OneConfig.{names_are_of_one}
use Rattle.mm_config.proofs.laws.names_are_of_one.Goals as goal

pub returns : goal.returns
returns c = names_are_of_one
