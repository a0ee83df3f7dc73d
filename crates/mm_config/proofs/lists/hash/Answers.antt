use Rattle.std.proofs.Common.{take_all, rules}
use Rattle.std.proofs.hash.Loops.{byte_more}
use Rattle.mm_config.specs.ListsFound.{hash_of}
use Rattle.mm_config.proofs.lists.hash.Goals as goal

pub loop-number-preserved : goal.loop-number-preserved
loop-number-preserved c = search (rules, byte_more)

pub returns : goal.returns
unfolding hash_of
returns c = search (rules, take_all)
