use Rattle.mm_word.proofs.Rights.{can_fetch-loads, can_store-loads}
use Rattle.mm_word.proofs.laws.every_right_includes_load.Goals as goal

pub returns-clause-fetch : goal.returns-clause-fetch
returns-clause-fetch c = can_fetch-loads

pub returns-clause-store : goal.returns-clause-store
returns-clause-store c = can_store-loads
