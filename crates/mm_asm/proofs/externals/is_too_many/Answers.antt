use Rattle.mm_asm.proofs.FirstSeen.{too_many}
use Rattle.mm_asm.proofs.externals.is_too_many.Goals as goal

pub returns-then-len-ge-EXTERNAL_LIMIT : goal.returns-then-len-ge-EXTERNAL_LIMIT
returns-then-len-ge-EXTERNAL_LIMIT c = too_many c.args.names.now.keys c.args.name.now c.len.result c.contains.result c.len.ensures.len c.if-len-ge-EXTERNAL_LIMIT.true c.contains.ensures
