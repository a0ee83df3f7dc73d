use Rattle.mm_isa.proofs.CommonRows.{c_small}
use Rattle.mm_isa.proofs.decoding.common.Goals as goal

pub conditions-requires : goal.conditions-requires
conditions-requires c = rw c.of_word-operation.ensures (c_small c.args.w)

pub conditions-requires-in-49 : goal.conditions-requires-in-49
conditions-requires-in-49 c = rw c.of_word-operation.ensures (c_small c.args.w)
