use Rattle.std.proofs.Common.{sym, arith}
use Rattle.mm_draft.proofs.Steps.{room_more, add_nothing, zeros_more}
use Rattle.mm_draft.proofs.draft.Draft.add_zeros.Goals as goal

pub loop-init : goal.loop-init
loop-init c = sym (add_nothing c.args.self.now)

pub add_word-requires : goal.add_word-requires
add_word-requires c = room_more c.args.self.now c.loop.self c.args.source c.zero.result c.loop.counter c.args.count (omega arith) c.requires c.loop.invariant c.zero.ensures

pub loop-preserved : goal.loop-preserved
loop-preserved c = zeros_more c.args.self.now c.loop.self c.add_word.new.self c.args.source c.zero.result c.loop.counter c.loop.invariant c.zero.ensures c.in_ok-add_word.ensures
