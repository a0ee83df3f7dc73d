use Rattle.std.{proofs.Common.{◌≡◌, take}, specs.List.flat_map}
use Rattle.mm_asm.specs.Names.{segment_uses}
use Rattle.mm_asm.proofs.text_order.words_uses.Given as goal

abbrev pub invariant-loop-segment : goal.invariant-loop-segment
invariant-loop-segment l = l.uses.items ≡ flat_map segment_uses (take l.segment-index l.segments)
