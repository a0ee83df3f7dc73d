use Rattle.std.proofs.Common.{◌≡◌, take, map}
use Rattle.mm_asm.specs.Meaning.{segment_of}
use Rattle.mm_asm.proofs.words.segments_of.Given as goal

abbrev pub invariant-loop-said : goal.invariant-loop-said
invariant-loop-said l = l.segments.items ≡ map (segment_of l.draft) (take l.said-index l.said-items)
