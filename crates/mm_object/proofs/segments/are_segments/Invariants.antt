use Rattle.std.{proofs.Common.take, specs.List.AllByRecursion}
use Rattle.mm_object.specs.Objects.{IsSegment}
use Rattle.mm_object.proofs.segments.are_segments.Given as goal

abbrev pub invariant-loop-segment : goal.invariant-loop-segment
invariant-loop-segment l = AllByRecursion IsSegment (take l.segment-index l.segments)
