use Rattle.std.proofs.Common.{◌≡◌, false, take}
use Rattle.mm_object.proofs.Among.{has_name}
use Rattle.mm_object.proofs.segments.has_name.Given as goal

abbrev pub invariant-loop-segment : goal.invariant-loop-segment
invariant-loop-segment l = has_name l.name (take l.segment-index l.segments) ≡ false
