use Rattle.std.proofs.Common.{take}
use Rattle.mm_object.specs.{Objects.names_of, Steps.{key_names, AreTheSame}}
use Rattle.mm_object.proofs.known.known_names.Given as goal

abbrev pub invariant-loop-segment : goal.invariant-loop-segment
invariant-loop-segment l = AreTheSame (key_names l.known.keys) (names_of (take l.segment-index l.segments))
