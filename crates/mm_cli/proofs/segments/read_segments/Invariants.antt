use Rattle.std.proofs.Common.{◌≤◌, length}
use Rattle.mm_cli.proofs.SegmentWords.{SegmentsRead}
use Rattle.mm_cli.proofs.segments.read_segments.Given as goal

-- the segments before the commas were read
abbrev pub invariant-loop-at : goal.invariant-loop-at
invariant-loop-at l = record { short : length l.rest ≤ length l.text; read : SegmentsRead l.text l.rest l.segments.items }

abbrev pub decreases-loop-at : goal.decreases-loop-at
decreases-loop-at l = length l.rest
