use Rattle.std.{proofs.Common.{◌≡◌, ℕ, ◌++◌, List, length}, specs.List.flat_map}
use Rattle.mm_model.specs.Audit.{segment_line}
use Rattle.mm_text.specs.Appends.{Appends}
use Rattle.mm_audit_text.proofs.lines.put_segments.Given as goal

-- the lines of the segments that were given
abbrev pub invariant-loop-base : goal.invariant-loop-base
invariant-loop-base g l =
    (done : List (ℕ × ℕ)) × (l.initial.segments ≡ done ++ l.segments)
    × Appends g.O.Sink.taken g.O.Sink.faults l.initial.out l.out l.initial.text l.text (flat_map (segment_line l.how) done)

abbrev pub decreases-loop-base : goal.decreases-loop-base
decreases-loop-base g l = length l.segments
