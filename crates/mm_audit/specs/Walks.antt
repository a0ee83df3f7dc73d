-- The outermost spans of groups.
use Rattle.std.specs.Prelude.{ℕ, ◌^◌, Bool, not, ◌==◌, ◌&&◌, nat_le, nat_lt, bit_and, if◌then◌else◌, List, [], ◌∷◌}
use Rattle.mm_model.specs.declared.word_use.WordUse.{WordUse}
use Rattle.mm_audit.specs.{declared.span.Span.Span, Spans.{mask, segment_of}}
use Rattle.mm_seg.specs.Segments.{end_of}

-- one of the groups uses the span, and the span does not begin before the address
abbrev pub is_next : WordUse → ℕ → ℕ → Span → Bool
is_next how groups from s = not (bit_and (mask how s) groups == 0) && nat_le from s.base

-- the segments of such spans from an address on, each from the end of the segment before
abbrev pub outermost : WordUse → ℕ → ℕ → List Span → List (ℕ × ℕ)
outermost how groups from [] = []
outermost how groups from (s ∷ spans) =
    if is_next how groups from s
    then segment_of s ∷ outermost how groups (end_of (segment_of s)) spans
    else outermost how groups from spans

-- the mask of a group: empty for one that no slot can have
abbrev pub group_mask : ℕ → ℕ
group_mask g = if nat_lt g 64 then 2 ^ g else 0

-- the segments of a group
abbrev pub outermost_of : WordUse → ℕ → List Span → List (ℕ × ℕ)
outermost_of how g spans = outermost how (group_mask g) 0 spans
