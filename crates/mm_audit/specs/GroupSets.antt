-- The sets of groups.
use Rattle.std.specs.{Prelude.{◌≡◌, ℕ, ◌<◌, ◌^◌, List, length}, Int.bit_at}
use Rattle.mm_model.specs.declared.word_use.WordUse.{WordUse}
use Rattle.mm_audit.specs.{declared.span.Span.Span, Audits.set_of, Spans.{mask, span_at}, Walks.outermost}

-- the sets of the first `top` groups
pub record AreGroupSets (spans : List Span) (how : WordUse) (top : ℕ) (sets : List (List (ℕ × ℕ))) : Type 0 where
  pub len : length sets ≡ top
  pub each : (g : ℕ) → g < top → set_of sets g ≡ outermost how (2 ^ g) 0 spans

-- two groups use the same of the first `top` spans
abbrev pub SameUsers : List Span → WordUse → ℕ → ℕ → ℕ → Type 0
SameUsers spans how one other top =
    (n : ℕ) → n < top → bit_at (mask how (span_at spans n)) one ≡ bit_at (mask how (span_at spans n)) other
