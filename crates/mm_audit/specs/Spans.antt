-- Spans: segments of pointers that groups are granted.
use Rattle.std.specs.{Prelude.{◌≡◌, ℕ, ◌<◌, ◌≤◌, Bool, true, List, length, slice_index_or}, Int.bit_at}
use Rattle.mm_word.specs.{declared.perm.Perm.Perm, Perm.{can_load, can_store}, Pointer.{Pointer, base_of}}
use Rattle.mm_model.specs.{Image.Image, Reach.{Entries, Grants}, Audit.GrantedSegment}
use Rattle.mm_model.specs.declared.word_use.WordUse.{WordUse, TheVariants.{Touch, Write}}
use Rattle.mm_seg.specs.Segments.{IsSegment, LiesIn, end_of}
use Rattle.mm_audit.specs.declared.span.Span.{Span}

abbrev pub segment_of : Span → ℕ × ℕ
segment_of s = (s.base, s.log)

-- the groups that use the span in this way
abbrev pub mask : WordUse → Span → ℕ
mask Touch s = s.touch
mask Write s = s.write

-- the permission that a use of a word needs
abbrev pub can : WordUse → Perm → Bool
can Touch p = can_load p
can Write p = can_store p

-- the span past the end of a list
abbrev pub no_span : Span
no_span = record { base = 0; touch = 0; write = 0; log = 0 }

abbrev pub span_at : List Span → ℕ → Span
span_at spans n = slice_index_or spans n no_span

abbrev pub base_at : List Span → ℕ → ℕ
base_at spans n = (span_at spans n).base

abbrev pub end_at : List Span → ℕ → ℕ
end_at spans n = end_of (segment_of (span_at spans n))

-- the group uses the span at an index
abbrev pub Uses : List Span → WordUse → ℕ → ℕ → Type 0
Uses spans how n g = bit_at (mask how (span_at spans n)) g ≡ 1

-- the spans are segments, ascending by base; a span that begins within an earlier one ends within it
pub record AreInOrder (spans : List Span) : Type 0 where
  pub segments : (n : ℕ) → n < length spans → IsSegment (segment_of (span_at spans n))
  pub rise : (m n : ℕ) → m < n → n < length spans → base_at spans m ≤ base_at spans n
  pub nested : (m n : ℕ) → m < n → n < length spans → base_at spans n < end_at spans m → end_at spans n ≤ end_at spans m

-- the segment lies in a span that the group uses
pub record IsHeld (spans : List Span) (how : WordUse) (g : ℕ) (s : ℕ × ℕ) : Type 0 where
  pub at : ℕ
  pub small : at < length spans
  pub uses : Uses spans how at g
  pub within : LiesIn s (segment_of (span_at spans at))

-- the spans of an image: each is the segment of a pointer that its groups are granted, and the segment of each such
-- pointer lies in one of them
pub record AreSpans (i : Image) (e : Entries) (spans : List Span) : Type 0 where
  pub order : AreInOrder spans
  pub granted : (how : WordUse) (g n : ℕ) → n < length spans → Uses spans how n g
      → GrantedSegment i e g (can how) (segment_of (span_at spans n))
  pub held : (how : WordUse) (g : ℕ) (p : Pointer) → Grants i e g p → can how p.perm ≡ true → 3 ≤ p.log
      → IsHeld spans how g (base_of p, p.log)
