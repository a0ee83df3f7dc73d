-- What groups can touch and write by the pointers that they have, whatever gives these to them.
use Rattle.std.specs.Prelude.{◌≡◌, ◌↔◌, ℕ, ◌%◌, ◌<◌, ◌≤◌, Bool, true, List, Contains, length, zip, drop}
use Rattle.std.specs.List.{AllByRecursion}
use Rattle.mm_word.specs.{declared.perm.Perm.Perm, Pointer.{Pointer, InSegment, Covers, base_of}}
use Rattle.mm_model.specs.declared.word_use.WordUse.{WordUse, TheVariants.{Touch, Write}}
use Rattle.mm_audit.specs.declared.{span.Span.Span, shared_words.Meets.Meets}
use Rattle.mm_audit.specs.{Spans.{AreInOrder, IsHeld, Uses, can, segment_of, span_at}, Meeting.{HasWord, word_at}}

-- 1. Words.

-- a pointer with the right that the group has covers the word
pub record CanUse (has : ℕ → Pointer → Type 0) (how : WordUse) (g w : ℕ) : Type 0 where
  pub by : Pointer
  pub held : has g by
  pub word : w % 8 ≡ 0
  pub right : can how by.perm ≡ true
  pub covers : Covers by w

-- 2. Segments.

-- a pointer with this right that the group has is of this segment, which is of at least a word
pub record HasSegment (has : ℕ → Pointer → Type 0) (g : ℕ) (right : Perm → Bool) (segment : ℕ × ℕ) : Type 0 where
  pub by : Pointer
  pub held : has g by
  pub has_right : right by.perm ≡ true
  pub is : segment ≡ (base_of by, by.log)
  pub whole_word : 3 ≤ by.log

-- such a segment that lies in no other, longer one
pub record IsMaximal (has : ℕ → Pointer → Type 0) (g : ℕ) (right : Perm → Bool) (segment : ℕ × ℕ) : Type 0 where
  pub held : HasSegment has g right segment
  pub maximal : (p : Pointer) → has g p → right p.perm ≡ true → InSegment p segment.0 → p.log ≤ segment.1

-- the list has the maximal segments, ascending
pub record AreMaximal (has : ℕ → Pointer → Type 0) (g : ℕ) (right : Perm → Bool) (list : List (ℕ × ℕ)) : Type 0 where
  pub ascending : AllByRecursion (λ (pair : (ℕ × ℕ) × (ℕ × ℕ)). pair.0.0 < pair.1.0) (zip list (drop 1 list))
  pub each : (segment : ℕ × ℕ) → Contains list segment ↔ IsMaximal has g right segment

-- the spans of what groups have: each is the segment of a pointer that its groups have, and the segment of each such
-- pointer lies in one of them
pub record AreSpansOf (has : ℕ → Pointer → Type 0) (spans : List Span) : Type 0 where
  pub order : AreInOrder spans
  pub each : (how : WordUse) (g n : ℕ) → n < length spans → Uses spans how n g
      → HasSegment has g (can how) (segment_of (span_at spans n))
  pub held : (how : WordUse) (g : ℕ) (p : Pointer) → has g p → can how p.perm ≡ true → 3 ≤ p.log
      → IsHeld spans how g (base_of p, p.log)

-- 3. Words of two groups.

-- the word is the least that one group can write and another can touch
pub record IsLeastOf (has : ℕ → Pointer → Type 0) (h g w : ℕ) : Type 0 where
  pub writes : CanUse has Write h w
  pub touches : CanUse has Touch g w
  pub least : (v : ℕ) → CanUse has Write h v → CanUse has Touch g v → w ≤ v

-- a table has a word for two groups exactly if they share one, and it is the least
pub record IsTableOf (has : ℕ → Pointer → Type 0) (table : List Meets) : Type 0 where
  pub len : length table ≡ 64
  pub some : (h g : ℕ) → h < 64 → g < 64 → HasWord table h g → IsLeastOf has h g (word_at table h g)
  pub each : (h g w : ℕ) → CanUse has Write h w → CanUse has Touch g w → HasWord table h g
