-- The words and segments that a group can touch or write, with a kernel that keeps its segments.
use Rattle.std.specs.Prelude.{◌≡◌, ◌↔◌, ℕ, ◌<◌, ◌≤◌, Bool, true, List, Contains, zip, drop}
use Rattle.std.specs.List.{AllByRecursion}
use Rattle.mm_word.specs.{declared.perm.Perm.Perm, Pointer.{Pointer, InSegment, base_of}}
use Rattle.mm_model.specs.{Image.Image, Reach.{LoadsAt, StoresAt}}
use Rattle.mm_kernel.specs.Segments.{Segment}
use Rattle.mm_confine.specs.Reach.{Reaches}

-- 1. Words.

-- a pointer that the group reaches loads and covers the word
pub record CanTouch (i : Image) (kept : List Segment) (g w : ℕ) : Type 0 where
  pub by : Pointer
  pub reached : Reaches i kept g by
  pub loads : LoadsAt by w

-- a pointer that the group reaches stores and covers the word
pub record CanWrite (i : Image) (kept : List Segment) (g w : ℕ) : Type 0 where
  pub by : Pointer
  pub reached : Reaches i kept g by
  pub stores : StoresAt by w

-- 2. Segments.

-- a pointer with this right that the group reaches has this segment, which is of at least a word
pub record ReachedSegment (i : Image) (kept : List Segment) (g : ℕ) (right : Perm → Bool) (segment : Segment) : Type 0 where
  pub by : Pointer
  pub reached : Reaches i kept g by
  pub has_right : right by.perm ≡ true
  pub is : segment ≡ (base_of by, by.log)
  pub whole_word : 3 ≤ by.log

-- such a segment that lies in no other, longer one
pub record MaximalSegment (i : Image) (kept : List Segment) (g : ℕ) (right : Perm → Bool) (segment : Segment) : Type 0 where
  pub reached : ReachedSegment i kept g right segment
  pub maximal : (p : Pointer) → Reaches i kept g p → right p.perm ≡ true → InSegment p segment.0 → p.log ≤ segment.1

-- the list has the maximal segments, ascending
pub record MaximalSegments (i : Image) (kept : List Segment) (g : ℕ) (right : Perm → Bool) (list : List Segment) : Type 0 where
  pub ascending : AllByRecursion (λ (pair : Segment × Segment). pair.0.0 < pair.1.0) (zip list (drop 1 list))
  pub each : (segment : Segment) → Contains list segment ↔ MaximalSegment i kept g right segment
