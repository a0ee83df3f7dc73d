-- Segments: the base, and the logarithm of the length; sets of disjoint segments in ascending order.
use Rattle.std.specs.Prelude.{◌≡◌, ℕ, ◌+◌, ◌*◌, ◌/◌, ◌^◌, ◌<◌, ◌≤◌, List, length, slice_index_or, Contains}

abbrev pub end_of : ℕ × ℕ → ℕ
end_of s = s.0 + 2 ^ s.1

-- the segment at a place
abbrev pub segment_at : List (ℕ × ℕ) → ℕ → ℕ × ℕ
segment_at xs k = slice_index_or xs k (0, 0)

-- a segment of the memory, of at least a word
pub record IsSegment (s : ℕ × ℕ) : Type 0 where
  pub low : 3 ≤ s.1
  pub high : s.1 ≤ 54
  pub aligned : s.0 / 2 ^ s.1 * 2 ^ s.1 ≡ s.0
  pub below : s.0 < 2 ^ 54

-- each address of the first segment is an address of the second
abbrev pub LiesIn : ℕ × ℕ → ℕ × ℕ → Type 0
LiesIn s t = (t.0 ≤ s.0) × (end_of s ≤ end_of t)

-- disjoint segments, ascending
pub record IsSet (xs : List (ℕ × ℕ)) : Type 0 where
  pub segments : (k : ℕ) → k < length xs → IsSegment (segment_at xs k)
  pub rise : (i j : ℕ) → i < j → j < length xs → end_of (segment_at xs i) ≤ (segment_at xs j).0

-- all segments end at or before the address
abbrev pub IsBehind : List (ℕ × ℕ) → ℕ → Type 0
IsBehind xs a = (k : ℕ) → k < length xs → end_of (segment_at xs k) ≤ a

-- the segment lies in one of the list
pub record SomeHolds (xs : List (ℕ × ℕ)) (s : ℕ × ℕ) : Type 0 where
  pub at : ℕ
  pub small : at < length xs
  pub within : LiesIn s (segment_at xs at)

-- the segments are the maximal ones of those that were inserted
pub record IsMaximal (inserted xs : List (ℕ × ℕ)) : Type 0 where
  pub from : (k : ℕ) → k < length xs → Contains inserted (segment_at xs k)
  pub holds : (s : ℕ × ℕ) → Contains inserted s → SomeHolds xs s

-- the count of segments that end at or before the address
pub record EndsBy (xs : List (ℕ × ℕ)) (a r : ℕ) : Type 0 where
  pub fits : r ≤ length xs
  pub before : (k : ℕ) → k < r → end_of (segment_at xs k) ≤ a
  pub after : (k : ℕ) → r ≤ k → k < length xs → a < end_of (segment_at xs k)

-- the count of segments that begin before the address
pub record BeginsBy (xs : List (ℕ × ℕ)) (a r : ℕ) : Type 0 where
  pub fits : r ≤ length xs
  pub before : (k : ℕ) → k < r → (segment_at xs k).0 < a
  pub after : (k : ℕ) → r ≤ k → k < length xs → a ≤ (segment_at xs k).0

-- the segments from i up to j lie in the new one, and the new one lies in none
pub record IsPlace (xs : List (ℕ × ℕ)) (s : ℕ × ℕ) (i j : ℕ) : Type 0 where
  pub ends : EndsBy xs s.0 i
  pub begins : BeginsBy xs (end_of s) j
  pub outside : i < length xs → LiesIn s (segment_at xs i) → ⊥

-- the address lies in the segment at a place
abbrev pub At : List (ℕ × ℕ) → ℕ → ℕ → Type 0
At xs k a = (k < length xs) × ((segment_at xs k).0 ≤ a) × (a < end_of (segment_at xs k))

-- one of the segments has the address
pub record Covered (xs : List (ℕ × ℕ)) (a : ℕ) : Type 0 where
  pub by : ℕ
  pub at : At xs by a

-- the least address that both lists cover
pub record IsLeast (xs ys : List (ℕ × ℕ)) (a : ℕ) : Type 0 where
  pub left : Covered xs a
  pub right : Covered ys a
  pub least : (b : ℕ) → b < a → Covered xs b → Covered ys b → ⊥

abbrev pub AreApart : List (ℕ × ℕ) → List (ℕ × ℕ) → Type 0
AreApart xs ys = (a : ℕ) → Covered xs a → Covered ys a → ⊥
