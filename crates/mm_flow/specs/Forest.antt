-- Segments in the order of their bases, and the nearest segment above each.
use Rattle.std.specs.Prelude.{◌≡◌, ℕ, ◌+◌, ◌*◌, ◌/◌, ◌^◌, ◌<◌, ◌≤◌, List, length, slice_index}
use Rattle.mm_flow.specs.Sharing.{Up}

-- the bases ascend; a segment that begins within an earlier one ends within it
pub record IsNested (bases ends : List ℕ) : Type 0 where
  pub len : length ends ≡ length bases
  pub some : (k : ℕ) → k < length bases → slice_index bases k < slice_index ends k
  pub rise : (k : ℕ) → k + 1 < length bases → slice_index bases k ≤ slice_index bases (k + 1)
  pub nested : (i j : ℕ) → i < j → j < length bases → slice_index bases j < slice_index ends i
      → slice_index ends j ≤ slice_index ends i

-- the segments above a segment are the earlier ones that hold its base
pub record IsForest (bases ends par : List ℕ) : Type 0 where
  pub down : (j k : ℕ) → k < length par → Up par j k → (j ≤ k) × (slice_index bases k < slice_index ends j)
  pub up : (j k : ℕ) → k < length par → j ≤ k → slice_index bases k < slice_index ends j → Up par j k

-- the end of the climb from a segment: the nearest one that holds the address, or `none`
pub data Climbed (ends par : List ℕ) (from x none : ℕ) (r : ℕ) : Type 0 where
  found : r ≤ from → x < slice_index ends r → ((j : ℕ) → j ≤ from → x < slice_index ends j → Up par j r)
      → Climbed ends par from x none r
  missed : r ≡ none → ((j : ℕ) → j ≤ from → x < slice_index ends j → ⊥) → Climbed ends par from x none r

-- segments by bases, logarithms and ends, ascending by base, the longer first if bases are equal
pub record IsOrdered (bases logs ends : List ℕ) : Type 0 where
  pub len : length ends ≡ length bases
  pub aligned : (k : ℕ) → k < length bases
      → slice_index bases k / 2 ^ slice_index logs k * 2 ^ slice_index logs k ≡ slice_index bases k
  pub last : (k : ℕ) → k < length bases → slice_index ends k ≡ slice_index bases k + 2 ^ slice_index logs k
  pub rise : (i j : ℕ) → i < j → j < length bases → slice_index bases i ≤ slice_index bases j
  pub greater : (i j : ℕ) → i < j → j < length bases → slice_index bases i ≡ slice_index bases j
      → slice_index ends j ≤ slice_index ends i

-- the address is in the segment
abbrev pub In : List ℕ → List ℕ → ℕ → ℕ → Type 0
In bases ends k w = (slice_index bases k ≤ w) × (w < slice_index ends k)

-- a segment that both segments are at or above
pub record SharesOf (bases ends par : List ℕ) (a b : ℕ) : Type 0 where
  pub at : ℕ
  pub small : at < length bases
  pub left : Up par a at
  pub right : Up par b at
