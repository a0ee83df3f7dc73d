-- Laws of sets of segments.
use Rattle.std.specs.Prelude.{ℕ, ◌<◌, ◌≤◌, ◌↔◌, List, [], ◌∷◌, Contains}
use Rattle.mm_seg.specs.Segments.{IsMaximal, Covered, end_of}

-- the sets that inserts of these segments, the last one first, can leave
pub data Inserts : List (ℕ × ℕ) → List (ℕ × ℕ) → Type 0 where
  none : Inserts [] []
  one_more : {inserted old new : List (ℕ × ℕ)} {s : ℕ × ℕ} → Inserts inserted old → IsMaximal (s ∷ old) new
      → Inserts (s ∷ inserted) new

abbrev pub HoldsAllInserts : Type 0
HoldsAllInserts = (inserted set : List (ℕ × ℕ)) → Inserts inserted set → IsMaximal inserted set

-- an inserted segment has the address
pub record Inserted (inserted : List (ℕ × ℕ)) (a : ℕ) : Type 0 where
  pub segment : ℕ × ℕ
  pub is_in : Contains inserted segment
  pub low : segment.0 ≤ a
  pub high : a < end_of segment

abbrev pub CoversAllInserts : Type 0
CoversAllInserts = (inserted set : List (ℕ × ℕ)) (a : ℕ) → Inserts inserted set → Covered set a ↔ Inserted inserted a
