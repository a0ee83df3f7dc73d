-- Lists of segments as the command line writes them. A segment is its base and the logarithm of its length.
use Rattle.std.specs.{Prelude.{ℕ, ◌+◌, ◌^◌, ◌<◌, ◌≤◌, List, ◌++◌, length, codes, decimal}, List.AllByRecursion}
use Rattle.mm_cli.specs.{ItemList.{InOrder, AreInOrder, Follows, with_commas}, Ranges.IsRange}

abbrev pub IsSegment : ℕ × ℕ → Type 0
IsSegment s = IsRange s.0 s.1

-- a segment ends before another begins
abbrev pub EndsBefore : ℕ × ℕ → ℕ × ℕ → Type 0
EndsBefore s t = s.0 + 2 ^ s.1 ≤ t.0

-- 1 to 64 segments, each of which ends before those after it begin
pub record AreSegments (segments : List (ℕ × ℕ)) : Type 0 where
  pub some : 1 ≤ length segments
  pub few : length segments ≤ 64
  pub ascending : InOrder EndsBefore segments
  pub ranges : AllByRecursion IsSegment segments

abbrev pub segment_text : ℕ × ℕ → List ℕ
segment_text s = decimal s.0 ++ codes "/" ++ decimal s.1

abbrev pub segments_text : List (ℕ × ℕ) → List ℕ
segments_text segments = with_commas segment_text segments

-- the segments that were read so far
abbrev pub AreFirstSegments : List (ℕ × ℕ) → Type 0
AreFirstSegments segments = AreInOrder EndsBefore IsSegment segments

-- a segment after those that were read so far, for which there is room
pub record IsNextSegment (segments : List (ℕ × ℕ)) (s : ℕ × ℕ) : Type 0 where
  pub follows : Follows EndsBefore IsSegment segments s
  pub room : length segments < 64
