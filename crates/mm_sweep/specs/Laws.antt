-- What holds of swept images.
use Rattle.std.specs.{Prelude.{◌≡◌, ◌↔◌, ℕ, Bool, true, List}, List.AllByRecursion}
use Rattle.mm_word.specs.{Access.AccessValue, Pointer.{Pointer, InSegment}}
use Rattle.mm_seg.specs.Segments.{IsSegment}
use Rattle.mm_model.specs.{Image.{Image, start}, Spelling.IsImage, Run.{run, turn_of}, Trace.touches}
use Rattle.mm_model.specs.{Reach.{Entries, CanTouch, CanWrite}, Worlds.Apart}
use Rattle.mm_sweep.specs.{Swept.{InRange, meets, swept}, Refusals.CanSweep}

-- 1. What it means to meet a range.

-- an address that is both in the pointer's segment and in the range
pub record SharesAddress (range : ℕ × ℕ) (p : Pointer) : Type 0 where
  pub address : ℕ
  pub in_segment : InSegment p address
  pub in_range : InRange range address

-- a pointer's segment meets a range exactly if the two share an address
abbrev pub MeetingIsSharing : Type 0
MeetingIsSharing = (range : ℕ × ℕ) (p : Pointer) → (meets range p ≡ true) ↔ SharesAddress range p

-- 2. What groups can reach in a swept image.

-- In the image `j` nobody reaches the range, nobody reaches more than in `i`, and groups that stand apart in `i` stand
-- apart in `j`. This holds under every list of entries, and if anything may be entered.
pub record Revokes (range : ℕ × ℕ) (i j : Image) : Type 0 where
  pub unreached : (e : Entries) (g w : ℕ) → InRange range w → ¬ CanTouch j e g w
  pub touch : (e : Entries) (g w : ℕ) → CanTouch j e g w → CanTouch i e g w
  pub write : (e : Entries) (g w : ℕ) → CanWrite j e g w → CanWrite i e g w
  pub apart : (e : Entries) (c : ℕ → Bool) → Apart i e c → Apart j e c

abbrev pub SweptImagesAreImages : Type 0
SweptImagesAreImages = (range : ℕ × ℕ) (i : Image) → IsImage i → IsImage (swept range i)

-- sweeping revokes the range, if no instruction pointer meets it and no group is privileged
abbrev pub SweepingRevokes : Type 0
SweepingRevokes = (range : ℕ × ℕ) (i : Image) → CanSweep range i → Revokes range i (swept range i)

-- 3. What a run of the swept image touches.

-- no access of a turn is on a word of the range
abbrev pub SweptSilent : Type 0
SweptSilent =
    (range : ℕ × ℕ) (i : Image) (before : List ℕ) (n : ℕ) → IsSegment range → IsImage i → CanSweep range i
    → AllByRecursion (λ (t : AccessValue). ¬ InRange range t.addr)
    (touches (turn_of (run (start (swept range i)) before) n).step)
