-- The sums of the counts of a list of uses, and what is counted.
use Rattle.std.specs.Prelude.{◌≡◌, ◌↔◌, ℕ, ◌+◌, ◌≤◌, true, false, List, [], ◌∷◌, Some}
use Rattle.mm_model.specs.{Uses.{Use, Accessed, Removed}, Counted.{line_of, latest, is_hit, written, counts_of}}
use Rattle.mm_model.specs.CountFacts.{LatestWas, WroteSinceMiss}

-- the count of uses that are accesses that found a page
abbrev pub counted : List Use → ℕ
counted [] = 0
counted (Accessed kind word true done ∷ us) = counted us + 1
counted (Accessed kind word false done ∷ us) = counted us
counted (Removed page ∷ us) = counted us

-- each counted access is a hit or a miss
abbrev pub HitsAndMisses : Type 0
HitsAndMisses = (us : List Use) → (counts_of us).hits + (counts_of us).misses ≡ counted us

-- a block is written back only by a miss
abbrev pub WritebacksAreFew : Type 0
WritebacksAreFew = (us : List Use) → (counts_of us).writebacks ≤ (counts_of us).misses

-- a page is looked up for each miss and for each block that is written back
abbrev pub LookUpsAreMissesAndWritebacks : Type 0
LookUpsAreMissesAndWritebacks =
    (us : List Use) → (counts_of us).tlb_hits + (counts_of us).tlb_misses
    ≡ (counts_of us).misses + (counts_of us).writebacks

-- In these lists the latest use is first. An access to a block is a hit exactly if the latest counted access with its
-- line index was to it, and its page was not removed since.
abbrev pub HitsAreExact : Type 0
HitsAreExact = (block : ℕ) (us : List Use) → (is_hit block us ≡ true) ↔ LatestWas (line_of block) block us

-- the block of a line is written exactly if a store or a set load on it was done, and no access to it missed since
abbrev pub WrittenIsExact : Type 0
WrittenIsExact =
    (line block : ℕ) (us : List Use) → latest line us ≡ Some block → (written line us ≡ true) ↔ WroteSinceMiss block us
