-- The counts of a list of uses. In each list here the latest use is first.
use Rattle.std.specs.Prelude.{ℕ, ◌+◌, ◌/◌, ◌%◌, ◌==◌, Bool, true, false, not, ◌&&◌, ◌||◌, if◌then◌else◌, List, [], ◌∷◌}
use Rattle.std.specs.Prelude.{◌++◌, reverse, take, Option, None, Some, is_some}
use Rattle.mm_word.specs.declared.perm.Kind.{Kind, TheVariants.{Fetch, Load, LoadSet, Store}}
use Rattle.mm_model.specs.{Flags.one_if, Uses.{Use, Accessed, Removed}, declared.counts.Counts.Counts}

abbrev pub block_of : ℕ → ℕ
block_of addr = addr / 64

abbrev pub line_of : ℕ → ℕ
line_of block = block % 64

-- the page of a block
abbrev pub page_of_block : ℕ → ℕ
page_of_block block = block / 64

-- a store, or a load that sets the bit
abbrev pub writes : Kind → Bool
writes Fetch = false
writes Load = false
writes LoadSet = true
writes Store = true

-- the block that a line keeps when a page is removed: none if it is of that page
abbrev pub outside_page : ℕ → Option ℕ → Option ℕ
outside_page page None = None
outside_page page (Some block) = if page_of_block block == page then None else Some block

-- the block of the latest counted access with this line index, if its page was not removed since
abbrev pub latest : ℕ → List Use → Option ℕ
latest line [] = None
latest line (Accessed kind addr true done ∷ us) =
    if line_of (block_of addr) == line then Some (block_of addr) else latest line us
latest line (Accessed kind addr false done ∷ us) = latest line us
latest line (Removed page ∷ us) = outside_page page (latest line us)

abbrev pub is_block : Option ℕ → ℕ → Bool
is_block None block = false
is_block (Some b) block = b == block

-- whether an access to this block is a hit after these uses: the latest counted access with its line index was to it,
-- and its page was not removed since
abbrev pub is_hit : ℕ → List Use → Bool
is_hit block us = is_block (latest (line_of block) us) block

-- whether a write was done to the block of the latest counted access with this line index, from the last miss on that
-- block up to that access
abbrev pub written : ℕ → List Use → Bool
written line [] = false
written line (Accessed kind addr true done ∷ us) =
    if line_of (block_of addr) == line then (writes kind && done) || (is_hit (block_of addr) us && written line us)
    else written line us
written line (Accessed kind addr false done ∷ us) = written line us
written line (Removed page ∷ us) = written line us

-- the block that a line writes back when this block comes: the old one, if it is another and was written
abbrev pub given_back : Option ℕ → Bool → ℕ → Option ℕ
given_back None w block = None
given_back (Some old) w block = if old == block then None else (if w then Some old else None)

-- the block that an access to this block writes back after these uses
abbrev pub written_back : ℕ → List Use → Option ℕ
written_back block us = given_back (latest (line_of block) us) (written (line_of block) us) block

abbrev pub page_of_old : Option ℕ → List ℕ
page_of_old None = []
page_of_old (Some block) = page_of_block block ∷ []

-- the pages that an access to this block looks up after these uses, the latest first
abbrev pub looked_up : ℕ → List Use → List ℕ
looked_up block us = if is_hit block us then [] else page_of_block block ∷ page_of_old (written_back block us)

-- the look-ups since the last removal, the latest first
abbrev pub look_ups : List Use → List ℕ
look_ups [] = []
look_ups (Accessed kind addr true done ∷ us) = looked_up (block_of addr) us ++ look_ups us
look_ups (Accessed kind addr false done ∷ us) = look_ups us
look_ups (Removed page ∷ us) = []

abbrev pub has : ℕ → List ℕ → Bool
has p [] = false
has p (q ∷ qs) = if p == q then true else has p qs

abbrev pub without : ℕ → List ℕ → List ℕ
without p [] = []
without p (q ∷ qs) = if p == q then without p qs else q ∷ without p qs

-- each page once, at its first place
abbrev pub distinct : List ℕ → List ℕ
distinct [] = []
distinct (p ∷ ps) = p ∷ without p (distinct ps)

-- the distinct pages that were looked up since the last removal, by their last look-up
abbrev pub recent : List Use → List ℕ
recent us = distinct (look_ups us)

-- the count of these look-ups that are among the first 16 of the distinct ones before them
abbrev pub buffer_hits : List ℕ → List ℕ → ℕ
buffer_hits [] before = 0
buffer_hits (p ∷ ps) before = buffer_hits ps before + one_if (has p (take 16 (distinct (ps ++ before))))

abbrev pub buffer_misses : List ℕ → List ℕ → ℕ
buffer_misses [] before = 0
buffer_misses (p ∷ ps) before = buffer_misses ps before + one_if (not (has p (take 16 (distinct (ps ++ before)))))

-- the sum of f over the counted accesses, each with its block and the uses before it
abbrev pub total : (ℕ → List Use → ℕ) → List Use → ℕ
total f [] = 0
total f (Accessed kind addr true done ∷ us) = total f us + f (block_of addr) us
total f (Accessed kind addr false done ∷ us) = total f us
total f (Removed page ∷ us) = total f us

abbrev pub hit_at : ℕ → List Use → ℕ
hit_at block us = one_if (is_hit block us)

abbrev pub miss_at : ℕ → List Use → ℕ
miss_at block us = one_if (not (is_hit block us))

abbrev pub back_at : ℕ → List Use → ℕ
back_at block us = one_if (is_some (written_back block us))

abbrev pub found_at : ℕ → List Use → ℕ
found_at block us = buffer_hits (looked_up block us) (look_ups us)

abbrev pub sought_at : ℕ → List Use → ℕ
sought_at block us = buffer_misses (looked_up block us) (look_ups us)

-- the numbers of a list of uses, the latest first
abbrev pub numbers : List Use → Counts
numbers us = record {
  hits = total hit_at us;
  misses = total miss_at us;
  writebacks = total back_at us;
  tlb_hits = total found_at us;
  tlb_misses = total sought_at us;
  reads = total miss_at us;
  writes = total back_at us;
}

-- the numbers of a list of uses, the earliest first
abbrev pub counts_of : List Use → Counts
counts_of us = numbers (reverse us)
