-- When lines, a buffer and numbers are what a list of uses says.
use Rattle.std.specs.Prelude.{◌≡◌, ℕ, ◌+◌, ◌<◌, ◌==◌, Bool, false, not, ◌&&◌, ◌||◌, if◌then◌else◌, List, [], ◌∷◌}
use Rattle.std.specs.Prelude.{reverse, take, slice_get, Option, None, Some, is_some}
use Rattle.mm_model.specs.{Uses.{Use, accesses}, declared.counts.Counts.Counts, Flags.one_if}
use Rattle.mm_model.specs.Counted.{latest, written, recent, numbers, page_of_block, has, without, given_back}
use Rattle.mm_model.specs.Counted.{page_of_old}

-- a line that is not empty: its block, and whether it was written
pub record LineState : Type 0 where
  pub block : ℕ
  pub dirty : Bool

abbrev pub state_with : Option ℕ → Bool → Option LineState
state_with None w = None
state_with (Some block) w = Some (record { block = block; dirty = w })

-- the line with this index after these uses, the latest first
abbrev pub line_after : ℕ → List Use → Option LineState
line_after line us = state_with (latest line us) (written line us)

-- the line, if it has no block of this page
abbrev pub line_without : ℕ → Option LineState → Option LineState
line_without page None = None
line_without page (Some t) = if page_of_block t.block == page then None else Some t

-- the count of uses, the lines, the buffer and the numbers are what these uses say
pub record Stands (uses : ℕ) (lines : List (Option LineState)) (buffer : List ℕ) (n : Counts)
    (us : List Use) : Type 0 where
  pub count : uses ≡ accesses us
  pub lines_are : (i : ℕ) → i < 64 → slice_get lines i ≡ Some (line_after i (reverse us))
  pub buffer_is : buffer ≡ take 16 (recent (reverse us))
  pub numbers_are : n ≡ numbers (reverse us)

-- the buffer after a look-up of this page
abbrev pub moved : ℕ → List ℕ → List ℕ
moved page buffer = take 16 (page ∷ without page buffer)

abbrev pub flat_line : Option (Option LineState) → Option LineState
flat_line None = None
flat_line (Some t) = t

-- the line with this index
abbrev pub state_at : List (Option LineState) → ℕ → Option LineState
state_at lines i = flat_line (slice_get lines i)

abbrev pub state_has : Option LineState → ℕ → Bool
state_has None block = false
state_has (Some t) block = t.block == block

-- the block that a line writes back when this one comes
abbrev pub back_of : Option LineState → ℕ → Option ℕ
back_of None block = None
back_of (Some t) block = given_back (Some t.block) t.dirty block

-- the line after an access to this block, which wrote or did not
abbrev pub next_state : Option LineState → ℕ → Bool → Option LineState
next_state None block w = Some (record { block = block; dirty = w || false })
next_state (Some t) block w = Some (record { block = block; dirty = w || (t.block == block && t.dirty) })

-- the pages that an access to this block looks up, the latest first
abbrev pub sought : Option LineState → ℕ → List ℕ
sought t block = if state_has t block then [] else page_of_block block ∷ page_of_old (back_of t block)

-- the buffer after these look-ups
abbrev pub after_looks : List ℕ → List ℕ → List ℕ
after_looks [] buffer = buffer
after_looks (p ∷ ps) buffer = moved p (after_looks ps buffer)

abbrev pub found_in : List ℕ → List ℕ → ℕ
found_in [] buffer = 0
found_in (p ∷ ps) buffer = found_in ps buffer + one_if (has p (after_looks ps buffer))

abbrev pub missed_in : List ℕ → List ℕ → ℕ
missed_in [] buffer = 0
missed_in (p ∷ ps) buffer = missed_in ps buffer + one_if (not (has p (after_looks ps buffer)))

-- the numbers after an access to this block
abbrev pub next_numbers : Option LineState → ℕ → List ℕ → Counts → Counts
next_numbers t block buffer n = record {
  hits = n.hits + one_if (state_has t block);
  misses = n.misses + one_if (not (state_has t block));
  writebacks = n.writebacks + one_if (is_some (back_of t block));
  tlb_hits = n.tlb_hits + found_in (sought t block) buffer;
  tlb_misses = n.tlb_misses + missed_in (sought t block) buffer;
  reads = n.reads + one_if (not (state_has t block));
  writes = n.writes + one_if (is_some (back_of t block));
}

-- each line without the blocks of this page
abbrev pub lines_without : ℕ → List (Option LineState) → List (Option LineState)
lines_without page [] = []
lines_without page (t ∷ ts) = line_without page t ∷ lines_without page ts

-- each page once
abbrev pub IsDistinct : List ℕ → Type 0
IsDistinct [] = Unit {0}
IsDistinct (x ∷ xs) = (has x xs ≡ false) × IsDistinct xs
