-- What a cached memory holds, and what it means.
use Rattle.std.specs.{Prelude.{◌≡◌, ℕ, ◌+◌, ◌*◌, ◌≤◌, not, List, map, Option, None, Some}, List.AllByRecursion}
use Rattle.mm_model.specs.{Memory.Memory, Uses.Use, Flags.one_if, Counted.{counts_of, line_of, page_of_block, has}}
use Rattle.mm_model.specs.declared.counts.Counts.{Counts}
use Rattle.mm_frames.specs.Framed.{Framed, frame_of, memory_of}
use Rattle.mm_cache.specs.{declared.line.CacheLine.CacheLine, Over.over, Laws.Cover}
use Rattle.mm_vmem.specs.{declared.{tlb.Entry.Entry, vmem.Tally.Tally}, Stands.{LineState, Stands, state_at, back_of}}
use Rattle.mm_vmem.specs.Entries.{pages_in}

-- 1. What a cached memory is.

-- a cached memory, as contracts see it
pub record Cached : Type 0 where
  pub frames : Framed
  pub lines : List (Option CacheLine)
  -- the translation buffer
  pub entries : List Entry
  -- the count of accesses that were made
  pub uses : ℕ
  pub numbers : Counts

-- the cached memory of these parts; `others` are the accesses that did not hit
abbrev pub cached_of : Framed → List (Option CacheLine) → List Entry → Tally → (others : ℕ) → Cached
cached_of frames lines entries tally others = record {
  frames = frames;
  lines = lines;
  entries = entries;
  uses = others + tally.hits;
  numbers = record {
    hits = tally.hits;
    misses = tally.misses;
    writebacks = tally.writebacks;
    tlb_hits = tally.tlb_hits;
    tlb_misses = tally.tlb_misses;
    reads = frames.reads;
    writes = frames.writes;
  };
}

-- the flat memory that a cached memory means: its lines, clean and dirty, laid over the frames
unfoldable pub meaning : Cached → Memory
meaning c = over (memory_of c.frames) c.lines

abbrev pub line_state : Option CacheLine → Option LineState
line_state None = None
line_state (Some l) = Some (record { block = l.block; dirty = l.dirty })

-- the block and the flag of each line
abbrev pub line_states : List (Option CacheLine) → List (Option LineState)
line_states lines = map line_state lines

-- a list of uses belongs to a cached memory: its lines, its buffer and its numbers are what the list says
abbrev pub StandsTo : Cached → List Use → Type 0
StandsTo c us = Stands c.uses (line_states c.lines) (pages_in c.entries) c.numbers us

-- the counts of a cached memory for a list of uses
abbrev pub tells : List Use → Option Counts
tells us = Some (counts_of us)

-- numbers that this many accesses can make
pub record AreFew (n : Counts) (made : ℕ) : Type 0 where
  pub accesses : n.hits + n.misses ≤ made
  pub writebacks : n.writebacks ≤ made
  pub look_ups : n.tlb_hits + n.tlb_misses ≤ 2 * made
  pub reads : n.reads ≤ made
  pub writes : n.writes ≤ made

-- a cached memory whose lines lie over its frames, whose entries are right, and whose numbers its accesses can make
pub record IsCached (c : Cached) : Type 0 where
  pub cover : Cover c.lines (memory_of c.frames)
  pub right : AllByRecursion (λ e. frame_of c.frames e.page ≡ Some e.frame) c.entries
  pub few : AreFew c.numbers c.uses

-- 2. One access, in its parts.

-- the block that goes back to its frame before this one is read
abbrev pub old_block : Cached → ℕ → Option ℕ
old_block c block = back_of (state_at (line_states c.lines) (line_of block)) block

-- the numbers after a page was looked up in a translation buffer of these pages
abbrev pub looked : ℕ → List ℕ → Counts → Counts
looked page buffer n = record n {
  tlb_hits = n.tlb_hits + one_if (has page buffer);
  tlb_misses = n.tlb_misses + one_if (not (has page buffer));
}

-- the numbers after a block went back, by a look-up of its page
abbrev pub gone_back : Option ℕ → List ℕ → Counts → Counts
gone_back None buffer n = n
gone_back (Some block) buffer n = looked (page_of_block block) buffer
    (record n { writebacks = n.writebacks + 1; writes = n.writes + 1 })
