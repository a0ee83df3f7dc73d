-- Limits that several crates keep.
use Rattle.std.specs.Prelude.{ℕ}

-- the most cycles of a command, of a session, of one of its lines and of a checkpoint
abbrev pub cycle_limit : ℕ
cycle_limit = 1000000

-- the most segments of an object
abbrev pub segment_limit : ℕ
segment_limit = 256

-- the most words of all segments of an object together
abbrev pub word_limit : ℕ
word_limit = 131072

-- the most words of an object that are replaced by pointers when its segments are placed
abbrev pub reloc_limit : ℕ
reloc_limit = 65535

-- the most configurations that are looked at
abbrev pub state_limit : ℕ
state_limit = 100000000
