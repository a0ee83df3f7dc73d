-- What the table of rows keeps beside its rows: the set of running slots as bits, and the indices of slots, both by
-- number.
use Rattle.std.specs.{Prelude.{◌≡◌, ◌≢◌, ℕ, ◌<◌, List, length, slice_index, slice_index_or}, Int.bit_at}
use Rattle.mm_model.specs.{Slot.Slot, State.ThreadRow, Turn.is_running, Flags.one_if}
use Rattle.mm_thread.specs.SlotIndices.{no_row}

abbrev pub slot_of_row : List ThreadRow → ℕ → Slot
slot_of_row rows k = (slice_index_or rows k no_row).slot

-- each row has a number of its own, below 64
pub record AreNumbered (rows : List ThreadRow) : Type 0 where
  pub small : (k : ℕ) → k < length rows → (slot_of_row rows k).number < 64
  pub own : (j k : ℕ) → j < length rows → k < length rows → (slot_of_row rows j).number ≡ (slot_of_row rows k).number
      → j ≡ k

-- each bit says whether one of the first rows has its number and runs
pub record AreRunners (rows : List ThreadRow) (i runners : ℕ) : Type 0 where
  pub each : (k : ℕ) → k < i
      → bit_at runners (slot_of_row rows k).number ≡ one_if (is_running (slot_of_row rows k).state)
  pub none : (n : ℕ) → n < 64 → ((k : ℕ) → k < i → (slot_of_row rows k).number ≢ n) → bit_at runners n ≡ 0

-- the set has exactly the rows that run
pub record HasRunners (rows : List ThreadRow) (runners : ℕ) : Type 0 where
  pub numbered : AreNumbered rows
  pub bits : AreRunners rows (length rows) runners

-- the bit of the slot's number says whether it runs, and each other bit is unchanged
pub record IsNoted (before after : ℕ) (s : Slot) : Type 0 where
  pub here : bit_at after s.number ≡ one_if (is_running s.state)
  pub others : (n : ℕ) → n < 64 → n ≢ s.number → bit_at after n ≡ bit_at before n

-- the index of places: each number that a row has leads to its place, and each other number to no place
pub record IsIndex (rows : List ThreadRow) (index : List ℕ) : Type 0 where
  pub there : (n : ℕ) → n < 64 → slice_index index n < length rows → (slot_of_row rows (slice_index index n)).number ≡ n
  pub back : (k : ℕ) → k < length rows → slice_index index (slot_of_row rows k).number ≡ k

-- the index leads to the place of each row, and the set has exactly the rows that run
pub record AreKnown (rows : List ThreadRow) (index : List ℕ) (runners : ℕ) : Type 0 where
  pub places : IsIndex rows index
  pub running : HasRunners rows runners
