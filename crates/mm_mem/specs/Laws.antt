-- What each memory keeps, whatever is asked of it.
use Rattle.std.specs.Prelude.{◌≡◌, ◌≢◌, ◌↔◌, ℕ, ◌%◌, ◌^◌, ◌<◌, IsTrue, true, false, List, length, slice_get, Some, None}
use Rattle.std.specs.{Ordering.nat_cmp, FinMap.is_sorted}
use Rattle.mm_word.specs.declared.word.{Word.Word, Cell.Cell, Pre.Pre, Post.Post}
use Rattle.mm_model.specs.Memory.{Memory, page_of, page_at, is_mapped, cell_at, can_map, zero_cell, passes, full_after}
use Rattle.mm_model.specs.Memory.{IsPaged}
use Rattle.mm_mem.specs.Answers.{loaded, stored, after_load, after_store, after_map, after_unmap}
use Rattle.mm_mem.specs.declared.answer.Loaded.TheVariants as loads
use Rattle.mm_mem.specs.declared.answer.Stored.TheVariants as stores

-- a load that gives no word, and a store that is not done, leave the memory as it was
pub record RefusalsChangeNothing : Type 0 where
  pub load : (m : Memory) (w : ℕ) (pre : Pre) (post : Post) → ((v : Word) → loaded pre (cell_at m w) ≢ loads.Value v)
      → after_load m w pre post ≡ m
  pub store : (m : Memory) (w : ℕ) (word : Word) (pre : Pre) (post : Post) → stored pre (cell_at m w) ≢ stores.Done
      → after_store m w word pre post ≡ m

-- a load changes at most the bit of its own cell
pub record LoadsSetOneBit : Type 0 where
  pub own : (m : Memory) (w : ℕ) (pre : Pre) (post : Post) (c : Cell) → cell_at m w ≡ Some c → passes pre c.full ≡ true
      → cell_at (after_load m w pre post) w ≡ Some (record { word = c.word; full = full_after post c.full })
  pub other : (m : Memory) (w : ℕ) (pre : Pre) (post : Post) (v : ℕ) → v ≢ w
      → cell_at (after_load m w pre post) v ≡ cell_at m v

-- a store writes its own cell and no other
pub record StoresWriteOneCell : Type 0 where
  pub own : (m : Memory) (w : ℕ) (word : Word) (pre : Pre) (post : Post) (c : Cell) → cell_at m w ≡ Some c
      → passes pre c.full ≡ true
      → cell_at (after_store m w word pre post) w ≡ Some (record { word = word; full = full_after post c.full })
  pub other : (m : Memory) (w : ℕ) (word : Word) (pre : Pre) (post : Post) (v : ℕ) → v ≢ w
      → cell_at (after_store m w word pre post) v ≡ cell_at m v

-- loads and stores map no page and remove none
pub record AccessesKeepPages : Type 0 where
  pub load : (m : Memory) (w : ℕ) (pre : Pre) (post : Post) (p : ℕ)
      → is_mapped (after_load m w pre post) p ≡ is_mapped m p
  pub store : (m : Memory) (w : ℕ) (word : Word) (pre : Pre) (post : Post) (p : ℕ)
      → is_mapped (after_store m w word pre post) p ≡ is_mapped m p

-- a page is mapped exactly if it was not mapped and a frame is free; it then holds integer zeros, full, and each other
-- page stays
pub record MapsOnePage : Type 0 where
  pub answer : (m : Memory) (p : ℕ) → (can_map m p ≡ true) ↔ ((is_mapped m p ≡ false) × (length m.pages < m.frames))
  pub own : (m : Memory) (p w : ℕ) → can_map m p ≡ true → w % 8 ≡ 0 → page_of w ≡ p
      → cell_at (after_map m p) w ≡ Some zero_cell
  pub other : (m : Memory) (p w : ℕ) → page_of w ≢ p → cell_at (after_map m p) w ≡ cell_at m w
  pub refused : (m : Memory) (p : ℕ) → can_map m p ≡ false → after_map m p ≡ m

-- no word of a page can be read after it was removed; each other page stays
pub record UnmapsOnePage : Type 0 where
  pub own : (m : Memory) (p w : ℕ) → page_of w ≡ p → cell_at (after_unmap m p) w ≡ None
  pub other : (m : Memory) (p w : ℕ) → page_of w ≢ p → cell_at (after_unmap m p) w ≡ cell_at m w
  pub refused : (m : Memory) (p : ℕ) → is_mapped m p ≡ false → after_unmap m p ≡ m

-- a page that was removed can be mapped again, and then holds zeros, whatever it held
abbrev pub RemovedPagesComeBackEmpty : Type 0
RemovedPagesComeBackEmpty =
    (m : Memory) (p w : ℕ) → IsPaged m → is_mapped m p ≡ true → w % 8 ≡ 0 → page_of w ≡ p
    → cell_at (after_map (after_unmap m p) p) w ≡ Some zero_cell

-- no call changes the number of frames
pub record FramesStay : Type 0 where
  pub load : (m : Memory) (w : ℕ) (pre : Pre) (post : Post) → (after_load m w pre post).frames ≡ m.frames
  pub store : (m : Memory) (w : ℕ) (word : Word) (pre : Pre) (post : Post)
      → (after_store m w word pre post).frames ≡ m.frames
  pub map : (m : Memory) (p : ℕ) → (after_map m p).frames ≡ m.frames
  pub unmap : (m : Memory) (p : ℕ) → (after_unmap m p).frames ≡ m.frames

-- pages stay whole and in order, and no more are mapped than there are frames
pub record CallsKeepPaged : Type 0 where
  pub load : (m : Memory) (w : ℕ) (pre : Pre) (post : Post) → IsPaged m → IsPaged (after_load m w pre post)
  pub store : (m : Memory) (w : ℕ) (word : Word) (pre : Pre) (post : Post) → IsPaged m
      → IsPaged (after_store m w word pre post)
  pub map : (m : Memory) (p : ℕ) → p < 2 ^ 42 → IsPaged m → IsPaged (after_map m p)
  pub unmap : (m : Memory) (p : ℕ) → IsPaged m → IsPaged (after_unmap m p)

-- a memory that was made of these pages, or put back to them, has each of them with its cells, and no other page
pub record ContentsAreThePages : Type 0 where
  pub each : (pages : List (ℕ × List Cell)) (frames i : ℕ) (e : ℕ × List Cell) → IsTrue (is_sorted nat_cmp pages)
      → slice_get pages i ≡ Some e
      → page_at (record { pages = pages; frames = frames }) e.0 ≡ Some e.1
  pub only : (pages : List (ℕ × List Cell)) (frames p : ℕ) (cells : List Cell)
      → page_at (record { pages = pages; frames = frames }) p ≡ Some cells
      → (i : ℕ) × (slice_get pages i ≡ Some (p, cells))
