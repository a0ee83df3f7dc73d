-- A flat memory: whole pages of cells by their numbers, and the number of frames for pages.
use Rattle.std.specs.Prelude.{◌≡◌, ℕ, ◌/◌, ◌%◌, ◌^◌, ◌<◌, ◌≤◌, Bool, true, false, not, ◌&&◌, ◌==◌, nat_lt}
use Rattle.std.specs.Prelude.{if◌then◌else◌, IsTrue, List, length, replicate, slice_get, slice_set, Option, None, Some}
use Rattle.std.specs.{Prelude.is_some, List.{filter, AllByRecursion}, Ordering.nat_cmp, FinMap.{find, put, is_sorted}}
use Rattle.mm_word.specs.declared.word.{Word.TheVariants.Int, Cell.Cell, Pre.Pre, Post.Post}
use Rattle.mm_word.specs.declared.word.Pre.TheVariants as pres
use Rattle.mm_word.specs.declared.word.Post.TheVariants as posts

pub record Memory : Type 0 where
  -- each mapped page's number and its cells
  pub pages : List (ℕ × List Cell)
  pub frames : ℕ

-- the number of the page that an address lies in
abbrev pub page_of : ℕ → ℕ
page_of w = w / 4096

-- the index of an address's cell in its page
abbrev pub place_of : ℕ → ℕ
place_of w = w % 4096 / 8

-- the cells of a page, if it is mapped
abbrev pub page_at : Memory → ℕ → Option (List Cell)
page_at m p = find nat_cmp p m.pages

abbrev pub is_mapped : Memory → ℕ → Bool
is_mapped m p = is_some (page_at m p)

abbrev pub cell_in : Option (List Cell) → ℕ → Option Cell
cell_in None cell_index = None
cell_in (Some cells) cell_index = slice_get cells cell_index

-- the cell of a word, if its page is mapped; none at an address that is no word's
unfoldable pub cell_at : Memory → ℕ → Option Cell
cell_at m w = if w % 8 == 0 then cell_in (page_at m (page_of w)) (place_of w) else None

abbrev pub put_in : Memory → Option (List Cell) → ℕ → Cell → Memory
put_in m None w c = m
put_in m (Some cells) w c = record m { pages = put nat_cmp (page_of w) (slice_set cells (place_of w) c) m.pages }

-- the memory with this cell at a word of a mapped page
unfoldable pub put_cell : Memory → ℕ → Cell → Memory
put_cell m w c = put_in m (page_at m (page_of w)) w c

-- each cell of a page that was just mapped: integer 0, full
abbrev pub zero_cell : Cell
zero_cell = record { word = Int 0; full = true }

abbrev pub zero_page : List Cell
zero_page = replicate 512 zero_cell

-- a page can be mapped if it is not mapped yet and a frame is free
unfoldable pub can_map : Memory → ℕ → Bool
can_map m p = not (is_mapped m p) && nat_lt (length m.pages) m.frames

unfoldable pub map_page : Memory → ℕ → Memory
map_page m p = record m { pages = put nat_cmp p zero_page m.pages }

unfoldable pub unmap_page : Memory → ℕ → Memory
unmap_page m p = record m { pages = filter (λ e. not (e.0 == p)) m.pages }

-- a bit passes a precondition
abbrev pub passes : Pre → Bool → Bool
passes pres.Any full = true
passes pres.Full full = full
passes pres.Empty full = not full

-- the bit that a postcondition leaves
abbrev pub full_after : Post → Bool → Bool
full_after posts.Keep full = full
full_after posts.Full full = true
full_after posts.Empty full = false

-- a page has a number below 2^42 and 512 cells
pub record IsPage (e : ℕ × List Cell) : Type 0 where
  pub number : e.0 < 2 ^ 42
  pub cells : length e.1 ≡ 512

-- the pages rise by number, and each is whole
pub record ArePages (pages : List (ℕ × List Cell)) : Type 0 where
  pub rising : IsTrue (is_sorted nat_cmp pages)
  pub whole : AllByRecursion IsPage pages

-- the pages rise, each is whole, and no more are mapped than there are frames
pub record IsPaged (m : Memory) : Type 0 where
  pub pages : ArePages m.pages
  pub fitting : length m.pages ≤ m.frames
