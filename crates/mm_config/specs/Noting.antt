-- What noting a change of the memory leaves.
use Rattle.std.specs.Prelude.{◌≡◌, ◌⊎◌, ℕ, List, map, true, nat_eq, if◌then◌else◌, None}
use Rattle.mm_word.specs.declared.word.Cell.{Cell}
use Rattle.mm_model.specs.Memory.{Memory, page_at, is_mapped, put_cell, map_page, unmap_page}
use Rattle.mm_pairs.specs.{Named.HasGrown, Trees.IsTree}
use Rattle.mm_config.specs.declared.{store.Store.Store, names.Names.Names}
use Rattle.mm_config.specs.Naming.{leaf_at, page_name, IsTreeOfPages}

-- what was kept stays, under the names that it has
pub record IsKeptStill (old new : Store) : Type 0 where
  pub pairs : HasGrown old.pairs new.pairs
  pub outputs : HasGrown old.outputs new.outputs
  pub lists : HasGrown old.lists new.lists
  pub cells : HasGrown old.cells new.cells
  pub pages : HasGrown old.pages new.pages

-- with more trees, and more cells
pub record HasMoreCells (old new : Store) : Type 0 where
  pub pairs : HasGrown old.pairs new.pairs
  pub cells : HasGrown old.cells new.cells
  pub others : new ≡ record old { pairs = new.pairs; cells = new.cells }

-- names are as before, but for the tree of pages
abbrev pub HasOtherPages : Names → Names → Type 0
HasOtherPages old new = new ≡ record old { height = new.height; pages = new.pages }

-- the tree of pages has the leaves that it had
pub record IsSameTree (old : List (ℕ × ℕ)) (was : Names) (new : List (ℕ × ℕ)) (now : Names) : Type 0 where
  pub grown : HasGrown old new
  pub others : HasOtherPages was now
  pub inner : IsTree new now.height now.pages
  pub leaves : (at : ℕ) → leaf_at new now.height now.pages at ≡ leaf_at old was.height was.pages at

-- trees of one depth have names at the same places
abbrev pub HaveSamePlaces : List (ℕ × ℕ) → (depth was tree : ℕ) → Type 0
HaveSamePlaces pairs depth was tree = (at : ℕ) → nat_eq (leaf_at pairs depth was at) 0 ≡ nat_eq (leaf_at pairs depth tree at) 0

-- the page of a number has this name, and each other the one that it had
pub record PutsPage (old : Store) (was : Names) (number name : ℕ) (new : Store) (now : Names) : Type 0 where
  pub still : IsKeptStill old new
  pub others : HasOtherPages was now
  pub tree : IsTreeOfPages new now
  pub names : (n : ℕ) → page_name new now n ≡ (if nat_eq n number then name else page_name old was n)

-- a memory with another cell at a word
abbrev pub IsWrittenAt : ℕ → Memory → Memory → Type 0
IsWrittenAt word m now = (c : Cell) × (now ≡ put_cell m word c)

-- the numbers of the mapped pages
abbrev pub mapped_pages : Memory → List ℕ
mapped_pages m = map (λ e. e.0) m.pages

-- a memory with a page more, or one less
abbrev pub HasOtherPage : Memory → Memory → Type 0
HasOtherPage m now = (page : ℕ) ×
    (((page_at m page ≡ None) × (now ≡ map_page m page)) ⊎ ((is_mapped m page ≡ true) × (now ≡ unmap_page m page)))
