-- Putting a memory to that of other names.
use Rattle.std.specs.Prelude.{◌≡◌, ◌⊎◌, ◌≢◌, ℕ, ◌<◌, ◌≤◌, List, length, slice_get, slice_index_or, Option, Some}
use Rattle.std.specs.List.{AllZip}
use Rattle.mm_word.specs.declared.word.Cell.{Cell}
use Rattle.mm_model.specs.Memory.{Memory, page_at, zero_cell, IsPaged}
use Rattle.mm_mem.specs.Plain.{Plain}
use Rattle.mm_pairs.specs.{Named.IsNameOf, Trees.{changed, leaves, IsTree}}
use Rattle.mm_config.specs.declared.{store.Store.Store, put_memory.Changes.Changes}
use Rattle.mm_config.specs.{Naming.{IsPageName, IsOrNone}, Places.{page_place, HaveOnePlace}}

-- names on their way to others: each is the old or the new one, and a change is made exactly if it is done
pub record IsOnWay (was names : List ℕ) (IsDone : (index name : ℕ) → Type 0) (now : List ℕ) : Type 0 where
  pub long : length now ≡ length was
  pub either : (p : ℕ) → (slice_index_or now p 0 ≡ slice_index_or was p 0) ⊎ (slice_index_or now p 0 ≡ slice_index_or names p 0)
  pub done : (j : ℕ) (e : ℕ × ℕ) → slice_get (changed 0 was names) j ≡ Some e → IsDone j e.1 → slice_index_or now e.0 0 ≡ e.1
  pub rest : (j : ℕ) (e : ℕ × ℕ) → slice_get (changed 0 was names) j ≡ Some e → (IsDone j e.1 → ⊥)
      → slice_index_or now e.0 0 ≡ slice_index_or was e.0 0

-- the pages of a memory have these names, by their places
pub record HasPages (k : Store) (m : Memory) (names : List ℕ) : Type 0 where
  pub inside : (p : ℕ) → length k.pages ≤ p → slice_index_or names p 0 ≡ 0
  pub pages : (q : ℕ) → IsOrNone (IsPageName k) (page_at m q) (slice_index_or names (page_place k.pages q) 0)

-- a page of a memory is put, and nothing else is changed
pub record HasPut (old new : Plain) (number : ℕ) (page : Option (List Cell)) : Type 0 where
  pub is : page_at new.memory number ≡ page
  pub others : (q : ℕ) → q ≢ number → page_at new.memory q ≡ page_at old.memory q
  pub frames : new.memory.frames ≡ old.memory.frames
  pub uses : new.uses ≡ old.uses

-- the names of pages from which changes lead, and those to which they lead
abbrev pub old_pages : Store → Changes → List ℕ
old_pages k c = leaves k.pairs c.height c.before

abbrev pub new_pages : Store → Changes → List ℕ
new_pages k c = leaves k.pairs c.height c.after

-- changes lead from a memory to one for which there are frames
pub record CanPut (k : Store) (old : Plain) (c : Changes) : Type 0 where
  pub before : IsTree k.pairs c.height c.before
  pub after : IsTree k.pairs c.height c.after
  pub few : c.height ≤ 32
  pub list : c.list.now ≡ changed 0 (old_pages k c) (new_pages k c)
  pub places : HaveOnePlace k.pages
  pub was : HasPages k old.memory (old_pages k c)
  pub paged : IsPaged old.memory
  pub wanted : Memory
  pub whole : IsPaged wanted
  pub frames : wanted.frames ≡ old.memory.frames
  pub names : HasPages k wanted (new_pages k c)

-- some changes are made in a memory
pub record IsPutSoFar (k : Store) (c : Changes) (IsDone : (index name : ℕ) → Type 0) (old new : Plain) : Type 0 where
  pub now : List ℕ
  pub way : IsOnWay (old_pages k c) (new_pages k c) IsDone now
  pub pages : HasPages k new.memory now
  pub frames : new.memory.frames ≡ old.memory.frames
  pub uses : new.uses ≡ old.uses

-- the first changes of the cells of a page are made
pub record AreCellsSoFar (k : Store) (was wanted n number : ℕ) (old new : Plain) : Type 0 where
  pub cells : List Cell
  pub names : List ℕ
  pub way : IsOnWay (leaves k.pairs 9 was) (leaves k.pairs 9 wanted) (λ index name. index < n) names
  pub are : AllZip (λ cell leaf. IsNameOf zero_cell k.cells leaf cell) cells names
  pub put : HasPut old new number (Some cells)
