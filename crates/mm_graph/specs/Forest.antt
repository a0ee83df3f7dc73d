-- The parents of the keys of a graph.
use Rattle.std.specs.Prelude.{◌≡◌, ℕ, ◌+◌, ◌-◌, ◌^◌, ◌<◌, List, length, slice_index}
use Rattle.mm_flow.specs.Forest.{IsOrdered, IsForest}
use Rattle.mm_graph.specs.{declared.canonical_ptr.CanonicalPtr.CanonicalPtr, Key.key_at}

-- the base of each key's segment
pub record IsBases (keys : List CanonicalPtr) (bases : List ℕ) : Type 0 where
  pub len : length bases ≡ length keys
  pub at : (k : ℕ) → k < length keys → slice_index bases k ≡ (key_at keys k).base

-- the end of each key's segment
pub record IsEnds (keys : List CanonicalPtr) (ends : List ℕ) : Type 0 where
  pub len : length ends ≡ length keys
  pub at : (k : ℕ) → k < length keys → slice_index ends k ≡ (key_at keys k).base + 2 ^ (54 - (key_at keys k).narrow)

-- the parent of each key is the nearest one whose segment holds its own
pub record HasForest (keys : List CanonicalPtr) (parents : List ℕ) : Type 0 where
  pub bases : List ℕ
  pub logs : List ℕ
  pub ends : List ℕ
  pub is_bases : IsBases keys bases
  pub is_ends : IsEnds keys ends
  pub ordered : IsOrdered bases logs ends
  pub forest : IsForest bases ends parents
  pub len : length parents ≡ length keys
