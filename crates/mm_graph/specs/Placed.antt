-- Keys with their indices in a list.
use Rattle.std.specs.Prelude.{◌≡◌, ℕ, ◌<◌, ◌++◌, List, length, slice_index, slice_index_or, Contains, map}
use Rattle.std.specs.List.{filter_map}
use Rattle.mm_graph.specs.declared.{canonical_ptr.CanonicalPtr.CanonicalPtr, found.Found.Found, seed.Seed.Seed}
use Rattle.mm_graph.specs.{declared.placed.Placed.Placed, Key.{key_at, no_key, entry_key}}

-- the keys of pointers in cells and of seeds
abbrev pub held_keys : List Found → List Seed → List CanonicalPtr
held_keys found seeds = map (λ (f : Found). f.key) found ++ map (λ (s : Seed). s.key) seeds

-- the keys of pointers in cells and of seeds, and of what entries by them give
abbrev pub all_keys_of : List Found → List Seed → List CanonicalPtr
all_keys_of found seeds = held_keys found seeds ++ filter_map entry_key (held_keys found seeds)

abbrev pub placed_at : List Placed → ℕ → Placed
placed_at placed k = slice_index_or placed k (record { key = no_key; index = 0 })

-- each key with its index, in the order of the list
pub record IsPlacing (keys : List CanonicalPtr) (placed : List Placed) : Type 0 where
  pub len : length placed ≡ length keys
  pub at : (k : ℕ) → k < length keys → placed_at placed k ≡ record { key = key_at keys k; index = k }

-- each key with its index, in any order
pub record IsPlaced (keys : List CanonicalPtr) (placed : List Placed) : Type 0 where
  pub only : (p : Placed) → Contains placed p → (p.index < length keys) × (p.key ≡ key_at keys p.index)
  pub each : (k : ℕ) → k < length keys → Contains placed (record { key = key_at keys k; index = k })

-- the first keys of the list that was given with indices are at these indices among other keys
abbrev pub HasTargets : List CanonicalPtr → List Placed → List ℕ → Type 0
HasTargets keys placed targets = (all : List CanonicalPtr) → IsPlaced all placed → (j : ℕ) → j < length all
    → j < length targets → (slice_index targets j < length keys) × (key_at keys (slice_index targets j) ≡ key_at all j)
