-- The parts of a graph, for keys and pointers in cells.
use Rattle.std.specs.Prelude.{◌≡◌, ℕ, ◌+◌, ◌^◌, ◌<◌, ◌≤◌, true, false, ◌⊎◌, List, length, slice_index, slice_index_or}
use Rattle.std.specs.Prelude.{Contains, All, Some, None}
use Rattle.mm_word.specs.{Perm.is_privileged, Pointer.{Pointer, base_of}}
use Rattle.mm_model.specs.Slot.{Slot}
use Rattle.mm_flow.specs.{declared.node.Node.Node, Edges.node_at, Flow.Has}
use Rattle.mm_graph.specs.declared.{canonical_ptr.CanonicalPtr.CanonicalPtr, found.Found.Found, seed.Seed.Seed}
use Rattle.mm_graph.specs.Key.{IsKey, IsRising, key_at, no_key, pointer_at, entry_key, loads_words, stores_words}
use Rattle.mm_graph.specs.Key.{is_entry}

-- the keys of pointers in cells and of seeds, with those of entries
pub record IsKeysOf (found : List Found) (seeds : List Seed) (keys : List CanonicalPtr) : Type 0 where
  pub rising : IsRising keys
  pub all : All IsKey keys
  pub of_found : (f : Found) → Contains found f → Contains keys f.key
  pub of_seeds : (s : Seed) → Contains seeds s → Contains keys s.key
  pub of_entries : (k x : CanonicalPtr) → Contains keys k → entry_key k ≡ Some x → Contains keys x

abbrev pub nothing : Found
nothing = record { word = 0; key = no_key }

abbrev pub found_word : List Found → ℕ → ℕ
found_word found j = (slice_index_or found j nothing).word

-- the pointers in cells ascend by address
pub record IsAscending (found : List Found) : Type 0 where
  pub rise : (i j : ℕ) → i < j → j < length found → found_word found i < found_word found j

-- the count of pointers at addresses below `a`
pub record IsBefore (found : List Found) (a r : ℕ) : Type 0 where
  pub fits : r ≤ length found
  pub before : (j : ℕ) → j < r → found_word found j < a
  pub after : (j : ℕ) → r ≤ j → j < length found → a ≤ found_word found j

-- bounds of the count of pointers at addresses below `a`
pub record IsBounds (found : List Found) (a low high : ℕ) : Type 0 where
  pub order : low ≤ high
  pub fits : high ≤ length found
  pub before : (j : ℕ) → j < low → found_word found j < a
  pub after : (j : ℕ) → high ≤ j → j < length found → a ≤ found_word found j

-- the indices from `low` up to `high` are those of the pointers in cells that a pointer loads
pub record IsRange (found : List Found) (p : Pointer) (low high : ℕ) : Type 0 where
  pub order : low ≤ high
  pub fits : high ≤ length found
  pub none : loads_words p ≡ false → high ≡ low
  pub inside : loads_words p ≡ true → (j : ℕ) → low ≤ j → j < high → (base_of p ≤ found_word found j)
      × (found_word found j < base_of p + 2 ^ p.log)
  pub each : loads_words p ≡ true → (j : ℕ) → j < length found → base_of p ≤ found_word found j
      → found_word found j < base_of p + 2 ^ p.log → (low ≤ j) × (j < high)

-- the marks are those of the seeds
pub record IsMarks (keys : List CanonicalPtr) (seeds : List Seed) (marks : List ℕ) : Type 0 where
  pub len : length marks ≡ length keys
  pub only : (k g : ℕ) → Has marks k g → (g < 64) × Contains seeds (record { group = g; key = key_at keys k })
  pub each : (k g : ℕ) → k < length keys → g < 64 → Contains seeds (record { group = g; key = key_at keys k })
      → Has marks k g

-- the node of the key at an index, by which the groups of a mask may enter
pub record IsNode (keys : List CanonicalPtr) (found : List Found) (mask k : ℕ) (n : Node) : Type 0 where
  pub range : IsRange found (pointer_at (key_at keys k)) n.low n.high
  pub small : n.entry < length keys
  pub loads : n.loads ≡ loads_words (pointer_at (key_at keys k))
  pub stores : n.stores ≡ stores_words (pointer_at (key_at keys k))
  pub makes : n.makes ≡ is_privileged (pointer_at (key_at keys k)).perm
  pub enters : (x : CanonicalPtr) → is_entry (pointer_at (key_at keys k)).perm ≡ true
      → entry_key (key_at keys k) ≡ Some x → (n.enters ≡ mask) × (key_at keys n.entry ≡ x)
  pub no_entry : (is_entry (pointer_at (key_at keys k)).perm ≡ false) ⊎ (entry_key (key_at keys k) ≡ None)
      → n.enters ≡ 0

pub record IsNodes (keys : List CanonicalPtr) (found : List Found) (masks : List ℕ) (nodes : List Node) : Type 0 where
  pub len : length nodes ≡ length keys
  pub each : (k : ℕ) → k < length keys → IsNode keys found (slice_index masks k) k (node_at nodes k)

-- each target is the index of the key of a pointer in a cell
pub record IsTargets (keys : List CanonicalPtr) (found : List Found) (targets : List ℕ) : Type 0 where
  pub len : length targets ≡ length found
  pub small : (j : ℕ) → j < length found → slice_index targets j < length keys
  pub at : (j : ℕ) → j < length found → key_at keys (slice_index targets j) ≡ (slice_index_or found j nothing).key

-- a slot is of one of two groups, and its handler is of the other
pub record AreLinked (slots : List Slot) (g h : ℕ) : Type 0 where
  pub served : Slot
  pub server : Slot
  pub one : Contains slots served
  pub other : Contains slots server
  pub handled : served.handler ≡ Some server.number
  pub groups : ((served.group ≡ g) × (server.group ≡ h)) ⊎ ((served.group ≡ h) × (server.group ≡ g))

pub record IsLinks (slots : List Slot) (links : List ℕ) : Type 0 where
  pub len : length links ≡ 64
  pub only : (g h : ℕ) → Has links h g → AreLinked slots g h
  pub each : (g h : ℕ) → g < 64 → h < 64 → AreLinked slots g h → Has links h g
