-- How the graph of the pointers that parties may come to hold is made, and the nodes of pointers that are handed on.
use Rattle.std.specs.Prelude.{◌≡◌, ℕ, ◌-◌, ◌^◌, ◌<◌, ◌==◌, ◌&&◌, nat_lt, not, if◌then◌else◌, List, ◌++◌, length, map, All}
use Rattle.std.specs.Prelude.{Contains, Option, Some, None}
use Rattle.mm_word.specs.Pointer.{SpellsPointer, pointer_of, spells_pointer}
use Rattle.mm_model.specs.Image.{Image}
use Rattle.mm_flow.specs.declared.node.Right.TheVariants.{Load, Store}
use Rattle.mm_flow.specs.{Edges.right_at, Flow.Fits}
use Rattle.mm_graph.specs.declared.{canonical_ptr.CanonicalPtr.CanonicalPtr, found.Found.Found, seed.Seed.Seed}
use Rattle.mm_graph.specs.Key.{IsKey, IsRising, key_at, pointer_at, loads_words, stores_words}
use Rattle.mm_graph.specs.{Found.seed_at, Nodes.{IsAscending, IsKeysOf, IsMarks, IsNodes, IsTargets}, Forest.HasForest, Marked.node_pointer}
use Rattle.mm_kernel.specs.{Segments.{Segment, is_door, is_enter}, Threads.is_kernel}
use Rattle.mm_hold.specs.declared.{edges.Graph.Graph, graph.Start.Start}
use Rattle.mm_hold.specs.{Finding.{cell_found, held_key, pages_with}, Passing.DoorAt, Standing.edges_in}

-- 1. Nodes of pointers.

-- the key of the pointer that bits spell
abbrev pub bits_key : List Segment → ℕ → Option CanonicalPtr
bits_key kept bits = if spells_pointer bits then held_key kept (pointer_of bits) else None

-- the node stands for the pointer of these bits
pub record BitsAt (kept : List Segment) (keys : List CanonicalPtr) (bits k : ℕ) : Type 0 where
  pub spells : SpellsPointer bits
  pub small : k < length keys
  pub is : held_key kept (pointer_of bits) ≡ Some (key_at keys k)

-- the answer is the node for the pointer of these bits; if there is none, no node stands for it
abbrev pub IsBitsNode : List Segment → List CanonicalPtr → ℕ → Option ℕ → Type 0
IsBitsNode kept keys bits None = (k : ℕ) → BitsAt kept keys bits k → ⊥
IsBitsNode kept keys bits (Some k) = BitsAt kept keys bits k

-- 2. Seeds.

-- the number that a seed has for an origin: that of its slot, if it is one of the kernel, or one that marks nothing
abbrev pub seed_number : Image → List Segment → ℕ × ℕ → ℕ
seed_number i kept o = if ((o.0 == 1) && nat_lt o.1 64) && is_kernel i kept o.1 then o.1 else 255

-- the seed of a pointer that threads of an origin have or let out
abbrev pub had_seeds : Image → List Segment → (ℕ × ℕ) × ℕ → List Seed
had_seeds i kept h = seed_at (seed_number i kept h.0) (bits_key kept h.1)

-- 3. Parts of the graph.

-- the pointers in cells that are not kept
abbrev pub found_of : Image → List Segment → List Found
found_of i kept = pages_with (cell_found kept) i.memory.pages

-- all parties enter by an enter pointer to user code that is no door, and none by any other pointer
abbrev pub entry_mask : List Segment → CanonicalPtr → ℕ
entry_mask kept key = if is_enter (pointer_at key).perm && not (is_door kept (pointer_at key)) then 2 ^ 64 - 1 else 0

-- the keys of the pointers in cells and of seeds, and the nodes of those in cells
pub record ArePlaces (i : Image) (kept : List Segment) (seeds : List Seed) (found : List Found)
    (keys : List CanonicalPtr) (targets : List ℕ) : Type 0 where
  pub is_found : found ≡ found_of i kept
  pub ascends : IsAscending (found_of i kept)
  pub is_keys : IsKeysOf (found_of i kept) seeds keys
  pub is_targets : IsTargets keys (found_of i kept) targets

pub record IsBuilt (i : Image) (kept : List Segment) (seeds : List Seed) (g : Graph) : Type 0 where
  pub is_keys : IsKeysOf (found_of i kept) seeds g.keys.items
  pub is_nodes : IsNodes g.keys.items (found_of i kept) (map (entry_mask kept) g.keys.items) g.nodes.items
  pub is_targets : IsTargets g.keys.items (found_of i kept) g.targets.items
  pub has_forest : HasForest g.keys.items g.parents.items

-- a graph with the pointers of callers and of threads, and where the marks start that these make
pub record IsStart (i : Image) (kept : List Segment) (callers threads : List Seed) (s : Start) : Type 0 where
  pub built : IsBuilt i kept (callers ++ threads) s.graph
  pub groups : IsMarks s.graph.keys.items callers s.groups.items
  pub slots : IsMarks s.graph.keys.items threads s.slots.items

-- the parts of a graph are of one size, and its nodes have the rights of their pointers
pub record IsShaped (g : Graph) : Type 0 where
  pub rising : IsRising g.keys.items
  pub keys : All IsKey g.keys.items
  pub nodes : length g.nodes.items ≡ length g.keys.items
  pub parents : length g.parents.items ≡ length g.keys.items
  pub edges : Fits (edges_in g) (length g.keys.items)
  pub loads : (k : ℕ) → k < length g.keys.items
      → right_at g.nodes.items Load k ≡ loads_words (node_pointer g.keys.items k)
  pub stores : (k : ℕ) → k < length g.keys.items
      → right_at g.nodes.items Store k ≡ stores_words (node_pointer g.keys.items k)

-- 4. What is handed on, and what stands behind doors.

-- the number is that of the slot, and the node stands for the pointer of these bits
pub record HandsAt (kept : List Segment) (keys : List CanonicalPtr) (slot bits : ℕ) (h : ℕ × ℕ) : Type 0 where
  pub number : h.0 ≡ slot
  pub at : BitsAt kept keys bits h.1

-- a slot hands on the pointer of some bits, for which the node stands
pub record HandedAt (kept : List Segment) (keys : List CanonicalPtr) (handed : List (ℕ × ℕ)) (h : ℕ × ℕ) : Type 0 where
  pub bits : ℕ
  pub inside : Contains handed (h.0, bits)
  pub at : BitsAt kept keys bits h.1

-- the first node is that of the door of some bits, and the second stands for the pointer of others
pub record StandsBehind (kept : List Segment) (keys : List CanonicalPtr) (door bits : ℕ) (b : ℕ × ℕ) : Type 0 where
  pub node : DoorAt kept keys door b.0
  pub at : BitsAt kept keys bits b.1

-- the origin is a door
pub record ThroughDoor (kept : List Segment) (keys : List CanonicalPtr) (o : ℕ × ℕ) (bits : ℕ) (b : ℕ × ℕ) : Type 0 where
  pub kind : o.0 ≡ 0
  pub stands : StandsBehind kept keys o.1 bits b

-- threads through the door of the first node have or let out a pointer, for which the second node stands
pub record BehindAt (kept : List Segment) (keys : List CanonicalPtr) (had : List ((ℕ × ℕ) × ℕ)) (b : ℕ × ℕ) : Type 0 where
  pub door : ℕ
  pub bits : ℕ
  pub inside : Contains had ((0, door), bits)
  pub stands : StandsBehind kept keys door bits b
