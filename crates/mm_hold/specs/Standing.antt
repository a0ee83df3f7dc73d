-- What a graph, what passes and the marks of the start stand for.
use Rattle.std.specs.Prelude.{◌≡◌, ◌↔◌, ℕ, ◌<◌, ◌≤◌, true, false, List, length, slice_index, Contains, Some}
use Rattle.std.specs.Int.{bit_at}
use Rattle.mm_word.specs.declared.{perm.Perm.TheVariants.Eu, word.{Word.TheVariants.Ptr, Cell.Cell}}
use Rattle.mm_word.specs.Pointer.{Pointer, IsBelow, enter_result}
use Rattle.mm_model.specs.{Memory.cell_at, Slot.Slot, Image.Image, Reach.{LoadsAt, StoresAt}}
use Rattle.mm_flow.specs.declared.node.Right.TheVariants.{Load, Store}
use Rattle.mm_flow.specs.{Edges.{Edges, low_at, high_at, entry_at, enters_at, right_at}, Sharing.Up}
use Rattle.mm_graph.specs.{declared.canonical_ptr.CanonicalPtr.CanonicalPtr, Marked.node_pointer, Summary.IsPowerless}
use Rattle.mm_graph.specs.GraphOf.{CommonWord}
use Rattle.mm_kernel.specs.Segments.{Segment, is_kept, is_door}
use Rattle.mm_kernel.specs.declared.{form.Form.{TheVariants.{Pointer as Exactly}}}
use Rattle.mm_kernel.specs.declared.thread.Origin.{Origin, TheVariants.{Door, Slot as OfSlot}}
use Rattle.mm_kernel.specs.{Threads.is_kernel, Variants.is_caller}
use Rattle.mm_confine.specs.declared.party.Party.{Party, TheVariants.{Group, KernelSlot}}
use Rattle.mm_hold.specs.declared.{marks.Marks.Marks, edges.Graph.Graph, conduct.Conduct.Conduct, rounds.Passes.Passes}
use Rattle.mm_hold.specs.Parties.{Shares, PassesAlways}
use Rattle.mm_hold.specs.{Marks.Held, Conducts.{HasOrLets, Sends, Gives}, Exactly.Covered, Finding.held_key}

-- 1. The graph.

abbrev pub edges_in : Graph → Edges
edges_in g = record { nodes = g.nodes.items; targets = g.targets.items }

-- one of these nodes is at or above the pointer, unless that is no door and permits nothing
pub data Placed (kept : List Segment) (keys : List CanonicalPtr) (nodes : ℕ → Type 0) (q : Pointer) : Type 0 where
  powerless : is_door kept q ≡ false → IsPowerless q → Placed kept keys nodes q
  at : (k : ℕ) → k < length keys → nodes k → IsBelow q (node_pointer keys k) → Placed kept keys nodes q

-- the first node leads to the second by a pointer in a cell
pub record LeadsTo (e : Edges) (a k : ℕ) : Type 0 where
  pub at : ℕ
  pub low : low_at e a ≤ at
  pub high : at < high_at e a
  pub is : slice_index e.targets at ≡ k

-- the first node leads to the second by an entry that all may make
pub record EntersTo (e : Edges) (a k : ℕ) : Type 0 where
  pub is : entry_at e a ≡ k
  pub all : (x : ℕ) → x < 64 → bit_at (enters_at e a) x ≡ 1

-- the first pointer loads a cell that is not kept, and this holds a pointer that the second is at or below
pub record CellOf (i : Image) (kept : List Segment) (p r : Pointer) : Type 0 where
  pub word : ℕ
  pub cell : Cell
  pub holds : Pointer
  pub loads : LoadsAt p word
  pub out : is_kept kept word ≡ false
  pub at : cell_at i.memory word ≡ Some cell
  pub is : cell.word ≡ Ptr holds
  pub below : IsBelow r holds

-- the first pointer enters without the kernel, and gives a pointer that the second is at or below
pub record EntryOf (kept : List Segment) (p r : Pointer) : Type 0 where
  pub perm : p.perm ≡ Eu
  pub out : is_door kept p ≡ false
  pub to : Pointer
  pub enters : enter_result p ≡ Some to
  pub below : IsBelow r to

-- one of the first nodes has both at or above it
pub record Meet (parents : List ℕ) (size a b : ℕ) : Type 0 where
  pub at : ℕ
  pub small : at < size
  pub left : Up parents a at
  pub right : Up parents b at

-- each node of the graph is a pointer, and its edges are those of cells and of entries
pub record IsGraphOf (i : Image) (kept : List Segment) (g : Graph) : Type 0 where
  pub cells : (a w : ℕ) (c : Cell) (q : Pointer) → a < length g.keys.items → LoadsAt (node_pointer g.keys.items a) w
      → is_kept kept w ≡ false → cell_at i.memory w ≡ Some c → c.word ≡ Ptr q
      → Placed kept g.keys.items (LeadsTo (edges_in g) a) q
  pub targets : (a j : ℕ) → a < length g.keys.items → low_at (edges_in g) a ≤ j → j < high_at (edges_in g) a
      → CellOf i kept (node_pointer g.keys.items a) (node_pointer g.keys.items (slice_index g.targets.items j))
  pub enters : (a : ℕ) (q : Pointer) → a < length g.keys.items → (node_pointer g.keys.items a).perm ≡ Eu
      → is_door kept (node_pointer g.keys.items a) ≡ false → enter_result (node_pointer g.keys.items a) ≡ Some q
      → Placed kept g.keys.items (EntersTo (edges_in g) a) q
  pub entries : (a x : ℕ) → a < length g.keys.items → bit_at (enters_at (edges_in g) a) x ≡ 1
      → EntryOf kept (node_pointer g.keys.items a) (node_pointer g.keys.items (entry_at (edges_in g) a))
  pub loads : (a w : ℕ) → a < length g.keys.items → LoadsAt (node_pointer g.keys.items a) w
      → right_at g.nodes.items Load a ≡ true
  pub stores : (a w : ℕ) → a < length g.keys.items → StoresAt (node_pointer g.keys.items a) w
      → right_at g.nodes.items Store a ≡ true
  pub meets : (a b w : ℕ) → a < length g.keys.items → b < length g.keys.items
      → StoresAt (node_pointer g.keys.items a) w → LoadsAt (node_pointer g.keys.items b) w
      → Meet g.parents.items (length g.keys.items) a b
  pub meeting : (m a b : ℕ) → m < length g.keys.items → Up g.parents.items a m → Up g.parents.items b m
      → right_at g.nodes.items Store a ≡ true → right_at g.nodes.items Load b ≡ true
      → CommonWord (node_pointer g.keys.items a) (node_pointer g.keys.items b)

-- 2. What passes.

-- the node is at or below some such pointer
pub record BelowSome (keys : List CanonicalPtr) (what : Pointer → Type 0) (k : ℕ) : Type 0 where
  pub pointer : Pointer
  pub is : what pointer
  pub below : IsBelow (node_pointer keys k) pointer

-- the key of each pointer that threads have or let out is one of these
abbrev pub HasKeys : Image → List Segment → List CanonicalPtr → Type 0
HasKeys i kept keys =
    (from : Origin) (q : Pointer) (x : CanonicalPtr) → HasOrLets i kept from q → held_key kept q ≡ Some x → Contains keys x

-- the first node is a door, and the second at or below what stands behind it
pub record IsBehind (i : Image) (kept : List Segment) (keys : List CanonicalPtr) (d k : ℕ) : Type 0 where
  pub small : d < length keys
  pub door : is_door kept (node_pointer keys d) ≡ true
  pub some : BelowSome keys (HasOrLets i kept (Door (node_pointer keys d))) k

-- the pairs of a number and a node are of such pointers, and of all of them that permit anything
pub record AreHanded (kept : List Segment) (keys : List CanonicalPtr) (what : ℕ → Pointer → Type 0)
    (nodes : List (ℕ × ℕ)) : Type 0 where
  pub only : (n k : ℕ) → Contains nodes (n, k) → BelowSome keys (what n) k
  pub each : (n : ℕ) (q : Pointer) → what n q → Placed kept keys (λ k. Contains nodes (n, k)) q

pub record AreBehind (i : Image) (kept : List Segment) (keys : List CanonicalPtr) (pairs : List (ℕ × ℕ)) : Type 0 where
  pub only : (d k : ℕ) → Contains pairs (d, k) → IsBehind i kept keys d k
  pub each : (d : ℕ) (q : Pointer) → d < length keys → is_door kept (node_pointer keys d) ≡ true
      → HasOrLets i kept (Door (node_pointer keys d)) q → Placed kept keys (λ k. Contains pairs (d, k)) q

-- what passes is what the kernel's threads pass
pub record ArePasses (i : Image) (kept : List Segment) (c : Conduct) (keys : List CanonicalPtr) (p : Passes) : Type 0 where
  pub sharing : (y x : Party) → Shares p.sharing y x ↔ PassesAlways i kept c i.slots y x
  pub behind : AreBehind i kept keys p.behind.items
  pub sent : AreHanded kept keys (λ n q. Sends i kept n (Exactly q)) p.sent.items
  pub given : AreHanded kept keys (λ n q. Gives i kept n (Exactly q)) p.given.items

-- 3. The start.

-- callers hold what is in their registers, and slots of the kernel what their threads have or let out
pub record AreStarted (i : Image) (kept : List Segment) (keys : List CanonicalPtr) (m : Marks) : Type 0 where
  pub registers : (s : Slot) (q : Pointer) → Contains i.slots s → is_caller kept s ≡ true → Contains s.regs (Ptr q)
      → Covered kept keys m (Group s.group) q
  pub runs : (s : Slot) → Contains i.slots s → is_caller kept s ≡ true → Covered kept keys m (Group s.group) s.ip
  pub has : (n : ℕ) (q : Pointer) → is_kernel i kept n ≡ true → HasOrLets i kept (OfSlot n) q
      → Covered kept keys m (KernelSlot n) q

-- whoever held a pointer still does
abbrev pub Grew : Marks → Marks → Type 0
Grew old new = (x : Party) (k : ℕ) → Held old x k → Held new x k
