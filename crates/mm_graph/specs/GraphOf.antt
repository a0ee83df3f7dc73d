-- A graph that stands for an image: each node is a pointer.
use Rattle.std.specs.{Prelude.{◌≡◌, ℕ, ◌<◌, ◌≤◌, ◌^◌, ◌⊎◌, true, List, length, slice_index, Contains, Some}, Int.bit_at}
use Rattle.mm_word.specs.declared.{perm.Perm.TheVariants.{Xp, Eu, Ep}, word.{Word.TheVariants.Ptr, Cell.Cell}}
use Rattle.mm_word.specs.Pointer.{Pointer, IsBelow, enter_result}
use Rattle.mm_model.specs.{Memory.cell_at, Slot.Slot, Image.Image}
use Rattle.mm_model.specs.Reach.{Entries, Grants, MayEnter, Serves, LoadsAt, StoresAt}
use Rattle.mm_flow.specs.declared.node.Right.TheVariants.{Load, Store, Make}
use Rattle.mm_flow.specs.{Edges.{Edges, SharingEdges, low_at, high_at, entry_at, enters_at, right_at}, Flow.Has}
use Rattle.mm_flow.specs.Sharing.{Up}
use Rattle.mm_graph.specs.Summary.{IsPowerless}

-- a node where a mark of the group starts has the pointer below it
pub record Started (node : ℕ → Pointer) (start : List ℕ) (g : ℕ) (q : Pointer) : Type 0 where
  pub at : ℕ
  pub small : at < length start
  pub below : IsBelow q (node at)
  pub marked : Has start at g

-- the first pointer loads a cell of the image that holds a pointer that the second is below
pub record CellOf (i : Image) (p r : Pointer) : Type 0 where
  pub word : ℕ
  pub cell : Cell
  pub holds : Pointer
  pub loads : LoadsAt p word
  pub at : cell_at i.memory word ≡ Some cell
  pub is : cell.word ≡ Ptr holds
  pub below : IsBelow r holds

-- a target of the node has the pointer below it
pub record TargetOf (node : ℕ → Pointer) (n : Edges) (a : ℕ) (size : ℕ) (q : Pointer) : Type 0 where
  pub at : ℕ
  pub low : low_at n a ≤ at
  pub high : at < high_at n a
  pub small : slice_index n.targets at < size
  pub below : IsBelow q (node (slice_index n.targets at))

-- the group may enter by the first pointer, and gets a pointer that the second is below
pub record EntryOf (e : Entries) (g : ℕ) (p r : Pointer) : Type 0 where
  pub may : MayEnter e g p
  pub perm : (p.perm ≡ Eu) ⊎ (p.perm ≡ Ep)
  pub to : Pointer
  pub enters : enter_result p ≡ Some to
  pub below : IsBelow r to

pub record CommonWord (p r : Pointer) : Type 0 where
  pub word : ℕ
  pub stores : StoresAt p word
  pub loads : LoadsAt r word

-- a node that is at or above both nodes
pub record Meet (n : SharingEdges) (size a b : ℕ) : Type 0 where
  pub at : ℕ
  pub small : at < size
  pub left : Up n.parents a at
  pub right : Up n.parents b at

pub record LoadedWord (r : Pointer) : Type 0 where
  pub word : ℕ
  pub small : word < 2 ^ 54
  pub loads : LoadsAt r word

-- if a group enters by the node, the node of its entry has the pointer below it
pub record Entered (node : ℕ → Pointer) (n : Edges) (a g size : ℕ) (q : Pointer) : Type 0 where
  pub kept : bit_at (enters_at n a) g ≡ 1
  pub small : entry_at n a < size
  pub below : IsBelow q (node (entry_at n a))

pub record IsGraphOf (i : Image) (e : Entries) (node : ℕ → Pointer) (n : Edges) (t : SharingEdges)
    (start : List ℕ) : Type 0 where
  pub groups : (s : Slot) → Contains i.slots s → s.group < 64
  pub held : (s : Slot) (q : Pointer) → Contains i.slots s → Contains s.regs (Ptr q) → IsPowerless q
      ⊎ Started node start s.group q
  pub runs : (s : Slot) → Contains i.slots s → IsPowerless s.ip ⊎ Started node start s.group s.ip
  pub starts : (k g : ℕ) → Has start k g → Grants i e g (node k)
  pub cells : (a w : ℕ) (c : Cell) (q : Pointer) → a < length start → LoadsAt (node a) w → cell_at i.memory w ≡ Some c
      → c.word ≡ Ptr q → IsPowerless q ⊎ TargetOf node n a (length start) q
  pub targets : (a j : ℕ) → a < length start → low_at n a ≤ j → j < high_at n a
      → CellOf i (node a) (node (slice_index n.targets j))
  pub enters : (a g : ℕ) (q : Pointer) → a < length start → g < 64 → MayEnter e g (node a) → ((node a).perm ≡ Eu)
      ⊎ ((node a).perm ≡ Ep) → enter_result (node a) ≡ Some q
      → IsPowerless q ⊎ Entered node n a g (length start) q
  pub entries : (a g : ℕ) → a < length start → bit_at (enters_at n a) g ≡ 1 → EntryOf e g (node a) (node (entry_at n a))
  pub loads : (a w : ℕ) → a < length start → LoadsAt (node a) w → right_at t.nodes Load a ≡ true
  pub stores : (a w : ℕ) → a < length start → StoresAt (node a) w → right_at t.nodes Store a ≡ true
  pub rights : (a : ℕ) → a < length start → (node a).perm ≡ Xp → right_at t.nodes Make a ≡ true
  pub meets : (a b w : ℕ) → a < length start → b < length start → StoresAt (node a) w → LoadsAt (node b) w
      → Meet t (length start) a b
  pub meeting : (m a b : ℕ) → m < length start → Up t.parents a m → Up t.parents b m → right_at t.nodes Store a ≡ true
      → right_at t.nodes Load b ≡ true → CommonWord (node a) (node b)
  pub loading : (b : ℕ) → b < length start → right_at t.nodes Load b ≡ true → LoadedWord (node b)
  pub makes : (a : ℕ) → a < length start → right_at t.nodes Make a ≡ true → (node a).perm ≡ Xp
  pub serves : (g h : ℕ) → Serves i g h → Has t.links h g
  pub served : (g h : ℕ) → Has t.links h g → Serves i g h

-- the group marks a node whose pointer this is
pub record Marked (node : ℕ → Pointer) (marks : List ℕ) (g : ℕ) (p : Pointer) : Type 0 where
  pub at : ℕ
  pub small : at < length marks
  pub marked : Has marks at g
  pub is : node at ≡ p
