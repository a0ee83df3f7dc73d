-- The search of one group: its lines so far, for each node its line, and the nodes in the order in which they were
-- found.
use Rattle.std.specs.Prelude.{◌≡◌, ℕ, suc, ◌+◌, ◌<◌, ◌≤◌, ◌≢◌, List, [], ◌∷◌, length, slice_index, slice_index_or}
use Rattle.std.specs.Prelude.{Contains, Option, Some, None}
use Rattle.mm_word.specs.{declared.word.Word.{Word, TheVariants.{Int, Ptr}}, Pointer.{Pointer, IsWellFormed}}
use Rattle.mm_model.specs.{Slot.Slot, Image.Image}
use Rattle.mm_flow.specs.{declared.node.Node.Node, Edges.node_at}
use Rattle.mm_graph.specs.{declared.canonical_ptr.CanonicalPtr.CanonicalPtr, Key.{key_at, standing_key, word_key}}
use Rattle.mm_why.specs.{declared.{line.{Rule.Rule, Line.Line}, search.Search.Search}, Derivations.{line_at, Follows}}
use Rattle.mm_why.specs.Traces.{IsTrace, Extends}

pub record Stage : Type 0 where
  pub lines : List Line
  pub places : List (Option ℕ)
  pub queue : List ℕ

abbrev pub stage_of : Search → Stage
stage_of search = record { lines = search.lines.items; places = search.places.items; queue = search.queue.items }

abbrev pub place_at : List (Option ℕ) → ℕ → Option ℕ
place_at places k = slice_index_or places k None

-- the node has a line
abbrev pub IsPlaced : List (Option ℕ) → ℕ → Type 0
IsPlaced places k = (t : ℕ) × (place_at places k ≡ Some t)

-- the count of nodes without a line
abbrev pub room : List (Option ℕ) → ℕ
room [] = 0
room (None ∷ places) = suc (room places)
room (Some t ∷ places) = room places

-- the node stands for the pointer
pub record AtNode (keys : List CanonicalPtr) (k : ℕ) (p : Pointer) : Type 0 where
  pub small : k < length keys
  pub stands : standing_key p ≡ Some (key_at keys k)
  pub fits : IsWellFormed p

-- What holds while a group is searched: each node with a line is that of the line's pointer, each line of the group is
-- the line of a node, and the nodes with lines are those of the queue.
pub record Searching (i : Image) (keys : List CanonicalPtr) (g : ℕ) (s : Stage) : Type 0 where
  pub len : length s.places ≡ length keys
  pub trace : IsTrace i s.lines
  pub placed : (k t : ℕ) → place_at s.places k ≡ Some t
      → (t < length s.lines) × ((line_at s.lines t).group ≡ g) × AtNode keys k (line_at s.lines t).pointer
  pub lined : (t : ℕ) → t < length s.lines → (line_at s.lines t).group ≡ g → (k : ℕ) × (place_at s.places k ≡ Some t)
  pub queued : (m : ℕ) → m < length s.queue → IsPlaced s.places (slice_index s.queue m)
  pub each : (k : ℕ) → IsPlaced s.places k → (m : ℕ) × (m < length s.queue) × (slice_index s.queue m ≡ k)

-- the search has gone on
pub record Further (old new : Stage) : Type 0 where
  pub lines : Extends old.lines new.lines
  pub places : (k t : ℕ) → place_at old.places k ≡ Some t → place_at new.places k ≡ Some t
  pub queue_len : length old.queue ≤ length new.queue
  pub queue : (m : ℕ) → m < length old.queue → slice_index new.queue m ≡ slice_index old.queue m
  pub room : room new.places + length new.queue ≡ room old.places + length old.queue

-- the search has gone on, by lines of the group alone
pub record Advances (i : Image) (keys : List CanonicalPtr) (g : ℕ) (old new : Stage) : Type 0 where
  pub now : Searching i keys g new
  pub further : Further old new
  pub only : (t : ℕ) → length old.lines ≤ t → t < length new.lines → (line_at new.lines t).group ≡ g

-- by the rule the group is granted the pointer of the word, whatever the lines
abbrev pub HeldBy : Image → ℕ → Word → Rule → Type 0
HeldBy i g word rule = (lines : List Line) (top : ℕ) (p : Pointer) → word ≡ Ptr p → Follows i lines top g p rule
    × IsWellFormed p

-- the node of the word's pointer has a line
abbrev pub WordPlaced : List CanonicalPtr → Word → List (Option ℕ) → Type 0
WordPlaced keys word places = (k : ℕ) → k < length keys → word_key word ≡ Some (key_at keys k) → IsPlaced places k

-- the nodes of the slot's pointers have lines
pub record SlotPlaced (keys : List CanonicalPtr) (s : Slot) (places : List (Option ℕ)) : Type 0 where
  pub ip : WordPlaced keys (Ptr s.ip) places
  pub regs : (r : ℕ) → r < length s.regs → WordPlaced keys (slice_index_or s.regs r (Int 0)) places

-- the slot is one of the image's, with words in its registers
pub record IsSlotOf (i : Image) (s : Slot) : Type 0 where
  pub stands : Contains i.slots s
  pub ip : IsWellFormed s.ip
  pub words : (r : ℕ) (p : Pointer) → slice_index_or s.regs r (Int 0) ≡ Ptr p → IsWellFormed p

-- the slot has this group, this number and these words in its registers
pub record HasWords (s : Slot) (g n : ℕ) (words : List Word) : Type 0 where
  pub group : s.group ≡ g
  pub number : s.number ≡ n
  pub regs : s.regs ≡ words

-- the search has gone on, and the nodes of the pointers among the first words have lines
pub record RegistersPlaced (i : Image) (keys : List CanonicalPtr) (g : ℕ) (words : List Word) (top : ℕ)
    (old new : Stage) : Type 0 where
  pub advances : Advances i keys g old new
  pub regs : (r : ℕ) → r < top → WordPlaced keys (slice_index_or words r (Int 0)) new.places

-- all nodes to which a node leads have lines
pub record IsClosed (nodes : List Node) (targets : List ℕ) (places : List (Option ℕ)) (a : ℕ) : Type 0 where
  pub cells : (j : ℕ) → (node_at nodes a).low ≤ j → j < (node_at nodes a).high → IsPlaced places (slice_index targets j)
  pub entry : (node_at nodes a).enters ≢ 0 → IsPlaced places (node_at nodes a).entry

-- the nodes of the queue before an index lead to nodes with lines
pub record Expanding (i : Image) (keys : List CanonicalPtr) (g : ℕ) (nodes : List Node) (targets : List ℕ) (old : Stage)
    (at : ℕ) (now : Stage) : Type 0 where
  pub advances : Advances i keys g old now
  pub fits : at ≤ length now.queue
  pub closed : (m : ℕ) → m < at → IsClosed nodes targets now.places (slice_index now.queue m)
