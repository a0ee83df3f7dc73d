-- What the items of a net do, said without the model's functions.
use Rattle.std.specs.Prelude.{◌≡◌, ◌≢◌, ◌↔◌, ℕ, true, false, ◌==◌, if◌then◌else◌, List, [], ◌∷◌, ◌++◌, length}
use Rattle.std.specs.Prelude.{slice_get, Some}
use Rattle.mm_word.specs.{declared.word.Word.{Word, TheVariants.Int}, Word.word_bits}
use Rattle.mm_model.specs.{Memory.{Memory, cell_at}, State.State, Image.{Image, start}, Run.{run, uses}}
use Rattle.mm_net.specs.declared.{link.Link.Link, item.NetItem.{NetItem, TheVariants.{Turn, Send, Carry}}}
use Rattle.mm_net.specs.declared.tick.NetTick.{NetTick, TheVariants.{Idle, Sent, Arrived}}
use Rattle.mm_net.specs.Nets.{Carried, NetState, NetStep, net_start, net_step, net_after, net_run, net_uses}

-- 1. Links.

-- a step in which nothing comes of the item, and nothing is changed
pub record IdleStep (s : NetState) (t : NetStep) : Type 0 where
  pub tick : t.tick ≡ Idle
  pub net : t.net ≡ s

abbrev pub StaysIdle : List Link → NetState → NetItem → Type 0
StaysIdle links s item = IdleStep s (net_step links s item)

-- a word has a full cell that holds this
abbrev pub IsFull : Memory → ℕ → Word → Type 0
IsFull m w word = cell_at m w ≡ Some (record { word = word; full = true })

-- a word has an empty cell that holds this
abbrev pub IsEmpty : Memory → ℕ → Word → Type 0
IsEmpty m w word = cell_at m w ≡ Some (record { word = word; full = false })

-- the node is unchanged but for the cell at one word
pub record ChangesOneCell (before after : State) (w : ℕ) : Type 0 where
  pub core : after.core ≡ before.core
  pub cycles : after.cycles ≡ before.cycles
  pub frames : after.memory.frames ≡ before.memory.frames
  pub others : (v : ℕ) → v ≢ w → cell_at after.memory v ≡ cell_at before.memory v

-- all nodes but one, and all links but one, are unchanged
pub record ChangesOneEnd (s t : NetState) (n l : ℕ) : Type 0 where
  pub nodes : (m : ℕ) → m ≢ n → slice_get t.nodes m ≡ slice_get s.nodes m
  pub links : (k : ℕ) → k ≢ l → slice_get t.links k ≡ slice_get s.links k

-- The link and its node are there, and the cell at which the link takes is full and holds a word of these bits.
pub record CanTake (links : List Link) (s : NetState) (l bits : ℕ) : Type 0 where
  pub link : Link
  pub there : slice_get links l ≡ Some link
  pub carried : Carried
  pub carries : slice_get s.links l ≡ Some carried
  pub node : State
  pub at : slice_get s.nodes link.from ≡ Some node
  pub word : Word
  pub full : IsFull node.memory link.take word
  pub spelled : word_bits word ≡ bits

-- The link took: its cell is empty, with the same word, and the bits are the last that the link sent.
pub record Took (links : List Link) (s t : NetState) (l bits : ℕ) : Type 0 where
  pub can : CanTake links s l bits
  pub node : State
  pub at : slice_get t.nodes can.link.from ≡ Some node
  pub cell : IsEmpty node.memory can.link.take can.word
  pub one_cell : ChangesOneCell can.node node can.link.take
  pub sent : slice_get t.links l ≡ Some (record { sent = can.carried.sent ++ bits ∷ []; arrived = can.carried.arrived })
  pub one_end : ChangesOneEnd s t can.link.from l

-- The link and its node are there; the number is the count of integers that have arrived by the link, and the integer
-- of that number is this one; and the cell at which the link puts is empty.
pub record CanPut (links : List Link) (s : NetState) (l number bits : ℕ) : Type 0 where
  pub link : Link
  pub there : slice_get links l ≡ Some link
  pub carried : Carried
  pub carries : slice_get s.links l ≡ Some carried
  pub node : State
  pub at : slice_get s.nodes link.to ≡ Some node
  pub next : number ≡ length carried.arrived
  pub integer : slice_get carried.sent number ≡ Some bits
  pub word : Word
  pub empty : IsEmpty node.memory link.put word

-- The link put: its cell is full, with the integer, and the bits are the last that arrived.
pub record Put (links : List Link) (s t : NetState) (l number bits : ℕ) : Type 0 where
  pub can : CanPut links s l number bits
  pub node : State
  pub at : slice_get t.nodes can.link.to ≡ Some node
  pub cell : IsFull node.memory can.link.put (Int bits)
  pub one_cell : ChangesOneCell can.node node can.link.put
  pub arrived : slice_get t.links l
      ≡ Some (record { sent = can.carried.sent; arrived = can.carried.arrived ++ bits ∷ [] })
  pub one_end : ChangesOneEnd s t can.link.to l

-- a link takes and puts exactly if it can, and if it cannot, nothing changes
pub record LinksActExactly : Type 0 where
  pub takes : (links : List Link) (s : NetState) (l bits : ℕ) → ((net_step links s (Send l)).tick ≡ Sent bits)
      ↔ CanTake links s l bits
  pub took : (links : List Link) (s : NetState) (l bits : ℕ) → CanTake links s l bits
      → Took links s (net_after links s (Send l)) l bits
  pub puts : (links : List Link) (s : NetState) (l number bits : ℕ)
      → ((net_step links s (Carry l number)).tick ≡ Arrived bits) ↔ CanPut links s l number bits
  pub put : (links : List Link) (s : NetState) (l number bits : ℕ) → CanPut links s l number bits
      → Put links s (net_after links s (Carry l number)) l number bits
  pub takes_none : (links : List Link) (s : NetState) (l : ℕ) → ((bits : ℕ) → ¬ CanTake links s l bits)
      → StaysIdle links s (Send l)
  pub puts_none : (links : List Link) (s : NetState) (l number : ℕ) → ((bits : ℕ) → ¬ CanPut links s l number bits)
      → StaysIdle links s (Carry l number)

-- 2. The ticks of the items of a link.

abbrev pub told_sent : ℕ → NetItem → NetTick → List ℕ
told_sent l (Send link) (Sent bits) = if l == link then bits ∷ [] else []
told_sent l _ _ = []

abbrev pub told_arrived : ℕ → NetItem → NetTick → List ℕ
told_arrived l (Carry link number) (Arrived bits) = if l == link then bits ∷ [] else []
told_arrived l _ _ = []

-- the integers that the ticks of a list of items tell, in order
unfoldable pub told : (NetItem → NetTick → List ℕ) → List Link → NetState → List NetItem → List ℕ
told tells links s [] = []
told tells links s (item ∷ items) =
    tells item (net_step links s item).tick ++ told tells links (net_after links s item) items

-- the integers that a link sent, and those that arrived by it, are the ones that its ticks tell, in order
pub record IsTold (l : ℕ) (links : List Link) (s : NetState) (items : List NetItem) (carried : Carried) : Type 0 where
  pub sent : carried.sent ≡ told (told_sent l) links s items
  pub arrived : carried.arrived ≡ told (told_arrived l) links s items

abbrev pub LinksTellWhatTheyCarry : Type 0
LinksTellWhatTheyCarry =
    (images : List Image) (links : List Link) (items : List NetItem) (l : ℕ) (carried : Carried)
    → slice_get (net_run links (net_start images links) items).links l ≡ Some carried
    → IsTold l links (net_start images links) items carried

-- 3. Nodes without links.

abbrev pub item_of : ℕ → NetItem → List ℕ
item_of n (Turn node item) = if n == node then item ∷ [] else []
item_of n _ = []

-- the items of a node's turns, in order
abbrev pub items_of : ℕ → List NetItem → List ℕ
items_of n [] = []
items_of n (item ∷ items) = item_of n item ++ items_of n items

-- a node is in the state to which the run of its own items leads, and its memory was asked what that run asks
pub record RunsAlone (n : ℕ) (i : Image) (images : List Image) (items : List NetItem) : Type 0 where
  pub state : slice_get (net_run [] (net_start images []) items).nodes n ≡ Some (run (start i) (items_of n items))
  pub uses_made : net_uses [] (net_start images []) items n ≡ uses (start i) (items_of n items)

abbrev pub NodesRunAlone : Type 0
NodesRunAlone = (images : List Image) (items : List NetItem) (n : ℕ) (i : Image) → slice_get images n ≡ Some i
    → RunsAlone n i images items
