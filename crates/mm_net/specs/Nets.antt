-- A net: machines as nodes, and links that take integers from a word of one node and put them at a word of a node.
use Rattle.std.specs.Prelude.{ℕ, Bool, true, false, not, ◌==◌, if◌then◌else◌, List, [], ◌∷◌, ◌++◌, map, length}
use Rattle.std.specs.Prelude.{slice_get, slice_set, Option, Some, None}
use Rattle.mm_word.specs.declared.perm.Kind.TheVariants.{LoadSet, Store}
use Rattle.mm_word.specs.declared.word.{Pre.TheVariants.{Full, Empty}, Word.TheVariants.Int, Cell.Cell}
use Rattle.mm_word.specs.Word.{word_bits}
use Rattle.mm_model.specs.{declared.step.{Step.Step, Tick.Tick}, Memory.cell_at, Uses.{Use, use_at}, State.State}
use Rattle.mm_model.specs.{Image.{Image, start}, Run.{turn_of, after}}
use Rattle.mm_mem.specs.Answers.{after_load, after_store}
use Rattle.mm_net.specs.declared.{link.Link.Link, item.NetItem.{NetItem, TheVariants.{Turn, Send, Carry}}}
use Rattle.mm_net.specs.declared.tick.NetTick.{NetTick, TheVariants.{Idle, Turned, Sent, Arrived}}
use Rattle.mm_word.specs.declared.word.Post.TheVariants as leaves
use Rattle.mm_model.specs.declared.step.Tick.TheVariants as ticks

-- 1. States.

-- the integers that a link sent, and the oldest of them, which have arrived; both oldest first
pub record Carried : Type 0 where
  pub sent : List ℕ
  pub arrived : List ℕ

-- the state of each node, and what each link carried
pub record NetState : Type 0 where
  pub nodes : List State
  pub links : List Carried

abbrev pub nothing_carried : Carried
nothing_carried = record { sent = []; arrived = [] }

-- the net of these images at its start, when nothing has been sent
abbrev pub net_start : List Image → List Link → NetState
net_start images links = record { nodes = map start images; links = map (λ (_ : Link). nothing_carried) links }

-- the net with this state at a node
abbrev pub with_node : NetState → ℕ → State → NetState
with_node s n state = record s { nodes = slice_set s.nodes n state }

-- the net with this state at a node, and with what a link has carried
abbrev pub with_both : NetState → ℕ → State → ℕ → Carried → NetState
with_both s n state l carried = record { nodes = slice_set s.nodes n state; links = slice_set s.links l carried }

-- the step of an item: the net after it, what comes of it, and what it asks of the memory of which node
pub record NetStep : Type 0 where
  pub net : NetState
  pub tick : NetTick
  pub node : ℕ
  pub uses : List Use

-- the step of an item whose link is not there, or the node at which the link acts, or whose integer is not due: it
-- changes nothing and asks nothing
abbrev pub idles : NetState → NetStep
idles s = record { net = s; tick = Idle; node = 0; uses = [] }

-- 2. A turn of a node.

-- the tick of an idle cycle, or of a turn
abbrev pub turn_tick : Step → Tick → NetTick
turn_tick step ticks.Idle = Idle
turn_tick step _ = Turned step

abbrev pub turns : NetState → ℕ → ℕ → Option State → NetStep
turns s n item None = idles s
turns s n item (Some node) =
    let step = (turn_of node item).step in
    record {
      net = with_node s n (after node item);
      tick = turn_tick step step.tick;
      node = n;
      uses = (turn_of node item).uses;
    }

-- 3. A link takes: if the cell is full, its 64 bits are sent without the tag, and the cell is left empty.

-- the bits of a full cell's word
abbrev pub bits_in : Option Cell → Option ℕ
bits_in None = None
bits_in (Some c) = if c.full then Some (word_bits c.word) else None

abbrev pub with_sent : Carried → Option ℕ → Carried
with_sent carried None = carried
with_sent carried (Some bits) = record carried { sent = carried.sent ++ bits ∷ [] }

abbrev pub sent_tick : Option ℕ → NetTick
sent_tick None = Idle
sent_tick (Some bits) = Sent bits

-- the node after a load with precondition full and postcondition empty
abbrev pub taken_from : State → ℕ → State
taken_from node word = record node { memory = after_load node.memory word Full leaves.Empty }

abbrev pub takes_at : NetState → ℕ → Link → Option State → Option Carried → NetStep
takes_at s l link (Some node) (Some carried) =
    let cell = cell_at node.memory link.take in
    record {
      net = with_both s link.from (taken_from node link.take) l (with_sent carried (bits_in cell));
      tick = sent_tick (bits_in cell);
      node = link.from;
      uses = use_at LoadSet link.take Full cell ∷ [];
    }
takes_at s l link _ _ = idles s

abbrev pub takes : NetState → ℕ → Option Link → NetStep
takes s l None = idles s
takes s l (Some link) = takes_at s l link (slice_get s.nodes link.from) (slice_get s.links l)

-- 4. A link carries the integer of a number, counted from 0 among those that it sent. If that is the next to arrive and
-- the cell is empty, it is put there and the cell is left full.

-- the integer of this number, if it is due
abbrev pub due : Carried → ℕ → Option ℕ
due carried k = if k == length carried.arrived then slice_get carried.sent k else None

-- a cell is there and empty
abbrev pub is_free : Option Cell → Bool
is_free None = false
is_free (Some c) = not c.full

abbrev pub with_arrived : Carried → ℕ → Bool → Carried
with_arrived carried bits false = carried
with_arrived carried bits true = record carried { arrived = carried.arrived ++ bits ∷ [] }

abbrev pub arrived_tick : ℕ → Bool → NetTick
arrived_tick bits false = Idle
arrived_tick bits true = Arrived bits

-- the node after a store with precondition empty and postcondition full
abbrev pub put_into : State → ℕ → ℕ → State
put_into node word bits = record node { memory = after_store node.memory word (Int bits) Empty leaves.Full }

abbrev pub puts_at : NetState → ℕ → Link → Carried → Option State → Option ℕ → NetStep
puts_at s l link carried (Some node) (Some bits) =
    let cell = cell_at node.memory link.put in
    record {
      net = with_both s link.to (put_into node link.put bits) l (with_arrived carried bits (is_free cell));
      tick = arrived_tick bits (is_free cell);
      node = link.to;
      uses = use_at Store link.put Empty cell ∷ [];
    }
puts_at s l link carried _ _ = idles s

abbrev pub puts_of : NetState → ℕ → ℕ → Link → Option Carried → NetStep
puts_of s l k link None = idles s
puts_of s l k link (Some carried) = puts_at s l link carried (slice_get s.nodes link.to) (due carried k)

abbrev pub puts : NetState → ℕ → ℕ → Option Link → NetStep
puts s l k None = idles s
puts s l k (Some link) = puts_of s l k link (slice_get s.links l)

-- 5. Steps and runs.

-- the step of an item
unfoldable pub net_step : List Link → NetState → NetItem → NetStep
net_step links s (Turn n item) = turns s n item (slice_get s.nodes n)
net_step links s (Send l) = takes s l (slice_get links l)
net_step links s (Carry l k) = puts s l k (slice_get links l)

-- the net after an item
unfoldable pub net_after : List Link → NetState → NetItem → NetState
net_after links s item = (net_step links s item).net

-- the net after a list of items
unfoldable pub net_run : List Link → NetState → List NetItem → NetState
net_run links s [] = s
net_run links s (item ∷ items) = net_run links (net_after links s item) items

-- the uses that a step asks of the memory of a node
abbrev pub asked_of : ℕ → NetStep → List Use
asked_of n t = if n == t.node then t.uses else []

-- what a list of items asks of the memory of a node, in order: what its turns ask; a load that sets the bit, each time
-- that a link takes there; and a store for each integer that is carried there when it is due. They are asked also if
-- they find no page or the wrong bit.
unfoldable pub net_uses : List Link → NetState → List NetItem → ℕ → List Use
net_uses links s [] n = []
net_uses links s (item ∷ items) n =
    asked_of n (net_step links s item) ++ net_uses links (net_after links s item) items n
