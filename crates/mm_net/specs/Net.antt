-- What contracts see of a net, and the runs that it stands for.
use Rattle.std.specs.{Prelude.{◌≡◌, ℕ, ◌+◌, ◌<◌, List, [], map, length, slice_get, Option, Some}, List.{AllZip, sum_by}}
use Rattle.mm_mem.specs.declared.memory.Memory.{Ghosts}
use Rattle.mm_model.specs.{Uses.Use, State.State, Image.Image, Outcomes.IsIdle}
use Rattle.mm_machine.specs.{declared.machine.Machine.Machine, Machine.{state_of, ports_used, StandsTo, Takes}}
use Rattle.mm_net.specs.declared.{link.Link.Link, item.NetItem.{NetItem, TheVariants.{Turn, Send, Carry}}}
use Rattle.mm_net.specs.declared.{tick.NetTick.NetTick, net.Net.Net}
use Rattle.mm_net.specs.Nets.{Carried, NetState, NetStep, nothing_carried, net_start, net_step, net_after, net_run}
use Rattle.mm_net.specs.{Nets.{asked_of, net_uses}, Wires.{link_list, carried_list}}
use Rattle.mm_machine.specs.Machine as machine

module _ {M : Type 0} {memory : Ghosts M} where
  -- 1. The value of a net.

  -- the state of each node, and what each link carried
  abbrev pub net_of : Net M memory → NetState
  net_of net = record { nodes = map state_of net.nodes.items; links = carried_list net.wires.items }

  abbrev pub links_of : Net M memory → List Link
  links_of net = link_list net.wires.items

  -- the most integers that the links may take in all
  abbrev pub room_of : Net M memory → ℕ
  room_of net = net.room

  -- the count of steps so far
  abbrev pub steps_of : Net M memory → ℕ
  steps_of net = net.steps

  -- the node of a number, if there is one
  abbrev pub node_in : Net M memory → ℕ → Option (Machine M memory)
  node_in net n = slice_get net.nodes.items n

  -- the integers that the link of a number carried, if there is one
  abbrev pub carried_in : Net M memory → ℕ → Option Carried
  carried_in net l = slice_get (net_of net).links l

  -- 2. Steps.

  -- the memory of each node is asked what the step asks of it
  pub record NodesTake (old new : Net M memory) (t : NetStep) : Type 0 where
    pub each : (n : ℕ) (before after : Machine M memory) → node_in old n ≡ Some before → node_in new n ≡ Some after
        → Takes before after (asked_of n t)

  -- the net took the step of an item, and this is its tick
  pub record Steps (old new : Net M memory) (item : NetItem) (tick : NetTick) : Type 0 where
    pub state : net_of new ≡ net_after (links_of old) (net_of old) item
    pub told : tick ≡ (net_step (links_of old) (net_of old) item).tick
    pub takes : NodesTake old new (net_step (links_of old) (net_of old) item)
    pub links : links_of new ≡ links_of old
    pub room : room_of new ≡ room_of old
    pub steps : steps_of new ≡ steps_of old + 1

  -- 3. The beginning of a net, and the runs that it stands for.

  -- a machine that has done no cycle and no port call
  abbrev pub IsUnused : Machine M memory → Type 0
  IsUnused m = ((state_of m).cycles ≡ 0) × (ports_used m ≡ 0)

  -- the state of these nodes and links when nothing has been sent
  abbrev pub begun : List (Machine M memory) → List Link → NetState
  begun nodes links = record { nodes = map state_of nodes; links = map (λ (_ : Link). nothing_carried) links }

  -- there are as many images as machines, and each machine is at the start of its image
  abbrev pub AllStart : List Image → List (Machine M memory) → Type 0
  AllStart images nodes = AllZip (λ (i : Image) (m : Machine M memory). machine.StandsFor i [] m) images nodes

  -- the memory of each node was asked these uses
  abbrev pub NodesStandTo : Net M memory → (uses : ℕ → List Use) → Type 0
  NodesStandTo net uses = (n : ℕ) (m : Machine M memory) → node_in net n ≡ Some m → StandsTo m (uses n)

  -- the net is in the state to which the items lead from the start of the images' net, and the memory of each node was
  -- asked what that run asks of it
  pub record StandsFor (images : List Image) (items : List NetItem) (net : Net M memory) : Type 0 where
    pub state : net_of net ≡ net_run (links_of net) (net_start images (links_of net)) items
    pub uses_made : NodesStandTo net (net_uses (links_of net) (net_start images (links_of net)) items)

-- the numbers of both nodes of a link are below the count of nodes
abbrev pub HasNodes : ℕ → Link → Type 0
HasNodes count link = (link.from < count) × (link.to < count)

-- the count of integers that the links took in all
abbrev pub sent_count : NetState → ℕ
sent_count s = sum_by (λ (carried : Carried). length carried.sent) s.links

-- there is room for the integer that an item may send
abbrev pub HasRoom : ℕ → NetState → NetItem → Type 0
HasRoom room s (Send l) = sent_count s < room
HasRoom room s _ = Unit {0}

-- Nothing comes of an item: the node's turn is idle or the node is not there, or the link took or put nothing.
abbrev pub ComesToNothing : (old new : NetState) → NetItem → Type 0
ComesToNothing old new (Turn n item) = (node : State) → slice_get old.nodes n ≡ Some node → IsIdle node.core item
ComesToNothing old new (Send l) = new.links ≡ old.links
ComesToNothing old new (Carry l k) = new.links ≡ old.links
