-- Which parties hold the pointer of each node, and how they come to hold more.
use Rattle.std.specs.Prelude.{◌≡◌, ◌⊎◌, ◌↔◌, ℕ, ◌+◌, ◌^◌, ◌<◌, ◌≤◌, Bool, true, false, List, length, slice_index, Contains}
use Rattle.std.specs.Int.{bit_at}
use Rattle.mm_flow.specs.Flow.{Has, room, IsFlow}
use Rattle.mm_flow.specs.{declared.node.{Node.Node, Right.{Right, TheVariants.{Load, Store}}}, Edges.{Edges, right_at}, Sharing.Up}
use Rattle.mm_confine.specs.declared.party.Party.{Party, TheVariants.{Group, KernelSlot}}
use Rattle.mm_hold.specs.declared.{parties.Parties.Parties, sharing.Sharing.Sharing, marks.Marks.Marks}
use Rattle.mm_hold.specs.Parties.{In, Shares, SharedBy}

-- 1. Marks.

abbrev pub parties_at : Marks → ℕ → Parties
parties_at m k = record { groups = slice_index m.groups.items k; slots = slice_index m.slots.items k }

-- a party holds the pointer of a node
abbrev pub Held : Marks → Party → ℕ → Type 0
Held m x k = In x (parties_at m k)

pub record HasSize (m : Marks) (size : ℕ) : Type 0 where
  pub groups : length m.groups.items ≡ size
  pub slots : length m.slots.items ≡ size

-- the distance of the marks from the top
abbrev pub room_of : Marks → ℕ
room_of m = room (2 ^ 64) m.groups.items + room (2 ^ 64) m.slots.items

-- 2. What is given.

-- a mask came to that of a node
pub record AddsMask (node mask : ℕ) (old new : List ℕ) (changed : Bool) : Type 0 where
  pub len : length new ≡ length old
  pub each : (k g : ℕ) → Has new k g ↔ (Has old k g ⊎ ((k ≡ node) × (bit_at mask g ≡ 1)))
  pub still : changed ≡ false → (g : ℕ) → bit_at mask g ≡ 1 → Has old node g
  pub no_rise : room (2 ^ 64) new ≤ room (2 ^ 64) old
  pub falls : changed ≡ true → room (2 ^ 64) new + 1 ≤ room (2 ^ 64) old

-- how much marks may change: their size stays, and what is new takes room
pub record Grows (old new : Marks) (changed : Bool) : Type 0 where
  pub groups : length new.groups.items ≡ length old.groups.items
  pub slots : length new.slots.items ≡ length old.slots.items
  pub no_rise : room_of new ≤ room_of old
  pub falls : changed ≡ true → room_of new + 1 ≤ room_of old

-- parties came to those that hold the pointer of a node
pub record Gives (node : ℕ) (set : Parties) (old new : Marks) (changed : Bool) : Type 0 where
  pub grows : Grows old new changed
  pub each : (x : Party) (k : ℕ) → Held new x k ↔ (Held old x k ⊎ ((k ≡ node) × In x set))
  pub still : changed ≡ false → (x : Party) → In x set → Held old x node

-- these came to what was held
pub record Adds (more : Party → ℕ → Type 0) (old new : Marks) (changed : Bool) : Type 0 where
  pub grows : Grows old new changed
  pub each : (x : Party) (k : ℕ) → Held new x k ↔ (Held old x k ⊎ more x k)
  pub still : changed ≡ false → (x : Party) (k : ℕ) → more x k → Held old x k

-- 3. Spreading.

-- the marks of groups, and those of slots, spread along edges
pub record Spreads (e : Edges) (old new : Marks) : Type 0 where
  pub groups : IsFlow e old.groups.items new.groups.items
  pub slots : IsFlow e old.slots.items new.slots.items

-- 4. Nodes above.

-- a party holds the pointer of a node at or above this one, and the node has the right
pub record HeldAbove (par : List ℕ) (nodes : List Node) (right : Right) (m : Marks) (x : Party) (k : ℕ) : Type 0 where
  pub node : ℕ
  pub up : Up par node k
  pub held : Held m x node
  pub kept : right_at nodes right node ≡ true

-- the marks are of those who hold a pointer with a right at or above each node
pub record AreAbove (par : List ℕ) (nodes : List Node) (right : Right) (m out : Marks) : Type 0 where
  pub size : HasSize out (length m.groups.items)
  pub each : (x : Party) (k : ℕ) → k < length m.groups.items → Held out x k ↔ HeldAbove par nodes right m x k

-- at one of the first nodes the one party is marked here, and the other there
pub record MeetAt (top : ℕ) (here there : Marks) (y x : Party) : Type 0 where
  pub at : ℕ
  pub small : at < top
  pub left : Held here y at
  pub right : Held there x at

-- a party is a group, or a slot of a mask
abbrev pub MayPass : ℕ → Party → Type 0
MayPass senders (Group g) = Unit {0}
MayPass senders (KernelSlot n) = bit_at senders n ≡ 1

-- the number is below
abbrev pub Below : ℕ → Party → Type 0
Below top (Group g) = g < top
Below top (KernelSlot n) = n < top

-- a party that may passes on to another by a store
pub record PassesByStore (meets : Sharing) (senders : ℕ) (y x : Party) : Type 0 where
  pub may : MayPass senders y
  pub meet : Shares meets y x

-- 5. What follows from what is held.

-- what stands behind the doors that groups hold
pub data Behind (behind : List (ℕ × ℕ)) (old : Marks) : Party → ℕ → Type 0 where
  held : (x : Party) (k : ℕ) → Held old x k → Behind behind old x k
  behind : (g d k : ℕ) → Behind behind old (Group g) d → Contains behind (d, k) → Behind behind old (Group g) k

-- the groups that hold a door were given what stands behind it
pub record GivesBehind (behind : List (ℕ × ℕ)) (old new : Marks) (changed : Bool) : Type 0 where
  pub grows : Grows old new changed
  pub keeps : (x : Party) (k : ℕ) → Held old x k → Held new x k
  pub only : (x : Party) (k : ℕ) → Held new x k → Behind behind old x k
  pub same : changed ≡ false → (x : Party) (k : ℕ) → Held new x k → Held old x k
  pub still : changed ≡ false → (g d k : ℕ) → Contains behind (d, k) → Held old (Group g) d → Held old (Group g) k

-- one of the slots hands on the pointer of a node, to whom this says
pub record Handed (handed : List (ℕ × ℕ)) (to : ℕ → Party → Type 0) (x : Party) (k : ℕ) : Type 0 where
  pub slot : ℕ
  pub inside : Contains handed (slot, k)
  pub gets : to slot x

-- a slot that has a row passes on to a party
pub record SlotMeets (meets : Sharing) (n : ℕ) (x : Party) : Type 0 where
  pub small : n < 64
  pub meet : Shares meets (KernelSlot n) x

-- a party that shares holds the pointer of one of the first nodes
pub record SharedAt (top : ℕ) (s : Sharing) (m : Marks) (x : Party) (k : ℕ) : Type 0 where
  pub small : k < top
  pub shared : SharedBy s (parties_at m k) x

-- the parties of the number
abbrev pub IsNumber : ℕ → Party → Type 0
IsNumber n (Group g) = g ≡ n
IsNumber n (KernelSlot m) = m ≡ n

-- a party passes on by a store, and is of the number
pub record PassesInRow (meets : Sharing) (senders n : ℕ) (y x : Party) : Type 0 where
  pub number : IsNumber n y
  pub passes : PassesByStore meets senders y x

-- a party passes on by a store, and its number is below
pub record PassesBelow (meets : Sharing) (senders top : ℕ) (y x : Party) : Type 0 where
  pub number : Below top y
  pub passes : PassesByStore meets senders y x

-- at some node the one party holds a pointer at or above it that stores, and the other one that loads
pub record MeetAbove (par : List ℕ) (nodes : List Node) (m : Marks) (y x : Party) : Type 0 where
  pub at : ℕ
  pub small : at < length m.groups.items
  pub stores : HeldAbove par nodes Store m y at
  pub loads : HeldAbove par nodes Load m x at
