-- Nets whose links name nodes, and events by which links take.
use Rattle.std.specs.Prelude.{ℕ, ◌≤◌, Bool, true, false, List, slice_get, IsSomeAnd}
use Rattle.mm_net.specs.{declared.{link.Link.Link, item.NetItem.{NetItem, TheVariants.Send}}, Net.HasNodes}
use Rattle.mm_load.specs.declared.status.Refusal.{Refusal, TheVariants.NoNode}

-- the link with this number names a node that is not there, given the number of nodes
abbrev pub LacksNode : List Link → (count : ℕ) → ℕ → Type 0
LacksNode links count l = IsSomeAnd (slice_get links l) (λ link. ¬ HasNodes count link)

-- the least link that names a node that is not there
pub record FirstLacking (links : List Link) (count : ℕ) (l : ℕ) : Type 0 where
  pub lacks : LacksNode links count l
  pub least : (m : ℕ) → LacksNode links count m → l ≤ m

-- each node that a link names is there
abbrev pub NoneLacking : List Link → (count : ℕ) → Type 0
NoneLacking links count = (l : ℕ) → ¬ LacksNode links count l

-- why links do not join the nodes: one names a node that is not there, and this is the least such link
abbrev pub JoinRefused : List Link → (count : ℕ) → Refusal → Type 0
JoinRefused links count (NoNode l) = FirstLacking links count l
JoinRefused links count r = ⊥

-- a link takes by this event
abbrev pub is_send : NetItem → Bool
is_send (Send l) = true
is_send _ = false
