-- What a step leaves of a net, by cases: the net as it was, or what a turn, a take or a put leaves.
use Rattle.std.proofs.Common.{◌≡◌, ℕ, List, [], ◌∷◌, slice_get, Option, Some, None, refl}
use Rattle.mm_model.specs.{Memory.cell_at, State.State, Run.after}
use Rattle.mm_net.specs.declared.{link.Link.Link, item.NetItem.{NetItem, TheVariants.{Turn, Send, Carry}}}
use Rattle.mm_net.specs.Nets.{Carried, NetState, NetStep, idles, with_node, with_both, turns, bits_in, with_sent}
use Rattle.mm_net.specs.Nets.{taken_from, takes_at, takes, due, is_free, with_arrived, put_into, puts_at, puts_of, puts}
use Rattle.mm_net.specs.Nets.{net_step, net_after, net_run}

-- 1. Steps of links.

module _ (links : List Link) (s : NetState) (l : ℕ) where
  -- what holds of a step that does nothing, and of each in which a link can take, holds of the step
  pub take_cases : (P : NetStep → Type 0) → P (idles s)
      → ((link : Link) (node : State) (carried : Carried) → slice_get links l ≡ Some link → slice_get s.nodes link.from ≡ Some node → slice_get s.links l ≡ Some carried
      → P (takes_at s l link (Some node) (Some carried)))
      → P (net_step links s (Send l))
  unfolding net_step
  take_cases P idle taken = by (slice_get links l) refl
    where
      by_ends : (link : Link) → slice_get links l ≡ Some link → (o : Option State) (p : Option Carried) → slice_get s.nodes link.from ≡ o → slice_get s.links l ≡ p → P (takes_at s l link o p)
      by_ends link at None p is has = idle
      by_ends link at (Some node) None is has = idle
      by_ends link at (Some node) (Some carried) is has = taken link node carried at is has

      by : (o : Option Link) → slice_get links l ≡ o → P (takes s l o)
      by None at = idle
      by (Some link) at = by_ends link at (slice_get s.nodes link.from) (slice_get s.links l) refl refl

  -- and likewise where it can put the integer that is due
  pub put_cases : (k : ℕ) (P : NetStep → Type 0) → P (idles s)
      → ((link : Link) (node : State) (carried : Carried) (bits : ℕ) → slice_get links l ≡ Some link → slice_get s.nodes
      link.to ≡ Some node → slice_get s.links l ≡ Some carried → due carried k ≡ Some bits
      → P (puts_at s l link carried (Some node) (Some bits)))
      → P (net_step links s (Carry l k))
  unfolding net_step
  put_cases k P idle put = by (slice_get links l) refl
    where
      by_ends : (link : Link) (carried : Carried) → slice_get links l ≡ Some link → slice_get s.links l ≡ Some carried
          → (o : Option State) (p : Option ℕ) → slice_get s.nodes link.to ≡ o → due carried k ≡ p
          → P (puts_at s l link carried o p)
      by_ends link carried at has None p is next = idle
      by_ends link carried at has (Some node) None is next = idle
      by_ends link carried at has (Some node) (Some bits) is next = put link node carried bits at is has next

      by_carried : (link : Link) → slice_get links l ≡ Some link → (p : Option Carried) → slice_get s.links l ≡ p → P (puts_of s l k link p)
      by_carried link at None has = idle
      by_carried link at (Some carried) has = by_ends link carried at has (slice_get s.nodes link.to) (due carried k) refl refl

      by : (o : Option Link) → slice_get links l ≡ o → P (puts s l k o)
      by None at = idle
      by (Some link) at = by_carried link at (slice_get s.links l) refl

-- 2. What is left.

module _ (P : NetState → Type 0) (links : List Link) (s : NetState) where
  -- what holds of the net where the node is not there, and with each node's state after its turn where it is, holds after a turn
  pub after_turn : (n item : ℕ) → (slice_get s.nodes n ≡ None → P s) → ((node : State) → slice_get s.nodes n ≡ Some node → P (with_node s n (after node item))) → P (net_after links s (Turn n item))
  unfolding net_step net_after
  after_turn n item same turned = by (slice_get s.nodes n) refl
    where
      by : (o : Option State) → slice_get s.nodes n ≡ o → P (turns s n item o).net
      by None is = same is
      by (Some node) is = turned node is

  -- what holds of the net, and of each that a take of the link can leave, holds after the link took
  pub after_take : (l : ℕ) → P s
      → ((link : Link) (node : State) (carried : Carried) → slice_get links l ≡ Some link → slice_get s.nodes link.from ≡ Some node → slice_get s.links l ≡ Some carried
      → P (with_both s link.from (taken_from node link.take) l (with_sent carried (bits_in (cell_at node.memory link.take)))))
      → P (net_after links s (Send l))
  unfolding net_after
  after_take l = take_cases links s l (λ t. P t.net)

  -- and likewise of a put of the integer that is due
  pub after_put : (l k : ℕ) → P s
      → ((link : Link) (node : State) (carried : Carried) (bits : ℕ) → slice_get links l ≡ Some link → slice_get s.nodes
      link.to ≡ Some node → slice_get s.links l ≡ Some carried → due carried k ≡ Some bits
      → P (with_both s link.to (put_into node link.put bits) l (with_arrived carried bits (is_free (cell_at node.memory link.put)))))
      → P (net_after links s (Carry l k))
  unfolding net_after
  after_put l k = put_cases links s l k (λ t. P t.net)

-- what each item keeps, each list of items keeps
pub after_run : (P : NetState → Type 0) (links : List Link) → ((s : NetState) (item : NetItem) → P s
    → P (net_after links s item)) → (s : NetState) (items : List NetItem) → P s → P (net_run links s items)
unfolding net_run
after_run P links keeps s [] h = h
after_run P links keeps s (item ∷ items) h = after_run P links keeps (net_after links s item) items (keeps s item h)
