-- What a link changes of a node.
use Rattle.std.proofs.Common.{◌≡◌, ℕ, inl, inr, List, slice_get, slice_set, Option, Some, sym, ap, ◌∙◌, subst}
use Rattle.mm_model.specs.State.{State}
use Rattle.mm_net.specs.declared.{link.Link.Link, item.NetItem.{NetItem, TheVariants.{Turn, Send, Carry}}}
use Rattle.mm_net.specs.{Nets.{NetState, taken_from, put_into, net_after}, Granted.{IsOfALink, OnlyIntegersEnter}}
use Rattle.mm_net.proofs.{Nodes.set_cases, PortCalls.{only_self, taken_only, put_only}, Steps.{after_take, after_put}}

module _ (nodes : List State) (n : ℕ) (before : State) (at : slice_get nodes n ≡ Some before) where
  same_node : (later : State) → slice_get nodes n ≡ Some later → OnlyIntegersEnter before later
  same_node later is = let same : before ≡ later = cc in subst (OnlyIntegersEnter before) same (only_self before)

  -- of a node that is put, no more is changed of the node that stood there
  put_node : (k : ℕ) (old new : State) → slice_get nodes k ≡ Some old → OnlyIntegersEnter old new → (later : State) → slice_get (slice_set nodes k new) n ≡ Some later → OnlyIntegersEnter before later
  put_node k old new stood only later is = elim (set_cases nodes k n new later is) [
    | inl here ↦
        let found : ◌≡◌ {A = Option State} (Some old) (Some before) = sym stood ∙ ap (slice_get nodes) (sym here.0) ∙ at in
        let same : old ≡ before = cc in
        subst (λ (x : State). OnlyIntegersEnter x later) same (subst (OnlyIntegersEnter old) (sym here.1) only)
    | inr there ↦ same_node later there.1
  ]

pub links_carry : (links : List Link) (s : NetState) (item : NetItem) (n : ℕ) (before after : State) → IsOfALink item
    → slice_get s.nodes n ≡ Some before → slice_get (net_after links s item).nodes n ≡ Some after → OnlyIntegersEnter before after
links_carry links s (Turn node item) n before after h at is = absurd h
links_carry links s (Send l) n before after h at is =
    after_take (λ t. (later : State) → slice_get t.nodes n ≡ Some later → OnlyIntegersEnter before later) links s l (same_node s.nodes n before at)
    (λ link node carried stands here has. put_node s.nodes n before at link.from node (taken_from node link.take) here (taken_only node link.take))
    after is
links_carry links s (Carry l k) n before after h at is =
    after_put (λ t. (later : State) → slice_get t.nodes n ≡ Some later → OnlyIntegersEnter before later) links s l k (same_node s.nodes n before at)
    (λ link node carried bits stands here has next. put_node s.nodes n before at link.to node (put_into node link.put bits) here (put_only node link.put bits))
    after is
