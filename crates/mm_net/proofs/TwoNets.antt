-- Two runs of nets: each is alike to the run of the groups' items alone, and so they are alike.
use Rattle.std.proofs.Common.{◌≡◌, ℕ, Bool, List, [], ◌∷◌, slice_get, Option, Some, refl, sym, ◌∙◌, subst}
use Rattle.mm_model.specs.{State.State, Image.Image, Worlds.Agree}
use Rattle.mm_laws.{specs.{Isolated.{Alike as AlikeStates, AgreeApart}}, proofs.AlikeWorlds.touchable_other}
use Rattle.mm_net.specs.declared.{link.Link.Link, item.NetItem.NetItem}
use Rattle.mm_net.specs.Nets.{NetState, net_start, net_after, net_run}
use Rattle.mm_net.specs.Isolated.{AreItemsOf, HaveSameCell, NetsAgreeApart, AlikeNodes, AlikeNets, NetWorlds}
use Rattle.mm_net.proofs.{BothNets.{NodesAt, Both, agree_at, link_other, start_both}, ItemSteps.{both_step, one_step}}

run_none : (links : List Link) (s : NetState) → net_run links s [] ≡ s
unfolding net_run
run_none links s = refl

run_step : (links : List Link) (s : NetState) (item : NetItem) (items : List NetItem) → net_run links s (item ∷ items) ≡ net_run links (net_after links s item) items
unfolding net_run
run_step links s item items = refl

-- 1. A run of all items, and one of the groups' items in another net.

module _ (images others : List Image) (links : List Link) (c : ℕ → ℕ → Bool) (g : NetsAgreeApart images others links c) where
  runs : {items own : List NetItem} → AreItemsOf images links c items own → (s t : NetState) → Both images others links c s t → Both images others links c (net_run links s items) (net_run links t own)
  runs AreItemsOf.no_item s t both = subst (λ x. Both images others links c x (net_run links t [])) (sym (run_none links s)) (subst (Both images others links c s) (sym (run_none links t)) both)
  runs (AreItemsOf.kept {item = item} {all = all} {own = own} mine rest) s t both =
      subst (λ x. Both images others links c x (net_run links t (item ∷ own))) (sym (run_step links s item all))
      (subst (Both images others links c (net_run links (net_after links s item) all)) (sym (run_step links t item own))
      (runs rest (net_after links s item) (net_after links t item) (both_step images others links c g s t both item mine)))
  runs (AreItemsOf.left_out {item = item} {all = all} {own = own} outside rest) s t both =
      subst (λ x. Both images others links c x (net_run links t own)) (sym (run_step links s item all))
      (runs rest (net_after links s item) t (one_step images others links c g s t both item outside))

  pub runs_from_start : {items own : List NetItem} → AreItemsOf images links c items own → Both images others links c
      (net_run links (net_start images links) items) (net_run links (net_start others links) own)
  runs_from_start own = runs own (net_start images links) (net_start others links) (start_both images others links c g)

-- 2. A net agrees with itself.

agree_self : (i : Image) (c : ℕ → Bool) → Agree i i c
agree_self i c = record { version = refl; mode = refl; slots = refl; cells = λ w touched. refl; frames = λ privileged. refl }

same_cell_self : (images : List Image) (n w : ℕ) → HaveSameCell images images n w
same_cell_self images n w i j at_i at_j = let same : i ≡ j = cc in cc

other_self : (images others : List Image) (links : List Link) (c : ℕ → ℕ → Bool) → NetsAgreeApart images others links c → NetsAgreeApart others others links c
other_self images others links c g = record {
  rules = g.rules;
  one = g.other;
  other = g.other;
  agree = record {
    count = refl;
    nodes = λ n i j at_i at_j. let same : i ≡ j = cc in subst (λ k. Agree i k (c n)) same (agree_self i (c n));
    takes = λ link there own. same_cell_self others link.from link.take;
    puts = λ link there own. same_cell_self others link.to link.put;
  };
  one_apart = g.other_apart;
  other_apart = g.other_apart;
}

-- 3. The law.

-- what the groups see at a node of two nets that are each alike to a third
joined_states : (i j : Image) (c : ℕ → Bool) (a b d : State) → AgreeApart i j c → AlikeStates i c a b → AlikeStates j c d b → AlikeStates i c a d
joined_states i j c a b d agree one other = record {
  rows = one.rows ∙ sym other.rows;
  outputs = λ group mine. one.outputs group mine ∙ sym (other.outputs group mine);
  cells = λ w touched. one.cells w touched ∙ sym (other.cells w (touchable_other i j c agree.agree agree.one_apart w touched));
}

alike_nodes : (i : Image) (c : ℕ → Bool) (o p : Option State) (a b : State) → o ≡ Some a → p ≡ Some b → AlikeStates i c a b → AlikeNodes i c o p
alike_nodes i c o p a b one other h = subst (λ x. AlikeNodes i c x p) (sym one) (subst (λ x. AlikeNodes i c (Some a) x) (sym other) h)

module _ (images others : List Image) (links : List Link) (c : ℕ → ℕ → Bool) (g : NetsAgreeApart images others links c)
    (s t middle : NetState) (one : Both images others links c s middle) (other : Both others others links c t middle) where
  joined_nodes : (n : ℕ) (i : Image) → slice_get images n ≡ Some i → NodesAt images others links c s.nodes middle.nodes n → NodesAt others others links c t.nodes middle.nodes n
      → AlikeNodes i (c n) (slice_get s.nodes n) (slice_get t.nodes n)
  joined_nodes n i at (NodesAt.absent no_image no_one no_other) q = absurd (cc)
  joined_nodes n i at (NodesAt.present h) (NodesAt.absent no_image no_one no_other) = let there = h.in_others in absurd (cc)
  joined_nodes n i at (NodesAt.present h) (NodesAt.present k) =
      let image : h.i ≡ i = let there = h.in_images in cc in
      let other_image : k.i ≡ h.j = let one_is = h.in_others in let other_is = k.in_images in cc in
      let middle_node : k.b ≡ h.b = let one_is = h.in_other in let other_is = k.in_other in cc in
      let to_middle : AlikeStates h.j (c n) k.a h.b =
      subst (λ x. AlikeStates x (c n) k.a h.b) other_image (subst (AlikeStates k.i (c n) k.a) middle_node k.alike.worlds.alike) in
      let agree = agree_at images others links c g n h.i h.j h.in_images h.in_others in
      alike_nodes i (c n) (slice_get s.nodes n) (slice_get t.nodes n) h.a k.a h.in_one k.in_one
      (subst (λ x. AlikeStates x (c n) h.a k.a) image (joined_states h.i h.j (c n) h.a h.b k.a agree h.alike.worlds.alike to_middle))

  joined : AlikeNets images links c s t
  joined = record {
    nodes = λ n i at. joined_nodes n i at (one.nodes n) (other.nodes n);
    carried = λ l link at own. one.carried l link at own ∙ sym (other.carried l link at (link_other images others links c g link own));
  }

pub net_worlds : NetWorlds
net_worlds images others links c items events own g from_items from_events =
    joined images others links c g (net_run links (net_start images links) items) (net_run links (net_start others links) events) (net_run links (net_start others links) own)
    (runs_from_start images others links c g from_items)
    (runs_from_start others others links c (other_self images others links c g) from_events)
