-- In a net without links each node runs its own items.
use Rattle.std.proofs.Common.{◌≡◌, ◌≢◌, ℕ, inl, inr, Bool, true, false, ◌==◌, if◌then◌else◌, List, [], ◌∷◌, ◌++◌}
use Rattle.std.proofs.Common.{slice_get, Option, Some, None, option_map, refl, sym, ap, ◌∙◌, subst, eq-eqb, ne_eqb}
use Rattle.std.proofs.lemmas.{Bool.cases_eq, Option.slice_get-map}
use Rattle.mm_model.specs.{State.State, Uses.Use, Image.{Image, start}, Run.{turn_of, after, run, uses}}
use Rattle.mm_model.proofs.Memories.{get_set_same, get_set_other}
use Rattle.mm_net.specs.declared.item.NetItem.{NetItem, TheVariants.{Turn, Send, Carry}}
use Rattle.mm_net.specs.Nets.{NetState, NetStep, net_start, idles, turns, net_step, net_after, net_run, asked_of}
use Rattle.mm_net.specs.{Nets.net_uses, Moves.{item_of, items_of, RunsAlone}}

-- A node after a step, and what the step asked of it: its run goes on from there.
record GoesOn (n : ℕ) (node : State) (item : NetItem) (t : NetStep) : Type 0 where
  later : State
  is : slice_get t.net.nodes n ≡ Some later
  runs : (items : List ℕ) → run node (item_of n item ++ items) ≡ run later items
  asks : (items : List ℕ) → uses node (item_of n item ++ items) ≡ asked_of n t ++ uses later items

module _ (n : ℕ) (s : NetState) (node : State) (at : slice_get s.nodes n ≡ Some node) where
  -- an item that is none of the node's, and a step that leaves the node and asks nothing of it
  stays : (item : NetItem) (t : NetStep) → item_of n item ≡ [] → slice_get t.net.nodes n ≡ slice_get s.nodes n → asked_of n t ≡ [] → GoesOn n node item t
  stays item t none same asked = record {
    later = node;
    is = same ∙ at;
    runs = λ items. ap (λ own. run node (own ++ items)) none;
    asks = λ items. ap (λ own. uses node (own ++ items)) none ∙ sym (ap (λ us. us ++ uses node items) asked);
  }

  none_asked : (b : Bool) → ◌≡◌ {A = List Use} (if b then [] else []) []
  none_asked true = refl
  none_asked false = refl

  idle_stays : (item : NetItem) → item_of n item ≡ [] → GoesOn n node item (idles s)
  idle_stays item none = stays item (idles s) none refl (none_asked (n == 0))

  own_turn : (item : ℕ) → GoesOn n node (Turn n item) (turns s n item (Some node))
  unfolding run uses
  own_turn item =
      let own : (n == n) ≡ true = eq-eqb n n refl in
      record {
        later = after node item;
        is = get_set_same s.nodes n (after node item) node at;
        runs = λ items. ap (λ (b : Bool). run node ((if b then item ∷ [] else []) ++ items)) own;
        asks = λ items.
            ap (λ (b : Bool). uses node ((if b then item ∷ [] else []) ++ items)) own ∙ sym (ap (λ (b : Bool). (if b then (turn_of node item).uses else []) ++ uses (after node item) items) own);
      }

  other_turn : (m item : ℕ) → n ≢ m → (o : Option State) → GoesOn n node (Turn m item) (turns s m item o)
  other_turn m item apart o = by o
    where
      none : item_of n (Turn m item) ≡ []
      none = ap (λ (b : Bool). if b then item ∷ [] else []) (ne_eqb n m apart)

      by : (o : Option State) → GoesOn n node (Turn m item) (turns s m item o)
      by None = idle_stays (Turn m item) none
      by (Some other) =
          stays (Turn m item) (turns s m item (Some other)) none (get_set_other s.nodes m n (after other item) apart)
          (ap (λ (b : Bool). if b then (turn_of other item).uses else []) (ne_eqb n m apart))

  step_goes : (item : NetItem) → GoesOn n node item (net_step [] s item)
  unfolding net_step
  step_goes (Turn m item) = elim (cases_eq n m) [
    | inl here ↦ subst (λ k. GoesOn n node (Turn k item) (turns s k item (slice_get s.nodes k))) here (subst (λ o. GoesOn n node (Turn n item) (turns s n item o)) (sym at) (own_turn item))
    | inr there ↦ other_turn m item there (slice_get s.nodes m)
  ]
  step_goes (Send l) = idle_stays (Send l) refl
  step_goes (Carry l k) = idle_stays (Carry l k) refl

  after_goes : (item : NetItem) → GoesOn n node item (record (net_step [] s item) { net = net_after [] s item })
  unfolding net_after
  after_goes item = step_goes item

-- a node of a net is where the run of its own items leads, and was asked what it asks
record Ran (n : ℕ) (s : NetState) (node : State) (items : List NetItem) : Type 0 where
  state : slice_get (net_run [] s items).nodes n ≡ Some (run node (items_of n items))
  uses_made : net_uses [] s items n ≡ uses node (items_of n items)

ran : (n : ℕ) (s : NetState) (node : State) (items : List NetItem) → slice_get s.nodes n ≡ Some node → Ran n s node items
unfolding net_run net_uses run uses
ran n s node [] at = record { state = at; uses_made = refl }
ran n s node (item ∷ items) at =
    let first = after_goes n s node at item in
    let rest = ran n (net_after [] s item) first.later items first.is in
    record {
      state = rest.state ∙ ap (λ t. Some t) (sym (first.runs (items_of n items)));
      uses_made = ap (λ us. asked_of n (net_step [] s item) ++ us) rest.uses_made ∙ sym (first.asks (items_of n items));
    }

pub runs_alone : (images : List Image) (items : List NetItem) (n : ℕ) (i : Image) → slice_get images n ≡ Some i → RunsAlone n i images items
runs_alone images items n i at =
    let all = ran n (net_start images []) (start i) items (slice_get-map start images n ∙ ap (option_map start) at) in
    record { state = all.state; uses_made = all.uses_made }
