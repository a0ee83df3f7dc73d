-- What a link sent and what arrived by it are the integers that its items told.
use Rattle.std.proofs.Common.{◌≡◌, ◌≢◌, ℕ, inl, inr, Bool, true, false, ◌==◌, if◌then◌else◌, List, [], ◌∷◌, ◌++◌}
use Rattle.std.proofs.Common.{slice_get, slice_set, Option, Some, None, refl, sym, ap, ◌∙◌, subst, append_assoc}
use Rattle.std.proofs.Common.{append-nil, eq-eqb, ne_eqb}
use Rattle.mm_model.specs.{Memory.cell_at, State.State, Image.Image}
use Rattle.mm_net.specs.declared.{link.Link.Link, item.NetItem.{NetItem, TheVariants.{Turn, Send, Carry}}}
use Rattle.mm_net.specs.Nets.{Carried, NetState, NetStep, nothing_carried, net_start, turns, bits_in, with_sent}
use Rattle.mm_net.specs.Nets.{sent_tick, is_free, with_arrived, arrived_tick, net_step, net_after, net_run}
use Rattle.mm_net.specs.Moves.{told_sent, told_arrived, told, IsTold}
use Rattle.mm_net.proofs.{Nodes.{set_cases, each_mapped}, Steps.{take_cases, put_cases}}

-- what a link carried before, to which these integers were added
record Adds (l : ℕ) (s : NetState) (carried : Carried) (sent arrived : List ℕ) : Type 0 where
  old : Carried
  stood : slice_get s.links l ≡ Some old
  sent_on : carried.sent ≡ old.sent ++ sent
  arrived_on : carried.arrived ≡ old.arrived ++ arrived

-- an item adds what it tells
abbrev Tells : ℕ → NetState → NetItem → NetStep → Type 0
Tells l s item t = (carried : Carried) → slice_get t.net.links l ≡ Some carried → Adds l s carried (told_sent l item t.tick) (told_arrived l item t.tick)

module _ (l : ℕ) (s : NetState) where
  adds_none : (carried : Carried) → slice_get s.links l ≡ Some carried → Adds l s carried [] []
  adds_none carried is = record { old = carried; stood = is; sent_on = sym (append-nil carried.sent); arrived_on = sym (append-nil carried.arrived) }

  -- what a take adds to its link, and to another
  sent_adds : (old : Carried) (o : Option ℕ) → slice_get s.links l ≡ Some old → Adds l s (with_sent old o) (told_sent l (Send l) (sent_tick o)) []
  sent_adds old None is = adds_none old is
  sent_adds old (Some bits) is =
      let own : (l == l) ≡ true = eq-eqb l l refl in
      record { old = old; stood = is; sent_on = ap (λ (b : Bool). old.sent ++ (if b then bits ∷ [] else [])) (sym own); arrived_on = sym (append-nil old.arrived) }

  sent_apart : (k : ℕ) (o : Option ℕ) → l ≢ k → told_sent l (Send k) (sent_tick o) ≡ []
  sent_apart k None apart = refl
  sent_apart k (Some bits) apart = ap (λ (b : Bool). if b then bits ∷ [] else []) (ne_eqb l k apart)

  take_adds : (k : ℕ) (old : Carried) (o : Option ℕ) → slice_get s.links k ≡ Some old → (carried : Carried) → slice_get (slice_set s.links k (with_sent old o)) l ≡ Some carried
      → Adds l s carried (told_sent l (Send k) (sent_tick o)) []
  take_adds k old o is carried new = elim (set_cases s.links k l (with_sent old o) carried new) [
    | inl here ↦
        let P : ℕ → Type 0 = λ j. Adds l s (with_sent old o) (told_sent l (Send j) (sent_tick o)) [] in
        subst (λ (c : Carried). Adds l s c (told_sent l (Send k) (sent_tick o)) []) (sym here.1) (subst P here.0 (sent_adds old o (ap (slice_get s.links) here.0 ∙ is)))
    | inr there ↦ subst (λ sent. Adds l s carried sent []) (sym (sent_apart k o there.0)) (adds_none carried there.1)
  ]

  -- and a put
  arrived_adds : (old : Carried) (n bits : ℕ) (b : Bool) → slice_get s.links l ≡ Some old → Adds l s (with_arrived old bits b) [] (told_arrived l (Carry l n) (arrived_tick bits b))
  arrived_adds old n bits false is = adds_none old is
  arrived_adds old n bits true is =
      let own : (l == l) ≡ true = eq-eqb l l refl in
      record { old = old; stood = is; sent_on = sym (append-nil old.sent); arrived_on = ap (λ (b : Bool). old.arrived ++ (if b then bits ∷ [] else [])) (sym own) }

  arrived_apart : (k n bits : ℕ) (b : Bool) → l ≢ k → told_arrived l (Carry k n) (arrived_tick bits b) ≡ []
  arrived_apart k n bits false apart = refl
  arrived_apart k n bits true apart = ap (λ (b : Bool). if b then bits ∷ [] else []) (ne_eqb l k apart)

  put_adds : (k n bits : ℕ) (old : Carried) (b : Bool) → slice_get s.links k ≡ Some old → (carried : Carried) → slice_get (slice_set s.links k (with_arrived old bits b)) l ≡ Some carried
      → Adds l s carried [] (told_arrived l (Carry k n) (arrived_tick bits b))
  put_adds k n bits old b is carried new = elim (set_cases s.links k l (with_arrived old bits b) carried new) [
    | inl here ↦
        let P : ℕ → Type 0 = λ j. Adds l s (with_arrived old bits b) [] (told_arrived l (Carry j n) (arrived_tick bits b)) in
        subst (λ (c : Carried). Adds l s c [] (told_arrived l (Carry k n) (arrived_tick bits b))) (sym here.1)
        (subst P here.0 (arrived_adds old n bits b (ap (slice_get s.links) here.0 ∙ is)))
    | inr there ↦ subst (λ arrived. Adds l s carried [] arrived) (sym (arrived_apart k n bits b there.0)) (adds_none carried there.1)
  ]

  turn_tells : (links : List Link) (n item : ℕ) → Tells l s (Turn n item) (net_step links s (Turn n item))
  unfolding net_step
  turn_tells links n item = by (slice_get s.nodes n)
    where
      by : (o : Option State) → Tells l s (Turn n item) (turns s n item o)
      by None = adds_none
      by (Some node) = adds_none

  step_tells : (links : List Link) (item : NetItem) → Tells l s item (net_step links s item)
  step_tells links (Turn n item) = turn_tells links n item
  step_tells links (Send k) =
      take_cases links s k (Tells l s (Send k)) adds_none (λ link node old at is has. take_adds k old (bits_in (cell_at node.memory link.take)) has)
  step_tells links (Carry k n) =
      put_cases links s k n (Tells l s (Carry k n)) adds_none (λ link node old bits at is has next. put_adds k n bits old (is_free (cell_at node.memory link.put)) has)

step_adds : (l : ℕ) (links : List Link) (s : NetState) (item : NetItem) → Tells l s item (record (net_step links s item) { net = net_after links s item })
unfolding net_after
step_adds l links s item = step_tells l s links item

-- a list of items adds what each of its items tells
run_adds : (l : ℕ) (links : List Link) (s : NetState) (items : List NetItem) (carried : Carried) → slice_get (net_run links s items).links l ≡ Some carried
    → Adds l s carried (told (told_sent l) links s items) (told (told_arrived l) links s items)
unfolding net_run told
run_adds l links s [] carried is = adds_none l s carried is
run_adds l links s (item ∷ items) carried is =
    let later = run_adds l links (net_after links s item) items carried is in
    let first = step_adds l links s item later.old later.stood in
    record {
      old = first.old;
      stood = first.stood;
      sent_on = later.sent_on ∙ ap (λ xs. xs ++ told (told_sent l) links (net_after links s item) items) first.sent_on ∙ append_assoc first.old.sent _ _;
      arrived_on = later.arrived_on ∙ ap (λ xs. xs ++ told (told_arrived l) links (net_after links s item) items) first.arrived_on ∙ append_assoc first.old.arrived _ _;
    }

-- at the start nothing is sent
pub run_tells : (images : List Image) (links : List Link) (items : List NetItem) (l : ℕ) (carried : Carried)
    → slice_get (net_run links (net_start images links) items).links l ≡ Some carried → IsTold l links (net_start images links) items carried
run_tells images links items l carried is =
    let adds = run_adds l links (net_start images links) items carried is in
    let none : adds.old ≡ nothing_carried = each_mapped (λ (k : ℕ) c. c ≡ nothing_carried) (λ (link : Link). nothing_carried) links (λ k link at. refl) l adds.old adds.stood in
    record {
      sent = adds.sent_on ∙ ap (λ (c : Carried). c.sent ++ told (told_sent l) links (net_start images links) items) none;
      arrived = adds.arrived_on ∙ ap (λ (c : Carried). c.arrived ++ told (told_arrived l) links (net_start images links) items) none;
    }
