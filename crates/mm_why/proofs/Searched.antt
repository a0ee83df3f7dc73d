-- A finished search has a line for each node that its group reaches along edges.
use Rattle.std.proofs.Common.{◌≡◌, ℕ, ◌+◌, ◌<◌, ◌⊎◌, inl, inr, List, [], length, slice_index_or, replicate, Option}
use Rattle.std.proofs.Common.{Some, None, sym, ap, ◌∙◌, subst, arith}
use Rattle.std.proofs.lemmas.{Bool.cases_lt, List.{get_or-replicate, get_or_past, get_or_default, length-replicate}}
use Rattle.std.specs.Int.{bit_at}
use Rattle.mm_word.specs.declared.word.Word.TheVariants.{Int, Ptr}
use Rattle.mm_model.specs.{Slot.Slot, Image.Image}
use Rattle.mm_flow.{specs.Flow.{Has, Flows, Flows.{from, along, through}}, proofs.Bits.zero_bit}
use Rattle.mm_graph.specs.declared.{canonical_ptr.CanonicalPtr.CanonicalPtr, graph.Graph.Graph}
use Rattle.mm_graph.{specs.Key.{standing_key, word_key}, proofs.Slots.seed_from}
use Rattle.mm_why.specs.{declared.line.Line.Line, Traces.IsTrace}
use Rattle.mm_why.specs.Searches.{Stage, place_at, IsPlaced, Searching, Advances, SlotPlaced, IsClosed}
use Rattle.mm_why.specs.Graphs.{IsGraph, SlotsPlaced, HasNoLine, edges_of, IsSearch}
use Rattle.mm_why.proofs.{Pruning.same_or_before, Searching.{advances_trans, stays_placed}}

-- slots

stays_slot : (keys : List CanonicalPtr) (s : Slot) (a b : Stage) → ((k : ℕ) → IsPlaced a.places k → IsPlaced b.places k) → SlotPlaced keys s a.places → SlotPlaced keys s b.places
stays_slot keys s a b more h = record { ip = λ k lt e. more k (h.ip k lt e); regs = λ r small k lt e. more k (h.regs r small k lt e) }

pub slots_more : (i : Image) (keys : List CanonicalPtr) (g k : ℕ) (x : Slot) (old a b : Stage) → k < length i.slots → slice_index_or i.slots k x ≡ x → SlotsPlaced i keys g k old a
    → Advances i keys g a b × (x.group ≡ g → SlotPlaced keys x b.places) → SlotsPlaced i keys g (k + 1) old b
slots_more i keys g k x old a b small is r h = record {
  advances = advances_trans i keys g old a b r.advances h.0;
  slots = λ n s lt e of. at n s e of (same_or_before n k lt);
}
  where
    at : (n : ℕ) (s : Slot) → slice_index_or i.slots n s ≡ s → s.group ≡ g → (n ≡ k) ⊎ (n < k) → SlotPlaced keys s b.places
    at n s e of (inl same) =
        let one : x ≡ s = sym is ∙ get_or_default i.slots k x s small ∙ ap (λ v. slice_index_or i.slots v s) (sym same) ∙ e in
        subst (λ v. SlotPlaced keys v b.places) one (h.1 (ap (λ v. v.group) one ∙ of))
    at n s e of (inr lt) = stays_slot keys s a b (λ j p. stays_placed a b j h.0.further p) (r.slots n s lt e of)

-- the begin

pub nothing_found : (i : Image) (keys : List CanonicalPtr) (g : ℕ) (lines : List Line) (places : List (Option ℕ)) (queue : List ℕ) → IsTrace i lines → HasNoLine lines g
    → places ≡ replicate (length keys) None → queue ≡ [] → Searching i keys g (record { lines = lines; places = places; queue = queue })
nothing_found i keys g lines places queue trace none is_places is_queue = record {
  len = ap length is_places ∙ length-replicate (length keys) None;
  trace = trace;
  placed = λ k t h. absurd (never k t h);
  lined = λ t lt h. absurd (none t lt h);
  queued = λ m lt. absurd (let l = ap length is_queue in omega (arith, l, lt));
  each = λ k h. absurd (never k h.0 h.1);
}
  where
    empty : (k : ℕ) → place_at (replicate (length keys) None) k ≡ None
    empty k = elim (cases_lt k (length keys)) [
      | inl lt ↦ get_or-replicate (length keys) k None None lt
      | inr le ↦ get_or_past (replicate (length keys) None) k None (let l = length-replicate {A = Option ℕ} (length keys) None in omega (arith, l, le))
    ]

    never : (k t : ℕ) → place_at places k ≡ Some t → ⊥
    never k t h = let bad = sym h ∙ ap (λ v. place_at v k) is_places ∙ empty k in cc

-- the end

module _ (i : Image) (g : Graph) (graph : IsGraph i g) (group : ℕ) (s : Stage) (now : Searching i g.keys.items group s)
    (slots : (k : ℕ) (x : Slot) → k < length i.slots → slice_index_or i.slots k x ≡ x → x.group ≡ group → SlotPlaced g.keys.items x s.places)
    (closed : (k : ℕ) → IsPlaced s.places k → IsClosed g.nodes.items g.targets.items s.places k) where
  small_of : (k : ℕ) → Has g.start.items k group → k < length g.keys.items
  small_of k h = elim (cases_lt k (length g.keys.items)) [
    | inl lt ↦ lt
    | inr le ↦ absurd (zero_bit group (ap (λ v. bit_at v group) (sym (get_or_past g.start.items k 0 (let l = graph.built.is_start.len in omega (arith, l, le)))) ∙ h))
  ]

  -- where marks of the group start
  started : (k : ℕ) → Has g.start.items k group → IsPlaced s.places k
  started k h =
      let m = graph.built.is_start.only k group h in
      let o = seed_from i.slots _ m.1 in
      let at = slots o.is_in.0 o.slot o.is_in.1 o.is_in.2 o.group in
      let small : k < length g.keys.items = small_of k h in
      elim o.holds [
        | inl ip ↦ at.ip k small (ap standing_key ip ∙ o.stands)
        | inr r ↦ at.regs r.0 r.1 k small (ap word_key (get_or_default o.slot.regs r.0 (Int 0) (Ptr o.pointer) r.1 ∙ r.2) ∙ o.stands)
      ]

  pub reached : (k : ℕ) → Flows (edges_of g) g.start.items group k → IsPlaced s.places k
  reached k (from h) = started k h
  reached k (along a j f lt lo hi is) = subst (IsPlaced s.places) is ((closed a (reached a f)).cells j lo hi)
  reached k (through a f lt kept is) =
      subst (IsPlaced s.places) is ((closed a (reached a f)).entry (λ e. zero_bit group (ap (λ v. bit_at v group) (sym e) ∙ kept)))

pub search_done : (i : Image) (g : Graph) (graph : IsGraph i g) (group : ℕ) (a b c : Stage) → SlotsPlaced i g.keys.items group (length i.slots) a b → Advances i g.keys.items group b c
    → ((k : ℕ) → IsPlaced c.places k → IsClosed g.nodes.items g.targets.items c.places k) → IsSearch i g group a.lines c.lines c.places
search_done i g graph group a b c slots adv closed =
    let whole = advances_trans i g.keys.items group a b c slots.advances adv in
    record {
      trace = whole.now.trace;
      extends = whole.further.lines;
      only = whole.only;
      len = whole.now.len;
      placed = whole.now.placed;
      each = reached i g graph group c whole.now (λ k x lt e of. stays_slot g.keys.items x b c (λ j p. stays_placed b c j adv.further p) (slots.slots k x lt e of)) closed;
    }
