-- Lines of nodes at or above others, and words that two pointers share.
use Rattle.std.proofs.Common.{◌≡◌, ℕ, ◌+◌, ◌%◌, ◌<◌, ◌≤◌, ◌⊎◌, inl, inr, Bool, true, List, [], ◌∷◌, ◌++◌, length}
use Rattle.std.proofs.Common.{slice_index, Option, Some, None, MatchOption, refl, sym, ap, ◌∙◌, subst, arith, pow_pos}
use Rattle.std.proofs.lemmas.{Bool.cases_lt, List.{get_or_push, get_or_append_left, length_push}}
use Rattle.mm_word.{specs.Pointer.{Pointer, InSegment, Covers, base_of}, proofs.Segments.segment_widens}
use Rattle.mm_model.specs.Reach.{LoadsAt, StoresAt}
use Rattle.mm_flow.specs.{declared.node.Right.{Right, TheVariants.{Load, Store}}, Edges.right_at}
use Rattle.mm_flow.specs.Sharing.{Up, Up.{here, over}}
use Rattle.mm_graph.specs.declared.graph.Graph.{Graph}
use Rattle.mm_graph.proofs.Bounds.{of_words, in_covers, loads_test, loads_then, stores_test, stores_then}
use Rattle.mm_why.specs.Searches.{place_at}
use Rattle.mm_why.specs.Carrying.{PlacedAbove, AreNearest, IsOneOf, IsKept, IsOver, BothAt, IsPair, NoPair, IsWith}
use Rattle.mm_why.proofs.Pruning.{same_or_before}

-- the first word of a pointer that covers one
covers_base : (p : Pointer) → 3 ≤ p.log → (base_of p % 8 ≡ 0) × Covers p (base_of p)
covers_base p long =
    let base = (of_words p long).base in
    let aligned : base_of p % 8 ≡ 0 = omega (arith, base) in
    let pos = pow_pos p.log in
    (aligned, in_covers p (base_of p) long aligned (omega arith) (omega (arith, pos)))

-- a segment that shares a word with one that is no shorter lies in it
nests : (p r : Pointer) (w a : ℕ) → p.log ≤ r.log → Covers p w → Covers r w → InSegment p a → InSegment r a
nests p r w a le cp cr h = segment_widens p.log r.log a (w + 0) le (h ∙ sym (cp 0 (omega arith))) ∙ cr 0 (omega arith)

pub common_at_store : (p r : Pointer) (w : ℕ) → p.log ≤ r.log → StoresAt p w → LoadsAt r w → StoresAt p (base_of p) × LoadsAt r (base_of p)
common_at_store p r w le st ld =
    let b = covers_base p (stores_then p (stores_test p w st)).1 in (
      record { word = b.0; right = st.right; covers = b.1 },
      record { word = b.0; right = ld.right; covers = λ k lt. nests p r w (base_of p + k) le st.covers ld.covers (b.1 k lt) },
    )

pub common_at_load : (p r : Pointer) (w : ℕ) → r.log ≤ p.log → StoresAt p w → LoadsAt r w → StoresAt p (base_of r) × LoadsAt r (base_of r)
common_at_load p r w le st ld =
    let b = covers_base r (loads_then r (loads_test r w ld)).1 in (
      record { word = b.0; right = st.right; covers = λ k lt. nests r p w (base_of r + k) le ld.covers st.covers (b.1 k lt) },
      record { word = b.0; right = ld.right; covers = b.1 },
    )

-- one node more

module _ (g : Graph) (places : List (Option ℕ)) (right : Right) (k : ℕ) where
  pub with_more : (best own result : Option ℕ) → MatchOption best ((t : ℕ) → IsWith g places right k t → ⊥) (IsWith g places right k)
      → IsKept places (right_at g.nodes.items right) k own → IsOneOf best own result
      → MatchOption result ((t : ℕ) → IsWith g places right (k + 1) t → ⊥) (IsWith g places right (k + 1))
  with_more best own None b o i = λ t h. at t h (same_or_before h.node k h.small)
    where
      at : (t : ℕ) (h : IsWith g places right (k + 1) t) → (h.node ≡ k) ⊎ (h.node < k) → ⊥
      at t h (inl e) = o.none t (i.none refl).1 (ap (place_at places) (sym e) ∙ h.at) (ap (right_at g.nodes.items right) (sym e) ∙ h.has)
      at t h (inr lt) =
          let none : (t : ℕ) → IsWith g places right k t → ⊥ = subst (λ v. MatchOption v ((t : ℕ) → IsWith g places right k t → ⊥) (IsWith g places right k)) (i.none refl).0 b in
          none t (record { node = h.node; small = lt; at = h.at; has = h.has })
  with_more best own (Some t) b o i = elim (i.some t refl) [
    | inl e ↦
        let h : IsWith g places right k t = subst (λ v. MatchOption v ((t : ℕ) → IsWith g places right k t → ⊥) (IsWith g places right k)) e b in
        record { node = h.node; small = (let lt = h.small in omega (arith, lt)); at = h.at; has = h.has }
    | inr e ↦ let h = o.some t e in record { node = k; small = omega arith; at = h.0; has = h.1 }
  ]

module _ (stores loads : List (Option ℕ)) (k : ℕ) where
  wider : (s l : ℕ) → BothAt stores loads k s l → BothAt stores loads (k + 1) s l
  wider s l h = record { node = h.node; small = (let lt = h.small in omega (arith, lt)); store = h.store; load = h.load }

  pub pair_skip : (best : Option (ℕ × ℕ)) → ((s l : ℕ) → place_at stores k ≡ Some s → place_at loads k ≡ Some l → ⊥)
      → MatchOption best ((s l : ℕ) → BothAt stores loads k s l → ⊥) (λ pair. BothAt stores loads k pair.0 pair.1)
      → MatchOption best ((s l : ℕ) → BothAt stores loads (k + 1) s l → ⊥) (λ pair. BothAt stores loads (k + 1) pair.0 pair.1)
  pair_skip None never b = λ s l h. at s l h (same_or_before h.node k h.small)
    where
      at : (s l : ℕ) (h : BothAt stores loads (k + 1) s l) → (h.node ≡ k) ⊎ (h.node < k) → ⊥
      at s l h (inl e) = never s l (ap (place_at stores) (sym e) ∙ h.store) (ap (place_at loads) (sym e) ∙ h.load)
      at s l h (inr lt) = b s l (record { node = h.node; small = lt; store = h.store; load = h.load })
  pair_skip (Some p) never b = wider p.0 p.1 b

-- the pair of all nodes
pub pair_end : (g : Graph) (giver taker stores loads : List (Option ℕ)) (k : ℕ) → k ≡ length g.nodes.items → length stores ≡ length g.nodes.items → length loads ≡ length g.nodes.items
    → AreNearest g.parents.items giver (right_at g.nodes.items Store) stores → AreNearest g.parents.items taker (right_at g.nodes.items Load) loads
    → (best : Option (ℕ × ℕ)) → MatchOption best ((s l : ℕ) → BothAt stores loads k s l → ⊥) (λ pair. BothAt stores loads k pair.0 pair.1)
    → MatchOption best (NoPair g giver taker) (λ pair. IsPair g giver taker pair.0 pair.1)
pair_end g giver taker stores loads k e ls ll ns nl (Some p) b = record {
  node = b.node;
  small = (let lt = b.small in omega (arith, lt, e));
  store = ns.only b.node p.0 (let lt = b.small in omega (arith, lt, e, ls)) b.store;
  load = nl.only b.node p.1 (let lt = b.small in omega (arith, lt, e, ll)) b.load;
}
pair_end g giver taker stores loads k e ls ll ns nl None b = λ s l h. at s l h (place_at stores h.node) refl (place_at loads h.node) refl
  where
    at : (s l : ℕ) (h : IsPair g giver taker s l) → (x : Option ℕ) → place_at stores h.node ≡ x → (y : Option ℕ) → place_at loads h.node ≡ y → ⊥
    at s l h None ex y ey = ns.none h.node s (let lt = h.small in omega (arith, lt, ls)) ex h.store
    at s l h (Some x) ex None ey = nl.none h.node l (let lt = h.small in omega (arith, lt, ll)) ey h.load
    at s l h (Some x) ex (Some y) ey = b x y (record { node = h.node; small = (let lt = h.small in omega (arith, lt, e)); store = ex; load = ey })

-- one item more
module _ (par : List ℕ) (places : List (Option ℕ)) (keep : ℕ → Bool) (out : List (Option ℕ)) (k : ℕ) (own upper item : Option ℕ) (n : AreNearest par places keep out) (len : length out ≡ k)
    (o : IsKept places keep k own) (u : IsOver out (slice_index par k) k upper) (i : IsOneOf own upper item) where
  of_upper : (t : ℕ) → (slice_index par k < k) ⊎ (k ≤ slice_index par k) → upper ≡ Some t → PlacedAbove par places keep k t
  of_upper t (inl lt) e =
      let h = n.only (slice_index par k) t (omega (arith, lt, len)) (sym (u.before lt) ∙ e) in
      record { node = h.node; up = over lt h.up; at = h.at; kept = h.kept }
  of_upper t (inr le) e = absurd (let bad = sym (u.root le) ∙ e in cc)

  last_only : (t : ℕ) → item ≡ Some t → PlacedAbove par places keep k t
  last_only t e = elim (i.some t e) [
    | inl x ↦ let h = o.some t x in record { node = k; up = here refl; at = h.0; kept = h.1 }
    | inr x ↦ of_upper t (cases_lt (slice_index par k) k) x
  ]

  last_none : (t node : ℕ) → Up par node k → place_at places node ≡ Some t → keep node ≡ true → item ≡ None → ⊥
  last_none t node (here e) at kept x = o.none t (i.none x).0 (ap (place_at places) (sym e) ∙ at) (ap keep (sym e) ∙ kept)
  last_none t node (over lt up) at kept x =
      n.none (slice_index par k) t (omega (arith, lt, len)) (sym (u.before lt) ∙ (i.none x).1) (record { node = node; up = up; at = at; kept = kept })

  pub nearest_more : AreNearest par places keep (out ++ item ∷ [])
  nearest_more = record {
    only = λ j t lt e. only j t (top j lt) e;
    none = λ j t lt e h. none j t (top j lt) e h;
  }
    where
      top : (j : ℕ) → j < length (out ++ item ∷ []) → (j ≡ k) ⊎ (j < k)
      top j lt = same_or_before j k (let l = length_push out item in omega (arith, l, len, lt))

      last : place_at (out ++ item ∷ []) k ≡ item
      last = get_or_push out item None k len

      front : (j : ℕ) → j < k → place_at (out ++ item ∷ []) j ≡ place_at out j
      front j lt = get_or_append_left out (item ∷ []) None j (omega (arith, lt, len))

      only : (j t : ℕ) → (j ≡ k) ⊎ (j < k) → place_at (out ++ item ∷ []) j ≡ Some t → PlacedAbove par places keep j t
      only j t (inl is) e = subst (λ v. PlacedAbove par places keep v t) (sym is) (last_only t (sym last ∙ ap (place_at (out ++ item ∷ [])) (sym is) ∙ e))
      only j t (inr lt) e = n.only j t (omega (arith, lt, len)) (sym (front j lt) ∙ e)

      none : (j t : ℕ) → (j ≡ k) ⊎ (j < k) → place_at (out ++ item ∷ []) j ≡ None → PlacedAbove par places keep j t → ⊥
      none j t (inl is) e h = last_none t h.node (subst (Up par h.node) is h.up) h.at h.kept (sym last ∙ ap (place_at (out ++ item ∷ [])) (sym is) ∙ e)
      none j t (inr lt) e h = n.none j t (omega (arith, lt, len)) (sym (front j lt) ∙ e) h
