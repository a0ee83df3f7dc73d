-- Pointers that come from group to group.
use Rattle.std.proofs.Common.{◌≡◌, ℕ, ◌+◌, ◌<◌, ◌⊎◌, inl, inr, true, List, length, slice_index_or, Option, Some, None}
use Rattle.std.proofs.{Common.{MatchOption, refl, sym, ap, ◌∙◌, subst, arith}, lemmas.List.get_or_default}
use Rattle.mm_word.specs.{declared.perm.Perm.TheVariants.Xp, Perm.can_become, Pointer.{Pointer, IsBelow}}
use Rattle.mm_model.specs.{Slot.Slot, Image.Image, Reach.Entries.All}
use Rattle.mm_flow.specs.{declared.node.Right.{Right, TheVariants.{Load, Make}}, Edges.right_at}
use Rattle.mm_graph.specs.{declared.graph.Graph.Graph, Key.key_at, Marked.node_pointer, GraphOf.{IsGraphOf, CommonWord}}
use Rattle.mm_graph.proofs.{Assembly.graph, Representatives.{stands_from, stands_below}}
use Rattle.mm_graph.proofs.{Segments.{below-loads, below-stores, never_xp}, Summaries.{whole_fits, whole_covers}}
use Rattle.mm_why.specs.{declared.{line.Line.Line, work.Workspace.Workspace}, Derivations.{line_at, Says, Follows}}
use Rattle.mm_why.specs.{Searches.AtNode, Graphs.{IsGraph, edges_of}, Carrying.{IsPair, NoPair, IsWith}}
use Rattle.mm_why.specs.Works.{IsSearched, GoesOn, ReachesRight, HasRightAt, whole_pointer}
use Rattle.mm_why.specs.Giving.{MeetsAt, Meets, AreCarriers, CarryBetween, JoinedBy, JoinedAt}
use Rattle.mm_why.{specs.Giving.Meets.{by_words, by_maker}, proofs.{Pruning.same_or_before, GraphFacts.nodes_len}}
use Rattle.mm_why.specs.declared.line.Rule.TheVariants as rules

module _ (i : Image) (g : Graph) (h : IsGraph i g) where
  pub is_graph : IsGraphOf i All (node_pointer g.keys.items) (edges_of g) (record { nodes = g.nodes.items; parents = g.parents.items; links = g.links }) g.start.items
  is_graph =
      let b = h.built in
      graph i All h.image g.keys.items g.nodes.items g.targets.items g.parents.items g.links g.start.items b.has_nodes.masks b.is_keys b.has_nodes.is_nodes b.is_targets b.has_forest b.is_links
      b.is_start b.has_nodes.is_masks

  started : (k : ℕ) → k < length g.keys.items → k < length g.start.items
  started k lt = let l = h.built.is_start.len in omega (arith, l, lt)

  pub below_node : (a : ℕ) (p : Pointer) → AtNode g.keys.items a p → IsBelow (node_pointer g.keys.items a) p
  below_node a p at = stands_below p (key_at g.keys.items a) at.fits (stands_from p (key_at g.keys.items a) at.stands)

  -- a node's pointer of privileged code is that of the line
  privileged : (a : ℕ) (p : Pointer) → AtNode g.keys.items a p → right_at g.nodes.items Make a ≡ true → p.perm ≡ Xp
  privileged a p at right = from (below_node a p at)
    where
      xp : (node_pointer g.keys.items a).perm ≡ Xp
      xp = is_graph.makes a (started a at.small) right

      from : IsBelow (node_pointer g.keys.items a) p → p.perm ≡ Xp
      from (inl e) = sym (ap (λ v. v.perm) e) ∙ xp
      from (inr n) = elim n.rights [
        | inl e ↦ sym e ∙ xp
        | inr m ↦ absurd (never_xp p.perm (ap (can_become p.perm) (sym xp) ∙ m))
      ]

  pub made_whole : (lines : List Line) (group k : ℕ) → HasRightAt g lines group Make k → Follows i lines (length lines) group whole_pointer (rules.Made k)
  made_whole lines group k r = record {
    by = (line_at lines k).pointer;
    says = record { earlier = r.earlier; group = r.group_is; pointer = refl };
    privileged = privileged r.node (line_at lines k).pointer r.at r.has;
    well_formed = whole_fits _;
  }

  -- lines of nodes at or above one node
  pub pair_carries : (lines : List Line) (giver taker : ℕ) (from to : List (Option ℕ)) → IsSearched g lines giver from → IsSearched g lines taker to → (s l : ℕ) → IsPair g from to s l
      → AreCarriers lines giver taker s l
  pair_carries lines giver taker from to sf st s l p =
      let a = sf.placed p.store.node s p.store.at in
      let b = st.placed p.load.node l p.load.at in
      let c = is_graph.meeting p.node p.store.node p.load.node (started p.node (let n = nodes_len i g h in let lt = p.small in omega (arith, n, lt))) p.store.up p.load.up p.store.kept p.load.kept in
      record {
        small_store = a.0;
        small_load = b.0;
        of_store = a.1;
        of_load = b.1;
        common = record {
          word = c.word;
          stores = below-stores (line_at lines s).pointer (node_pointer g.keys.items p.store.node) c.word (below_node p.store.node (line_at lines s).pointer a.2) c.stores;
          loads = below-loads (line_at lines l).pointer (node_pointer g.keys.items p.load.node) c.word (below_node p.load.node (line_at lines l).pointer b.2) c.loads;
        };
      }

  pub no_pair_meets : (lines : List Line) (giver taker : ℕ) (from to : List (Option ℕ)) → IsSearched g lines giver from → IsSearched g lines taker to → NoPair g from to → MeetsAt g giver taker → ⊥
  no_pair_meets lines giver taker from to sf st none m =
      let a = sf.each m.store m.reaches_store in
      let b = st.each m.load m.reaches_load in
      none a.0 b.0 (record {
        node = m.at;
        small = (let n = nodes_len i g h in let lt = m.small in omega (arith, n, lt));
        store = record { node = m.store; up = m.above_store; at = a.1; kept = m.stores };
        load = record { node = m.load; up = m.above_load; at = b.1; kept = m.loads };
      })

  pub with_right : (lines : List Line) (group : ℕ) (places : List (Option ℕ)) (right : Right) (k : ℕ) → IsSearched g lines group places → IsWith g places right (length g.nodes.items) k
      → HasRightAt g lines group right k
  with_right lines group places right k s w =
      let p = s.placed w.node k w.at in
      record { node = w.node; earlier = p.0; group_is = p.1; at = p.2; has = w.has }

  pub no_right : (lines : List Line) (group : ℕ) (places : List (Option ℕ)) (right : Right) → IsSearched g lines group places
      → ((t : ℕ) → IsWith g places right (length g.nodes.items) t → ⊥) → ReachesRight g group right → ⊥
  no_right lines group places right s none r =
      let p = s.each r.node r.reached in
      none p.0 (record { node = r.node; small = (let n = nodes_len i g h in let lt = r.small in omega (arith, n, lt)); at = p.1; has = r.has })

pub maker_of : (g : Graph) (h t : ℕ) → (MeetsAt g h t → ⊥) → Meets g h t → ReachesRight g h Make × ReachesRight g t Load
maker_of g h t none (by_words m) = absurd (none m)
maker_of g h t none (by_maker a b) = (a, b)

-- what two lines carry
pub lines_carry : (lines : List Line) (h t s l : ℕ) (store load : Pointer) → AreCarriers lines h t s l → store ≡ (line_at lines s).pointer → load ≡ (line_at lines l).pointer
    → CarryBetween lines h t store load
lines_carry lines h t s l store load a es el = record {
  has_store = (s, record { earlier = a.small_store; group = a.of_store; pointer = sym es });
  has_load = (l, record { earlier = a.small_load; group = a.of_load; pointer = sym el });
  common = subst (λ v. CommonWord v load) (sym es) (subst (CommonWord (line_at lines s).pointer) (sym el) a.common);
}

-- the whole memory shares a word with each pointer that loads words
pub whole_common : (i : Image) (g : Graph) (h : IsGraph i g) (lines : List Line) (t l : ℕ) → HasRightAt g lines t Load l → CommonWord whole_pointer (line_at lines l).pointer
whole_common i g h lines t l r =
    let w = (is_graph i g h).loading r.node (started i g h r.node r.at.small) r.has in
    record {
      word = w.word;
      stores = record { word = w.loads.word; right = refl; covers = whole_covers w.word w.loads.word w.small };
      loads = below-loads (line_at lines l).pointer (node_pointer g.keys.items r.node) w.word (below_node i g h r.node (line_at lines l).pointer r.at) w.loads;
    }

pub maker_carries : (i : Image) (g : Graph) (old new : Workspace) (h t s l : ℕ) → IsGraph i g → GoesOn i g old new → HasRightAt g old.lines.items t Load l
    → Says new.lines.items (length new.lines.items) s h whole_pointer → AreCarriers new.lines.items h t s l
maker_carries i g old new h t s l graph on r says =
    let e = on.lines.same l r.earlier in
    record {
      small_store = says.earlier;
      small_load = (let x = on.lines.len in let lt = r.earlier in omega (arith, x, lt));
      of_store = says.group;
      of_load = ap (λ v. v.group) e ∙ r.group_is;
      common = subst (λ v. CommonWord v (line_at new.lines.items l).pointer) (sym says.pointer)
          (subst (λ (v : Line). CommonWord whole_pointer v.pointer) (sym e) (whole_common i g graph old.lines.items t l r));
    }

pub pair_all : (P : Type 0) (g : Graph) (from to : List (Option ℕ)) (Q : ℕ → ℕ → Type 0) → (NoPair g from to → P) → ((s l : ℕ) → IsPair g from to s l → Q s l)
    → (r : Option (ℕ × ℕ)) → MatchOption r (NoPair g from to) (λ pair. IsPair g from to pair.0 pair.1) → MatchOption r P (λ pair. Q pair.0 pair.1)
pair_all P g from to Q none some None x = none x
pair_all P g from to Q none some (Some p) x = some p.0 p.1 x

-- a slot more that does not join the groups
pub joined_more : (slots : List Slot) (k one other : ℕ) (r : Slot) → k < length slots → slice_index_or slots k r ≡ r → ((n : ℕ) → JoinedAt slots k one other n → ⊥)
    → (JoinedBy slots (length slots) one other r → ⊥) → (n : ℕ) → JoinedAt slots (k + 1) one other n → ⊥
joined_more slots k one other r small is none not_it n j = from (same_or_before j.at k j.small)
  where
    from : (j.at ≡ k) ⊎ (j.at < k) → ⊥
    from (inr lt) = none n (record { at = j.at; small = lt; served = j.served; is = j.is; number = j.number; joined = j.joined })
    from (inl e) =
        let same : r ≡ j.served = sym is ∙ get_or_default slots k r j.served small ∙ ap (λ v. slice_index_or slots v j.served) (sym e) ∙ j.is in
        not_it (subst (JoinedBy slots (length slots) one other) (sym same) j.joined)
