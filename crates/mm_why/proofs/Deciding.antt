-- A granted use is one that some owner has of its own, and an owner's use can be granted.
use Rattle.std.proofs.Common.{◌≡◌, ℕ, zero, suc, ◌-◌, ◌%◌, ◌^◌, ◌<◌, ◌≤◌, ◌⊎◌, ◌↔◌, inl, inr, Bool, true, false}
use Rattle.std.proofs.Common.{◌==◌, IsTrue, List, length, slice_index, replicate, map, bit_and, bit_or, Option}
use Rattle.std.proofs.Common.{Some, None, refl, sym, ap, ◌∙◌, subst, arith, eqb-true, eq-eqb}
use Rattle.std.proofs.lemmas.{Bool.{cases_lt, and_parts, and_from}}
use Rattle.std.proofs.lemmas.Nat.{and_le_r, Bits.{bit_at-lt, bit_at_ones}}
use Rattle.std.{proofs.lemmas.List.{get_or-replicate, get_or_past, get_or-map, length-map}, specs.Int.bit_at}
use Rattle.mm_word.proofs.{Checked.Covers-holds_word, Below.holds_word-Covers}
use Rattle.mm_word.specs.{Perm.allows, Pointer.{Pointer, holds_word, IsBelow}}
use Rattle.mm_model.specs.{Image.Image, Flags.in_mask, Reach.{LoadsAt, StoresAt, Entries.All}}
use Rattle.mm_model.specs.declared.word_use.WordUse.{WordUse}
use Rattle.mm_flow.specs.declared.node.Right.{Right, TheVariants.{Load, Make}}
use Rattle.mm_flow.specs.Edges.{Edges, SharingEdges, no_node, entry_at, enters_at, right_at}
use Rattle.mm_flow.specs.Flow.{Has, Flows, IsFlow}
use Rattle.mm_flow.specs.Flow.Flows.{from as flows_from, along as flows_along, through as flows_through}
use Rattle.mm_flow.specs.Sharing.{kept_mark}
use Rattle.mm_flow.specs.Reached.{HasSome, Shares, AreSharingEdges, Reached, IsReach}
use Rattle.mm_flow.specs.Reached.Shares.{linked as shares_linked, shared as shares_shared, by_maker as shares_by_maker}
use Rattle.mm_flow.specs.Reached.Reached.{from as reached_from, along as reached_along, through as reached_through}
use Rattle.mm_flow.specs.Reached.Reached.{linked as reached_linked, shared as reached_shared}
use Rattle.mm_flow.{specs.Reached.Reached.by_maker as reached_by_maker}
use Rattle.mm_flow.proofs.Bits.{or_left, or_right, or_cases, and_both, both_bits, zero_bit}
use Rattle.mm_flow.proofs.SharedMarks.{kept_then, then_kept}
use Rattle.mm_graph.specs.declared.{canonical_ptr.CanonicalPtr.CanonicalPtr, graph.Graph.Graph}
use Rattle.mm_graph.specs.{Key.{key_at, pointer_at, entry_key, is_entry}, Nodes.AreLinked, Marked.node_pointer}
use Rattle.mm_graph.specs.{GraphOf.Marked, Summary.{IsExact, SomeLoads, SomeStores}}
use Rattle.mm_graph.proofs.{Graphs.exact_marks, Segments.{below-loads, below-stores}}
use Rattle.mm_why.specs.declared.{line.Line.Line, rounds.Rounds.Rounds, uses.Source.Source}
use Rattle.mm_why.specs.Derivations.{line_at, Says, EachFollows, NoneTwice, IsDerivation, GivesUse, IsGranted, Derives}
use Rattle.mm_why.specs.{Traces.IsTrace, Rounds.{AreRounds, round_at}, Graphs.{IsGraph, edges_of}}
use Rattle.mm_why.specs.{Works.{IsSearched, ReachesRight}, Giving.{Meets, IsContext, Meets.{by_words, by_maker}}}
use Rattle.mm_why.specs.Owning.{asked, can_use, CanUse, IsSource, NoSource, IsUsable}
use Rattle.mm_why.specs.Answers.{ReachesUse, Owns, IsSharing, IsGiver, GivesAt}
use Rattle.mm_why.proofs.{Pruning.same_or_before, GraphFacts.nodes_len, Giving.{is_graph, below_node}}
use Rattle.mm_why.proofs.Coming.{came, owned}
use Rattle.mm_model.specs.declared.word_use.WordUse.TheVariants as uses

-- 1. Uses and the pointers that give them.

pub can_then : (how : WordUse) (p : Pointer) (w : ℕ) → can_use how p w ≡ true → CanUse how p w
can_then how p w h = let x = and_parts (allows p.perm (asked how)) (holds_word p w) h in (x.0, holds_word-Covers p w x.1)

loads_test : (p : Pointer) (w : ℕ) → LoadsAt p w → can_use uses.Touch p w ≡ true
loads_test p w l = and_from (allows p.perm (asked uses.Touch)) (holds_word p w) l.right (Covers-holds_word p w l.covers)

stores_test : (p : Pointer) (w : ℕ) → StoresAt p w → can_use uses.Write p w ≡ true
stores_test p w s = and_from (allows p.perm (asked uses.Write)) (holds_word p w) s.right (Covers-holds_word p w s.covers)

gives_use : (how : WordUse) (p : Pointer) (w : ℕ) → w % 8 ≡ 0 → CanUse how p w → GivesUse how p w
gives_use uses.Touch p w word can = record { word = word; right = can.0; covers = can.1 }
gives_use uses.Write p w word can = record { word = word; right = can.0; covers = can.1 }

-- what a pointer can be used for, a pointer that it is below can be too
below_use : (how : WordUse) (p q : Pointer) (w : ℕ) → w % 8 ≡ 0 → IsBelow q p → CanUse how q w → CanUse how p w
below_use uses.Touch p q w word below can = let l = below-loads p q w below (record { word = word; right = can.0; covers = can.1 }) in (l.right, l.covers)
below_use uses.Write p q w word below can = let l = below-stores p q w below (record { word = word; right = can.0; covers = can.1 }) in (l.right, l.covers)

-- 2. An owner's line.

module _ (i : Image) (g : Graph) (graph : IsGraph i g) (lines : List Line) (owner : ℕ) (places : List (Option ℕ)) (s : IsSearched g lines owner places) (how : WordUse) (w : ℕ) (word : w % 8 ≡ 0) where
  pub usable_gives : (t : ℕ) → IsUsable lines places how w (length places) t → GivesAt lines t owner how w
  usable_gives t u =
      let p = s.placed u.node t u.at in
      record { small = p.0; group_is = p.1; gives = gives_use how (line_at lines t).pointer w word u.can }

  never_by_pointer : ((t : ℕ) → IsUsable lines places how w (length places) t → ⊥) → ReachesUse g owner how w → ⊥
  never_by_pointer none x =
      let t = s.each x.node x.reached in
      let p = s.placed x.node t.0 t.1 in
      none t.0 (record {
        node = x.node;
        small = let l = s.len in let lt = x.small in omega (arith, l, lt);
        at = t.1;
        can = below_use how (line_at lines t.0).pointer (node_pointer g.keys.items x.node) w word (below_node i g graph x.node (line_at lines t.0).pointer p.2) x.can;
      })

  -- if no line can be used, the owner is privileged
  pub only_maker : ((t : ℕ) → IsUsable lines places how w (length places) t → ⊥) → Owns g owner how w → ReachesRight g owner Make
  only_maker none (inl x) = absurd (never_by_pointer none x)
  only_maker none (inr x) = x

-- the last line of a trace, if only the lines that it needs are kept
pub derives : (i : Image) (how : WordUse) (group w : ℕ) (lines out : List Line) (last : ℕ) (p : Pointer) → IsTrace i lines → Says lines (length lines) last group p → GivesUse how p w
    → (EachFollows i lines → NoneTwice lines → IsDerivation i out) → Says out (length out) (length out - 1) (line_at lines last).group (line_at lines last).pointer → Derives i how group w out
derives i how group w lines out last p trace says gives pruned end = record {
  derivation = pruned trace.follows trace.none_twice;
  pointer = p;
  last = subst (λ v. Says out (length out) (length out - 1) group v) says.pointer
      (subst (λ v. Says out (length out) (length out - 1) v (line_at lines last).pointer) says.group end);
  gives = gives;
}

-- 3. Marks along edges are those of what is reached.

has_small : (xs : List ℕ) (k g : ℕ) → Has xs k g → k < length xs
has_small xs k g h = elim (cases_lt k (length xs)) [ inl lt ↦ lt | inr le ↦ absurd (zero_bit g (subst (λ v. bit_at v g ≡ 1) (get_or_past xs k 0 le) h)) ]

module _ (e : Edges) (start marks : List ℕ) (f : IsFlow e start marks) where
  raised : (a b : ℕ) → a ≤ b → b < 2 → a ≡ 1 → b ≡ 1
  raised a b le lt one = omega (arith, le, lt, one)

  pub flows_marked : (g k : ℕ) → Flows e start g k → Has marks k g
  flows_marked g k (flows_from h) = raised _ _ (f.grows k g) (bit_at-lt (slice_index marks k) g) h
  flows_marked g k (flows_along a j r lt lo hi at) =
      let inside : a < length marks = (let l = f.len in omega (arith, l, lt)) in
      subst (λ v. Has marks v g) at
      (raised _ _ ((f.saturated a inside).cells j lo hi g) (bit_at-lt (slice_index marks (slice_index e.targets j)) g) (flows_marked g a r))
  flows_marked g k (flows_through a r lt enters at) =
      let inside : a < length marks = (let l = f.len in omega (arith, l, lt)) in
      subst (λ v. Has marks v g) at
      (raised _ _ ((f.saturated a inside).entry g) (bit_at-lt (slice_index marks (entry_at e a)) g)
      (and_both (slice_index marks a) (enters_at e a) g (flows_marked g a r) enters))

-- 4. Masks by their bits.

-- all bits of the first n numbers
union : ℕ → (ℕ → ℕ) → ℕ
union zero f = 0
union (suc n) f = bit_or (union n f) (f n)

union_in : (n : ℕ) (f : ℕ → ℕ) (g : ℕ) → bit_at (union n f) g ≡ 1 → (k : ℕ) × (k < n) × (bit_at (f k) g ≡ 1)
unfolding union
union_in zero f g h = absurd (zero_bit g h)
union_in (suc n) f g h = elim (or_cases (union n f) (f n) g h) [
  | inl a ↦ let x = union_in n f g a in (x.0, (let lt = x.1 in omega (arith, lt)), x.2)
  | inr b ↦ (n, omega arith, b)
]

in_union : (n : ℕ) (f : ℕ → ℕ) (g k : ℕ) → k < n → bit_at (f k) g ≡ 1 → bit_at (union n f) g ≡ 1
unfolding union
in_union zero f g k lt h = absurd (omega (arith, lt))
in_union (suc n) f g k lt h = elim (same_or_before k n (omega (arith, lt))) [
  | inl e ↦ or_right (union n f) (f n) g (subst (λ v. bit_at (f v) g ≡ 1) e h)
  | inr small ↦ or_left (union n f) (f n) g (in_union n f g k small h)
]

-- the groups to which all comes that a group of the mask has
comes_to : List ℕ → ℕ → ℕ
comes_to table m = bit_and (union 64 (λ h. kept_mark (bit_at m h == 1) (slice_index table h))) (2 ^ 64 - 1)

comes_from : (table : List ℕ) (m t : ℕ) → bit_at (comes_to table m) t ≡ 1 → (h : ℕ) × (h < 64) × (bit_at m h ≡ 1) × Has table h t
unfolding comes_to
comes_from table m t x =
    let u = union_in 64 (λ h. kept_mark (bit_at m h == 1) (slice_index table h)) t (both_bits (union 64 (λ h. kept_mark (bit_at m h == 1) (slice_index table h))) (2 ^ 64 - 1) t x).0 in
    let k = kept_then (bit_at m u.0 == 1) (slice_index table u.0) t u.2 in
    (u.0, u.1, eqb-true (bit_at m u.0) 1 k.1, k.0)

comes : (table : List ℕ) (m t h : ℕ) → t < 64 → h < 64 → bit_at m h ≡ 1 → Has table h t → bit_at (comes_to table m) t ≡ 1
unfolding comes_to
comes table m t h st sh bit has =
    and_both (union 64 (λ h. kept_mark (bit_at m h == 1) (slice_index table h))) (2 ^ 64 - 1) t
    (in_union 64 (λ h. kept_mark (bit_at m h == 1) (slice_index table h)) t h sh (then_kept (bit_at m h == 1) (slice_index table h) t has (eq-eqb (bit_at m h) 1 bit)))
    (bit_at_ones 64 t st)

mask_small : (m : ℕ) → bit_and m (2 ^ 64 - 1) < 2 ^ 64
mask_small m = let le = and_le_r m (2 ^ 64 - 1) in omega (arith, le)

comes_small : (table : List ℕ) (m : ℕ) → comes_to table m < 2 ^ 64
unfolding comes_to
comes_small table m = mask_small (union 64 (λ h. kept_mark (bit_at m h == 1) (slice_index table h)))

pub either_bit : (a b h : ℕ) (P Q : Type 0) → ((bit_at a h ≡ 1) ↔ P) → ((bit_at b h ≡ 1) ↔ Q) → (bit_at (bit_or a b) h ≡ 1) ↔ (P ⊎ Q)
either_bit a b h P Q p q = (
  λ x. elim (or_cases a b h x) [ inl y ↦ inl (p.0 y) | inr y ↦ inr (q.0 y) ],
  λ x. elim x [ inl y ↦ or_left a b h (p.1 y) | inr y ↦ or_right a b h (q.1 y) ],
)

pub rounds_share : (g : Graph) (marks meets : List ℕ) (r : Rounds) → AreSharingEdges (record { nodes = g.nodes.items; parents = g.parents.items; links = replicate 64 0 }) marks meets
    → r.links ≡ g.links → r.meets ≡ meets → AreRounds g.links meets r.rounds.items → IsSharing g marks r
rounds_share g marks meets r s l m rounds = record {
  links = l;
  meets = subst (AreSharingEdges (record { nodes = g.nodes.items; parents = g.parents.items; links = replicate 64 0 }) marks) (sym m) s;
  rounds = subst (λ v. AreRounds v r.meets r.rounds.items) (sym l) (subst (λ v. AreRounds g.links v r.rounds.items) (sym m) rounds);
}

-- 5. The graph's own facts.

before : (n : ℕ) → 0 < n → n - 1 < n
before n some = omega (arith, some)

module _ (i : Image) (g : Graph) (h : IsGraph i g) where
  abbrev sharing : SharingEdges
  sharing = record { nodes = g.nodes.items; parents = g.parents.items; links = g.links }

  pub size : length g.keys.items ≡ length g.start.items
  size = sym h.built.is_start.len

  -- an entry of one group is one of each
  entries_of_all : (a x y : ℕ) → x < 64 → bit_at (enters_at (edges_of g) a) y ≡ 1 → bit_at (enters_at (edges_of g) a) x ≡ 1
  entries_of_all a x y lt bit = elim (cases_lt a (length g.keys.items)) [
    | inl small ↦ at small (is_entry (pointer_at (key_at g.keys.items a)).perm) refl
        (entry_key (key_at g.keys.items a)) refl
    | inr le ↦ absurd (past le)
  ]
    where
      past : length g.keys.items ≤ a → ⊥
      past le =
          let none = get_or_past g.nodes.items a no_node (let l = nodes_len i g h in omega (arith, l, le)) in
          zero_bit y (subst (λ v. bit_at v y ≡ 1) (ap (λ v. v.enters) none) bit)

      at : a < length g.keys.items → (b : Bool) → is_entry (pointer_at (key_at g.keys.items a)).perm ≡ b → (o : Option CanonicalPtr) → entry_key (key_at g.keys.items a) ≡ o
          → bit_at (enters_at (edges_of g) a) x ≡ 1
      at small false e o eo = absurd (zero_bit y (subst (λ v. bit_at v y ≡ 1) ((h.built.has_nodes.is_nodes.each a small).no_entry (inl e)) bit))
      at small true e None eo = absurd (zero_bit y (subst (λ v. bit_at v y ≡ 1) ((h.built.has_nodes.is_nodes.each a small).no_entry (inr eo)) bit))
      at small true e (Some k) eo =
          let m = ((h.built.has_nodes.is_nodes.each a small).enters k e eo).0 in
          subst (λ v. bit_at v x ≡ 1) (sym m) (h.built.has_nodes.is_masks.each a x small lt tt)

  linked_small : (t b : ℕ) → AreLinked i.slots t b → t < 64
  linked_small t b l = elim l.groups [
    | inl e ↦ subst (λ v. v < 64) e.0 ((is_graph i g h).groups l.served l.one)
    | inr e ↦ subst (λ v. v < 64) e.1 ((is_graph i g h).groups l.server l.other)
  ]

  -- groups are numbered below 64
  reached_small : (t k : ℕ) → Reached (edges_of g) sharing g.start.items t k → t < 64
  reached_small t k (reached_from x) = (h.built.is_start.only k t x).0
  reached_small t k (reached_along a j x lt low high at) = reached_small t a x
  reached_small t k (reached_through a x lt enters at) = reached_small t a x
  reached_small t k (reached_linked b sb x has) = linked_small t b (h.built.is_links.only t b has)
  reached_small t k (reached_shared b m a c sb x lt xa stores up xc loads down) = reached_small t c xc
  reached_small t k (reached_by_maker b a c sb x la xa makes lc xc loads) = reached_small t c xc

  -- 6. Groups that meet by the marks.

  module _ (marks : List ℕ) (f : IsFlow (edges_of g) g.start.items marks) where
    pub marks_len : length marks ≡ length g.keys.items
    marks_len = f.len ∙ h.built.is_start.len

    marked_right : (right : Right) (a : ℕ) → HasSome marks (right_at g.nodes.items right) a → ReachesRight g a right
    marked_right right a x = record { node = x.node; small = (let l = marks_len in let lt = x.small in omega (arith, l, lt)); reached = f.sound x.node a x.marked; has = x.kept }

    right_marked : (right : Right) (a : ℕ) → ReachesRight g a right → HasSome marks (right_at g.nodes.items right) a
    right_marked right a x = record {
      node = x.node;
      small = let l = marks_len in let lt = x.small in omega (arith, l, lt);
      marked = flows_marked (edges_of g) g.start.items marks f a x.node x.reached;
      kept = x.has;
    }

    no_links : (a b : ℕ) → Has (replicate 64 0) a b → ⊥
    no_links a b x = zero_bit b (subst (λ v. bit_at v b ≡ 1) (zeros a) x)
      where
        zeros : (a : ℕ) → slice_index (replicate 64 0) a ≡ 0
        zeros a = elim (cases_lt a 64) [ inl lt ↦ get_or-replicate 64 a 0 0 lt | inr le ↦ get_or_past (replicate 64 0) a 0 le ]

    abbrev alone : SharingEdges
    alone = record { nodes = g.nodes.items; parents = g.parents.items; links = replicate 64 0 }

    shares_meet : (a b : ℕ) → Shares alone marks a b → Meets g a b
    shares_meet a b (shares_linked x) = absurd (no_links a b x)
    shares_meet a b (shares_shared m lt x y) = by_words (record {
      at = m;
      store = x.node;
      load = y.node;
      small = let l = marks_len in omega (arith, l, lt);
      reaches_store = f.sound x.node a x.marked;
      stores = x.kept;
      above_store = x.up;
      reaches_load = f.sound y.node b y.marked;
      loads = y.kept;
      above_load = y.up;
    })
    shares_meet a b (shares_by_maker x y) = by_maker (marked_right Make a x) (marked_right Load b y)

    meet_shares : (a b : ℕ) → Meets g a b → Shares alone marks a b
    meet_shares a b (by_words m) =
        shares_shared m.at (let l = marks_len in let lt = m.small in omega (arith, l, lt))
        (record { node = m.store; up = m.above_store; marked = flows_marked (edges_of g) g.start.items marks f a m.store m.reaches_store; kept = m.stores })
        (record { node = m.load; up = m.above_load; marked = flows_marked (edges_of g) g.start.items marks f b m.load m.reaches_load; kept = m.loads })
    meet_shares a b (by_maker x y) = shares_by_maker (right_marked Make a x) (right_marked Load b y)

    module _ (r : Rounds) (s : IsSharing g marks r) where
      pub context : IsContext i g r
      context = record { graph = h; links = s.links; rounds = s.rounds; meets = λ a b x. shares_meet a b (s.meets.only a b x) }

      meets_each : (a b : ℕ) → a < 64 → b < 64 → Meets g a b → Has r.meets a b
      meets_each a b sa sb m = s.meets.each a b sa (meet_shares a b m)

      -- 7. The marks of all that is granted.

      abbrev final : ℕ
      final = length r.rounds.items - 1

      abbrev last : List ℕ
      last = round_at r.rounds.items final

      final_small : final < length r.rounds.items
      final_small = before (length r.rounds.items) s.rounds.steps.some

      abbrev all_marks : List ℕ
      all_marks = map (comes_to last) marks

      all_len : length all_marks ≡ length marks
      all_len = length-map marks (comes_to last)

      mark_at : (k : ℕ) → k < length marks → slice_index all_marks k ≡ comes_to last (slice_index marks k)
      mark_at k lt = get_or-map (comes_to last) marks k 0 0 lt

      come_in : (k t : ℕ) → Has all_marks k t → (o : ℕ) × (o < 64) × Has marks k o × Has last o t
      come_in k t x =
          let lt = has_small all_marks k t x in
          comes_from last (slice_index marks k) t (subst (λ v. bit_at v t ≡ 1) (mark_at k (let l = all_len in omega (arith, l, lt))) x)

      reached_mark : (t k : ℕ) → k < length all_marks → Reached (edges_of g) sharing g.start.items t k → Has all_marks k t
      reached_mark t k lt x =
          let small = reached_small t k x in
          let o = owned i g r context size meets_each entries_of_all t k small x in
          subst (λ v. bit_at v t ≡ 1) (sym (mark_at k (let l = all_len in omega (arith, l, lt))))
          (comes last (slice_index marks k) t o.owner small o.small (flows_marked (edges_of g) g.start.items marks f o.owner k o.flows) o.comes)

      mark_reached : (t k : ℕ) → Has all_marks k t → Reached (edges_of g) sharing g.start.items t k
      mark_reached t k x =
          let c = come_in k t x in
          came i g r context size final final_small c.0 t k c.1 c.3 (f.sound k c.0 c.2)

      is_reach : IsReach (edges_of g) sharing g.start.items all_marks
      is_reach = record { len = all_len ∙ f.len; only = mark_reached; each = reached_mark }

      fits : (k : ℕ) → slice_index all_marks k < 2 ^ 64
      fits k = elim (cases_lt k (length marks)) [
        | inl lt ↦ subst (λ v. v < 2 ^ 64) (sym (mark_at k lt)) (comes_small last (slice_index marks k))
        | inr le ↦ subst (λ v. v < 2 ^ 64) (sym (get_or_past all_marks k 0 (let l = all_len in omega (arith, l, le)))) (omega arith)
      ]

      abbrev maker : ℕ → ℕ
      maker k = kept_mark (right_at g.nodes.items Make k) (slice_index all_marks k)

      makers : ℕ
      makers = union (length all_marks) maker

      makers_are : (t : ℕ) → (bit_at makers t ≡ 1) ↔ HasSome all_marks (right_at g.nodes.items Make) t
      unfolding makers
      makers_are t = (
        λ x.
            let u = union_in (length all_marks) maker t x in
            let k = kept_then (right_at g.nodes.items Make u.0) (slice_index all_marks u.0) t u.2 in
            record { node = u.0; small = u.1; marked = k.0; kept = k.1 },
        λ x. in_union (length all_marks) maker t x.node x.small (then_kept (right_at g.nodes.items Make x.node) (slice_index all_marks x.node) t x.marked x.kept),
      )

      exact : IsExact i All (in_mask makers) (Marked (node_pointer g.keys.items) all_marks)
      exact = exact_marks i All (node_pointer g.keys.items) (edges_of g) sharing g.start.items (is_graph i g h) all_marks is_reach fits makers makers_are

      -- 8. What owners decide.

      module _ (owners : ℕ) (how : WordUse) (w t : ℕ)
          (are : (o : ℕ) → (bit_at owners o ≡ 1)
          ↔ (HasSome marks (λ k. can_use how (node_pointer g.keys.items k) w) o ⊎ HasSome marks (right_at g.nodes.items Make) o)) where
        owns : (o : ℕ) → HasSome marks (λ k. can_use how (node_pointer g.keys.items k) w) o ⊎ HasSome marks (right_at g.nodes.items Make) o → Owns g o how w
        owns o (inl x) = inl (record {
          node = x.node;
          small = let l = marks_len in let lt = x.small in omega (arith, l, lt);
          reached = f.sound x.node o x.marked;
          can = can_then how (node_pointer g.keys.items x.node) w x.kept;
        })
        owns o (inr x) = inr (marked_right Make o x)

        pub giver : (o : Source) → IsSource r.rounds.items owners t o → IsGiver g r how w t o
        giver o x = record { small = x.small; round = x.round; comes = x.comes; owns = owns o.group ((are o.group).0 x.owns) }

        module _ (none : NoSource r.rounds.items owners t (length r.rounds.items)) where
          never : (keep : ℕ → Bool) → ((o : ℕ) → HasSome marks keep o → bit_at owners o ≡ 1) → HasSome all_marks keep t → ⊥
          never keep own x =
              let c = come_in x.node t x.marked in
              none final c.0 final_small c.1
              (own c.0 (record { node = x.node; small = (let l = all_len in let lt = x.small in omega (arith, l, lt)); marked = c.2; kept = x.kept })) c.3

          never_maker : IsTrue (in_mask makers t) → ⊥
          never_maker x = never (right_at g.nodes.items Make) (λ o y. (are o).1 (inr y)) ((makers_are t).0 (eqb-true (bit_at makers t) 1 x))

          never_known : (p : Pointer) → Marked (node_pointer g.keys.items) all_marks t p → can_use how p w ≡ true → ⊥
          never_known p m can =
              never (λ k. can_use how (node_pointer g.keys.items k) w) (λ o y. (are o).1 (inl y))
              (record { node = m.at; small = m.small; marked = m.marked; kept = subst (λ v. can_use how v w ≡ true) (sym m.is) can })

      touch_not : (owners w t : ℕ) → ((o : ℕ) → (bit_at owners o ≡ 1) ↔ (HasSome marks (λ k. can_use uses.Touch (node_pointer g.keys.items k) w) o ⊎ HasSome marks (right_at g.nodes.items Make) o))
          → NoSource r.rounds.items owners t (length r.rounds.items) → IsTrue (in_mask makers t) ⊎ SomeLoads (Marked (node_pointer g.keys.items) all_marks t) w → ⊥
      touch_not owners w t are none (inl x) = never_maker owners uses.Touch w t are none x
      touch_not owners w t are none (inr x) = never_known owners uses.Touch w t are none x.by x.knows (loads_test x.by w x.loads)

      write_not : (owners w t : ℕ) → ((o : ℕ) → (bit_at owners o ≡ 1) ↔ (HasSome marks (λ k. can_use uses.Write (node_pointer g.keys.items k) w) o ⊎ HasSome marks (right_at g.nodes.items Make) o))
          → NoSource r.rounds.items owners t (length r.rounds.items) → IsTrue (in_mask makers t) ⊎ SomeStores (Marked (node_pointer g.keys.items) all_marks t) w → ⊥
      write_not owners w t are none (inl x) = never_maker owners uses.Write w t are none x
      write_not owners w t are none (inr x) = never_known owners uses.Write w t are none x.by x.knows (stores_test x.by w x.stores)

      pub not_granted : (owners : ℕ) (how : WordUse) (w t : ℕ)
          → ((o : ℕ) → (bit_at owners o ≡ 1) ↔ (HasSome marks (λ k. can_use how (node_pointer g.keys.items k) w) o ⊎ HasSome marks (right_at g.nodes.items Make) o))
          → NoSource r.rounds.items owners t (length r.rounds.items) → IsGranted i how t w → ⊥
      not_granted owners uses.Touch w t are none x = touch_not owners w t are none (exact.touches t w x)
      not_granted owners uses.Write w t are none x = write_not owners w t are none (exact.writes t w x)
