-- What the parts of an image's graph say of pointers for which nodes stand.
use Rattle.std.proofs.Common.{◌≡◌, ◌≢◌, ℕ, ◌+◌, ◌%◌, ◌^◌, ◌<◌, ◌≤◌, ◌⊎◌, inl, inr, Bool, true, false, if◌then◌else◌}
use Rattle.std.proofs.Common.{List, length, slice_index, slice_index_or, get_or, Option, Some, None, refl, sym, ap, ◌∙◌}
use Rattle.std.proofs.Common.{subst, arith}
use Rattle.std.proofs.lemmas.Bool.{cases_lt}
use Rattle.std.proofs.lemmas.List.{get_or_past, Elements.{Contains-get_or, All-from_recursion, All-contains}}
use Rattle.std.specs.List.{Contains, AllByRecursion}
use Rattle.mm_word.proofs.Results.{enter_result-well_formed}
use Rattle.mm_word.specs.declared.perm.{Perm.{Perm, TheVariants.{Ro, Rw, Xu, Xp, Eu, Ep, Key as KeyPerm}}}
use Rattle.mm_word.specs.{declared.word.{Word.{Word, TheVariants.{Int, Ptr}}, Cell.Cell}, Perm.can_move}
use Rattle.mm_word.specs.{Pointer.{Pointer, IsWellFormed, IsBelow, base_of, enter_result}, Word.IsWord}
use Rattle.mm_model.specs.{Memory.cell_at, Slot.Slot, Image.{Image, slot_limit}, Spelling.{IsImage, IsFresh}}
use Rattle.mm_model.specs.Reach.{LoadsAt}
use Rattle.mm_flow.specs.Edges.{node_at}
use Rattle.mm_graph.specs.declared.{canonical_ptr.CanonicalPtr.CanonicalPtr, graph.Graph.Graph}
use Rattle.mm_graph.specs.Key.{IsKey, IsRising, key_at, no_key, pointer_at, standing_for, standing_key, word_key}
use Rattle.mm_graph.specs.{Key.{entry_key, loads_words, is_entry}, Found.page_keys, Nodes.{IsNode, nothing, found_word}}
use Rattle.mm_graph.proofs.{Cells.held, CellWords.well_formed}
use Rattle.mm_graph.proofs.Representatives.{stands_from, stands-pointer, stands_below, entry_from}
use Rattle.mm_graph.proofs.{Bounds.{in_covers, loads_then, entry_then}, Segments.below-loads}
use Rattle.mm_why.specs.Derivations.{line_at, Follows}
use Rattle.mm_why.specs.Searches.{Stage, place_at, IsPlaced, AtNode, Searching, Advances, IsSlotOf}
use Rattle.mm_why.specs.Graphs.{IsGraph, IsFound, CellsPlaced}
use Rattle.mm_why.proofs.{Pruning.same_or_before, Searching.{advances_same, advances_trans, stays_placed}}
use Rattle.mm_why.specs.declared.line.Rule.TheVariants as rules

no_both : (v : Perm) → can_move v ≡ true → is_entry v ≡ true → ⊥
no_both Ro m h = cc
no_both Rw m h = cc
no_both Xu m h = cc
no_both Xp m h = cc
no_both Eu m h = cc
no_both Ep m h = cc
no_both KeyPerm m h = cc

-- an enter pointer stands for itself
entry_itself : (p : Pointer) → is_entry (standing_for p).perm ≡ true → standing_for p ≡ p
entry_itself p = go (can_move p.perm) refl
  where
    go : (b : Bool) → can_move p.perm ≡ b → is_entry (if b then record p { addr = base_of p } else p).perm ≡ true → (if b then record p { addr = base_of p } else p) ≡ p
    go false e h = refl
    go true e h = absurd (no_both p.perm e h)

-- the pointer that a word with a key is
pointer_of_key : (o : Word) (x : CanonicalPtr) → word_key o ≡ Some x → (q : Pointer) × (o ≡ Ptr q) × (standing_key q ≡ Some x)
pointer_of_key (Int v) x h = cc
pointer_of_key (Ptr q) x h = (q, refl, h)

module _ (i : Image) (g : Graph) (graph : IsGraph i g) where
  abbrev keys : List CanonicalPtr
  keys = g.keys.items

  each_node : (a : ℕ) → a < length keys → IsNode keys (page_keys i.memory.pages) (slice_index graph.built.has_nodes.masks a) a (node_at g.nodes.items a)
  each_node a lt = graph.built.has_nodes.is_nodes.each a lt

  key : (a : ℕ) → a < length keys → IsKey (key_at keys a)
  key a lt = graph.built.is_keys.all a no_key lt

  found_len : length g.found.items ≡ length (page_keys i.memory.pages)
  found_len = ap length graph.found

  pub found_at : (k : ℕ) → k < length g.found.items → (p : Pointer) × IsFound i g k p
  found_at k lt =
      let small : k < length (page_keys i.memory.pages) = (let l = found_len in omega (arith, l, lt)) in
      let x = held i.memory graph.image.paged (get_or (page_keys i.memory.pages) k nothing) (Contains-get_or (page_keys i.memory.pages) k nothing small) in
      let same = ap (λ v. get_or v k nothing) graph.found in
      let q = pointer_of_key x.cell.word (get_or (page_keys i.memory.pages) k nothing).key x.holds in
      let t = graph.built.is_targets in
      let word : found_word g.found.items k ≡ (get_or (page_keys i.memory.pages) k nothing).word = ap (λ v. v.word) same in (
        q.0,
        record {
          aligned = subst (λ v. v % 8 ≡ 0) (sym word) x.aligned;
          cell = x.cell;
          at = ap (cell_at i.memory) word ∙ x.at;
          holds = q.1;
          node = record {
            small = t.small k small;
            stands = q.2 ∙ ap Some (sym (t.at k small));
            fits = well_formed
                i.memory graph.image.words (get_or (page_keys i.memory.pages) k nothing).word x.cell q.0 x.at q.1;
          };
        },
      )

  pub never_none : (k : ℕ) → k < length g.found.items → cell_at i.memory (found_word g.found.items k) ≡ None → ⊥
  never_none k lt e = let f = (found_at k lt).1 in let bad = sym e ∙ f.at in cc

  pub found_pointer : (k : ℕ) → k < length g.found.items → (c : Cell) → cell_at i.memory (found_word g.found.items k) ≡ Some c → (p : Pointer) × (c.word ≡ Ptr p) × IsFound i g k p
  found_pointer k lt c e =
      let f = found_at k lt in
      let same : f.1.cell ≡ c = of_some f.1.cell c (sym f.1.at ∙ e) in
      (f.0, ap (λ v. v.word) (sym same) ∙ f.1.holds, f.1)
    where
      of_some : (x y : Cell) → ◌≡◌ {A = Option Cell} (Some x) (Some y) → x ≡ y
      of_some x y h = cc

  -- a pointer for which a node stands loads the words of the node's targets
  pub loads_found : (a k : ℕ) (p : Pointer) → AtNode keys a p → (node_at g.nodes.items a).low ≤ k → k < (node_at g.nodes.items a).high → LoadsAt p (found_word g.found.items k)
  loads_found a k p at lo hi = go (loads_words (pointer_at (key_at keys a))) refl
    where
      node : Pointer
      node = pointer_at (key_at keys a)

      below : IsBelow node p
      below = stands_below p (key_at keys a) at.fits (stands_from p (key_at keys a) at.stands)

      go : (b : Bool) → loads_words node ≡ b → LoadsAt p (found_word g.found.items k)
      go false no_load = absurd (let none = (each_node a at.small).range.none no_load in omega (arith, none, lo, hi))
      go true load =
          let range = (each_node a at.small).range in
          let fits = range.fits in
          let small : k < length g.found.items = (let l = found_len in omega (arith, l, fits, hi)) in
          let bound = range.inside load k lo hi in
          let f = (found_at k small).1 in
          let right = loads_then node load in
          let word : found_word g.found.items k ≡ found_word (page_keys i.memory.pages) k = ap (λ v. found_word v k) graph.found in
          below-loads p node (found_word g.found.items k) below
          (record {
            word = f.aligned;
            right = right.0;
            covers = in_covers node (found_word g.found.items k) right.1
                f.aligned (subst (λ v. base_of node ≤ v) (sym word) bound.0) (subst (λ v. v < base_of node + 2 ^ node.log)
                (sym word) bound.1);
          })

  pub target_small : (a k : ℕ) → a < length keys → k < (node_at g.nodes.items a).high → k < length g.found.items
  target_small a k lt hi = let f = (each_node a lt).range.fits in let l = found_len in omega (arith, f, l, hi)

  -- what an entry by a pointer leaves, if its node leads to one
  pub entry_found : (a : ℕ) (p : Pointer) → AtNode keys a p → (node_at g.nodes.items a).enters ≢ 0
      → (q : Pointer) × (enter_result p ≡ Some q) × ((p.perm ≡ Eu) ⊎ (p.perm ≡ Ep)) × AtNode keys (node_at g.nodes.items a).entry q
  entry_found a p at some = go (is_entry node.perm) refl (entry_key (key_at keys a)) refl
    where
      node : Pointer
      node = pointer_at (key_at keys a)

      stands : node ≡ standing_for p
      stands = stands-pointer p (key_at keys a) at.fits (stands_from p (key_at keys a) at.stands)

      go : (b : Bool) → is_entry node.perm ≡ b → (o : Option CanonicalPtr) → entry_key (key_at keys a) ≡ o
          → (q : Pointer) × (enter_result p ≡ Some q) × ((p.perm ≡ Eu) ⊎ (p.perm ≡ Ep)) × AtNode keys (node_at g.nodes.items a).entry q
      go false no_entry o e = absurd (some ((each_node a at.small).no_entry (inl no_entry)))
      go true yes_entry None e = absurd (some ((each_node a at.small).no_entry (inr e)))
      go true yes_entry (Some x) e =
          let same : node ≡ p = stands ∙ entry_itself p (subst (λ v. is_entry v.perm ≡ true) stands yes_entry) in
          let from = entry_from node x e in
          let to = (each_node a at.small).enters x yes_entry e in (
            from.to,
            ap enter_result (sym same) ∙ from.enters,
            subst (λ v. (v.perm ≡ Eu) ⊎ (v.perm ≡ Ep)) same (entry_then node.perm yes_entry),
            record { small = (each_node a at.small).small; stands = from.stands ∙ ap Some (sym to.1); fits = enter_result-well_formed node from.to (key a at.small).well_formed from.enters },
          )

  pub rising : IsRising keys
  rising = graph.built.is_keys.rising

  pub nodes_len : length g.nodes.items ≡ length keys
  nodes_len = graph.built.has_nodes.is_nodes.len

  pub order : (a : ℕ) → a < length keys → (node_at g.nodes.items a).low ≤ (node_at g.nodes.items a).high
  order a lt = (each_node a lt).range.order

  pub entry_small : (a : ℕ) → a < length keys → (node_at g.nodes.items a).entry < length keys
  entry_small a lt = (each_node a lt).small

  -- a cell's pointer is granted by the line of a node that leads to its own
  pub cell_now : (group a by k : ℕ) (s : Stage) (p : Pointer) → place_at s.places a ≡ Some by → Searching i keys group s → IsFound i g k p → (node_at g.nodes.items a).low ≤ k
      → k < (node_at g.nodes.items a).high → Follows i s.lines (length s.lines) group p (rules.Cell (found_word g.found.items k) by)
  cell_now group a by k s p at now f lo hi =
      let h = now.placed a by at in
      record {
        by = (line_at s.lines by).pointer;
        says = record { earlier = h.0; group = h.1; pointer = refl };
        loads = loads_found a k (line_at s.lines by).pointer h.2 lo hi;
        cell = f.cell;
        at = f.at;
        holds = f.holds;
      }

  module _ (group node by : ℕ) (old : Stage) (at_by : place_at old.places node ≡ Some by) where
    pub cells_start : Searching i keys group old → CellsPlaced i g group node (node_at g.nodes.items node).low old old
    cells_start now = record { advances = advances_same i keys group old now; cells = λ j lo hi. absurd (omega (arith, lo, hi)) }

    pub cells_more : (b c : Stage) (k : ℕ) → CellsPlaced i g group node k old b → Advances i keys group b c × IsPlaced c.places (slice_index g.targets.items k)
        → CellsPlaced i g group node (k + 1) old c
    cells_more b c k r h = record {
      advances = advances_trans i keys group old b c r.advances h.0;
      cells = λ j lo hi. at j lo (same_or_before j k hi);
    }
      where
        at : (j : ℕ) → (node_at g.nodes.items node).low ≤ j → (j ≡ k) ⊎ (j < k) → IsPlaced c.places (slice_index g.targets.items j)
        at j lo (inl e) = subst (λ v. IsPlaced c.places (slice_index g.targets.items v)) (sym e) h.1
        at j lo (inr lt) = stays_placed b c (slice_index g.targets.items j) h.0.further (r.cells j lo lt)

    -- what an entry leaves is granted by the line
    pub entry_follows : Searching i keys group old → (some : (node_at g.nodes.items node).enters ≢ 0) (q : Pointer) → enter_result (line_at old.lines by).pointer ≡ Some q
        → Follows i old.lines (length old.lines) group q (rules.Entered by) × AtNode keys (node_at g.nodes.items node).entry q
    entry_follows now some q is =
        let h = now.placed node by at_by in
        let e = entry_found node (line_at old.lines by).pointer h.2 some in
        let same : e.0 ≡ q = of_some e.0 q (sym e.1 ∙ is) in (
          record { by = (line_at old.lines by).pointer; says = record { earlier = h.0; group = h.1; pointer = refl }; enters = e.2; leaves = is },
          subst (AtNode keys (node_at g.nodes.items node).entry) same e.3,
        )
      where
        of_some : (x y : Pointer) → ◌≡◌ {A = Option Pointer} (Some x) (Some y) → x ≡ y
        of_some x y h = cc

    pub entry_never : Searching i keys group old → (node_at g.nodes.items node).enters ≢ 0 → enter_result (line_at old.lines by).pointer ≡ None → ⊥
    entry_never now some is =
        let h = now.placed node by at_by in
        let e = entry_found node (line_at old.lines by).pointer h.2 some in
        let bad = sym e.1 ∙ is in
        cc

pub slot_of : (i : Image) → IsImage i → (s : Slot) → Contains i.slots s → IsSlotOf i s
slot_of i image s h =
    let fresh = All-contains (IsFresh (slot_limit i.version) i.slots) i.slots s (All-from_recursion _ i.slots image.fresh) h in
    record {
      stands = h;
      ip = fresh.ip;
      words = λ r p e. word r p e (cases_lt r (length s.regs)) fresh.words;
    }
  where
    word : (r : ℕ) (p : Pointer) → slice_index_or s.regs r (Int 0) ≡ Ptr p → (r < length s.regs) ⊎ (length s.regs ≤ r) → AllByRecursion IsWord s.regs → IsWellFormed p
    word r p e (inl lt) all = subst IsWord e (All-from_recursion IsWord s.regs all r (Int 0) lt)
    word r p e (inr le) all = let bad = sym (get_or_past s.regs r (Int 0) le) ∙ e in cc

pub same_pointer : (o : Option Pointer) (p q : Pointer) → o ≡ Some p → o ≡ Some q → p ≡ q
same_pointer o p q a b = of_some (sym a ∙ b)
  where
    of_some : ◌≡◌ {A = Option Pointer} (Some p) (Some q) → p ≡ q
    of_some h = cc
