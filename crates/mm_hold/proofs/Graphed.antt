-- The parts of a graph stand for the pointers in cells that are not kept, with doors that stand for themselves.
use Rattle.std.proofs.Common.{◌≡◌, ℕ, zero, suc, ◌+◌, ◌-◌, ◌*◌, ◌/◌, ◌%◌, ◌^◌, ◌<◌, ◌≤◌, inl, inr, Bool, true, false, not, ◌&&◌, List, [], ◌∷◌}
use Rattle.std.proofs.Common.{length, map, slice_index, get_or, if◌then◌else◌, Option, Some, None, option_and_then, refl, sym, ap, ◌∙◌, subst, arith}
use Rattle.std.proofs.lemmas.{List.get_or_default, List.Elements.Contains-get_or, Nat.Bits.bit_at_ones, Bool.and_parts}
use Rattle.std.specs.{Int.bit_at}
use Rattle.mm_word.proofs.Results.{enter_result-well_formed}
use Rattle.mm_word.specs.declared.perm.Perm.{Perm, TheVariants.{Ro, Rw, Xu, Xp, Eu, Ep, Key}}
use Rattle.mm_word.specs.declared.word.{Word.TheVariants.Ptr, Cell.Cell}
use Rattle.mm_word.specs.Pointer.{Pointer, IsWellFormed, IsBelow, base_of, enter_result}
use Rattle.mm_word.specs.Perm.{execute_form}
use Rattle.mm_model.specs.{Memory.cell_at, Image.Image, Spelling.IsImage, Reach.{LoadsAt, StoresAt}}
use Rattle.mm_flow.specs.declared.node.{Right.TheVariants.{Load, Store}}
use Rattle.mm_flow.specs.Edges.{Edges, node_at, low_at, high_at, entry_at, enters_at, right_at}
use Rattle.mm_flow.{specs.{Sharing.Up, Forest.In}, proofs.{Geometry.{share, shared_base}, Bits.zero_bit}}
use Rattle.mm_graph.specs.{GraphOf.CommonWord, Marked.node_pointer}
use Rattle.mm_graph.specs.declared.{canonical_ptr.CanonicalPtr.CanonicalPtr, found.Found.Found, seed.Seed.Seed}
use Rattle.mm_graph.specs.Key.{IsKey, key_at, no_key, pointer_at, standing_key, entry_key, loads_words, is_entry}
use Rattle.mm_graph.specs.Nodes.{IsKeysOf, IsTargets, IsNode, nothing, found_word}
use Rattle.mm_graph.proofs.Representatives.{stands_from, stands_above, stands_below, standing_none, entry_from, enters_from}
use Rattle.mm_graph.proofs.{Nesting.log_is, CellWords.well_formed}
use Rattle.mm_graph.proofs.Bounds.{covers_in, in_covers, of_words, loads_then, stores_then, loads_test, stores_test}
use Rattle.mm_graph.proofs.Bounds.{entry_test}
use Rattle.mm_kernel.specs.Segments.{Segment, is_kept, is_door, is_enter, meets}
use Rattle.mm_hold.specs.declared.edges.Graph.{Graph}
use Rattle.mm_hold.specs.{Finding.{cell_found, held_key, held_word}, Graphs.{ArePlaces, IsBuilt, IsShaped, entry_mask, found_of}}
use Rattle.mm_hold.specs.Standing.{edges_in, IsGraphOf, Placed, Placed.{powerless, at as placed}, LeadsTo, EntersTo, CellOf, EntryOf, Meet}
use Rattle.mm_hold.proofs.HeldKeys.{held_none, held_above, held_below, word_pointer, cell_there, cell_from}
use Rattle.mm_hold.proofs.CellLists.{given_there, given_from, found_ascends}

-- 1. Masks of entries.

pub mask_at : (kept : List Segment) (keys : List CanonicalPtr) (k : ℕ) → k < length keys → slice_index (map (entry_mask kept) keys) k ≡ entry_mask kept (key_at keys k)
mask_at kept [] k lt = absurd (omega arith)
mask_at kept (x ∷ xs) zero lt = refl
mask_at kept (x ∷ xs) (suc k) lt = mask_at kept xs k (omega arith)

enter_then : (p : Perm) → is_enter p ≡ true → p ≡ Eu
enter_then Eu h = refl
enter_then Ro h = cc
enter_then Rw h = cc
enter_then Xu h = cc
enter_then Xp h = cc
enter_then Ep h = cc
enter_then Key h = cc

not_then : (b : Bool) → not b ≡ true → b ≡ false
not_then false h = refl
not_then true h = cc

module _ (kept : List Segment) (key : CanonicalPtr) where
  mask_full : (pointer_at key).perm ≡ Eu → is_door kept (pointer_at key) ≡ false → entry_mask kept key ≡ 2 ^ 64 - 1
  mask_full e out = ap (λ b. if b then 2 ^ 64 - 1 else 0) (ap (λ p. is_enter p && not (is_door kept (pointer_at key))) e ∙ ap not out)

  mask_some : (x : ℕ) → bit_at (entry_mask kept key) x ≡ 1 → ((pointer_at key).perm ≡ Eu) × (is_door kept (pointer_at key) ≡ false)
  mask_some x = by (is_enter (pointer_at key).perm && not (is_door kept (pointer_at key))) refl
    where
      by : (b : Bool) → (is_enter (pointer_at key).perm && not (is_door kept (pointer_at key))) ≡ b → bit_at (if b then 2 ^ 64 - 1 else 0) x ≡ 1
          → ((pointer_at key).perm ≡ Eu) × (is_door kept (pointer_at key) ≡ false)
      by true e h =
          let parts = and_parts (is_enter (pointer_at key).perm) (not (is_door kept (pointer_at key))) e in
          (enter_then (pointer_at key).perm parts.0, not_then (is_door kept (pointer_at key)) parts.1)
      by false e h = absurd (zero_bit x h)

-- an entry leaves no door
entered_out : (kept : List Segment) (p q : Pointer) → p.perm ≡ Eu → enter_result p ≡ Some q → is_door kept q ≡ false
unfolding is_door
entered_out kept p q eu h =
    let to = enters_from p q h in
    let form : ◌≡◌ {A = Option Perm} (Some Xu) (Some to.perm) = sym (ap execute_form eu) ∙ to.form in
    let perm : Xu ≡ to.perm = cc in
    ap (λ v. is_enter v && meets kept q) (ap (λ (v : Pointer). v.perm) to.is ∙ sym perm)

pub places_are : (i : Image) (kept : List Segment) → IsImage i → (seeds : List Seed) (found : List Found) (keys : List CanonicalPtr) (targets : List ℕ)
    → found ≡ found_of i kept → IsKeysOf found seeds keys → IsTargets keys found targets → ArePlaces i kept seeds found keys targets
places_are i kept img seeds found keys targets is k t = record {
  is_found = is;
  ascends = found_ascends kept i.memory img.paged;
  is_keys = subst (λ l. IsKeysOf l seeds keys) is k;
  is_targets = subst (λ l. IsTargets keys l targets) is t;
}

module _ (i : Image) (kept : List Segment) (image : IsImage i) (seeds : List Seed) (g : Graph) (b : IsBuilt i kept seeds g) where
  abbrev keys : List CanonicalPtr
  keys = g.keys.items

  abbrev node : ℕ → Pointer
  node = node_pointer keys

  abbrev edges : Edges
  edges = edges_in g

  abbrev found : List Found
  found = found_of i kept

  key : (a : ℕ) → a < length keys → IsKey (key_at keys a)
  key a lt = b.is_keys.all a no_key lt

  each_node : (a : ℕ) → a < length keys → IsNode keys found (slice_index (map (entry_mask kept) keys) a) a (node_at g.nodes.items a)
  each_node a lt = b.is_nodes.each a lt

  -- 2. Cells.

  cell_word : (w : ℕ) (c : Cell) (q : Pointer) → cell_at i.memory w ≡ Some c → c.word ≡ Ptr q → IsWellFormed q
  cell_word w c q at is = well_formed i.memory image.words w c q at is

  load_right : (a : ℕ) → a < length keys → right_at g.nodes.items Load a ≡ loads_words (node a)
  load_right a lt = (each_node a lt).loads

  in_cell : (a w : ℕ) (c : Cell) (q : Pointer) → a < length keys → LoadsAt (node a) w → is_kept kept w ≡ false → cell_at i.memory w ≡ Some c → c.word ≡ Ptr q
      → Placed kept keys (LeadsTo edges a) q
  in_cell a w c q lt ld out at is = go (held_key kept q) refl
    where
      go : (o : Option CanonicalPtr) → held_key kept q ≡ o → Placed kept keys (LeadsTo edges a) q
      go None e = let none = held_none kept q e in powerless none.0 none.1
      go (Some y) e =
          let f : Found = record { word = w; key = y } in
          let mem = given_there (cell_found kept) i.memory image.paged w c f at (cell_there kept w c y out (ap (held_word kept) is ∙ e)) in
          let same_found : get_or found mem.0 nothing ≡ f = get_or_default found mem.0 nothing f mem.1 ∙ mem.2 in
          let word : found_word found mem.0 ≡ w = ap (λ (v : Found). v.word) same_found in
          let same : (get_or found mem.0 nothing).key ≡ y = ap (λ (v : Found). v.key) same_found in
          let bound = covers_in (node a) w ld.covers in
          let lo = bound.0 in
          let hi = bound.1 in
          let range = (each_node a lt).range.each (loads_test (node a) w ld) mem.0 mem.1 (omega arith) (omega arith) in
          placed (slice_index g.targets.items mem.0) (b.is_targets.small mem.0 mem.1) (record { at = mem.0; low = range.0; high = range.1; is = refl })
          (subst (λ v. IsBelow q (pointer_at v)) (sym (b.is_targets.at mem.0 mem.1 ∙ same)) (held_above kept q y (cell_word w c q at is) e))

  target_cell : (a j : ℕ) → a < length keys → low_at edges a ≤ j → j < high_at edges a → CellOf i kept (node a) (node (slice_index g.targets.items j))
  target_cell a j lt lo hi = at (loads_words (node a)) refl
    where
      at : (v : Bool) → loads_words (node a) ≡ v → CellOf i kept (node a) (node (slice_index g.targets.items j))
      at false no_load = absurd (let none = (each_node a lt).range.none no_load in omega arith)
      at true load =
          let range = (each_node a lt).range in
          let fits = range.fits in
          let small : j < length found = omega arith in
          let bound = range.inside load j lo hi in
          let f : Found = get_or found j nothing in
          let x = given_from (cell_found kept) i.memory image.paged f (Contains-get_or found j nothing small) in
          let has = cell_from kept x.word x.cell f x.has in
          let q = word_pointer kept x.cell.word f.key has.1 in
          let right = loads_then (node a) load in
          let word : found_word found j ≡ x.word = has.2 in
          let low : base_of (node a) ≤ x.word = subst (λ v. base_of (node a) ≤ v) word bound.0 in
          let high : x.word < base_of (node a) + 2 ^ (node a).log = subst (λ v. v < base_of (node a) + 2 ^ (node a).log) word bound.1 in
          record {
            word = x.word;
            cell = x.cell;
            holds = q.0;
            loads = record { word = x.aligned; right = right.0; covers = in_covers (node a) x.word right.1 x.aligned low high };
            out = has.0;
            at = x.at;
            is = q.1;
            below = subst (λ v. IsBelow (pointer_at v) q.0) (sym (b.is_targets.at j small)) (held_below kept q.0 f.key (cell_word x.word x.cell q.0 x.at q.1) q.2);
          }

  -- 3. Entries.

  mask_of : (a : ℕ) → a < length keys → slice_index (map (entry_mask kept) keys) a ≡ entry_mask kept (key_at keys a)
  mask_of a lt = mask_at kept keys a lt

  entry_key_at : (a : ℕ) (q : Pointer) (o : Option CanonicalPtr) → enter_result (node a) ≡ Some q → standing_key q ≡ o → entry_key (key_at keys a) ≡ o
  entry_key_at a q o h e = ap (option_and_then standing_key) h ∙ e

  enters_at_node : (a : ℕ) (q : Pointer) → a < length keys → (node a).perm ≡ Eu → is_door kept (node a) ≡ false → enter_result (node a) ≡ Some q
      → Placed kept keys (EntersTo edges a) q
  enters_at_node a q lt eu out h = go (standing_key q) refl
    where
      go : (o : Option CanonicalPtr) → standing_key q ≡ o → Placed kept keys (EntersTo edges a) q
      go None e = powerless (entered_out kept (node a) q eu h) (standing_none q e)
      go (Some y) e =
          let enter = (each_node a lt).enters y (entry_test (node a).perm (inl eu)) (entry_key_at a q (Some y) h e) in
          let mask = enter.0 ∙ mask_of a lt ∙ mask_full kept (key_at keys a) eu out in
          let w = enter_result-well_formed (node a) q (key a lt).well_formed h in
          placed (entry_at edges a) (each_node a lt).small (record { is = refl; all = λ x small. ap (λ v. bit_at v x) mask ∙ bit_at_ones 64 x small })
          (subst (λ v. IsBelow q (pointer_at v)) (sym enter.1) (stands_above q y w (stands_from q y e)))

  entered_from : (a x : ℕ) → a < length keys → bit_at (enters_at edges a) x ≡ 1 → EntryOf kept (node a) (node (entry_at edges a))
  entered_from a x lt h = at (is_entry (node a).perm) refl (entry_key (key_at keys a)) refl
    where
      at : (v : Bool) → is_entry (node a).perm ≡ v → (o : Option CanonicalPtr) → entry_key (key_at keys a) ≡ o → EntryOf kept (node a) (node (entry_at edges a))
      at false no_entry o e = absurd (zero_bit x (ap (λ v. bit_at v x) (sym ((each_node a lt).no_entry (inl no_entry))) ∙ h))
      at true yes_entry None e = absurd (zero_bit x (ap (λ v. bit_at v x) (sym ((each_node a lt).no_entry (inr e))) ∙ h))
      at true yes_entry (Some y) e =
          let enter = (each_node a lt).enters y yes_entry e in
          let from = entry_from (node a) y e in
          let w = enter_result-well_formed (node a) from.to (key a lt).well_formed from.enters in
          let alone = mask_some kept (key_at keys a) x (ap (λ v. bit_at v x) (sym (enter.0 ∙ mask_of a lt)) ∙ h) in
          record {
            perm = alone.0;
            out = alone.1;
            to = from.to;
            enters = from.enters;
            below = subst (λ v. IsBelow (pointer_at v) from.to) (sym enter.1) (stands_below from.to y w (stands_from from.to y from.stands));
          }

  -- 4. Segments.

  base_at : (a : ℕ) → a < length keys → slice_index b.has_forest.bases a ≡ base_of (node a)
  base_at a lt = b.has_forest.is_bases.at a lt ∙ (key a lt).base

  end_at : (a : ℕ) → a < length keys → slice_index b.has_forest.ends a ≡ base_of (node a) + 2 ^ (node a).log
  end_at a lt =
      b.has_forest.is_ends.at a lt ∙ ap (λ v. v + 2 ^ (54 - (key_at keys a).narrow)) (key a lt).base ∙ ap (λ v. base_of (node a) + 2 ^ v) (log_is (key_at keys a) (key a lt))

  in_base : (a : ℕ) → a < length keys → a < length b.has_forest.bases
  in_base a lt = let q = b.has_forest.is_bases.len in omega arith

  in_segment : (a w : ℕ) → a < length keys → (base_of (node a) ≤ w) × (w < base_of (node a) + 2 ^ (node a).log) → In b.has_forest.bases b.has_forest.ends a w
  in_segment a w lt h = let x = base_at a lt in let y = end_at a lt in let lo = h.0 in let hi = h.1 in (omega arith, omega arith)

  par_len : length g.parents.items ≡ length b.has_forest.bases
  par_len = b.has_forest.len ∙ sym b.has_forest.is_bases.len

  meets_at : (a c w : ℕ) → a < length keys → c < length keys → StoresAt (node a) w → LoadsAt (node c) w → Meet g.parents.items (length keys) a c
  meets_at a c w la lc st ld =
      let f = b.has_forest in
      let x = share f.bases f.logs f.ends g.parents.items f.ordered f.forest par_len a c w (in_base a la) (in_base c lc)
      (in_segment a w la (covers_in (node a) w st.covers)) (in_segment c w lc (covers_in (node c) w ld.covers)) in
      record { at = x.at; small = (let lt = x.small in let q = f.is_bases.len in omega arith); left = x.left; right = x.right }

  -- the word in which the base of a segment above lies
  word_in : (a c : ℕ) → a < length keys → 3 ≤ (node a).log → In b.has_forest.bases b.has_forest.ends a c → (base_of (node a) ≤ c / 8 * 8) × (c / 8 * 8 < base_of (node a) + 2 ^ (node a).log)
  word_in a c lt long inside =
      let o = of_words (node a) long in
      let base = o.base in
      let x = base_at a lt in
      let y = end_at a lt in
      let lo = inside.0 in
      let hi = inside.1 in
      (omega arith, omega arith)

  up_small : (a m : ℕ) → m < length keys → Up g.parents.items a m → a < length keys
  up_small a m lm ua = let d = (b.has_forest.forest.down a m (let q = b.has_forest.len in omega arith) ua).0 in omega arith

  meeting_at : (m a c : ℕ) → m < length keys → Up g.parents.items a m → Up g.parents.items c m → right_at g.nodes.items Store a ≡ true
      → right_at g.nodes.items Load c ≡ true → CommonWord (node a) (node c)
  meeting_at m a c lm ua uc sa lc =
      let f = b.has_forest in
      let small_a = up_small a m lm ua in
      let small_c = up_small c m lm uc in
      let st = stores_then (node a) (sym (each_node a small_a).stores ∙ sa) in
      let ld = loads_then (node c) (sym (load_right c small_c) ∙ lc) in
      let in_a = shared_base f.bases f.logs f.ends g.parents.items f.ordered f.forest par_len a m (in_base m lm) ua in
      let in_c = shared_base f.bases f.logs f.ends g.parents.items f.ordered f.forest par_len c m (in_base m lm) uc in
      let wa = word_in a (slice_index f.bases m) small_a st.1 in_a in
      let wc = word_in c (slice_index f.bases m) small_c ld.1 in_c in
      let aligned : (slice_index f.bases m / 8 * 8) % 8 ≡ 0 = omega arith in
      record {
        word = slice_index f.bases m / 8 * 8;
        stores = record { word = aligned; right = st.0; covers = in_covers (node a) (slice_index f.bases m / 8 * 8) st.1 aligned wa.0 wa.1 };
        loads = record { word = aligned; right = ld.0; covers = in_covers (node c) (slice_index f.bases m / 8 * 8) ld.1 aligned wc.0 wc.1 };
      }

  -- 5. The graph.

  pub graph_is : IsGraphOf i kept g
  graph_is = record {
    cells = in_cell;
    targets = target_cell;
    enters = enters_at_node;
    entries = entered_from;
    loads = λ a w lt ld. load_right a lt ∙ loads_test (node a) w ld;
    stores = λ a w lt st. (each_node a lt).stores ∙ stores_test (node a) w st;
    meets = meets_at;
    meeting = meeting_at;
  }

  pub graph_shaped : IsShaped g
  graph_shaped = record {
    rising = b.is_keys.rising;
    keys = b.is_keys.all;
    nodes = b.is_nodes.len;
    parents = b.has_forest.len;
    edges = record {
      nodes = b.is_nodes.len;
      order = λ k lt. (each_node k lt).range.order;
      ends = λ k lt. let fits = (each_node k lt).range.fits in let len = b.is_targets.len in omega arith;
      targets = λ j lt. b.is_targets.small j (let len = b.is_targets.len in omega arith);
      entries = λ k lt. (each_node k lt).small;
    };
    loads = load_right;
    stores = λ k lt. (each_node k lt).stores;
  }
