-- The parts of a graph stand for their image.
use Rattle.std.proofs.Common.{◌≡◌, ℕ, ◌+◌, ◌-◌, ◌*◌, ◌/◌, ◌%◌, ◌^◌, ◌<◌, ◌≤◌, ◌⊎◌, inl, inr, Bool, true, false, List}
use Rattle.std.proofs.Common.{length, slice_index, get_or, Option, Some, None, option_and_then, refl, sym, ap, ◌∙◌}
use Rattle.std.proofs.Common.{subst, arith, pow_pos}
use Rattle.std.proofs.lemmas.List.{get_or_default, Elements.{Contains-get_or, All-from_recursion, All-contains}}
use Rattle.std.specs.{Int.bit_at, List.Contains}
use Rattle.mm_word.proofs.Results.{enter_result-well_formed}
use Rattle.mm_word.specs.declared.perm.Perm.TheVariants.{Eu, Ep}
use Rattle.mm_word.specs.{declared.word.{Word.{Word, TheVariants.{Int, Ptr}}, Cell.Cell}, Word.IsWord}
use Rattle.mm_word.specs.Pointer.{Pointer, IsWellFormed, IsBelow, base_of, enter_result}
use Rattle.mm_model.specs.{Memory.cell_at, Slot.Slot, Image.{Image, slot_limit}, Spelling.{IsImage, IsFresh}}
use Rattle.mm_model.specs.Reach.{Entries, Grants, MayEnter, LoadsAt, StoresAt, Grants.{in_register, runs_by, below}}
use Rattle.mm_flow.specs.declared.node.{Node.Node, Right.TheVariants.{Load, Store}}
use Rattle.mm_flow.specs.Edges.{Edges, SharingEdges, node_at, low_at, high_at, entry_at, enters_at, right_at}
use Rattle.mm_flow.{specs.{Flow.Has, Sharing.Up, Forest.In}, proofs.{Geometry.{share, shared_base}, Bits.zero_bit}}
use Rattle.mm_graph.specs.Summary.{IsPowerless}
use Rattle.mm_graph.specs.GraphOf.{IsGraphOf, Started, TargetOf, CellOf, EntryOf, CommonWord, Meet, LoadedWord, Entered}
use Rattle.mm_graph.specs.declared.{canonical_ptr.CanonicalPtr.CanonicalPtr, found.Found.Found}
use Rattle.mm_graph.specs.Key.{IsKey, key_at, no_key, pointer_at, standing_key, word_key, entry_key, loads_words}
use Rattle.mm_graph.specs.{Key.is_entry, Found.{page_keys, seeds_of}}
use Rattle.mm_graph.specs.Nodes.{IsKeysOf, IsNodes, IsNode, IsTargets, IsMarks, IsLinks, nothing, found_word}
use Rattle.mm_graph.specs.{Masks.IsEntryMasks, Forest.HasForest, Marked.node_pointer}
use Rattle.mm_graph.proofs.Representatives.{stands_from, stands_above, stands_below, standing_none, entry_from}
use Rattle.mm_graph.proofs.{Representatives.base_below, Nesting.log_is, Cells.{there, held}, CellWords.well_formed}
use Rattle.mm_graph.proofs.Slots.{held_seed, run_seed, seed_from}
use Rattle.mm_graph.proofs.Bounds.{covers_in, in_covers, of_words, loads_then, stores_then, loads_test, stores_test}
use Rattle.mm_graph.proofs.Bounds.{makes_test, makes_then, entry_test, entry_then}

module _ (i : Image) (e : Entries) (image : IsImage i) (keys : List CanonicalPtr) (nodes : List Node) (targets parents links start masks : List ℕ)
    (k : IsKeysOf (page_keys i.memory.pages) (seeds_of i.slots) keys) (n : IsNodes keys (page_keys i.memory.pages) masks nodes) (t : IsTargets keys (page_keys i.memory.pages) targets)
    (f : HasForest keys parents) (l : IsLinks i.slots links) (s : IsMarks keys (seeds_of i.slots) start) (m : IsEntryMasks e keys masks) where
  abbrev node : ℕ → Pointer
  node = node_pointer keys

  abbrev edges : Edges
  edges = record { nodes = nodes; targets = targets }

  abbrev sharing : SharingEdges
  sharing = record { nodes = nodes; parents = parents; links = links }

  abbrev found : List Found
  found = page_keys i.memory.pages

  size : length start ≡ length keys
  size = s.len

  fit : (a : ℕ) → a < length start → a < length keys
  fit a lt = let q = size in omega arith

  unfit : (a : ℕ) → a < length keys → a < length start
  unfit a lt = let q = size in omega arith

  key : (a : ℕ) → a < length start → IsKey (key_at keys a)
  key a lt = k.all a no_key (fit a lt)

  each_node : (a : ℕ) → a < length start → IsNode keys found (slice_index masks a) a (node_at nodes a)
  each_node a lt = n.each a (fit a lt)

  fresh : (x : Slot) → Contains i.slots x → IsFresh (slot_limit i.version) i.slots x
  fresh x h = All-contains (IsFresh (slot_limit i.version) i.slots) i.slots x (All-from_recursion _ i.slots image.fresh) h

  limit : slot_limit i.version ≤ 64
  limit = at i.version image.version
    where
      at : (v : ℕ) → (v ≡ 1) ⊎ (v ≡ 2) → slot_limit v ≤ 64
      at v (inl x) = subst (λ w. slot_limit w ≤ 64) (sym x) (omega arith)
      at v (inr x) = subst (λ w. slot_limit w ≤ 64) (sym x) (omega arith)

  groups : (x : Slot) → Contains i.slots x → x.group < 64
  groups x h = let lt = (fresh x h).group in let le = limit in omega arith

  held_well_formed : (x : Slot) (q : Pointer) → Contains i.slots x → Contains x.regs (Ptr q) → IsWellFormed q
  held_well_formed x q h r = All-contains IsWord x.regs (Ptr q) (All-from_recursion IsWord x.regs (fresh x h).words) r

  word_of : (q : Pointer) (o : Word) → o ≡ Ptr q → IsWord o → IsWellFormed q
  word_of q o is w = subst IsWord is w

  -- a key at its place
  place_of_key : (x : CanonicalPtr) → Contains keys x → (a : ℕ) × (a < length keys) × (key_at keys a ≡ x)
  place_of_key x h = (h.0, h.1, get_or_default keys h.0 no_key x h.1 ∙ h.2)

  begins : (g : ℕ) (q : Pointer) (x : CanonicalPtr) → g < 64 → IsWellFormed q → standing_key q ≡ Some x → Contains (seeds_of i.slots) (record { group = g; key = x }) → Started node start g q
  begins g q x lt w e2 c =
      let p = place_of_key x (k.of_seeds _ c) in
      let st = stands_from q x e2 in
      record {
        at = p.0;
        small = unfit p.0 p.1;
        below = subst (λ v. IsBelow q (pointer_at v)) (sym p.2) (stands_above q x w st);
        marked = s.each p.0 g p.1 lt (subst (λ v. Contains (seeds_of i.slots) (record { group = g; key = v })) (sym p.2) c);
      }

  holds_at : (x : Slot) (q : Pointer) → Contains i.slots x → Contains x.regs (Ptr q) → IsPowerless q ⊎ Started node start x.group q
  holds_at x q h r = at (standing_key q) refl
    where
      at : (o : Option CanonicalPtr) → standing_key q ≡ o → IsPowerless q ⊎ Started node start x.group q
      at None e2 = inl (standing_none q e2)
      at (Some y) e2 = inr (begins x.group q y (groups x h) (held_well_formed x q h r) e2 (held_seed i.slots x q y h r e2))

  runs_at : (x : Slot) → Contains i.slots x → IsPowerless x.ip ⊎ Started node start x.group x.ip
  runs_at x h = at (standing_key x.ip) refl
    where
      at : (o : Option CanonicalPtr) → standing_key x.ip ≡ o → IsPowerless x.ip ⊎ Started node start x.group x.ip
      at None e2 = inl (standing_none x.ip e2)
      at (Some y) e2 = inr (begins x.group x.ip y (groups x h) (fresh x h).ip e2 (run_seed i.slots x y h e2))

  starts : (a g : ℕ) → Has start a g → Grants i e g (node a)
  starts a g h =
      let o = seed_from i.slots _ (s.only a g h).1 in
      let st = stands_from o.pointer (key_at keys a) o.stands in
      let got : Grants i e g o.pointer = elim o.holds [
        | inl ip ↦ runs_by o.slot o.is_in o.group ip
        | inr r ↦ in_register o.slot o.is_in o.group r
      ] in
      let w : IsWellFormed o.pointer = elim o.holds [
        | inl ip ↦ subst IsWellFormed ip (fresh o.slot o.is_in).ip
        | inr r ↦ held_well_formed o.slot o.pointer o.is_in r
      ] in
      below o.pointer got (stands_below o.pointer (key_at keys a) w st)

  -- cells

  cell_word : (w : ℕ) (c : Cell) (q : Pointer) → cell_at i.memory w ≡ Some c → c.word ≡ Ptr q → IsWellFormed q
  cell_word w c q at is = well_formed i.memory image.words w c q at is

  load_right : (a : ℕ) → a < length start → right_at nodes Load a ≡ loads_words (node a)
  load_right a lt = (each_node a lt).loads

  in_cell_of : (a w : ℕ) (c : Cell) (q : Pointer) → a < length start → LoadsAt (node a) w → cell_at i.memory w ≡ Some c → c.word ≡ Ptr q → IsPowerless q ⊎ TargetOf node edges a (length start) q
  in_cell_of a w c q lt ld at is = go (standing_key q) refl
    where
      go : (o : Option CanonicalPtr) → standing_key q ≡ o → IsPowerless q ⊎ TargetOf node edges a (length start) q
      go None e2 = inl (standing_none q e2)
      go (Some y) e2 =
          let mem = there i.memory image.paged w c y at (ap word_key is ∙ e2) in
          let word : found_word found mem.0 ≡ w = ap (λ (v : Found). v.word) (get_or_default found mem.0 nothing (record { word = w; key = y }) mem.1 ∙ mem.2) in
          let same : (get_or found mem.0 nothing).key ≡ y = ap (λ (v : Found). v.key) (get_or_default found mem.0 nothing (record { word = w; key = y }) mem.1 ∙ mem.2) in
          let bound = covers_in (node a) w ld.covers in
          let lo = bound.0 in
          let hi = bound.1 in
          let range = (each_node a lt).range.each (loads_test (node a) w ld) mem.0 mem.1 (omega arith) (omega arith) in
          let st = stands_from q y e2 in
          inr (record {
            at = mem.0;
            low = range.0;
            high = range.1;
            small = unfit _ (t.small mem.0 mem.1);
            below = subst (λ v. IsBelow q (pointer_at v)) (sym (t.at mem.0 mem.1 ∙ same)) (stands_above q y (cell_word w c q at is) st);
          })

  -- the pointer that a found cell holds
  cell_pointer : (o : Word) (x : CanonicalPtr) → word_key o ≡ Some x → (q : Pointer) × (o ≡ Ptr q) × (standing_key q ≡ Some x)
  cell_pointer (Int v) x h = cc
  cell_pointer (Ptr q) x h = (q, refl, h)

  target_cell : (a j : ℕ) → a < length start → low_at edges a ≤ j → j < high_at edges a → CellOf i (node a) (node (slice_index targets j))
  target_cell a j lt lo hi = at (loads_words (node a)) refl
    where
      at : (b : Bool) → loads_words (node a) ≡ b → CellOf i (node a) (node (slice_index targets j))
      at false no_load = absurd (let none = (each_node a lt).range.none no_load in omega arith)
      at true load =
          let range = (each_node a lt).range in
          let fits = range.fits in
          let small : j < length found = omega arith in
          let bound = range.inside load j lo hi in
          let x = held i.memory image.paged (get_or found j nothing) (Contains-get_or found j nothing small) in
          let right = loads_then (node a) load in
          let q = cell_pointer x.cell.word (get_or found j nothing).key x.holds in
          let st = stands_from q.0 (get_or found j nothing).key q.2 in
          record {
            word = found_word found j;
            cell = x.cell;
            holds = q.0;
            loads = record { word = x.aligned; right = right.0; covers = in_covers (node a) (found_word found j) right.1 x.aligned bound.0 bound.1 };
            at = x.at;
            is = q.1;
            below = subst (λ v. IsBelow (pointer_at v) q.0) (sym (t.at j small)) (stands_below q.0 (get_or found j nothing).key (cell_word (found_word found j) x.cell q.0 x.at q.1) st);
          }

  -- entries

  entry_key_at : (a : ℕ) (q : Pointer) (o : Option CanonicalPtr) → enter_result (node a) ≡ Some q → standing_key q ≡ o → entry_key (key_at keys a) ≡ o
  entry_key_at a q o h e2 = ap (option_and_then standing_key) h ∙ e2

  enters_at_node : (a g : ℕ) (q : Pointer) → a < length start → g < 64 → MayEnter e g (node a) → ((node a).perm ≡ Eu) ⊎
      ((node a).perm ≡ Ep) → enter_result (node a) ≡ Some q → IsPowerless q ⊎ Entered node edges a g (length start) q
  enters_at_node a g q lt small may perm h = go (standing_key q) refl
    where
      go : (o : Option CanonicalPtr) → standing_key q ≡ o → IsPowerless q ⊎ Entered node edges a g (length start) q
      go None e2 = inl (standing_none q e2)
      go (Some y) e2 =
          let enter = (each_node a lt).enters y (entry_test (node a).perm perm) (entry_key_at a q (Some y) h e2) in
          let st = stands_from q y e2 in
          let w = enter_result-well_formed (node a) q (key a lt).well_formed h in
          inr (record {
            kept = ap (λ v. bit_at v g) enter.0 ∙ m.each a g (fit a lt) small may;
            small = unfit _ (each_node a lt).small;
            below = subst (λ v. IsBelow q (pointer_at v)) (sym enter.1) (stands_above q y w st);
          })

  entered_from : (a g : ℕ) → a < length start → bit_at (enters_at edges a) g ≡ 1 → EntryOf e g (node a) (node (entry_at edges a))
  entered_from a g lt h = at (is_entry (node a).perm) refl (entry_key (key_at keys a)) refl
    where
      at : (b : Bool) → is_entry (node a).perm ≡ b → (o : Option CanonicalPtr) → entry_key (key_at keys a) ≡ o → EntryOf e g (node a) (node (entry_at edges a))
      at false no_entry o e2 = absurd (zero_bit g (ap (λ v. bit_at v g) (sym ((each_node a lt).no_entry (inl no_entry))) ∙ h))
      at true yes_entry None e2 = absurd (zero_bit g (ap (λ v. bit_at v g) (sym ((each_node a lt).no_entry (inr e2))) ∙ h))
      at true yes_entry (Some x) e2 =
          let enter = (each_node a lt).enters x yes_entry e2 in
          let from = entry_from (node a) x e2 in
          let st = stands_from from.to x from.stands in
          let w = enter_result-well_formed (node a) from.to (key a lt).well_formed from.enters in
          record {
            may = m.only a g (fit a lt) (ap (λ v. bit_at v g) (sym enter.0) ∙ h);
            perm = entry_then (node a).perm yes_entry;
            to = from.to;
            enters = from.enters;
            below = subst (λ v. IsBelow (pointer_at v) from.to) (sym enter.1) (stands_below from.to x w st);
          }

  -- segments

  base_at : (a : ℕ) → a < length start → slice_index f.bases a ≡ base_of (node a)
  base_at a lt = f.is_bases.at a (fit a lt) ∙ (key a lt).base

  end_at : (a : ℕ) → a < length start → slice_index f.ends a ≡ base_of (node a) + 2 ^ (node a).log
  end_at a lt = f.is_ends.at a (fit a lt) ∙ ap (λ v. v + 2 ^ (54 - (key_at keys a).narrow)) (key a lt).base ∙ ap (λ v. base_of (node a) + 2 ^ v) (log_is (key_at keys a) (key a lt))

  in_base : (a : ℕ) → a < length start → a < length f.bases
  in_base a lt = let q = f.is_bases.len in let r = fit a lt in omega arith

  in_segment : (a w : ℕ) → a < length start → (base_of (node a) ≤ w) × (w < base_of (node a) + 2 ^ (node a).log) → In f.bases f.ends a w
  in_segment a w lt b = let x = base_at a lt in let y = end_at a lt in let lo = b.0 in let hi = b.1 in (omega arith, omega arith)

  par_len : length parents ≡ length f.bases
  par_len = f.len ∙ sym f.is_bases.len

  meets_at : (a b w : ℕ) → a < length start → b < length start → StoresAt (node a) w → LoadsAt (node b) w → Meet sharing (length start) a b
  meets_at a b w la lb st ld =
      let x = share f.bases f.logs f.ends parents f.ordered f.forest par_len a b w (in_base a la) (in_base b lb)
      (in_segment a w la (covers_in (node a) w st.covers)) (in_segment b w lb (covers_in (node b) w ld.covers)) in
      record { at = x.at; small = unfit x.at (let lt = x.small in let q = f.is_bases.len in omega arith); left = x.left; right = x.right }

  -- the word in which the base of a segment above lies
  word_in : (a c : ℕ) → a < length start → 3 ≤ (node a).log → In f.bases f.ends a c → (base_of (node a) ≤ c / 8 * 8) × (c / 8 * 8 < base_of (node a) + 2 ^ (node a).log)
  word_in a c lt long inside =
      let o = of_words (node a) long in
      let base = o.base in
      let x = base_at a lt in
      let y = end_at a lt in
      let lo = inside.0 in
      let hi = inside.1 in
      (omega arith, omega arith)

  meeting_at : (c a b : ℕ) → c < length start → Up parents a c → Up parents b c → right_at nodes Store a ≡ true → right_at nodes Load b ≡ true → CommonWord (node a) (node b)
  meeting_at c a b lc ua ub sa lb =
      let small_a : a < length start = unfit a (let d = (f.forest.down a c (let q = f.len in let r = fit c lc in omega arith) ua).0 in let r = fit c lc in omega arith) in
      let small_b : b < length start = unfit b (let d = (f.forest.down b c (let q = f.len in let r = fit c lc in omega arith) ub).0 in let r = fit c lc in omega arith) in
      let st = stores_then (node a) (sym (each_node a small_a).stores ∙ sa) in
      let ld = loads_then (node b) (sym (load_right b small_b) ∙ lb) in
      let in_a = shared_base f.bases f.logs f.ends parents f.ordered f.forest par_len a c (in_base c lc) ua in
      let in_b = shared_base f.bases f.logs f.ends parents f.ordered f.forest par_len b c (in_base c lc) ub in
      let wa = word_in a (slice_index f.bases c) small_a st.1 in_a in
      let wb = word_in b (slice_index f.bases c) small_b ld.1 in_b in
      let aligned : (slice_index f.bases c / 8 * 8) % 8 ≡ 0 = omega arith in
      record {
        word = slice_index f.bases c / 8 * 8;
        stores = record { word = aligned; right = st.0; covers = in_covers (node a) (slice_index f.bases c / 8 * 8) st.1 aligned wa.0 wa.1 };
        loads = record { word = aligned; right = ld.0; covers = in_covers (node b) (slice_index f.bases c / 8 * 8) ld.1 aligned wb.0 wb.1 };
      }

  loading_at : (b : ℕ) → b < length start → right_at nodes Load b ≡ true → LoadedWord (node b)
  loading_at b lt h =
      let ld = loads_then (node b) (sym (load_right b lt) ∙ h) in
      let o = of_words (node b) ld.1 in
      let base = o.base in
      let aligned : base_of (node b) % 8 ≡ 0 = omega arith in
      let pos = pow_pos (node b).log in
      let w = (key b lt).well_formed in
      record {
        word = base_of (node b);
        small = let le = base_below (node b) in let hi = w.addr_in_range in omega arith;
        loads = record { word = aligned; right = ld.0; covers = in_covers (node b) (base_of (node b)) ld.1 aligned (omega arith) (omega arith) };
      }

  pub graph : IsGraphOf i e node edges sharing start
  graph = record {
    groups = groups;
    held = holds_at;
    runs = runs_at;
    starts = starts;
    cells = in_cell_of;
    targets = target_cell;
    enters = enters_at_node;
    entries = entered_from;
    loads = λ a w lt ld. load_right a lt ∙ loads_test (node a) w ld;
    stores = λ a w lt st. (each_node a lt).stores ∙ stores_test (node a) w st;
    rights = λ a lt x. (each_node a lt).makes ∙ makes_test (node a).perm x;
    meets = meets_at;
    meeting = meeting_at;
    loading = loading_at;
    makes = λ a lt x. makes_then (node a).perm (sym (each_node a lt).makes ∙ x);
    serves = λ g h x.
        let both : (g < 64) × (h < 64) = elim x.groups [
          | inl y ↦ (subst (λ v. v < 64) y.0 (groups x.served x.one), subst (λ v. v < 64) y.1 (groups x.server x.other))
          | inr y ↦ (subst (λ v. v < 64) y.1 (groups x.server x.other), subst (λ v. v < 64) y.0 (groups x.served x.one))
        ] in
        l.each g h both.0 both.1 (record { served = x.served; server = x.server; one = x.one; other = x.other; handled = x.handled; groups = x.groups });
    served = λ g h x. let a = l.only g h x in record { served = a.served; server = a.server; one = a.one; other = a.other; handled = a.handled; groups = a.groups };
  }
