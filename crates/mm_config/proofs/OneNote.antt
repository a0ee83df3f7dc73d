-- What one note leaves: of a slot, of a queue, and of an output.
use Rattle.std.proofs.Common.{◌≡◌, ◌⊎◌, inl, inr, false, nat_eq, eq-eqb, Vec, Global, ℕ, zero, suc, ◌+◌, ◌-◌, ◌*◌, ◌/◌, ◌<◌, ◌≤◌, ◌^◌, bit_and, List, [], ◌∷◌, ◌++◌, map, length, reverse, slice_get, slice_set, slice_index_or, Option, Some, None, refl, sym, ap, ◌∙◌, subst, arith}
use Rattle.std.proofs.Common.{length-append, get_or-set_same, get_or-set_other}
use Rattle.std.proofs.Math.Seq.{take-length}
use Rattle.std.proofs.lemmas.Nat.{pow_pos, Bits.{and_pow, shr_and_one, bit_at-lt}}
use Rattle.std.specs.{Int.{IsBitSet, bit_at}, Option.option_eq}
use Rattle.std.proofs.lemmas.{Bool.cases_eq, List.{reverse-append, get_or_default, get_or-append_right}, Option.{get_or_from_slice_get}}
use Rattle.mm_model.specs.{declared.event.Event.Event, Slot.Slot, State.{slot_at, queue_at, output_of}, Fits.{slots_of, identity_of, IsCore}}
use Rattle.mm_pairs.specs.{Named.{HasGrown, IsNameOf}, Trees.{leaves, IsTree, HasLeaves}}
use Rattle.mm_pairs.proofs.Names.{length_leaves, tree_stays}
use Rattle.mm_thread.specs.SlotIndices.{no_slot, slot_in, queue_in}
use Rattle.mm_thread.proofs.{Index.{slot_found, queue_found}, Revised.slots_many, RowIndex.{apart_in, number_at-small, small_numbers}}
use Rattle.mm_config.specs.declared.configs.Configs as code
use Rattle.mm_config.specs.declared.store.Store.{Store}
use Rattle.mm_config.specs.{Forms.{slot_form, queue_form}, Naming.{IsChain, IsOutputName, leaf_at}, Noting.IsKeptStill}
use Rattle.mm_config.specs.Turning.{HasTrees, NotesLeaves, IsSlotNamed, NotesSlots, IsServedBy, IsQueueNamed, NotesQueues, WasOutput, IsOutputNamed, NotesOutputs}
use Rattle.mm_config.proofs.{Leaves.{noted_one, noted_none, noted_twice, slot_named_stays, queue_named_stays}, Noted.twice, NotedTurn.{slots_at, slots_long}, Staying.output_stays, TurnNames.base_identity}

-- 1. Leaves.

-- a leaf was set to a name
pub leaf_set : (Is : (at name : ℕ) → Type 0) (at name : ℕ) (old new : List (ℕ × ℕ)) (depth was tree : ℕ)
    → HasLeaves new depth tree (slice_set (leaves old depth was) at name) → at < 2 ^ depth → Is at name → NotesLeaves Is (λ k. k ≡ at) old depth was new tree
leaf_set Is at name old new depth was tree made lt is =
    let all = leaves old depth was in
    let long = length_leaves old depth was in
    noted_one Is at name old new new depth was tree made.inner
    (λ k e. ap (λ l. slice_index_or l k 0) made.leaves ∙ ap (λ n. slice_index_or (slice_set all at name) n 0) e ∙ get_or-set_same all at name 0 (omega (arith, long, lt)))
    (λ k ne. ap (λ l. slice_index_or l k 0) made.leaves ∙ get_or-set_other all at k name 0 ne)
    is

-- fewer have to be noted
pub notes_weaker : (Is : (at name : ℕ) → Type 0) (P Q : ℕ → Type 0) → ((k : ℕ) → Q k → P k) → (old new : List (ℕ × ℕ)) (depth was tree : ℕ)
    → NotesLeaves Is P old depth was new tree → NotesLeaves Is Q old depth was new tree
notes_weaker Is P Q f old new depth was tree h = record { inner = h.inner; each = λ k. by k (h.each k) }
  where
    by : (k : ℕ) → Is k (leaf_at new depth tree k) ⊎ ((P k → ⊥) × (leaf_at new depth tree k ≡ leaf_at old depth was k))
        → Is k (leaf_at new depth tree k) ⊎ ((Q k → ⊥) × (leaf_at new depth tree k ≡ leaf_at old depth was k))
    by k (inl is) = inl is
    by k (inr left) = inr ((λ q. left.0 (f k q)), left.1)

pub still_same : (k : Store) → IsKeptStill k k
still_same k = record { pairs = take-length k.pairs; outputs = take-length k.outputs; lists = take-length k.lists; cells = take-length k.cells; pages = take-length k.pages }

-- 2. Slots.

pub slots_weaker : (P Q : ℕ → Type 0) → ((k : ℕ) → Q k → P k) → (a b : code.Configs) → NotesSlots P a b → NotesSlots Q a b
slots_weaker P Q f a b h = record {
  still = h.still;
  leaves = notes_weaker (IsSlotNamed b) P Q f a.store.pairs b.store.pairs a.depth a.names.slots b.names.slots h.leaves;
  others = h.others;
}

pub slots_twice : (P Q : ℕ → Type 0) (a b c : code.Configs) → NotesSlots P a b → NotesSlots Q b c → NotesSlots (λ k. P k ⊎ Q k) a c
slots_twice P Q a b c h g = record {
  still = twice a.store b.store c.store h.still g.still;
  leaves = noted_twice (IsSlotNamed b) (IsSlotNamed c) (slot_named_stays Q b c g) P Q a.store.pairs b.store.pairs c.store.pairs a.depth a.names.slots b.names.slots c.names.slots h.leaves
      (subst (λ d. NotesLeaves (IsSlotNamed c) Q b.store.pairs d b.names.slots c.store.pairs c.names.slots) (ap (λ (x : code.Configs). x.depth) h.others) g.leaves);
  others = g.others ∙ ap (λ (x : code.Configs). record x { store = c.store; names = record x.names { slots = c.names.slots }; numbers = c.numbers }) h.others;
}

pub no_slots : (P : ℕ → Type 0) → ((k : ℕ) → P k → ⊥) → (c : code.Configs) → HasTrees c → NotesSlots P c c
no_slots P none c t = record {
  still = still_same c.store;
  leaves = noted_none (IsSlotNamed c) P none c.store.pairs c.store.pairs c.depth c.names.slots t.slots (λ k. refl);
  others = refl;
}

pub trees_after_slots : (P : ℕ → Type 0) (a b : code.Configs) → NotesSlots P a b → HasTrees a → HasTrees b
trees_after_slots P a b h t = record {
  depth = subst (λ (x : code.Configs). x.depth ≤ 6) (sym h.others) t.depth;
  wide = subst (λ (x : code.Configs). length x.base.items ≤ 2 ^ x.depth) (sym h.others) t.wide;
  same = subst (λ (x : code.Configs). map identity_of x.base.items ≡ map identity_of (slots_of x.core)) (sym h.others) t.same;
  slots = subst (λ (x : code.Configs). IsTree b.store.pairs x.depth b.names.slots) (sym h.others) h.leaves.inner;
  queues = subst (λ (x : code.Configs). IsTree b.store.pairs x.depth x.names.queues) (sym h.others) (tree_stays a.store.pairs b.store.pairs h.still.pairs a.depth a.names.queues t.queues);
}

module _ (c : code.Configs) (at : ℕ) (t : HasTrees c) (within : at < length c.base.items) where
  in_rows : at < length c.core.rows
  in_rows = let many = slots_many c.base.items c.core t.same in omega (arith, many, within)

  pub in_core : at < length (slots_of c.core)
  in_core = let rows = slots_long c.core in let inside = in_rows in omega (arith, rows, inside)

  pub has_place : at < 2 ^ c.depth
  has_place = let wide = t.wide in omega (arith, wide, within)

  pub slot_noted : (b s : Slot) (numbers : List ℕ) (lists : List (List ℕ)) (pairs : List (ℕ × ℕ)) (name tree : ℕ) (room : Vec ℕ Global)
      → b ≡ slice_index_or c.base.items at b → slice_get (slots_of c.core) at ≡ Some s → numbers ≡ slot_form b s → IsNameOf [] lists name numbers
      → HasGrown c.store.lists lists → HasLeaves pairs c.depth tree (slice_set (leaves c.store.pairs c.depth c.names.slots) at name) → HasGrown c.store.pairs pairs
      → NotesSlots (λ k. k ≡ at) c (record c { store = record c.store { pairs = pairs; lists = lists }; names = record c.names { slots = tree }; numbers = room })
  slot_noted b s numbers lists pairs name tree room base got spelled named kept made grown =
      let new : code.Configs = record c { store = record c.store { pairs = pairs; lists = lists }; names = record c.names { slots = tree }; numbers = room } in
      let base_is : b ≡ slice_index_or c.base.items at no_slot = base ∙ get_or_default c.base.items at b no_slot within in
      let slot_is : s ≡ slot_in c.core at = sym (get_or_from_slice_get (slots_of c.core) at s no_slot got) ∙ slots_at c.core at in_rows in
      let form : numbers ≡ slot_form (slice_index_or c.base.items at no_slot) (slot_in c.core at) = spelled ∙ (λ j. slot_form (base_is j) (slot_is j)) in
      record {
        still = record { pairs = grown; outputs = take-length c.store.outputs; lists = kept; cells = take-length c.store.cells; pages = take-length c.store.pages };
        leaves = leaf_set (IsSlotNamed new) at name c.store.pairs pairs c.depth c.names.slots tree made has_place (within, subst (IsNameOf [] lists name) form named);
        others = refl;
      }

-- the slots that one handles and that did not run, up to an index
abbrev pub IsServedBelow : List Slot → (by running at k : ℕ) → Type 0
IsServedBelow base by running at k = (k < at) × IsServedBy base by running k

zero_of : (b w : ℕ) → b < 2 → 0 < w → b * w ≡ 0 → b ≡ 0
zero_of zero w lt pos e = refl
zero_of (suc b) w lt pos e =
    let none : b ≡ 0 = omega (arith, lt) in
    let own : w ≡ suc 0 * w = omega arith in
    let whole : w ≡ 0 = own ∙ ap (λ (n : ℕ). suc n * w) (sym none) ∙ e in
    absurd (omega (arith, whole, pos))

pub bit_from : (n i : ℕ) → (bit_and (n / 2 ^ i) 1 ≡ 0 → ⊥) → IsBitSet n i
bit_from n i some none = some (shr_and_one n i ∙ zero_of (bit_at n i) (2 ^ i) (bit_at-lt n i) (pow_pos i) (sym (and_pow n i) ∙ none))

pub same_option : (o : Option ℕ) (n : ℕ) → o ≡ Some n → false ≡ option_eq nat_eq o (Some n) → ⊥
same_option o n e none = let own = eq-eqb n n refl in let two = ap (λ (x : Option ℕ). option_eq nat_eq x (Some n)) e in cc

module _ (by running at : ℕ) (old now : code.Configs) (t : HasTrees old) (h : NotesSlots (IsServedBelow old.base.items by running at) old now) where
  now_base : now.base.items ≡ old.base.items
  now_base = ap (λ (x : code.Configs). x.base.items) h.others

  -- the numbers of the slots are below 64
  pub read_small : IsCore old.core → (b : Slot) → at < length old.base.items → b ≡ slice_index_or now.base.items at b → b.number < 64
  read_small whole b lt read =
      let many = slots_many old.base.items old.core t.same in
      let inside : at < length old.core.rows = omega (arith, many, lt) in
      let base_is : b ≡ slice_index_or old.base.items at no_slot = read ∙ ap (λ (l : List Slot). slice_index_or l at b) now_base ∙ get_or_default old.base.items at b no_slot lt in
      let number : b.number ≡ (slot_in old.core at).number = ap (λ (s : Slot). s.number) base_is ∙ ap (λ i. i.0) (base_identity old.base.items old.core t.same at inside) in
      let small = number_at-small old.core (small_numbers old.core whole) at inside in
      omega (arith, number, small)

  -- one more is noted
  pub one_served : (new : code.Configs) → NotesSlots (λ k. k ≡ at) now new → NotesSlots (IsServedBelow old.base.items by running (at + 1)) old new
  one_served new own =
      slots_weaker (λ k. IsServedBelow old.base.items by running at k ⊎ (k ≡ at)) (IsServedBelow old.base.items by running (at + 1)) (λ k q. more k q (cases_eq k at)) old new
      (slots_twice (IsServedBelow old.base.items by running at) (λ k. k ≡ at) old now new h own)
    where
      more : (k : ℕ) → IsServedBelow old.base.items by running (at + 1) k → (k ≡ at) ⊎ (k ≡ at → ⊥) → IsServedBelow old.base.items by running at k ⊎ (k ≡ at)
      more k q (inl e) = inr e
      more k q (inr ne) = let lt = q.0 in inl ((omega (arith, lt, ne), q.1))

  -- or it need not be
  pub none_served : (b : Slot) → at < length old.base.items → b ≡ slice_index_or now.base.items at b → (b.handler ≡ Some by → (IsBitSet running b.number → ⊥) → ⊥)
      → NotesSlots (IsServedBelow old.base.items by running (at + 1)) old now
  none_served b lt read unserved =
      slots_weaker (IsServedBelow old.base.items by running at) (IsServedBelow old.base.items by running (at + 1)) (λ k q. (less k q, q.1)) old now h
    where
      base_is : slice_index_or old.base.items at no_slot ≡ b
      base_is = sym (read ∙ ap (λ (l : List Slot). slice_index_or l at b) now_base ∙ get_or_default old.base.items at b no_slot lt)

      other : (k : ℕ) → IsServedBy old.base.items by running k → k ≡ at → ⊥
      other k q e =
          let served : IsServedBy old.base.items by running at = subst (IsServedBy old.base.items by running) e q in
          unserved (sym (ap (λ (s : Slot). s.handler) base_is) ∙ served.handler) (λ set. served.rests (subst (λ (s : Slot). IsBitSet running s.number) (sym base_is) set))

      less : (k : ℕ) → IsServedBelow old.base.items by running (at + 1) k → k < at
      less k q = let lt = q.0 in let ne = other k q.1 in omega (arith, lt, ne)

-- all of them
pub all_served : (by running at : ℕ) (old now : code.Configs) → length old.base.items ≤ at → NotesSlots (IsServedBelow old.base.items by running at) old now
    → NotesSlots (IsServedBy old.base.items by running) old now
all_served by running at old now all h =
    slots_weaker (IsServedBelow old.base.items by running at) (IsServedBy old.base.items by running) (λ k q. (let lt = q.within in omega (arith, lt, all), q)) old now h

-- 3. Queues.

pub queues_weaker : (P Q : ℕ → Type 0) → ((k : ℕ) → Q k → P k) → (a b : code.Configs) → NotesQueues P a b → NotesQueues Q a b
queues_weaker P Q f a b h = record {
  still = h.still;
  leaves = notes_weaker (IsQueueNamed b) P Q f a.store.pairs b.store.pairs a.depth a.names.queues b.names.queues h.leaves;
  others = h.others;
}

pub queues_twice : (P Q : ℕ → Type 0) (a b c : code.Configs) → NotesQueues P a b → NotesQueues Q b c → NotesQueues (λ k. P k ⊎ Q k) a c
queues_twice P Q a b c h g = record {
  still = twice a.store b.store c.store h.still g.still;
  leaves = noted_twice (IsQueueNamed b) (IsQueueNamed c) (queue_named_stays Q b c g) P Q a.store.pairs b.store.pairs c.store.pairs a.depth a.names.queues b.names.queues c.names.queues h.leaves
      (subst (λ d. NotesLeaves (IsQueueNamed c) Q b.store.pairs d b.names.queues c.store.pairs c.names.queues) (ap (λ (x : code.Configs). x.depth) h.others) g.leaves);
  others = g.others ∙ ap (λ (x : code.Configs). record x { store = c.store; names = record x.names { queues = c.names.queues }; numbers = c.numbers }) h.others;
}

pub no_queues : (P : ℕ → Type 0) → ((k : ℕ) → P k → ⊥) → (c : code.Configs) → HasTrees c → NotesQueues P c c
no_queues P none c t = record {
  still = still_same c.store;
  leaves = noted_none (IsQueueNamed c) P none c.store.pairs c.store.pairs c.depth c.names.queues t.queues (λ k. refl);
  others = refl;
}

pub trees_after_queues : (P : ℕ → Type 0) (a b : code.Configs) → NotesQueues P a b → HasTrees a → HasTrees b
trees_after_queues P a b h t = record {
  depth = subst (λ (x : code.Configs). x.depth ≤ 6) (sym h.others) t.depth;
  wide = subst (λ (x : code.Configs). length x.base.items ≤ 2 ^ x.depth) (sym h.others) t.wide;
  same = subst (λ (x : code.Configs). map identity_of x.base.items ≡ map identity_of (slots_of x.core)) (sym h.others) t.same;
  slots = subst (λ (x : code.Configs). IsTree b.store.pairs x.depth x.names.slots) (sym h.others) (tree_stays a.store.pairs b.store.pairs h.still.pairs a.depth a.names.slots t.slots);
  queues = subst (λ (x : code.Configs). IsTree b.store.pairs x.depth b.names.queues) (sym h.others) h.leaves.inner;
}

module _ (c : code.Configs) (at : ℕ) (t : HasTrees c) (within : at < length c.base.items) (whole : IsCore c.core) where
  pub queue_noted : (b : Slot) (queue : List Event) (numbers : List ℕ) (lists : List (List ℕ)) (pairs : List (ℕ × ℕ)) (name tree : ℕ) (room : Vec ℕ Global)
      → b ≡ slice_index_or c.base.items at b → queue ≡ queue_at c.core b.number → numbers ≡ queue_form queue → IsNameOf [] lists name numbers
      → HasGrown c.store.lists lists → HasLeaves pairs c.depth tree (slice_set (leaves c.store.pairs c.depth c.names.queues) at name) → HasGrown c.store.pairs pairs
      → NotesQueues (λ k. k ≡ at) c (record c { store = record c.store { pairs = pairs; lists = lists }; names = record c.names { queues = tree }; numbers = room })
  queue_noted b queue numbers lists pairs name tree room base got spelled named kept made grown =
      let new : code.Configs = record c { store = record c.store { pairs = pairs; lists = lists }; names = record c.names { queues = tree }; numbers = room } in
      let inside = in_rows c at t within in
      let base_is : b ≡ slice_index_or c.base.items at no_slot = base ∙ get_or_default c.base.items at b no_slot within in
      let number : b.number ≡ (slot_in c.core at).number = ap (λ (s : Slot). s.number) base_is ∙ ap (λ i. i.0) (base_identity c.base.items c.core t.same at inside) in
      let queue_is : queue ≡ queue_in c.core at = got ∙ ap (queue_at c.core) number ∙ queue_found c.core (apart_in c.core whole) at inside in
      let form : numbers ≡ queue_form (queue_in c.core at) = spelled ∙ ap queue_form queue_is in
      record {
        still = record { pairs = grown; outputs = take-length c.store.outputs; lists = kept; cells = take-length c.store.cells; pages = take-length c.store.pages };
        leaves = leaf_set (IsQueueNamed new) at name c.store.pairs pairs c.depth c.names.queues tree made (has_place c at t within) (within, subst (IsNameOf [] lists name) form named);
        others = refl;
      }

-- the queue of a number is that of one slot
module _ (c : code.Configs) (number : ℕ) (t : HasTrees c) (whole : IsCore c.core) where
  of_base : (k : ℕ) → k < length c.base.items → (slice_index_or c.base.items k no_slot).number ≡ (slot_in c.core k).number
  of_base k lt =
      let many = slots_many c.base.items c.core t.same in
      ap (λ i. i.0) (base_identity c.base.items c.core t.same k (omega (arith, many, lt)))

  abbrev HasNumber : ℕ → Type 0
  HasNumber k = (k < length c.base.items) × ((slice_index_or c.base.items k no_slot).number ≡ number)

  pub in_base : (at : ℕ) → at < length (slots_of c.core) → at < length c.base.items
  in_base at lt =
      let many = slots_many c.base.items c.core t.same in
      let rows = slots_long c.core in
      omega (arith, many, rows, lt)

  pub queue_of_one : (at : ℕ) (new : code.Configs) → at < length (slots_of c.core) → (slot_in c.core at).number ≡ number → NotesQueues (λ k. k ≡ at) c new → NotesQueues HasNumber c new
  queue_of_one at new lt here h =
      let many = slots_many c.base.items c.core t.same in
      let rows = slots_long c.core in
      queues_weaker (λ k. k ≡ at) HasNumber (λ k q.
      let inside = q.0 in
      (apart_in c.core whole).own k at (omega (arith, many, inside)) (omega (arith, rows, lt)) (sym (of_base k q.0) ∙ q.1 ∙ sym here)) c new h

  pub queue_of_none : slot_at c.core number ≡ None → NotesQueues HasNumber c c
  queue_of_none none =
      let many = slots_many c.base.items c.core t.same in
      no_queues HasNumber (λ k q.
      let inside = q.0 in
      let found = slot_found c.core (apart_in c.core whole) k (omega (arith, many, inside)) in
      let same : (slot_in c.core k).number ≡ number = sym (of_base k q.0) ∙ q.1 in
      let both : Some (slot_in c.core k) ≡ None = sym found ∙ ap (slot_at c.core) same ∙ none in
      cc) c t

-- 4. Outputs.

chain_within : (pairs : List (ℕ × ℕ)) (bytes : List ℕ) (name : ℕ) → IsChain pairs bytes name → name ≤ length pairs
chain_within pairs [] name h = omega (arith, h)
chain_within pairs (byte ∷ before) name h = h.1.within

pub last_of : (bytes : List ℕ) (b : ℕ) → slice_index_or (bytes ++ b ∷ []) (length (bytes ++ b ∷ []) - 1) 0 ≡ b
last_of bytes b =
    let long = length-append bytes (b ∷ []) in
    let place : length (bytes ++ b ∷ []) - 1 ≡ length bytes = omega (arith, long) in
    let none : length bytes - length bytes ≡ 0 = omega arith in
    ap (λ n. slice_index_or (bytes ++ b ∷ []) n 0) place
    ∙ get_or-append_right bytes (b ∷ []) (length bytes) (length bytes) 0 refl (omega arith)
    ∙ ap (λ n. slice_index_or (b ∷ []) n 0) none

module _ (g before : ℕ) (c : code.Configs) (w : WasOutput g before c) where
  abbrev leaf : ℕ
  leaf = leaf_at c.store.pairs 6 c.names.outputs g

  pub short_name : leaf ≤ length c.store.outputs
  short_name = chain_within c.store.outputs (reverse w.bytes) leaf w.named

  -- it is as it was if it is as long
  pub output_same : length (output_of c.core g) ≡ before → output_of c.core g ≡ w.bytes
  output_same same = by w.now
    where
      by : (output_of c.core g ≡ w.bytes) ⊎ ((byte : ℕ) × (byte < 256) × (output_of c.core g ≡ w.bytes ++ byte ∷ [])) → output_of c.core g ≡ w.bytes
      by (inl e) = e
      by (inr h) =
          let one = ap length h.2 in
          let long = length-append w.bytes (h.0 ∷ []) in
          let was = w.long in
          absurd (omega (arith, one, long, was, same))

  -- else it has one byte more
  pub output_more : (length (output_of c.core g) ≡ before → ⊥) → (byte : ℕ) × (byte < 256) × (output_of c.core g ≡ w.bytes ++ byte ∷ [])
  output_more more = by w.now
    where
      by : (output_of c.core g ≡ w.bytes) ⊎ ((byte : ℕ) × (byte < 256) × (output_of c.core g ≡ w.bytes ++ byte ∷ [])) → (byte : ℕ) × (byte < 256) × (output_of c.core g ≡ w.bytes ++ byte ∷ [])
      by (inl e) = absurd (more (ap length e ∙ sym w.long))
      by (inr h) = h

  pub some_bytes : (length (output_of c.core g) ≡ before → ⊥) → 1 ≤ length (output_of c.core g)
  some_bytes more =
      let h = output_more more in
      let one = ap length h.2 in
      let long = length-append w.bytes (h.0 ∷ []) in
      omega (arith, one, long)

  pub no_output_noted : length (output_of c.core g) ≡ before → NotesOutputs (λ k. k ≡ g) c c
  no_output_noted same = record {
    still = still_same c.store;
    leaves = record { inner = w.inner; each = λ k. elim (cases_eq k g) [ inl e ↦ inl (here k e) | inr ne ↦ inr (ne, refl) ] };
    others = refl;
  }
    where
      here : (k : ℕ) → k ≡ g → IsOutputNamed c k (leaf_at c.store.pairs 6 c.names.outputs k)
      here k e =
          subst (λ n. IsOutputNamed c n (leaf_at c.store.pairs 6 c.names.outputs n)) (sym e)
          (subst (λ (bytes : List ℕ). IsOutputName c.store bytes leaf) (sym (output_same same)) w.named)

  pub output_noted : (byte shorter name tree : ℕ) (outputs pairs : List (ℕ × ℕ)) → (length (output_of c.core g) ≡ before → ⊥)
      → byte ≡ slice_index_or (output_of c.core g) (length (output_of c.core g) - 1) 0 → shorter ≡ leaf → IsNameOf (0, 0) outputs name (shorter, byte + 1) → shorter < name
      → HasGrown c.store.outputs outputs → HasLeaves pairs 6 tree (slice_set (leaves c.store.pairs 6 c.names.outputs) g name) → HasGrown c.store.pairs pairs
      → NotesOutputs (λ k. k ≡ g) c (record c { store = record c.store { pairs = pairs; outputs = outputs }; names = record c.names { outputs = tree } })
  output_noted byte shorter name tree outputs pairs more last short named rises kept made grown =
      let new : code.Configs = record c { store = record c.store { pairs = pairs; outputs = outputs }; names = record c.names { outputs = tree } } in
      let still : IsKeptStill c.store new.store = record { pairs = grown; outputs = kept; lists = take-length c.store.lists; cells = take-length c.store.cells; pages = take-length c.store.pages } in
      let h = output_more more in
      let byte_is : byte ≡ h.0 = last ∙ ap (λ (l : List ℕ). slice_index_or l (length l - 1) 0) h.2 ∙ last_of w.bytes h.0 in
      let before_named : IsChain outputs (reverse w.bytes) shorter = subst (IsChain outputs (reverse w.bytes)) (sym short) (output_stays c.store new.store still w.bytes leaf w.named) in
      let chain : IsChain outputs (byte ∷ reverse w.bytes) name = (shorter, named, rises, before_named) in
      let whole : IsChain outputs (reverse (w.bytes ++ h.0 ∷ [])) name =
      subst (λ (l : List ℕ). IsChain outputs l name) (ap (λ b. b ∷ reverse w.bytes) byte_is ∙ sym (reverse-append w.bytes (h.0 ∷ []))) chain in
      let own : IsOutputNamed new g name = subst (λ (bytes : List ℕ). IsChain outputs (reverse bytes) name) (sym h.2) whole in
      let small = w.small in
      record {
        still = still;
        leaves = leaf_set (IsOutputNamed new) g name c.store.pairs pairs 6 c.names.outputs tree made (omega (arith, small)) own;
        others = refl;
      }
