-- Where marks start: at what callers have, and at what threads of the kernel's slots have or let out.
use Rattle.std.proofs.Common.{◌≡◌, ℕ, ◌<◌, ◌⊎◌, inl, inr, ◌==◌, ◌&&◌, Bool, true, false, if◌then◌else◌, List, ◌∷◌, ◌++◌, length, nat_lt}
use Rattle.std.proofs.Common.{Option, Some, None, refl, sym, ap, ◌∙◌, subst, arith, eqb-true}
use Rattle.std.proofs.lemmas.{List.get_or_default, Bool.{and_parts, and_from, Decides.nat_tests}}
use Rattle.std.proofs.lemmas.List.Elements.{All-from_recursion, All-contains, Contains-append_left, Contains-append_right}
use Rattle.std.specs.{Prelude.Contains, List.flat_map}
use Rattle.mm_word.specs.declared.word.Word.{Word, TheVariants.Ptr}
use Rattle.mm_word.specs.Pointer.{Pointer, IsBelow, IsWellFormed, bits_of, pointer_of}
use Rattle.mm_word.specs.Word.{IsWord}
use Rattle.mm_model.specs.{Slot.Slot, Image.Image, Spelling.IsImage}
use Rattle.mm_graph.specs.declared.{canonical_ptr.CanonicalPtr.CanonicalPtr, seed.Seed.Seed}
use Rattle.mm_graph.specs.Key.{key_at, no_key, pointer_at}
use Rattle.mm_graph.specs.{Nodes.{IsKeysOf, IsMarks}, Marked.node_pointer}
use Rattle.mm_kernel.specs.{Segments.Segment, Threads.is_kernel, Variants.is_caller}
use Rattle.mm_kernel.specs.declared.thread.Origin.{Origin, TheVariants.{Door, Slot as OfSlot}}
use Rattle.mm_confine.specs.declared.party.Party.{Party, TheVariants.{Group, KernelSlot}}
use Rattle.mm_confine.specs.Grants.{Granted, Line.Holds}
use Rattle.mm_confine.specs.Grants.Granted.{runs_itself, in_register, runs_by, below, has_exactly, lets_out}
use Rattle.mm_span.proofs.Members.{in_first, in_rest, in_cases, in_flat, flat_in}
use Rattle.mm_hold.specs.declared.{conduct.Conduct.Conduct, graph.Start.Start, marks.Marks.Marks}
use Rattle.mm_hold.specs.Conducts.{AreConduct, HasOrLets, HasOrLets.{has, lets}, IsSpelled, origin_from, origin_numbers}
use Rattle.mm_hold.specs.{Finding.{caller_seeds, held_key, held_word, word_seed}, Marks.{Held, HasSize}}
use Rattle.mm_hold.specs.Exactly.{Covered, Covered.{powerless, above}, IsSound}
use Rattle.mm_hold.specs.Graphs.{IsStart, bits_key, found_of, had_seeds, seed_number}
use Rattle.mm_hold.specs.Standing.{AreStarted, HasKeys}
use Rattle.mm_hold.proofs.HeldKeys.{held_none, held_above, held_below, word_pointer, seed_there, seed_from, spelled_well_formed, key_there, key_from}
use Rattle.mm_hold.proofs.{Handed.{fresh, group_small, kernel_small}, Keyed.{has_means, has_noted}, Listing.{if_in, in_if}}
use Rattle.mm_hold.specs.declared.deed.Deed.TheVariants as deed

-- 1. What a conduct says of pointers that threads have or let out.

-- threads of an origin with these numbers have or let out the pointer of these bits
record HadBits (i : Image) (kept : List Segment) (o : ℕ × ℕ) (bits : ℕ) : Type 0 where
  from : Origin
  pointer : Pointer
  again : origin_from o ≡ from
  is : pointer_of bits ≡ pointer
  has_it : HasOrLets i kept from pointer

module _ (i : Image) (kept : List Segment) (c : Conduct) (k : AreConduct i kept c) where
  had_from : (o : ℕ × ℕ) (bits : ℕ) → Contains c.has.keys (o, bits) → HadBits i kept o bits
  had_from o bits h =
      let d = has_means i kept c k (o, bits) h in
      let read = k.read (deed.Has d.origin d.pointer) d.means in
      let numbers : origin_numbers d.origin ≡ o = ap (λ (v : (ℕ × ℕ) × ℕ). v.0) d.is in
      let own : bits_of d.pointer ≡ bits = ap (λ (v : (ℕ × ℕ) × ℕ). v.1) d.is in
      record {
        from = d.origin;
        pointer = d.pointer;
        again = subst (λ (v : ℕ × ℕ). origin_from v ≡ d.origin) numbers read.0;
        is = ap pointer_of (sym own) ∙ read.1.again;
        has_it = d.means;
      }

  module _ (from : Origin) (q : Pointer) (h : HasOrLets i kept from q) where
    had_spelled : IsSpelled q
    had_spelled = (k.read (deed.Has from q) h).1

    had_well_formed : IsWellFormed q
    had_well_formed = subst IsWellFormed had_spelled.again (spelled_well_formed (bits_of q) had_spelled.spells)

    had_key : bits_key kept (bits_of q) ≡ held_key kept q
    had_key = key_there kept (bits_of q) had_spelled.spells ∙ ap (held_key kept) had_spelled.again

-- 2. Numbers of seeds.

slot_origin : (o : ℕ × ℕ) → o.0 ≡ 1 → origin_from o ≡ OfSlot o.1
slot_origin o e = ap (λ v. if v == 0 then Door (pointer_of o.1) else OfSlot o.1) e

below_test : (n : ℕ) → n < 64 → nat_lt n 64 ≡ true
below_test n lt = grind (arith, nat_tests)

module _ (i : Image) (kept : List Segment) where
  number_from : (o : ℕ × ℕ) (n : ℕ) → n < 64 → seed_number i kept o ≡ n → (o.0 ≡ 1) × (is_kernel i kept o.1 ≡ true) × (o.1 ≡ n)
  number_from o n lt = by (((o.0 == 1) && nat_lt o.1 64) && is_kernel i kept o.1) refl
    where
      by : (b : Bool) → (((o.0 == 1) && nat_lt o.1 64) && is_kernel i kept o.1) ≡ b → (if b then o.1 else 255) ≡ n → (o.0 ≡ 1) × (is_kernel i kept o.1 ≡ true) × (o.1 ≡ n)
      by true e h =
          let parts = and_parts ((o.0 == 1) && nat_lt o.1 64) (is_kernel i kept o.1) e in
          let kind = and_parts (o.0 == 1) (nat_lt o.1 64) parts.0 in
          (eqb-true o.0 1 kind.0, parts.1, h)
      by false e h = absurd (omega arith)

  number_there : (n : ℕ) → n < 64 → is_kernel i kept n ≡ true → seed_number i kept (1, n) ≡ n
  number_there n lt kernel = ap (λ b. if b then n else 255) (and_from (nat_lt n 64) (is_kernel i kept n) (below_test n lt) kernel)

-- 3. Seeds of callers.

-- the caller and the pointer of a seed
record CallerSeed (i : Image) (kept : List Segment) (x : Seed) : Type 0 where
  slot : Slot
  inside : Contains i.slots slot
  caller : is_caller kept slot ≡ true
  group : x.group ≡ slot.group
  pointer : Pointer
  holds : (slot.ip ≡ pointer) ⊎ Contains slot.regs (Ptr pointer)
  stands : held_key kept pointer ≡ Some x.key

module _ (i : Image) (kept : List Segment) where
  abbrev pub callers_in : List Seed
  callers_in = flat_map (caller_seeds kept) i.slots

  caller_there : (s : Slot) (q : Pointer) (y : CanonicalPtr) → Contains i.slots s → is_caller kept s ≡ true → Contains (Ptr s.ip ∷ s.regs) (Ptr q)
      → held_key kept q ≡ Some y → Contains callers_in (record { group = s.group; key = y })
  caller_there s q y inside caller mem e =
      in_flat (caller_seeds kept) i.slots s _ inside
      (in_if (is_caller kept s) (flat_map (word_seed kept s.group) (Ptr s.ip ∷ s.regs)) _ caller
      (in_flat (word_seed kept s.group) (Ptr s.ip ∷ s.regs) (Ptr q) _ mem (seed_there s.group (held_word kept (Ptr q)) y e)))

  same_pointer : (p q : Pointer) → ◌≡◌ {A = Word} (Ptr p) (Ptr q) → p ≡ q
  same_pointer p q e = cc

  caller_from : (x : Seed) → Contains callers_in x → CallerSeed i kept x
  caller_from x m =
      let f = flat_in (caller_seeds kept) i.slots x m in
      let s = f.source in
      let of = if_in (is_caller kept s) (flat_map (word_seed kept s.group) (Ptr s.ip ∷ s.regs)) x f.has in
      let u = flat_in (word_seed kept s.group) (Ptr s.ip ∷ s.regs) x of.1 in
      let e = seed_from s.group (held_word kept u.source) x u.has in
      let q = word_pointer kept u.source x.key e.0 in
      record {
        slot = s;
        inside = f.inside;
        caller = of.0;
        group = e.1;
        pointer = q.0;
        holds = elim (in_cases (Ptr s.ip) s.regs u.source u.inside) [
          | inl same ↦ inl (same_pointer s.ip q.0 (same ∙ q.1))
          | inr later ↦ inr (subst (Contains s.regs) q.1 later)
        ];
        stands = q.2;
      }

-- 4. The start.

module _ (i : Image) (kept : List Segment) (img : IsImage i) (c : Conduct) (k : AreConduct i kept c) where
  abbrev pub hads_in : List Seed
  hads_in = flat_map (had_seeds i kept) c.has.keys

  register_well_formed : (x : Slot) (q : Pointer) → Contains i.slots x → Contains x.regs (Ptr q) → IsWellFormed q
  register_well_formed x q h r = All-contains IsWord x.regs (Ptr q) (All-from_recursion IsWord x.regs (fresh i kept img x h).words) r

  had_seed : (o : ℕ × ℕ) (bits : ℕ) (y : CanonicalPtr) → Contains c.has.keys (o, bits) → bits_key kept bits ≡ Some y
      → Contains hads_in (record { group = seed_number i kept o; key = y })
  had_seed o bits y mem e = in_flat (had_seeds i kept) c.has.keys (o, bits) _ mem (seed_there (seed_number i kept o) (bits_key kept bits) y e)

  module _ (keys : List CanonicalPtr) (m : Marks) (is : IsKeysOf (found_of i kept) (callers_in i kept ++ hads_in) keys)
      (of_groups : IsMarks keys (callers_in i kept) m.groups.items) (of_slots : IsMarks keys hads_in m.slots.items) where
    abbrev node : ℕ → Pointer
    node = node_pointer keys

    place_of : (x : CanonicalPtr) → Contains keys x → (a : ℕ) × (a < length keys) × (key_at keys a ≡ x)
    place_of x h = (h.0, h.1, get_or_default keys h.0 no_key x h.1 ∙ h.2)

    sizes : HasSize m (length keys)
    sizes = record { groups = of_groups.len; slots = of_slots.len }

    has_keys : HasKeys i kept keys
    has_keys from q x h e =
        let o = origin_numbers from in
        let seed = had_seed o (bits_of q) x (has_noted i kept c k from q h) (had_key i kept c k from q h ∙ e) in
        is.of_seeds (record { group = seed_number i kept o; key = x }) (Contains-append_right (callers_in i kept) hads_in _ seed)

    -- each mark is of what is granted
    group_sound : (g a : ℕ) → Held m (Group g) a → Granted i kept (Holds (Group g) (node a))
    group_sound g a h =
        let o = caller_from i kept (record { group = g; key = key_at keys a }) (of_groups.only a g h).1 in
        let got : Granted i kept (Holds (Group o.slot.group) o.pointer) = elim o.holds [
          | inl ip ↦ subst (λ v. Granted i kept (Holds (Group o.slot.group) v)) ip (runs_by o.slot o.inside o.caller)
          | inr r ↦ in_register o.slot o.pointer o.inside o.caller r
        ] in
        let w : IsWellFormed o.pointer = elim o.holds [
          | inl ip ↦ subst IsWellFormed ip (fresh i kept img o.slot o.inside).ip
          | inr r ↦ register_well_formed o.slot o.pointer o.inside r
        ] in
        below (Group g) o.pointer (node a) (subst (λ v. Granted i kept (Holds (Group v) o.pointer)) (sym o.group) got) (held_below kept o.pointer (key_at keys a) w o.stands)

    had_granted : (n : ℕ) (q : Pointer) → is_kernel i kept n ≡ true → HasOrLets i kept (OfSlot n) q → Granted i kept (Holds (KernelSlot n) q)
    had_granted n q kernel (has t up same h plain) = has_exactly (KernelSlot n) (OfSlot n) q t (runs_itself n kernel) up same h plain
    had_granted n q kernel (lets door out) = lets_out (KernelSlot n) (OfSlot n) q (runs_itself n kernel) door out

    slot_sound : (n a : ℕ) → Held m (KernelSlot n) a → Granted i kept (Holds (KernelSlot n) (node a))
    slot_sound n a h =
        let x : Seed = record { group = n; key = key_at keys a } in
        let only = of_slots.only a n h in
        let f = flat_in (had_seeds i kept) c.has.keys x only.1 in
        let o = f.source.0 in
        let bits = f.source.1 in
        let e = seed_from (seed_number i kept o) (bits_key kept bits) x f.has in
        let number = number_from i kept o n only.0 (sym e.1) in
        let had = had_from i kept c k o bits f.inside in
        let origin : had.from ≡ OfSlot n = sym had.again ∙ slot_origin o number.0 ∙ ap OfSlot number.2 in
        let stands = key_from kept bits (key_at keys a) e.0 in
        let has_it : HasOrLets i kept (OfSlot n) (pointer_of bits) = subst (λ v. HasOrLets i kept v (pointer_of bits)) origin (subst (HasOrLets i kept had.from) (sym had.is) had.has_it) in
        below (KernelSlot n) (pointer_of bits) (node a) (had_granted n (pointer_of bits) (subst (λ v. is_kernel i kept v ≡ true) number.2 number.1) has_it)
        (held_below kept (pointer_of bits) (key_at keys a) (spelled_well_formed bits stands.0) stands.1)

    start_sound : IsSound i kept keys m
    start_sound (Group g) a lt h = group_sound g a h
    start_sound (KernelSlot n) a lt h = slot_sound n a h

    -- the marks cover what is had from the start
    covered : (x : Party) (q : Pointer) → IsWellFormed q → ((y : CanonicalPtr) → held_key kept q ≡ Some y → (a : ℕ) × (a < length keys) × (key_at keys a ≡ y) × Held m x a) → Covered kept keys m x q
    covered x q w f = go (held_key kept q) refl
      where
        go : (o : Option CanonicalPtr) → held_key kept q ≡ o → Covered kept keys m x q
        go None e = let none = held_none kept q e in powerless none.0 none.1
        go (Some y) e =
            let p = f y e in
            above (record { node = p.0; small = p.1; held = p.3; below = subst (λ v. IsBelow q (pointer_at v)) (sym p.2) (held_above kept q y w e) })

    caller_covered : (s : Slot) (q : Pointer) → Contains i.slots s → is_caller kept s ≡ true → Contains (Ptr s.ip ∷ s.regs) (Ptr q) → IsWellFormed q
        → Covered kept keys m (Group s.group) q
    caller_covered s q inside caller mem w = covered (Group s.group) q w (λ y e.
        let seed = caller_there i kept s q y inside caller mem e in
        let p = place_of y (is.of_seeds _ (Contains-append_left (callers_in i kept) hads_in _ seed)) in (
          p.0,
          p.1,
          p.2,
          of_groups.each p.0 s.group p.1 (group_small i kept img s inside) (subst (λ v. Contains (callers_in i kept) (record { group = s.group; key = v })) (sym p.2) seed),
        ))

    slot_covered : (n : ℕ) (q : Pointer) → is_kernel i kept n ≡ true → HasOrLets i kept (OfSlot n) q → Covered kept keys m (KernelSlot n) q
    slot_covered n q kernel h = covered (KernelSlot n) q (had_well_formed i kept c k (OfSlot n) q h) (λ y e.
        let small = kernel_small i kept img n kernel in
        let mem = has_noted i kept c k (OfSlot n) q h in
        let seed = had_seed (1, n) (bits_of q) y mem (had_key i kept c k (OfSlot n) q h ∙ e) in
        let own : Contains hads_in (record { group = n; key = y }) = subst (λ v. Contains hads_in (record { group = v; key = y })) (number_there i kept n small kernel) seed in
        let p = place_of y (is.of_seeds _ (Contains-append_right (callers_in i kept) hads_in _ own)) in (
          p.0,
          p.1,
          p.2,
          of_slots.each p.0 n p.1 small (subst (λ v. Contains hads_in (record { group = n; key = v })) (sym p.2) own),
        ))

    started : AreStarted i kept keys m
    started = record {
      registers = λ s q inside caller r. caller_covered s q inside caller (in_rest (Ptr s.ip) s.regs (Ptr q) r) (register_well_formed s q inside r);
      runs = λ s inside caller. caller_covered s s.ip inside caller (in_first (Ptr s.ip) s.regs) (fresh i kept img s inside).ip;
      has = slot_covered;
    }

-- 5. All of it, for lists that are these.

pub record IsBegun (i : Image) (kept : List Segment) (keys : List CanonicalPtr) (m : Marks) : Type 0 where
  pub had : HasKeys i kept keys
  pub size : HasSize m (length keys)
  pub sound : IsSound i kept keys m
  pub started : AreStarted i kept keys m

pub begun : (i : Image) (kept : List Segment) (img : IsImage i) (c : Conduct) (k : AreConduct i kept c) (keys : List CanonicalPtr) (m : Marks)
    (callers threads seeds : List Seed) → callers ≡ callers_in i kept → threads ≡ flat_map (had_seeds i kept) c.has.keys → seeds ≡ callers ++ threads
    → IsKeysOf (found_of i kept) seeds keys → IsMarks keys callers m.groups.items → IsMarks keys threads m.slots.items → IsBegun i kept keys m
begun i kept img c k keys m callers threads seeds ci ti si is gs ss =
    let all = si ∙ ap (λ l. l ++ threads) ci ∙ ap (λ l. callers_in i kept ++ l) ti in
    let own = subst (λ l. IsKeysOf (found_of i kept) l keys) all is in
    let groups = subst (λ l. IsMarks keys l m.groups.items) ci gs in
    let slots = subst (λ l. IsMarks keys l m.slots.items) ti ss in
    record {
      had = has_keys i kept img c k keys m own groups slots;
      size = sizes i kept img c k keys m own groups slots;
      sound = start_sound i kept img c k keys m own groups slots;
      started = started i kept img c k keys m own groups slots;
    }

pub begun_by : (i : Image) (kept : List Segment) (img : IsImage i) (c : Conduct) (k : AreConduct i kept c) (callers threads : List Seed)
    → callers ≡ callers_in i kept → threads ≡ flat_map (had_seeds i kept) c.has.keys → (s : Start) → IsStart i kept callers threads s
    → IsBegun i kept s.graph.keys.items (record { groups = s.groups; slots = s.slots })
begun_by i kept img c k callers threads ci ti s h =
    begun i kept img c k s.graph.keys.items (record { groups = s.groups; slots = s.slots }) callers threads (callers ++ threads) ci ti refl h.built.is_keys h.groups h.slots
