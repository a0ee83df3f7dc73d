-- What exact marks say of the groups that reach pointers, and of doors.
use Rattle.std.proofs.Common.{◌≡◌, ◌⊎◌, ◌↔◌, inl, inr, ℕ, ◌<◌, ◌≤◌, Bool, true, false, if◌then◌else◌, List, length, slice_index, refl}
use Rattle.std.proofs.Common.{sym, ap, ◌∙◌, subst, arith}
use Rattle.std.proofs.lemmas.{Bool.and_parts}
use Rattle.std.specs.{Prelude.{Contains}, Int.bit_at}
use Rattle.mm_word.specs.Pointer.{Pointer}
use Rattle.mm_model.specs.{Slot.Slot, Image.{Image, slot_limit}, Spelling.{IsImage, IsFresh}}
use Rattle.mm_model.proofs.CoreRows.{each_contained}
use Rattle.mm_flow.specs.{declared.node.{Node.Node, Right.TheVariants.{Load, Store}}, Edges.right_at, Flow.Has}
use Rattle.mm_flow.proofs.Bits.{zero_bit}
use Rattle.mm_graph.specs.{declared.canonical_ptr.CanonicalPtr.CanonicalPtr, Marked.node_pointer, Summary.IsPowerless}
use Rattle.mm_graph.specs.Key.{loads_words, stores_words}
use Rattle.mm_graph.proofs.Bounds.{three}
use Rattle.mm_kernel.specs.{Segments.{Segment, is_door}, Derived.Keeps}
use Rattle.mm_audit.specs.Marks.{IsUsed, kept_mask, span_of}
use Rattle.mm_audit.proofs.{HeldSpans.{MarkedAbove, AreMarksOf}, Granted.limit_small}
use Rattle.mm_confine.specs.declared.party.Party.{Party, TheVariants.{Group, KernelSlot}}
use Rattle.mm_confine.specs.Grants.{Granted, Line, Line.{Holds, Runs}, AreServed, IsOf, IsOf.{with_group, by_itself}}
use Rattle.mm_confine.specs.Grants.Granted.{runs_itself, runs_through, in_register, runs_by, in_cell, below, passed}
use Rattle.mm_confine.specs.Grants.Granted.{entered, served, has_exactly, lets_out, kept_for, seen, given, freed}
use Rattle.mm_confine.specs.Reach.{Reaches, Reaches.{by_callers, by_slot}}
use Rattle.mm_hold.specs.declared.marks.Marks.{Marks}
use Rattle.mm_hold.specs.{Exactly.{Covered, Covered.{powerless, above}}}
use Rattle.mm_hold.specs.Holdings.{HasGroup, AreReached, AreDoorMarks, AreExact, HoldsDoor, DoorOf}
use Rattle.mm_hold.proofs.Granting.{granted_covered, door_node}

-- 1. Numbers.

module _ (i : Image) (kept : List Segment) (image : IsImage i) where
  fresh : (s : Slot) → Contains i.slots s → IsFresh (slot_limit i.version) i.slots s
  fresh s at = each_contained (IsFresh (slot_limit i.version) i.slots) i.slots s image.fresh at

  pub group_small : (s : Slot) → Contains i.slots s → s.group < 64
  group_small s at = let a = (fresh s at).group in let b = limit_small i image in omega arith

  pub number_small : (s : Slot) → Contains i.slots s → s.number < 64
  number_small s at = let a = (fresh s at).number in let b = limit_small i image in omega arith

  abbrev IsSmall : Party → Type 0
  IsSmall (Group g) = g < 64
  IsSmall (KernelSlot n) = Unit {0}

  abbrev SmallLine : Line → Type 0
  SmallLine (Holds x q) = IsSmall x
  SmallLine (Runs x from) = IsSmall x

  served_small : (g h : ℕ) → AreServed i kept g h → g < 64
  served_small g h s = elim s.groups [
    | inl p ↦ subst (λ v. v < 64) p.0 (group_small s.served s.one)
    | inr p ↦ subst (λ v. v < 64) p.1 (group_small s.server s.other)
  ]

  of_small : (s : Slot) → Contains i.slots s → {x : Party} → IsOf i kept s x → IsSmall x
  of_small s at with_group = group_small s at
  of_small s at (by_itself e) = tt

  small : {line : Line} → Granted i kept line → SmallLine line
  small (runs_itself n e) = tt
  small (runs_through g d h e) = small h
  small (in_register s q among caller k) = group_small s among
  small (runs_by s among caller) = group_small s among
  small (in_cell x p q w c h ld out at is) = small h
  small (below x p q h b) = small h
  small (passed y x q p r w h on hp st hr ld) = small hr
  small (entered x p q h eu none e) = small h
  small (served h g q held s) = served_small g h s
  small (has_exactly x from q t runs up same plain k) = small runs
  small (lets_out x from d runs is out) = small runs
  small (kept_for y x from to q held runs pass to_runs) = small to_runs
  small (seen n y q held sv looks) = tt
  small (given n x q held sv gift) = of_small sv.served sv.one sv.party
  small (freed s q t among held going) = group_small s among

  pub reaches_small : (g : ℕ) (q : Pointer) → Reaches i kept g q → g < 64
  reaches_small g q (by_callers h) = small h
  reaches_small g q (by_slot s among e h) = subst (λ v. v < 64) e (group_small s among)

  pub holds_small : (g : ℕ) (q : Pointer) → Granted i kept (Holds (Group g) q) → g < 64
  holds_small g q h = small h

-- 2. Groups that reach pointers.

module _ (i : Image) (kept : List Segment) (image : IsImage i) (keeps : Keeps i kept) (keys : List CanonicalPtr) (nodes : List Node) (m : Marks) (x : AreExact i kept keys nodes m) where
  covered : (p : Party) (q : Pointer) → Granted i kept (Holds p q) → Covered kept keys m p q
  covered = granted_covered i kept image keeps keys m x.sound x.closed

  module _ (reached : List ℕ) (r : AreReached i.slots m (length keys) reached) where
    sound : (g k : ℕ) → k < length keys → Has reached k g → Reaches i kept g (node_pointer keys k)
    sound g k lt has = elim ((r.each k g lt).0 has) [
      | inl held ↦ by_callers (x.sound (Group g) k lt held)
      | inr o ↦ by_slot o.slot o.inside o.has.group (x.sound (KernelSlot o.slot.number) k lt o.has.marked)
    ]

    by_group : (g : ℕ) (q : Pointer) → Covered kept keys m (Group g) q → IsPowerless q ⊎ MarkedAbove keys reached g q
    by_group g q (powerless none pw) = inl pw
    by_group g q (above a) = inr (record { node = a.node; small = a.small; marked = (r.each a.node g a.small).1 (inl a.held); below = a.below })

    by_one : (g : ℕ) (q : Pointer) (s : Slot) → Contains i.slots s → s.group ≡ g → Covered kept keys m (KernelSlot s.number) q → IsPowerless q ⊎ MarkedAbove keys reached g q
    by_one g q s among e (powerless none pw) = inl pw
    by_one g q s among e (above a) =
        let has : HasGroup s (slice_index m.slots.items a.node) g = record {
          small = subst (λ v. v < 64) e (group_small i kept image s among);
          number = number_small i kept image s among;
          group = e;
          marked = a.held;
        } in
        inr (record { node = a.node; small = a.small; marked = (r.each a.node g a.small).1 (inr (record { slot = s; inside = among; has = has })); below = a.below })

    covers : (g : ℕ) (q : Pointer) → Reaches i kept g q → IsPowerless q ⊎ MarkedAbove keys reached g q
    covers g q (by_callers h) = by_group g q (covered (Group g) q h)
    covers g q (by_slot s among e h) = by_one g q s among e (covered (KernelSlot s.number) q h)

    pub are_marks : AreMarksOf (Reaches i kept) keys nodes reached
    are_marks = record { all = x.all; loads = x.loads; stores = x.stores; sound = sound; covers = covers }

  -- 3. Doors.

  module _ (doors : List ℕ) (d : AreDoorMarks kept keys m.groups.items (length keys) doors) where
    to_held : (g : ℕ) (p : Pointer) → DoorOf keys doors g p → HoldsDoor i kept g p
    to_held g p o = by (is_door kept (node_pointer keys o.node)) refl
      where
        k : ℕ
        k = o.node

        by : (b : Bool) → is_door kept (node_pointer keys o.node) ≡ b → HoldsDoor i kept g p
        by true e =
            let mask = d.each o.node o.small ∙ ap (λ b. if b then slice_index m.groups.items o.node else 0) e in
            let held : Has m.groups.items o.node g = subst (λ v. bit_at v g ≡ 1) mask o.marked in
            subst (HoldsDoor i kept g) o.is (record { is = e; granted = x.sound (Group g) o.node o.small held })
        by false e =
            let mask = d.each o.node o.small ∙ ap (λ b. if b then slice_index m.groups.items o.node else 0) e in
            absurd (zero_bit g (subst (λ v. bit_at v g ≡ 1) mask o.marked))

    from_held : (g : ℕ) (p : Pointer) → HoldsDoor i kept g p → DoorOf keys doors g p
    from_held g p h =
        let (k, lt, held, same) = door_node i kept image keeps keys m x.sound x.closed (Group g) p h.is h.granted in
        let e : is_door kept (node_pointer keys k) ≡ true = ap (is_door kept) same ∙ h.is in
        let mask = d.each k lt ∙ ap (λ b. if b then slice_index m.groups.items k else 0) e in
        record { node = k; small = lt; is = same; marked = subst (λ v. bit_at v g ≡ 1) (sym mask) held }

    pub are_doors : (g : ℕ) (p : Pointer) → DoorOf keys doors g p ↔ HoldsDoor i kept g p
    are_doors g p = (to_held g p, from_held g p)

  -- 4. Words.

  pub whole_words : (marks : List ℕ) (k : ℕ) → k < length keys → IsUsed (span_of keys nodes marks k) → 3 ≤ (node_pointer keys k).log
  whole_words marks k lt used = elim used [
    | inl touch ↦ by (right_at nodes Load k) refl (x.loads k lt) touch
    | inr write ↦ by2 (right_at nodes Store k) refl (x.stores k lt) write
  ]
    where
      by : (b : Bool) → right_at nodes Load k ≡ b → right_at nodes Load k ≡ loads_words (node_pointer keys k) → (kept_mask (right_at nodes Load k) (slice_index marks k) ≡ 0 → ⊥) → 3 ≤ (node_pointer keys k).log
      by true e is none = three (node_pointer keys k).log (and_parts _ _ (sym is ∙ e)).1
      by false e is none = absurd (none (ap (λ b. kept_mask b (slice_index marks k)) e))

      by2 : (b : Bool) → right_at nodes Store k ≡ b → right_at nodes Store k ≡ stores_words (node_pointer keys k) → (kept_mask (right_at nodes Store k) (slice_index marks k) ≡ 0 → ⊥) → 3 ≤ (node_pointer keys k).log
      by2 true e is none = three (node_pointer keys k).log (and_parts _ _ (sym is ∙ e)).1
      by2 false e is none = absurd (none (ap (λ b. kept_mask b (slice_index marks k)) e))
