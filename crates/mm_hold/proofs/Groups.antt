-- Groups of the slots of masks, and of nodes.
use Rattle.std.proofs.Common.{◌≡◌, ◌⊎◌, ◌↔◌, inl, inr, ℕ, ◌+◌, ◌<◌, List, [], ◌∷◌, ◌++◌, length, slice_index, bit_or}
use Rattle.std.proofs.Common.{sym, ap, ◌∙◌, subst, arith, length-append}
use Rattle.std.specs.{Int.bit_at}
use Rattle.mm_model.specs.Slot.{Slot}
use Rattle.mm_flow.{specs.Flow.Has, proofs.{Bits.{or_left, or_right, or_cases, zero_bit}, SharedMarks.{push_cases, Pushed.{last, before}}}}
use Rattle.mm_graph.specs.{declared.canonical_ptr.CanonicalPtr.CanonicalPtr, Key.key_at}
use Rattle.mm_kernel.specs.Segments.{Segment}
use Rattle.mm_confine.specs.declared.party.Party.{TheVariants.Group}
use Rattle.mm_span.proofs.Members.{none_in}
use Rattle.mm_hold.specs.declared.{marks.Marks.Marks, parties.Parties.Parties}
use Rattle.mm_hold.specs.{Marks.{Held, parties_at}, Holdings.{HasGroup, GroupOf, AreReached, AreDoorMarks, door_mask}}
use Rattle.mm_hold.proofs.Sets.{got_old, got_new, got_cases}

-- 1. The groups of slots.

pub group_more : (groups m mask : ℕ) (s : Slot) → ((g : ℕ) → (bit_at m g ≡ 1) ↔ ((g ≡ s.group) × (g < 64))) → (s.number < 64) × (bit_at mask s.number ≡ 1) → (g : ℕ)
    → (bit_at (bit_or groups m) g ≡ 1) ↔ ((bit_at groups g ≡ 1) ⊎ HasGroup s mask g)
group_more groups m mask s e has g = (
  λ h. elim (or_cases groups m g h) [
    | inl l ↦ inl l
    | inr r ↦ let b = (e g).0 r in inr (record { small = b.1; number = has.0; group = sym b.0; marked = has.1 })
  ],
  λ h. elim h [ inl l ↦ or_left groups m g l | inr k ↦ or_right groups m g ((e g).1 (sym k.group, k.small)) ],
)

pub group_skip : (groups mask : ℕ) (s : Slot) → ((s.number < 64) × (bit_at mask s.number ≡ 1) → ⊥) → (g : ℕ) → (bit_at groups g ≡ 1) ↔ ((bit_at groups g ≡ 1) ⊎ HasGroup s mask g)
group_skip groups mask s out g = (λ h. inl h, λ h. elim h [ inl l ↦ l | inr k ↦ absurd (out (k.number, k.marked)) ])

pub groups_none : (mask g : ℕ) → (bit_at 0 g ≡ 1) ↔ GroupOf [] mask g
groups_none mask g = (λ h. absurd (zero_bit g h), λ k. absurd (none_in k.slot k.inside))

pub groups_more : (xs ys : List Slot) (x : Slot) (mask old new : ℕ) → ys ≡ xs ++ x ∷ [] → ((g : ℕ) → (bit_at old g ≡ 1) ↔ GroupOf xs mask g)
    → ((g : ℕ) → (bit_at new g ≡ 1) ↔ ((bit_at old g ≡ 1) ⊎ HasGroup x mask g)) → (g : ℕ) → (bit_at new g ≡ 1) ↔ GroupOf ys mask g
groups_more xs ys x mask old new is h k g = (
  λ bit. elim ((k g).0 bit) [
    | inl old_bit ↦ let o = (h g).0 old_bit in record { slot = o.slot; inside = got_old xs ys x is o.slot o.inside; has = o.has }
    | inr here ↦ record { slot = x; inside = got_new xs ys x is; has = here }
  ],
  λ o. elim (got_cases xs ys x is o.slot o.inside) [
    | inl there ↦ (k g).1 (inl ((h g).1 (record { slot = o.slot; inside = there; has = o.has })))
    | inr same ↦ (k g).1 (inr (subst (λ s. HasGroup s mask g) (sym same) o.has))
  ],
)

-- 2. The groups of nodes.

one_more : (xs : List ℕ) (v n : ℕ) → length xs ≡ n → length (xs ++ v ∷ []) ≡ n + 1
one_more xs v n len = let e = length-append xs (v ∷ []) in omega arith

pub reached_none : (slots : List Slot) (m : Marks) → AreReached slots m 0 []
reached_none slots m = record { len = λ j. 0; each = λ k g lt. absurd (omega arith) }

pub reached_more : (slots : List Slot) (m : Marks) (n : ℕ) (old : List ℕ) (own : Parties) (groups : ℕ) → AreReached slots m n old → own ≡ parties_at m n
    → ((g : ℕ) → (bit_at groups g ≡ 1) ↔ GroupOf slots own.slots g) → AreReached slots m (n + 1) (old ++ bit_or own.groups groups ∷ [])
reached_more slots m n old own groups h is are = record { len = one_more old v n h.len; each = each }
  where
    v : ℕ
    v = bit_or own.groups groups

    P : ℕ → ℕ → Type 0
    P k g = Held m (Group g) k ⊎ GroupOf slots (slice_index m.slots.items k) g

    own_groups : own.groups ≡ slice_index m.groups.items n
    own_groups = ap (λ (p : Parties). p.groups) is

    own_slots : own.slots ≡ slice_index m.slots.items n
    own_slots = ap (λ (p : Parties). p.slots) is

    at_new : (g : ℕ) → (bit_at (bit_or own.groups groups) g ≡ 1) ↔ P n g
    at_new g = (
      λ bit. elim (or_cases own.groups groups g bit) [
        | inl l ↦ inl (subst (λ w. bit_at w g ≡ 1) own_groups l)
        | inr r ↦ inr (subst (λ w. GroupOf slots w g) own_slots ((are g).0 r))
      ],
      λ o. elim o [
        | inl l ↦ or_left own.groups groups g (subst (λ w. bit_at w g ≡ 1) (sym own_groups) l)
        | inr r ↦ or_right own.groups groups g ((are g).1 (subst (λ w. GroupOf slots w g) (sym own_slots) r))
      ],
    )

    each : (k g : ℕ) → k < n + 1 → Has (old ++ bit_or own.groups groups ∷ []) k g ↔ P k g
    each k g lt = elim (push_cases old (bit_or own.groups groups) k (let len = h.len in omega arith)) [
      | last e same ↦
          let place : k ≡ n = e ∙ h.len in
          subst (λ w. (bit_at w g ≡ 1) ↔ P k g) (sym same) (subst (λ x. (bit_at (bit_or own.groups groups) g ≡ 1) ↔ P x g) (sym place) (at_new g))
      | before small same ↦ subst (λ w. (bit_at w g ≡ 1) ↔ P k g) (sym same) (h.each k g (let len = h.len in omega arith))
    ]

-- 3. The groups of doors.

module _ (kept : List Segment) (keys : List CanonicalPtr) (marks : List ℕ) where
  pub doors_none : AreDoorMarks kept keys marks 0 []
  doors_none = record { len = λ j. 0; each = λ k lt. absurd (omega arith) }

  pub doors_more : (n : ℕ) (old : List ℕ) (v : ℕ) → AreDoorMarks kept keys marks n old → v ≡ door_mask kept (key_at keys n) (slice_index marks n)
      → AreDoorMarks kept keys marks (n + 1) (old ++ v ∷ [])
  doors_more n old v h are = record {
    len = one_more old v n h.len;
    each = λ k lt. elim (push_cases old v k (let len = h.len in omega arith)) [
      | last e is ↦
          let same : n ≡ k = sym (e ∙ h.len) in
          is ∙ are ∙ ap (λ x. door_mask kept (key_at keys x) (slice_index marks x)) same
      | before small is ↦ is ∙ h.each k (let len = h.len in omega arith)
    ];
  }
