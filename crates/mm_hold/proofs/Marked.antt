-- What is given to nodes.
use Rattle.std.proofs.Common.{◌≡◌, ◌⊎◌, ◌↔◌, inl, inr, ℕ, ◌+◌, ◌^◌, ◌<◌, ◌≤◌, Bool, true, false, ◌||◌, List, length, slice_index, slice_set, bit_or}
use Rattle.std.proofs.Common.{refl, sym, ap, ◌∙◌, arith}
use Rattle.std.proofs.lemmas.{Nat.le_or_l, Bool.or_parts}
use Rattle.std.specs.Int.{bit_at}
use Rattle.mm_flow.specs.{Flow.{Has, room}, declared.node.{Node.Node, Right.Right}, Edges.right_at, Sharing.{AreMarksAbove}}
use Rattle.mm_flow.proofs.{Bits.{or_left, or_right, or_cases}, Masks.{set_cases, length_set, room_set, Set.{here, there}}}
use Rattle.mm_confine.specs.declared.party.Party.{Party, TheVariants.{Group, KernelSlot}}
use Rattle.mm_hold.specs.declared.{parties.Parties.Parties, marks.Marks.Marks}
use Rattle.mm_hold.specs.{Parties.In, Marks.{Held, room_of, AddsMask, Gives, HeldAbove, AreAbove}}

module _ (node mask : ℕ) (old : List ℕ) (lt : node < length old) where
  pub mask_same : bit_or (slice_index old node) mask ≡ slice_index old node → AddsMask node mask old old false
  mask_same e = record {
    len = refl;
    each = λ k g. (
      λ h. inl h,
      λ h. elim h [
        | inl before ↦ before
        | inr now ↦ ap (λ v. bit_at (slice_index old v) g) now.0 ∙ there_is g now.1
      ],
    );
    still = λ f g b. there_is g b;
    no_rise = omega arith;
    falls = λ f. cc;
  }
    where
      there_is : (g : ℕ) → bit_at mask g ≡ 1 → Has old node g
      there_is g b = ap (λ v. bit_at v g) (sym e) ∙ or_right (slice_index old node) mask g b

  pub mask_new : (bit_or (slice_index old node) mask ≡ slice_index old node → ⊥) → slice_index old node < 2 ^ 64
      → AddsMask node mask old (slice_set old node (bit_or (slice_index old node) mask)) true
  mask_new ne below = record {
    len = length_set old node (bit_or (slice_index old node) mask);
    each = λ k g. (only k g, λ h. elim h [ inl before ↦ keeps k g before | inr now ↦ new k g now.0 now.1 ]);
    still = λ f. cc;
    no_rise = let x = fell in omega arith;
    falls = λ f. fell;
  }
    where
      only : (k g : ℕ) → Has (slice_set old node (bit_or (slice_index old node) mask)) k g → Has old k g ⊎ ((k ≡ node) × (bit_at mask g ≡ 1))
      only k g h = elim (set_cases old node (bit_or (slice_index old node) mask) k lt) [
        | there other f ↦ inl (ap (λ v. bit_at v g) (sym f) ∙ h)
        | here e f ↦ elim (or_cases (slice_index old node) mask g (ap (λ v. bit_at v g) (sym f) ∙ h)) [
          | inl before ↦ inl (ap (λ v. bit_at (slice_index old v) g) e ∙ before)
          | inr now ↦ inr (e, now)
        ]
      ]

      keeps : (k g : ℕ) → Has old k g → Has (slice_set old node (bit_or (slice_index old node) mask)) k g
      keeps k g h = elim (set_cases old node (bit_or (slice_index old node) mask) k lt) [
        | there other f ↦ ap (λ v. bit_at v g) f ∙ h
        | here e f ↦ ap (λ v. bit_at v g) f ∙ or_left (slice_index old node) mask g (ap (λ v. bit_at (slice_index old v) g) (sym e) ∙ h)
      ]

      new : (k g : ℕ) → k ≡ node → bit_at mask g ≡ 1 → Has (slice_set old node (bit_or (slice_index old node) mask)) k g
      new k g e b = elim (set_cases old node (bit_or (slice_index old node) mask) k lt) [
        | there other f ↦ absurd (other e)
        | here same f ↦ ap (λ v. bit_at v g) f ∙ or_right (slice_index old node) mask g b
      ]

      fell : room (2 ^ 64) (slice_set old node (bit_or (slice_index old node) mask)) + 1 ≤ room (2 ^ 64) old
      fell = let up = le_or_l (slice_index old node) mask in room_set (2 ^ 64) old node (bit_or (slice_index old node) mask) lt (omega arith) below

pub both_given : (node : ℕ) (set : Parties) (old new : Marks) (a b : Bool) → AddsMask node set.groups old.groups.items new.groups.items a
    → AddsMask node set.slots old.slots.items new.slots.items b → Gives node set old new (a || b)
both_given node set old new a b h k = record {
  grows = record {
    groups = h.len;
    slots = k.len;
    no_rise = let x = h.no_rise in let y = k.no_rise in omega arith;
    falls = falls a b h.falls k.falls;
  };
  each = each;
  still = still;
}
  where
    falls : (a b : Bool) → (a ≡ true → room (2 ^ 64) new.groups.items + 1 ≤ room (2 ^ 64) old.groups.items)
        → (b ≡ true → room (2 ^ 64) new.slots.items + 1 ≤ room (2 ^ 64) old.slots.items) → (a || b) ≡ true → room_of new + 1 ≤ room_of old
    falls true b f g e = let x = f refl in let y = k.no_rise in omega arith
    falls false true f g e = let x = g refl in let y = h.no_rise in omega arith
    falls false false f g e = cc

    each : (x : Party) (n : ℕ) → Held new x n ↔ (Held old x n ⊎ ((n ≡ node) × In x set))
    each (Group g) n = h.each n g
    each (KernelSlot m) n = k.each n m

    still : (a || b) ≡ false → (x : Party) → In x set → Held old x node
    still e (Group g) i = h.still (or_parts a b e).0 g i
    still e (KernelSlot n) i = k.still (or_parts a b e).1 n i

pub both_above : (par : List ℕ) (nodes : List Node) (right : Right) (m out : Marks) → length m.slots.items ≡ length m.groups.items
    → length out.groups.items ≡ length m.groups.items → length out.slots.items ≡ length m.slots.items
    → AreMarksAbove par m.groups.items (right_at nodes right) out.groups.items → AreMarksAbove par m.slots.items (right_at nodes right) out.slots.items
    → AreAbove par nodes right m out
both_above par nodes right m out same lg ls h k = record { size = record { groups = lg; slots = ls ∙ same }; each = each }
  where
    each : (x : Party) (n : ℕ) → n < length m.groups.items → Held out x n ↔ HeldAbove par nodes right m x n
    each (Group g) n lt = (
      λ b. let r = h.only n g (omega arith) b in record { node = r.node; up = r.up; held = r.marked; kept = r.kept },
      λ r. h.each n g (omega arith) (record { node = r.node; up = r.up; marked = r.held; kept = r.kept }),
    )
    each (KernelSlot s) n lt = (
      λ b. let r = k.only n s (omega arith) b in record { node = r.node; up = r.up; held = r.marked; kept = r.kept },
      λ r. k.each n s (omega arith) (record { node = r.node; up = r.up; marked = r.held; kept = r.kept }),
    )
