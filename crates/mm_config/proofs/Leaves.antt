-- Leaves that are noted.
use Rattle.std.proofs.Common.{◌≡◌, ◌⊎◌, inl, inr, ℕ, ◌<◌, ◌≤◌, ◌^◌, List, length, slice_get, slice_index_or, Option, Some, sym, ◌∙◌, subst, arith}
use Rattle.std.proofs.lemmas.{Bool.{cases_eq, cases_lt}, Option.{slice_get-get_or, slice_get_past}}
use Rattle.mm_pairs.specs.Trees.{IsTree}
use Rattle.mm_config.specs.declared.configs.Configs as code
use Rattle.mm_config.specs.{Naming.{IsOrNone, AreLeaves, leaf_at}, Turning.{NotesLeaves, IsSlotNamed, NotesSlots, IsQueueNamed, NotesQueues}}
use Rattle.mm_config.proofs.Staying.{slot_stays, queue_stays}
use Rattle.mm_thread.specs.SlotIndices.{no_slot, slot_in, queue_in}

-- 1. Leaves each of which is named anew, or is the same as before and names what is there now.

module _ {A : Type 0} (Is Now : A → ℕ → Type 0) (xs ys : List A) (d : A) (old new : List (ℕ × ℕ)) (depth was tree : ℕ)
    (of : AreLeaves Is xs old depth was) (long : length ys ≡ length xs) (inner : IsTree new depth tree) where
  abbrev pub IsSettled : ℕ → Type 0
  IsSettled k =
      ((k < length xs) × Now (slice_index_or ys k d) (leaf_at new depth tree k))
      ⊎ ((leaf_at new depth tree k ≡ leaf_at old depth was k)
      × (k < length xs → (name : ℕ) → Is (slice_index_or xs k d) name → Now (slice_index_or ys k d) name))

  settled_at : (k : ℕ) → (k < length xs) ⊎ (length xs ≤ k) → IsSettled k → IsOrNone Now (slice_get ys k) (leaf_at new depth tree k)
  settled_at k (inl lt) (inl h) =
      subst (λ (o : Option A). IsOrNone Now o (leaf_at new depth tree k)) (sym (slice_get-get_or ys k d (omega (arith, long, lt)))) h.1
  settled_at k (inl lt) (inr h) =
      let there : IsOrNone Is (Some (slice_index_or xs k d)) (leaf_at old depth was k) =
      subst (λ (o : Option A). IsOrNone Is o (leaf_at old depth was k)) (slice_get-get_or xs k d lt) (of.each k) in
      subst (λ (o : Option A). IsOrNone Now o (leaf_at new depth tree k)) (sym (slice_get-get_or ys k d (omega (arith, long, lt))))
      (subst (Now (slice_index_or ys k d)) (sym h.0) (h.1 lt (leaf_at old depth was k) there))
  settled_at k (inr high) (inl h) = let lt = h.0 in absurd (omega (arith, high, lt))
  settled_at k (inr high) (inr h) =
      subst (λ (o : Option A). IsOrNone Now o (leaf_at new depth tree k)) (sym (slice_get_past ys k (omega (arith, long, high))))
      (h.0 ∙ subst (λ (o : Option A). IsOrNone Is o (leaf_at old depth was k)) (slice_get_past xs k high) (of.each k))

  pub settled : ((k : ℕ) → IsSettled k) → AreLeaves Now ys new depth tree
  settled each = record {
    inner = inner;
    wide = subst (λ n. n ≤ 2 ^ depth) (sym long) of.wide;
    each = λ k. settled_at k (cases_lt k (length xs)) (each k);
  }

-- 2. Leaves that are noted twice.

pub noted_twice : (Is Now : (at name : ℕ) → Type 0) → ((k name : ℕ) → Is k name → Now k name) → (P Q : ℕ → Type 0) (old mid new : List (ℕ × ℕ)) (depth was tree last : ℕ)
    → NotesLeaves Is P old depth was mid tree → NotesLeaves Now Q mid depth tree new last → NotesLeaves Now (λ k. P k ⊎ Q k) old depth was new last
noted_twice Is Now stable P Q old mid new depth was tree last one two = record {
  inner = two.inner;
  each = λ k. by k (one.each k) (two.each k);
}
  where
    by : (k : ℕ) → Is k (leaf_at mid depth tree k) ⊎ ((P k → ⊥) × (leaf_at mid depth tree k ≡ leaf_at old depth was k))
        → Now k (leaf_at new depth last k) ⊎ ((Q k → ⊥) × (leaf_at new depth last k ≡ leaf_at mid depth tree k))
        → Now k (leaf_at new depth last k) ⊎ ((P k ⊎ Q k → ⊥) × (leaf_at new depth last k ≡ leaf_at old depth was k))
    by k one (inl now) = inl now
    by k (inl is) (inr same) = inl (subst (Now k) (sym same.1) (stable k (leaf_at mid depth tree k) is))
    by k (inr was) (inr same) = inr ((λ (e : P k ⊎ Q k). elim e [ inl p ↦ was.0 p | inr q ↦ same.0 q ]), same.1 ∙ was.1)

-- nothing is noted
pub noted_none : (Is : (at name : ℕ) → Type 0) (P : ℕ → Type 0) → ((k : ℕ) → P k → ⊥) → (old new : List (ℕ × ℕ)) (depth was : ℕ) → IsTree new depth was
    → ((k : ℕ) → leaf_at new depth was k ≡ leaf_at old depth was k) → NotesLeaves Is P old depth was new was
noted_none Is P none old new depth was inner same = record { inner = inner; each = λ k. inr (none k, same k) }

-- 3. Names of slots and of queues stay.

pub slot_named_stays : (P : ℕ → Type 0) (old new : code.Configs) → NotesSlots P old new → (k name : ℕ) → IsSlotNamed old k name → IsSlotNamed new k name
slot_named_stays P old new h k name is =
    subst (λ (c : code.Configs). (k < length c.base.items) × Rattle.mm_config.specs.Naming.IsSlotName new.store (slice_index_or c.base.items k no_slot) (slot_in c.core k) name) (sym h.others)
    (is.0, slot_stays old.store new.store h.still (slice_index_or old.base.items k no_slot) (slot_in old.core k) name is.1)

pub queue_named_stays : (P : ℕ → Type 0) (old new : code.Configs) → NotesQueues P old new → (k name : ℕ) → IsQueueNamed old k name → IsQueueNamed new k name
queue_named_stays P old new h k name is =
    subst (λ (c : code.Configs). (k < length c.base.items) × Rattle.mm_config.specs.Naming.IsQueueName new.store (queue_in c.core k) name) (sym h.others)
    (is.0, queue_stays old.store new.store h.still (queue_in old.core k) name is.1)

-- 4. One leaf is set.

-- after a leaf was set to a name
pub noted_one : (Is : (at name : ℕ) → Type 0) (at name : ℕ) (old mid new : List (ℕ × ℕ)) (depth was tree : ℕ) → IsTree new depth tree
    → ((k : ℕ) → k ≡ at → leaf_at new depth tree k ≡ name) → ((k : ℕ) → (k ≡ at → ⊥) → leaf_at new depth tree k ≡ leaf_at old depth was k) → Is at name
    → NotesLeaves Is (λ k. k ≡ at) old depth was new tree
noted_one Is at name old mid new depth was tree inner here there is = record {
  inner = inner;
  each = λ k. elim (cases_eq k at) [
    | inl e ↦ inl (subst (λ n. Is n (leaf_at new depth tree k)) (sym e) (subst (Is at) (sym (here k e)) is))
    | inr ne ↦ inr (ne, there k ne)
  ];
}
