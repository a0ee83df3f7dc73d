-- Groups that stand apart see of a run what their own image shows of their own items.
use Rattle.std.proofs.Common.{◌≡◌, ◌≢◌, ℕ, ◌-◌, ◌<◌, inl, inr, Bool, true, false, ◌||◌, ◌&&◌, nat_eq, nat_le}
use Rattle.std.proofs.Common.{if◌then◌else◌, List, [], ◌∷◌, Some, None, refl, sym, ap, ◌∙◌, subst, arith, eqb-true}
use Rattle.std.{proofs.lemmas.Bool.{cases_Bool, ne_eqb}, specs.List.{AllByRecursion, filter}}
use Rattle.mm_model.specs.{Slot.Slot, Image.{Image, slot_in}, Groups.HasSlot, Spelling.IsImage}
use Rattle.mm_model.specs.{Schedule.{in_groups, is_kept, only}, Reach.Entries.All, Worlds.{Apart, Extracts, alone}}
use Rattle.mm_model.proofs.{Filters.{filter_takes, filter_drops}, OwnSlots.{Ascends, ascends}}
use Rattle.mm_laws.{specs.Isolated.SameWorlds, proofs.{SameViews.same_worlds, OwnImages.{alone_agrees, extracts_agree}}}

-- The items of the groups are theirs in their own image too.

none_above : (n : ℕ) (slots : List Slot) → AllByRecursion (λ (s : Slot). n < s.number) slots → slot_in slots n ≡ None
none_above n [] h = refl
none_above n (s ∷ slots) h =
    let ne : s.number ≢ n = (λ e. let low = h.0 in omega arith) in
    ap (λ b. if b then Some s else slot_in slots n) (ne_eqb s.number n ne) ∙ none_above n slots h.1

own_slot : (c : ℕ → Bool) (slots : List Slot) → Ascends slots → (n : ℕ) → in_groups c (slot_in (filter (λ (s : Slot). c s.group) slots) n) ≡ in_groups c (slot_in slots n)
own_slot c [] up n = refl
own_slot c (s ∷ slots) up n = elim (cases_Bool (c s.group)) [
  | inl t ↦
      ap (λ l. in_groups c (slot_in l n)) (filter_takes (λ (x : Slot). c x.group) s slots t) ∙ taken (nat_eq s.number n) (own_slot c slots up.1 n)
  | inr f ↦
      ap (λ l. in_groups c (slot_in l n)) (filter_drops (λ (x : Slot). c x.group) s slots f) ∙ own_slot c slots up.1 n ∙ dropped f (nat_eq s.number n) refl
]
  where
    taken : (b : Bool) → in_groups c (slot_in (filter (λ (x : Slot). c x.group) slots) n) ≡ in_groups c (slot_in slots n)
        → in_groups c (if b then Some s else slot_in (filter (λ (x : Slot). c x.group) slots) n) ≡ in_groups c (if b then Some s else slot_in slots n)
    taken true e = refl
    taken false e = e

    dropped : c s.group ≡ false → (b : Bool) → nat_eq s.number n ≡ b → in_groups c (slot_in slots n) ≡ in_groups c (if b then Some s else slot_in slots n)
    dropped f true e = ap (in_groups c) (none_above n slots (subst (λ k. AllByRecursion (λ (x : Slot). k < x.number) slots) (eqb-true s.number n e) up.0)) ∙ sym f
    dropped f false e = refl

own_kept : (i j : Image) (c : ℕ → Bool) → IsImage i → j.split ≡ i.split → j.slots ≡ filter (λ (s : Slot). c s.group) i.slots → (n : ℕ) → is_kept j c n ≡ is_kept i c n
own_kept i j c img mode slots n =
    let at : (k : ℕ) → in_groups c (slot_in j.slots k) ≡ in_groups c (slot_in i.slots k) = λ k. ap (λ l. in_groups c (slot_in l k)) slots ∙ own_slot c i.slots (ascends i.slots img.rising) k in
    ap (λ b. b || (j.split && nat_le 128 n && in_groups c (slot_in j.slots (n - 128)))) (at n)
    ∙ ap (λ b. in_groups c (slot_in i.slots n) || (b && nat_le 128 n && in_groups c (slot_in j.slots (n - 128)))) mode
    ∙ ap (λ b. in_groups c (slot_in i.slots n) || (i.split && nat_le 128 n && b)) (at (n - 128))

filter_within : (p q : ℕ → Bool) → ((n : ℕ) → q n ≡ p n) → (items : List ℕ) → filter p items ≡ filter q (filter p items)
filter_within p q same [] = refl
filter_within p q same (n ∷ items) = elim (cases_Bool (p n)) [
  | inl t ↦
      filter_takes p n items t ∙ ap (λ (l : List ℕ). n ∷ l) (filter_within p q same items)
      ∙ sym (ap (filter q) (filter_takes p n items t) ∙ filter_takes q n (filter p items) (same n ∙ t))
  | inr f ↦ filter_drops p n items f ∙ filter_within p q same items ∙ sym (ap (filter q) (filter_drops p n items f))
]

own_items : (i j : Image) (c : ℕ → Bool) (s : List ℕ) → IsImage i → j.split ≡ i.split → j.slots ≡ filter (λ (x : Slot). c x.group) i.slots → only i s c ≡ only j (only i s c) c
unfolding only
own_items i j c s img mode slots = filter_within (is_kept i c) (is_kept j c) (own_kept i j c img mode slots) s

alone_mode : (i : Image) (c : ℕ → Bool) → (alone i c).split ≡ i.split
unfolding alone
alone_mode i c = refl

alone_slots : (i : Image) (c : ℕ → Bool) → (alone i c).slots ≡ filter (λ (s : Slot). c s.group) i.slots
unfolding alone
alone_slots i c = refl

pub alone_sees : (i : Image) (c : ℕ → Bool) (s : List ℕ) → IsImage i → HasSlot i c → Apart i All c → SameWorlds i (alone i c) c s (only i s c)
alone_sees i c s img has apart = same_worlds i (alone i c) c s (only i s c) (alone_agrees i c img has apart) (own_items i (alone i c) c s img (alone_mode i c) (alone_slots i c))

pub extracts_see : (i : Image) (c : ℕ → Bool) (j : Image) (s : List ℕ) → IsImage i → HasSlot i c → Apart i All c → Extracts i c j → SameWorlds i j c s (only i s c)
extracts_see i c j s img has apart e = same_worlds i j c s (only i s c) (extracts_agree i c j img has apart e) (own_items i j c s img e.mode e.slots)
