-- The first slot whose instruction pointer meets the range is the least.
use Rattle.std.proofs.Common.{◌≡◌, ℕ, zero, suc, ◌<◌, ◌≤◌, inl, inr, true, false, List, [], ◌∷◌, length, get_or, refl}
use Rattle.std.proofs.{Common.{sym, ap, ◌∙◌, subst, arith}, lemmas.Bool.{both_ways, cases_lt}}
use Rattle.std.specs.{Prelude.Contains, List.Sorted.IsStrictlyIncreasing}
use Rattle.mm_model.specs.{Slot.Slot, Image.Image, Spelling.{IsImage, numbers_of}}
use Rattle.mm_model.proofs.{CoreRows.each_contained, OwnSlots.{Ascends, ascends}}
use Rattle.mm_sweep.specs.{Swept.meets, Refusals.{IsHeld, FirstHeld}}

-- the slots of a list rise
not_less : (slots : List Slot) → Ascends slots → (j k : ℕ) (s t : Slot) → j ≤ k → k < length slots → get_or slots j s ≡ s → get_or slots k t ≡ t → s.number ≤ t.number
not_less [] up j k s t le lt e d = absurd (omega arith)
not_less (x ∷ slots) up zero zero s t le lt e d = let same : s.number ≡ t.number = ap (λ (v : Slot). v.number) (sym e ∙ d) in omega arith
not_less (x ∷ slots) up zero (suc k) s t le lt e d =
    let less : x.number < t.number = each_contained (λ (v : Slot). x.number < v.number) slots t up.0 (k, omega arith, d) in
    let same : x.number ≡ s.number = ap (λ (v : Slot). v.number) e in
    omega arith
not_less (x ∷ slots) up (suc j) zero s t le lt e d = absurd (omega arith)
not_less (x ∷ slots) up (suc j) (suc k) s t le lt e d = not_less slots up.1 j k s t (omega arith) (omega arith) e d

-- none of the first slots meets the range
abbrev pub NoneBefore : ℕ × ℕ → List Slot → ℕ → Type 0
NoneBefore range slots n = (k : ℕ) (s : Slot) → k < n → get_or slots k s ≡ s → meets range s.ip ≡ false

module _ (range : ℕ × ℕ) (i : Image) (slots : List Slot) (same : i.slots ≡ slots) where
  held_at : (n : ℕ) → NoneBefore range slots n → (m : ℕ) (x : IsHeld range i m) → (k : ℕ) × (n ≤ k) × (k < length slots) × (get_or slots k x.slot ≡ x.slot)
  held_at n before m x =
      let at = subst (λ l. Contains l x.slot) same x.stands in
      elim (cases_lt at.0 n) [
        | inl earlier ↦ absurd (both_ways (meets range x.slot.ip) (before at.0 x.slot earlier at.2) x.meets)
        | inr later ↦ (at.0, later, at.1, at.2)
      ]

  pub first_held : IsImage i → (n : ℕ) (s : Slot) → n < length slots → s ≡ get_or slots n s → NoneBefore range slots n → meets range s.ip ≡ true → FirstHeld range i s.number
  first_held image n s lt is before t = record {
    held = record { slot = s; stands = subst (λ l. Contains l s) (sym same) (n, lt, sym is); number = refl; meets = t };
    least = λ m x.
        let at = held_at n before m x in
        subst (λ v. s.number ≤ v) x.number (not_less slots (ascends slots (subst (λ l. IsStrictlyIncreasing (numbers_of l)) same image.rising)) n at.0 s x.slot at.1 at.2 (sym is) at.3);
  }
