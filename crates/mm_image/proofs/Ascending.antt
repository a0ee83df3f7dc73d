-- Slots and pages whose numbers ascend, as loops test it.
use Rattle.std.proofs.Common.{◌≡◌, ℕ, ◌+◌, ◌-◌, ◌<◌, ◌≤◌, ◌↔◌, true, false, List, length, get_or, drop, sym, ap, subst}
use Rattle.std.proofs.Common.{◌∙◌, arith, inl, inr}
use Rattle.std.proofs.lemmas.{Bool.cases_lt, List.{get_or-map, length-map, drop_more, drop_all}}
use Rattle.std.specs.{Prelude.IsTrue, List.Sorted.IsStrictlyIncreasing, Ordering.nat_cmp, FinMap.is_sorted}
use Rattle.mm_word.specs.declared.word.Cell.{Cell}
use Rattle.mm_model.specs.{Slot.Slot, Spelling.numbers_of}
use Rattle.mm_model.proofs.Bytes.Rising.{AreRisingFrom, sorted_from, rising_from_sorted}

-- 1. Slots.

number_at : (slots : List Slot) (k : ℕ) (s : Slot) → s ≡ get_or slots k s → k < length slots → get_or (numbers_of slots) k 0 ≡ s.number
number_at slots k s is lt = get_or-map (λ (x : Slot). x.number) slots k s 0 lt ∙ ap (λ (x : Slot). x.number) (sym is)

-- the numbers so far
abbrev AscendBelow : List Slot → ℕ → Type 0
AscendBelow slots k = (j : ℕ) → j + 1 < k → get_or (numbers_of slots) j 0 < get_or (numbers_of slots) (j + 1) 0

module _ (slots : List Slot) (k : ℕ) (before this : Slot) (one : 1 ≤ k) (lt : k < length slots) (is_before : before ≡ get_or slots (k - 1) before) (is_this : this ≡ get_or slots k this) where
  pub slots_go_on : AscendBelow slots k → before.number < this.number → AscendBelow slots (k + 1)
  slots_go_on so_far above j small =
      elim (cases_lt (j + 1) k) [
        | inl earlier ↦ so_far j earlier
        | inr last ↦
            let place : j + 1 ≡ k = omega arith in
            let place_before : j ≡ k - 1 = omega arith in
            let a : get_or (numbers_of slots) j 0 ≡ before.number = ap (λ n. get_or (numbers_of slots) n 0) place_before ∙ number_at slots (k - 1) before is_before (omega arith) in
            let b : get_or (numbers_of slots) (j + 1) 0 ≡ this.number = ap (λ n. get_or (numbers_of slots) n 0) place ∙ number_at slots k this is_this lt in
            omega (arith, a, b, above)
      ]

  pub slots_fall : this.number ≤ before.number → IsStrictlyIncreasing (numbers_of slots) → true ≡ false
  slots_fall low rising =
      let next : k - 1 + 1 ≡ k = omega arith in
      let a = number_at slots (k - 1) before is_before (omega arith) in
      let b : get_or (numbers_of slots) (k - 1 + 1) 0 ≡ this.number = ap (λ n. get_or (numbers_of slots) n 0) next ∙ number_at slots k this is_this lt in
      let up = rising (k - 1) (omega (arith, length-map slots (λ (x : Slot). x.number))) in
      absurd (omega (arith, a, b, up, low))

-- 2. Pages.

abbrev Page : Type 0
Page = ℕ × List Cell

pub pages_end : (pages : List Page) (i least : ℕ) → (AreRisingFrom 0 pages ↔ AreRisingFrom least (drop i pages)) → length pages ≤ i → IsTrue (is_sorted nat_cmp pages)
pages_end pages i least same le = sorted_from 0 pages (same.1 (subst (AreRisingFrom least) (sym (drop_all i pages le)) tt))

pub pages_fall : (pages : List Page) (i least : ℕ) (page : Page)
    → (AreRisingFrom 0 pages ↔ AreRisingFrom least (drop i pages)) → i < length pages → page ≡ get_or pages i page
    → page.0 < least → IsTrue (is_sorted nat_cmp pages) → true ≡ false
pages_fall pages i least page same lt is low sorted =
    let rest = subst (AreRisingFrom least) (drop_more pages i page lt) (same.0 (rising_from_sorted pages sorted)) in
    let number = ap (λ (p : Page). p.0) is in
    absurd (omega (arith, rest.0, number, low))
