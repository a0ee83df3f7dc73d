-- What a search by halving finds in ascending pages.
use Rattle.std.proofs.Common.{◌≡◌, ◌≢◌, ℕ, ◌+◌, ◌<◌, List, length, get_or, Some, None, sym, ap, ◌∙◌, arith, inl, inr}
use Rattle.std.proofs.lemmas.{Bool.{cases_lt, Decides.nat_tests}, Cmp.{ranked, nat_cmp_total}}
use Rattle.std.proofs.lemmas.List.Sorted.{searchable_from_sorted}
use Rattle.std.specs.{Prelude.IsTrue, Ordering.{nat_cmp, ordering_index}}
use Rattle.std.specs.{List.{HoldsAt, Sorted.{IsNonDecreasingBy, IsPartitionPoint}}, FinMap.{find, is_sorted}}
use Rattle.std.specs.declared.cmp.Ordering.{Ordering, TheVariants.{Less, Equal, Greater}}
use Rattle.mm_word.specs.declared.word.Cell.{Cell}
use Rattle.mm_image.proofs.SortedEntries.{rises, find-at, find-none}

abbrev Page : Type 0
Page = ℕ × List Cell

abbrev number_order : ℕ → Page → Ordering
number_order q p = nat_cmp p.0 q

searchable : (ps : List Page) (q : ℕ) → IsTrue (is_sorted nat_cmp ps) → IsNonDecreasingBy (λ p. ordering_index (number_order q p)) ps
searchable ps q h = searchable_from_sorted nat_cmp_total (λ (p : Page). p.0) ps q (λ k d low lt.
    let rise : (get_or ps k d).0 < (get_or ps (k + 1) d).0 = rises ps k (k + 1) d h (omega arith) lt in
    grind (arith, nat_tests))

pub found_at : (ps : List Page) (q i : ℕ) (p : Page) → IsTrue (is_sorted nat_cmp ps) → i < length ps → HoldsAt (λ x. number_order q x ≡ Equal) ps i → p ≡ get_or ps i p → Some p.1 ≡ find nat_cmp q ps
found_at ps q i p h l equal is =
    let n : (get_or ps i p).0 ≡ q = ranked _ q _ (sym (equal p)) in
    sym (find-at ps i q p h l n ∙ ap (λ (e : Page). Some e.1) (sym is))

differs : (ps : List Page) (q i : ℕ) → IsPartitionPoint (λ p. number_order q p ≡ Less) (λ p. number_order q p ≡ Greater) ps i → (j : ℕ) (e : Page) → j < length ps → (get_or ps j e).0 ≢ q
differs ps q i parts j e l same =
    elim (cases_lt j i) [
      | inl lt ↦ let lower = ranked _ q _ (sym (parts.0 j e (omega arith) lt)) in omega arith
      | inr le ↦ let higher = ranked _ q _ (sym (parts.1 j e le l)) in omega arith
    ]

pub not_found : (ps : List Page) (q i : ℕ) → IsTrue (is_sorted nat_cmp ps)
    → (IsNonDecreasingBy (λ p. ordering_index (number_order q p)) ps → IsPartitionPoint (λ p. number_order q p ≡ Less)
    (λ p. number_order q p ≡ Greater) ps i) → None ≡ find nat_cmp q ps
not_found ps q i h parts =
    let apart = parts (searchable ps q h) in
    sym (find-none ps q (λ j e lt. differs ps q i apart j e lt))
