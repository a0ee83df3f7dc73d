-- Entries at a place, or about a gap, of a list whose numbers rise.
use Rattle.std.proofs.Common.{IsTrue, subst, ◌≡◌, ℕ, zero, suc, ◌<◌, Bool, not, T, List, [], ◌∷◌, length, get_or, set}
use Rattle.std.proofs.Common.{None, Some, Result, Ok, Err, IfOk, IfErr, refl, sym, ap, arith, ◌==◌}
use Rattle.std.proofs.lemmas.{Cmp.ranked, Bool.Decides.nat_tests, List.Sorted.IsNonDecreasingBy-from_default}
use Rattle.std.specs.Ordering.{nat_cmp, ordering_index}
use Rattle.std.specs.List.{insert, remove, filter, Sorted.{IsSearchInRange, IsBinarySearchResult, IsNonDecreasingBy}}
use Rattle.std.specs.FinMap.{find, put, is_sorted, Entries.below_all}
use Rattle.mm_mem.specs.Places.{IsAt, IsGap}

pub held : (b : Bool) → IsTrue b → T b
held b h = subst T (sym h) tt

module _ {X : Type 0} where
  sorted_rest : (e : ℕ × X) (es : List (ℕ × X)) → T (is_sorted nat_cmp (e ∷ es)) → T (is_sorted nat_cmp es)
  sorted_rest e es sorted = grind arith

  below_at : (x : ℕ) (es : List (ℕ × X)) (i : ℕ) (d : ℕ × X) → T (below_all nat_cmp x es) → i < length es → x < (get_or es i d).0
  below_at x [] i d below lt = absurd (omega arith)
  below_at x (e ∷ es) zero d below lt = grind (arith, nat_tests)
  below_at x (e ∷ es) (suc i) d below lt = grind (arith, nat_tests, below_at x es i d)

  -- the numbers before a place are smaller than the one there
  pub rising : (es : List (ℕ × X)) (i j : ℕ) (d : ℕ × X) → T (is_sorted nat_cmp es) → i < j → j < length es → (get_or es i d).0 < (get_or es j d).0
  rising [] i j d sorted lt in_range = absurd (omega arith)
  rising (e ∷ es) i zero d sorted lt in_range = absurd (omega arith)
  rising (e ∷ es) zero (suc j) d sorted lt in_range = grind (arith, nat_tests, below_at e.0 es j d)
  rising (e ∷ es) (suc i) (suc j) d sorted lt in_range = rising es i j d (sorted_rest e es sorted) (omega arith) (omega arith)

  at_tail : (k i : ℕ) (e : ℕ × X) (es : List (ℕ × X)) → IsAt k (e ∷ es) (suc i) → IsAt k es i
  at_tail k i e es at = record { in_range = omega (arith, at.in_range); has_number = λ d. at.has_number d }

  gap_tail : (k i : ℕ) (e : ℕ × X) (es : List (ℕ × X)) → IsGap k (e ∷ es) (suc i) → IsGap k es i
  gap_tail k i e es gap = record {
    in_range = omega (arith, gap.in_range);
    smaller_before = λ j d lt. gap.smaller_before (suc j) d (omega arith);
    greater_after = λ j d le lt. gap.greater_after (suc j) d (omega arith) (omega arith);
  }

  first_smaller : (k i : ℕ) (e : ℕ × X) (es : List (ℕ × X)) → T (is_sorted nat_cmp (e ∷ es)) → IsAt k (e ∷ es) (suc i) → e.0 < k
  first_smaller k i e es sorted at = omega (arith, rising (e ∷ es) 0 (suc i) e sorted (omega arith) at.in_range, at.has_number e)

  -- a number that is at a place is found, with the entry there
  pub found_at : (k : ℕ) (es : List (ℕ × X)) (i : ℕ) → T (is_sorted nat_cmp es) → IsAt k es i → (d : ℕ × X) → find nat_cmp k es ≡ Some (get_or es i d).1
  found_at k [] i sorted at d = absurd (omega (arith, at.in_range))
  found_at k (e ∷ es) zero sorted at d = grind (arith, nat_tests, at.has_number e)
  found_at k (e ∷ es) (suc i) sorted at d =
      grind (arith, nat_tests, first_smaller k i e es sorted at, found_at k es i (sorted_rest e es sorted) (at_tail k i e es at) d)

  -- a number that has a gap is not found
  pub absent_in_gap : (k : ℕ) (es : List (ℕ × X)) (i : ℕ) → IsGap k es i → find nat_cmp k es ≡ None
  absent_in_gap k [] i gap = refl
  absent_in_gap k (e ∷ es) zero gap = grind (arith, nat_tests, gap.greater_after 0 e (omega arith) (omega arith), absent_in_gap k es 0 (gap_rest k e es gap))
    where
      gap_rest : (k : ℕ) (e : ℕ × X) (es : List (ℕ × X)) → IsGap k (e ∷ es) 0 → IsGap k es 0
      gap_rest k e es gap = record {
        in_range = omega arith;
        smaller_before = λ j d lt. absurd (omega arith);
        greater_after = λ j d le lt. gap.greater_after (suc j) d (omega arith) (omega arith);
      }
  absent_in_gap k (e ∷ es) (suc i) gap = grind (arith, nat_tests, gap.smaller_before 0 e (omega arith), absent_in_gap k es i (gap_tail k i e es gap))

  -- what is written over the entry at a place
  pub set_at : (k : ℕ) (v : X) (es : List (ℕ × X)) (i : ℕ) → T (is_sorted nat_cmp es) → IsAt k es i → set es i (k, v) ≡ put nat_cmp k v es
  set_at k v [] i sorted at = absurd (omega (arith, at.in_range))
  set_at k v (e ∷ es) zero sorted at = grind (arith, nat_tests, at.has_number e)
  set_at k v (e ∷ es) (suc i) sorted at =
      grind (arith, nat_tests, first_smaller k i e es sorted at, set_at k v es i (sorted_rest e es sorted) (at_tail k i e es at))

  -- what is inserted in a gap
  pub insert_in_gap : (k : ℕ) (v : X) (es : List (ℕ × X)) (i : ℕ) → IsGap k es i → insert es i (k, v) ≡ put nat_cmp k v es
  insert_in_gap k v [] zero gap = refl
  insert_in_gap k v [] (suc i) gap = absurd (omega (arith, gap.in_range))
  insert_in_gap k v (e ∷ es) zero gap = grind (arith, nat_tests, gap.greater_after 0 e (omega arith) (omega arith))
  insert_in_gap k v (e ∷ es) (suc i) gap = grind (arith, nat_tests, gap.smaller_before 0 e (omega arith), insert_in_gap k v es i (gap_tail k i e es gap))

  abbrev pub without : ℕ → List (ℕ × X) → List (ℕ × X)
  without k es = filter (λ e. not (e.0 == k)) es

  without_below : (k : ℕ) (es : List (ℕ × X)) → T (below_all nat_cmp k es) → without k es ≡ es
  without_below k [] below = refl
  without_below k (e ∷ es) below = grind (arith, nat_tests, without_below k es)

  -- what is removed at a place
  pub remove_at : (k : ℕ) (es : List (ℕ × X)) (i : ℕ) → T (is_sorted nat_cmp es) → IsAt k es i → remove es i ≡ without k es
  remove_at k [] i sorted at = absurd (omega (arith, at.in_range))
  remove_at k (e ∷ es) zero sorted at = grind (arith, nat_tests, at.has_number e, without_below k es)
  remove_at k (e ∷ es) (suc i) sorted at =
      grind (arith, nat_tests, first_smaller k i e es sorted at, remove_at k es i (sorted_rest e es sorted) (at_tail k i e es at))

module _ {X : Type 0} (es : List (ℕ × X)) (sorted : T (is_sorted nat_cmp es)) (k : ℕ) where
  -- the comparisons with a number rise, as a binary search asks
  comparisons_rise : (d : ℕ × X) → IsNonDecreasingBy (λ (e : ℕ × X). ordering_index (nat_cmp e.0 k)) es
  comparisons_rise d = IsNonDecreasingBy-from_default (λ (e : ℕ × X). ordering_index (nat_cmp e.0 k)) es d (λ i j le in_range.
      grind (arith, nat_tests, rising es i j d sorted, λ (same : i ≡ j). ap (λ n. (get_or es n d).0) same))

  -- a binary search by number ends at the number, or at the gap for it
  pub searched : (r : Result ℕ ℕ) → IsSearchInRange r (length es) → IsBinarySearchResult (λ e. nat_cmp e.0 k) es r → IfOk r (IsAt k es) × IfErr r (IsGap k es)
  searched (Ok i) in_range equal = (record { in_range = in_range; has_number = λ d. ranked _ k _ (sym (equal d)) }, tt)
  searched (Err i) in_range parted = (
    tt,
    record {
      in_range = in_range;
      smaller_before = λ j d lt. ranked _ k _ (sym ((parted (comparisons_rise d)).0 j d (omega arith) lt));
      greater_after = λ j d le lt. ranked _ k _ (sym ((parted (comparisons_rise d)).1 j d le lt));
    },
  )
