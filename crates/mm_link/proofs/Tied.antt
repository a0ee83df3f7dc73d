-- Segments of one length stand as they are given.
use Rattle.std.proofs.Common.{◌≡◌, ◌≢◌, ℕ, Bool, false, ◌==◌, List, [], ◌∷◌, ◌++◌, refl, sym, ap, ◌∙◌, subst, inl, inr}
use Rattle.std.proofs.Common.{arith, eqb-true, ne_eqb}
use Rattle.std.proofs.lemmas.Bool.{cases_lt, or_parts, cond-false, eqb-false}
use Rattle.std.proofs.lemmas.List.{append-nil, Elements.filter-append}
use Rattle.std.specs.List.{flat_map, filter, list_any, AllByRecursion}
use Rattle.mm_model.proofs.Filters.{filter_again}
use Rattle.mm_link.specs.{Placing.{Part, parts_of, has_log, falling_logs, by_length}, Laws.TiesStandAsGiven}
use Rattle.mm_link.proofs.{Buckets.{PassesOnce, once_falling}, Parts.{IsPart, are_parts, are_placed_parts}}
use Rattle.mm_object.proofs.Members.{In, from_filter, each_in}

pub none_kept : {X : Type 0} (p : X → Bool) (xs : List X) → ((x : X) → In x xs → p x ≡ false) → filter p xs ≡ []
none_kept p [] h = refl
none_kept p (x ∷ xs) h = cond-false (p x) (x ∷ filter p xs) (filter p xs) (h x (inl refl)) ∙ none_kept p xs (λ y is. h y (inr is))

-- 1. What buckets keep of one key.

module _ {X : Type 0} (key : X → ℕ) (n : ℕ) where
  abbrev of : ℕ → X → Bool
  of k x = key x == k

  abbrev all : List ℕ → List X → List X
  all keys xs = flat_map (λ k. filter (of k) xs) keys

  other_bucket : (k : ℕ) (xs : List X) → n == k ≡ false → filter (of n) (filter (of k) xs) ≡ []
  other_bucket k xs other = none_kept (of n) (filter (of k) xs) (λ x is. apart x (eqb-true (key x) k (from_filter (of k) x xs is).1))
    where
      apart : (x : X) → key x ≡ k → key x == n ≡ false
      apart x e = let ne = eqb-false n k other in ne_eqb (key x) n (λ same. ne (omega arith))

  no_bucket : (keys : List ℕ) (xs : List X) → list_any (λ k. n == k) keys ≡ false → filter (of n) (all keys xs) ≡ []
  no_bucket [] xs none = refl
  no_bucket (k ∷ keys) xs none =
      let parts = or_parts (n == k) (list_any (λ j. n == j) keys) none in
      filter-append (of n) (filter (of k) xs) (all keys xs) ∙ ap (λ ys. ys ++ filter (of n) (all keys xs)) (other_bucket k xs parts.0) ∙ no_bucket keys xs parts.1

  pub one_bucket : (keys : List ℕ) (xs : List X) → PassesOnce (λ k. n == k) keys → filter (of n) (all keys xs) ≡ filter (of n) xs
  one_bucket [] xs once = absurd once
  one_bucket (k ∷ keys) xs (inl here) =
      let same : n ≡ k = eqb-true n k here.0 in
      let own : filter (of n) (filter (of k) xs) ≡ filter (of n) xs = subst (λ j. filter (of n) (filter (of j) xs) ≡ filter (of n) xs) same (filter_again (of n) xs) in
      filter-append (of n) (filter (of k) xs) (all keys xs) ∙ ap (λ ys. ys ++ filter (of n) (all keys xs)) own ∙ ap (λ ys. filter (of n) xs ++ ys) (no_bucket keys xs here.1)
      ∙ append-nil (filter (of n) xs)
  one_bucket (k ∷ keys) xs (inr later) =
      filter-append (of n) (filter (of k) xs) (all keys xs) ∙ ap (λ ys. ys ++ filter (of n) (all keys xs)) (other_bucket k xs later.0) ∙ one_bucket keys xs later.1

-- 2. Segments.

-- no part has such a length
none_so_long : (log : ℕ) (parts : List Part) → AllByRecursion IsPart parts → ((p : Part) → IsPart p → p.segment.log ≢ log) → filter (has_log log) parts ≡ []
none_so_long log parts h other = none_kept (has_log log) parts (λ p is. ne_eqb p.segment.log log (other p (each_in IsPart p parts h is)))

-- so that there is none in either order
both_none : (log : ℕ) (parts : List Part) → AllByRecursion IsPart parts → ((p : Part) → IsPart p → p.segment.log ≢ log) → filter (has_log log) (by_length parts) ≡ filter (has_log log) parts
both_none log parts h other = none_so_long log (by_length parts) (are_placed_parts parts h) other ∙ sym (none_so_long log parts h other)

ties : (log : ℕ) (parts : List Part) → AllByRecursion IsPart parts → filter (has_log log) (by_length parts) ≡ filter (has_log log) parts
unfolding by_length
ties log parts h = elim (cases_lt log 3) [
  | inl low ↦ both_none log parts h (λ p is e. let least = is.segment.least in omega arith)
  | inr least ↦ elim (cases_lt 20 log) [
    | inl high ↦ both_none log parts h (λ p is e. let greatest = is.segment.greatest in omega arith)
    | inr greatest ↦ one_bucket (λ (p : Part). p.segment.log) log falling_logs parts (once_falling 20 18 0 log greatest (omega arith) (omega arith) (omega arith))
  ]
]

pub ties_stand_as_given : TiesStandAsGiven
ties_stand_as_given objects are log = ties log (parts_of objects) (are_parts objects are)
