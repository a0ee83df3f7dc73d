-- Pages whose numbers rise from a least one on, as a finite map has them.
use Rattle.std.proofs.Common.{◌≡◌, ℕ, ◌+◌, ◌<◌, ◌≤◌, true, List, [], ◌∷◌, refl, arith}
use Rattle.std.proofs.lemmas.Bool.{and_parts, and_from, Decides.nat_tests}
use Rattle.std.specs.{Prelude.IsTrue, Ordering.{nat_cmp, is_lt}, FinMap.{is_sorted, Entries.below_all}}
use Rattle.std.specs.List.{AllByRecursion}
-- names by which crates above know them
pub use Rattle.std.proofs.lemmas.Bool.{and_parts as both, and_from as and_true}

is_less : (x y : ℕ) → x < y → is_lt (nat_cmp x y) ≡ true
is_less x y h = grind (arith, nat_tests)

is_above : (x y : ℕ) → is_lt (nat_cmp x y) ≡ true → x + 1 ≤ y
is_above x y h = grind (arith, nat_tests)

module _ {X : Type 0} where
  -- each number is above the one before, and the first is at least so much
  abbrev pub AreRisingFrom : ℕ → List (ℕ × X) → Type 0
  AreRisingFrom least [] = Unit {0}
  AreRisingFrom least (page ∷ pages) = (least ≤ page.0) × AreRisingFrom (page.0 + 1) pages

  below_from : (n least : ℕ) (pages : List (ℕ × X)) → n < least → AreRisingFrom least pages → below_all nat_cmp n pages ≡ true
  below_from n least [] lt rising = refl
  below_from n least (page ∷ pages) lt rising = and_from _ _ (is_less n page.0 (omega (arith, rising.0))) (below_from n (page.0 + 1) pages (omega (arith, rising.0)) rising.1)

  pub sorted_from : (least : ℕ) (pages : List (ℕ × X)) → AreRisingFrom least pages → IsTrue (is_sorted nat_cmp pages)
  sorted_from least [] rising = refl
  sorted_from least (page ∷ pages) rising = and_from _ _ (below_from page.0 (page.0 + 1) pages (omega arith) rising.1) (sorted_from (page.0 + 1) pages rising.1)

  above : (n : ℕ) (pages : List (ℕ × X)) → below_all nat_cmp n pages ≡ true → AllByRecursion (λ (page : ℕ × X). n + 1 ≤ page.0) pages
  above n [] h = tt
  above n (page ∷ pages) h =
      let split = and_parts (is_lt (nat_cmp n page.0)) (below_all nat_cmp n pages) h in
      (is_above n page.0 split.0, above n pages split.1)

  low_rising : (least : ℕ) (pages : List (ℕ × X)) → AllByRecursion (λ (page : ℕ × X). least ≤ page.0) pages → IsTrue (is_sorted nat_cmp pages) → AreRisingFrom least pages
  low_rising least [] low sorted = tt
  low_rising least (page ∷ pages) low sorted =
      let split = and_parts (below_all nat_cmp page.0 pages) (is_sorted nat_cmp pages) sorted in
      (low.0, low_rising (page.0 + 1) pages (above page.0 pages split.0) split.1)

  from_zero : (pages : List (ℕ × X)) → AllByRecursion (λ (page : ℕ × X). 0 ≤ page.0) pages
  from_zero [] = tt
  from_zero (page ∷ pages) = (omega arith, from_zero pages)

  pub rising_from_sorted : (pages : List (ℕ × X)) → IsTrue (is_sorted nat_cmp pages) → AreRisingFrom 0 pages
  rising_from_sorted pages sorted = low_rising 0 pages (from_zero pages) sorted
