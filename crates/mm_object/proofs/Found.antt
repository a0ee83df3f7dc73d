-- The relocation of a word, as a search by halving finds it among those that rise.
use Rattle.std.proofs.Common.{◌≡◌, ◌≢◌, ℕ, zero, suc, ◌+◌, ◌*◌, ◌^◌, ◌<◌, ◌≤◌, Bool, true, false, if◌then◌else◌, List}
use Rattle.std.proofs.Common.{[], ◌∷◌, map, length, get_or, slice_get, Some, None, refl, sym, ap, ◌∙◌, arith, inl, inr}
use Rattle.std.proofs.lemmas.Bool.{cases_lt, and_parts, false_from_ne_true, eqb-true, Decides.nat_tests}
use Rattle.std.proofs.lemmas.Cmp.{ranked, nat_cmp_total}
use Rattle.std.proofs.lemmas.List.{get_or-map, length-map, Kept.AllPairs-from_increasing, Sorted.searchable_from_sorted}
use Rattle.std.specs.Prelude.{find, ◌==◌, ◌&&◌}
use Rattle.std.specs.List.{HoldsAt, list_all, Sorted.{IsStrictlyIncreasing, IsNonDecreasingBy, IsPartitionPoint}}
use Rattle.std.specs.{Ordering.{nat_cmp, ordering_index}, declared.cmp.Ordering.TheVariants.{Less, Equal, Greater}}
use Rattle.mm_object.specs.declared.{target.Reloc.Reloc, item.Item.Item}
use Rattle.mm_object.specs.Objects.{Segment, place_of, words_of, is_reloc, is_zero, item_of, is_target}
use Rattle.mm_object.specs.Lookups.{is_at, HaveSmallWords}
use Rattle.mm_word.specs.declared.perm.Perm.TheVariants.{Key}
use Rattle.mm_model.specs.Limits.{word_limit}

-- 1. The first item that passes a test.

module _ {A : Type 0} (p : A → Bool) where
  -- it stands here, and none before it passes
  pub found_here : (xs : List A) (i : ℕ) (d : A) → i < length xs → p (get_or xs i d) ≡ true → ((j : ℕ) → j < i → p (get_or xs j d) ≡ false) → find p xs ≡ Some (get_or xs i d)
  found_here [] i d lt this before = absurd (omega arith)
  found_here (x ∷ xs) zero d lt this before = ap (λ b. if b then Some x else find p xs) this
  found_here (x ∷ xs) (suc i) d lt this before = ap (λ b. if b then Some x else find p xs) (before zero (omega arith)) ∙ found_here xs i d (omega arith) this (λ j l. before (suc j) (omega arith))

  -- none passes
  pub found_nowhere : (xs : List A) (d : A) → ((j : ℕ) → j < length xs → p (get_or xs j d) ≡ false) → find p xs ≡ None
  found_nowhere [] d none = refl
  found_nowhere (x ∷ xs) d none = ap (λ b. if b then Some x else find p xs) (none zero (omega arith)) ∙ found_nowhere xs d (λ j l. none (suc j) (omega arith))

-- 2. Relocations.

-- a word that is relocated is one of its segment
of_items : (items : List Item) (k : ℕ) → is_zero (slice_get items k) ≡ true → k < length items
of_items [] k h = absurd cc
of_items (item ∷ items) zero h = omega arith
of_items (item ∷ items) (suc k) h = let l = of_items items k h in omega (arith, l)

of_segments : (segments : List Segment) (n word : ℕ) → is_zero (item_of (slice_get segments n) word) ≡ true → word < words_of segments
of_segments [] n word h = absurd cc
of_segments (s ∷ segments) zero word h = let l = of_items s.items word h in omega (arith, l)
of_segments (s ∷ segments) (suc n) word h = let l = of_segments segments n word h in omega (arith, l)

pub small_words : (segments : List Segment) (externals : ℕ) (relocs : List Reloc) → words_of segments ≤ word_limit → list_all (is_reloc segments externals) relocs ≡ true
    → HaveSmallWords relocs
small_words segments externals [] few h = tt
small_words segments externals (r ∷ relocs) few h =
    let b = and_parts (is_reloc segments externals r) (list_all (is_reloc segments externals) relocs) h in
    let zeroed = (and_parts (is_zero (item_of (slice_get segments r.segment) r.word)) (is_target segments externals r.target) b.0).0 in
    let l = of_segments segments r.segment r.word zeroed in
    (omega (arith, l, few), small_words segments externals relocs few b.1)

small_at : (relocs : List Reloc) → HaveSmallWords relocs → (i : ℕ) (d : Reloc) → i < length relocs → (get_or relocs i d).word < 2 ^ 32
small_at [] h i d lt = absurd (omega arith)
small_at (r ∷ relocs) h zero d lt = h.0
small_at (r ∷ relocs) h (suc i) d lt = small_at relocs h.1 i d (omega arith)

module _ (segment word : ℕ) where
  at_its_place : (r : Reloc) → is_at segment word r ≡ true → place_of r ≡ segment * 2 ^ 32 + word
  at_its_place r h =
      let b = and_parts (r.segment == segment) (r.word == word) h in
      let s : r.segment ≡ segment = eqb-true r.segment segment b.0 in
      let w : r.word ≡ word = eqb-true r.word word b.1 in
      ap (λ n. n * 2 ^ 32 + r.word) s ∙ ap (λ n. segment * 2 ^ 32 + n) w

  elsewhere : (r : Reloc) → place_of r ≢ segment * 2 ^ 32 + word → is_at segment word r ≡ false
  elsewhere r other = false_from_ne_true (is_at segment word r) (λ h. other (at_its_place r h))

  pub standing : (r : Reloc) → r.segment ≡ segment → r.word ≡ word → is_at segment word r ≡ true
  standing r s w = agree r.segment segment s r.word word w
    where
      agree : (a b : ℕ) → a ≡ b → (c d : ℕ) → c ≡ d → (a == b && c == d) ≡ true
      agree a b e c d f = grind (arith, nat_tests)

  here : (r : Reloc) → r.word < 2 ^ 32 → word < 2 ^ 32 → place_of r ≡ segment * 2 ^ 32 + word → is_at segment word r ≡ true
  here r small low same =
      let s : r.segment ≡ segment = omega (arith, same) in
      let w : r.word ≡ word = omega (arith, same) in
      standing r s w

  module _ (xs : List Reloc) (rising : IsStrictlyIncreasing (map place_of xs)) where
    rises : (i j : ℕ) (d : Reloc) → i < j → j < length xs → place_of (get_or xs i d) < place_of (get_or xs j d)
    rises i j d low lt =
        let up : get_or (map place_of xs) i 0 < get_or (map place_of xs) j 0 = AllPairs-from_increasing (map place_of xs) rising i j 0 low (omega (arith, length-map xs place_of)) in
        let a : get_or (map place_of xs) i 0 ≡ place_of (get_or xs i d) = get_or-map place_of xs i d 0 (omega arith) in
        let b : get_or (map place_of xs) j 0 ≡ place_of (get_or xs j d) = get_or-map place_of xs j d 0 lt in
        omega (arith, up, a, b)

    -- a relocation of the word is the only one
    pub found_at : (i : ℕ) (d : Reloc) → i < length xs → is_at segment word (get_or xs i d) ≡ true → find (is_at segment word) xs ≡ Some (get_or xs i d)
    found_at i d lt this =
        found_here (is_at segment word) xs i d lt this
        (λ j less. elsewhere (get_or xs j d) (λ e. let up = rises j i d less lt in let at = at_its_place
        (get_or xs i d) this in omega (arith, up, at, e)))

    module _ (q : ℕ) (is : q ≡ segment * 2 ^ 32 + word) where
      pub found_reloc : (i : ℕ) (d : Reloc) → i < length xs → HoldsAt (λ (x : Reloc). nat_cmp (place_of x) q ≡ Equal) xs i → HaveSmallWords xs → word < 2 ^ 32
          → find (is_at segment word) xs ≡ Some (get_or xs i d)
      found_reloc i d lt equal small low =
          let n : place_of (get_or xs i d) ≡ q = ranked _ q _ (sym (equal d)) in
          let this : is_at segment word (get_or xs i d) ≡ true = here (get_or xs i d) (small_at xs small i d lt) low (n ∙ is) in
          found_here (is_at segment word) xs i d lt this (λ j less. elsewhere (get_or xs j d) (λ e. let up = rises j i d less lt in omega (arith, up, n, is, e)))

      pub missed_reloc : (i : ℕ)
          → (IsNonDecreasingBy (λ (x : Reloc). ordering_index (nat_cmp (place_of x) q)) xs
          → IsPartitionPoint (λ (x : Reloc). nat_cmp (place_of x) q ≡ Less) (λ (x : Reloc). nat_cmp (place_of x) q ≡ Greater) xs i)
          → find (is_at segment word) xs ≡ None
      missed_reloc i parts =
          let apart = parts (searchable_from_sorted nat_cmp_total place_of xs q (λ k e low lt. let up = rises k (k + 1) e (omega arith) lt in grind (arith, nat_tests))) in
          let d : Reloc = record { segment = 0; word = 0; perm = Key; target = record { index = 0; addend = 0 } } in
          found_nowhere (is_at segment word) xs d (λ j lt. elsewhere (get_or xs j d) (λ e.
          elim (cases_lt j i) [
            | inl less ↦ let lower = ranked _ q _ (sym (apart.0 j d (omega arith) less)) in omega (arith, lower, is, e)
            | inr more ↦ let higher = ranked _ q _ (sym (apart.1 j d more lt)) in omega (arith, higher, is, e)
          ]))
