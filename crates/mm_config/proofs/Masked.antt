-- The places of changes that are set in a mask, one after the other.
use Rattle.std.proofs.Common.{◌≡◌, ◌⊎◌, inl, inr, ℕ, zero, suc, ◌+◌, ◌*◌, ◌%◌, ◌<◌, ◌≤◌, ◌^◌, Bool, true, false, List, length, slice_get, slice_set, slice_index_or, take, bit_or, Option, Some, refl, sym, ap, ◌∙◌, subst, arith, eqb}
use Rattle.std.proofs.lemmas.{Bool.cases_eq, List.{get_or-set_same, get_or-set_other}, Nat.{one_shl, Bits.{bit_at_set_same, bit_at_set_other}}, List.Sums.fold_more, List.take_all, Option.slice_get-get_or}
use Rattle.std.specs.Int.{w64}
use Rattle.mm_model.{specs.Flags.flags, proofs.Bytes.Bitmaps.length-flags}
use Rattle.mm_thread.proofs.FlagSets.{flags-one}
use Rattle.mm_config.specs.Reads.{mask_of}
use Rattle.mm_config.proofs.Walks.{up_to}

-- a flag that is set
flags_set : (k n r : ℕ) → k ≤ 64 → r < k → flags k (bit_or n (2 ^ r)) ≡ slice_set (flags k n) r true
flags_set k n r few lt =
    let low : r < 64 = omega (arith, few, lt) in
    ap (λ b. flags k (bit_or n b)) (sym (one_shl r 64 low))
    ∙ flags-one k (bit_or n (1 * 2 ^ r % 2 ^ 64)) n r true lt (ap (λ c. eqb c 1) (bit_at_set_same w64 n r low)) (λ i small other. bit_at_set_other w64 n r low i other)

-- a place is set, and something holds of it, or it is not set, and none of the first changes is at it
abbrev pub IsMasked : List (ℕ × ℕ) → (ℕ → Type 0) → ℕ → List Bool → ℕ → Type 0
IsMasked changes Is n set p =
    ((slice_index_or set p false ≡ true) × Is p) ⊎ ((slice_index_or set p false ≡ false) × ((j : ℕ) (e : ℕ × ℕ) → j < n → slice_get changes j ≡ Some e → e.0 ≡ p → ⊥))

abbrev pub AreMasked : List (ℕ × ℕ) → (ℕ → Type 0) → (count n mask : ℕ) → Type 0
AreMasked changes Is count n mask = (p : ℕ) → p < count → IsMasked changes Is n (flags count mask) p

no_flag : (n k : ℕ) → k < n → slice_index_or (flags n 0) k false ≡ false
no_flag zero k lt = absurd (omega (arith, lt))
no_flag (suc n) zero lt = refl
no_flag (suc n) (suc k) lt = no_flag n k (omega (arith, lt))

pub none_masked : (changes : List (ℕ × ℕ)) (Is : ℕ → Type 0) (count : ℕ) → AreMasked changes Is count 0 0
none_masked changes Is count = λ p lt. inr (no_flag count p lt, λ j e low got same. absurd (omega (arith, low)))

pub one_masked : (changes : List (ℕ × ℕ)) (Is Next : ℕ → Type 0) (count n mask : ℕ) (e : ℕ × ℕ) → count ≤ 64 → AreMasked changes Is count n mask → slice_get changes n ≡ Some e → e.0 < count
    → ((p : ℕ) → (p ≡ e.0 → ⊥) → Is p → Next p) → Next e.0 → AreMasked changes Next count (n + 1) (bit_or mask (2 ^ e.0))
one_masked changes Is Next count n mask e few so got lt others here = λ p low. by p (cases_eq p e.0) (so p low)
  where
    now : List Bool
    now = flags count (bit_or mask (2 ^ e.0))

    set : now ≡ slice_set (flags count mask) e.0 true
    set = flags_set count mask e.0 few lt

    by : (p : ℕ) → (p ≡ e.0) ⊎ (p ≡ e.0 → ⊥) → IsMasked changes Is n (flags count mask) p → IsMasked changes Next (n + 1) now p
    by p (inl same) was =
        let long = length-flags count mask in
        inl (
          ap (λ l. slice_index_or l p false) set ∙ ap (λ q. slice_index_or (slice_set (flags count mask) e.0 true) q false) same ∙ get_or-set_same (flags count mask) e.0 true false (omega (arith, long, lt)),
          subst Next (sym same) here,
        )
    by p (inr ne) (inl was) = inl (ap (λ l. slice_index_or l p false) set ∙ get_or-set_other (flags count mask) e.0 p true false ne ∙ was.0, others p ne was.1)
    by p (inr ne) (inr was) = inr (
      ap (λ l. slice_index_or l p false) set ∙ get_or-set_other (flags count mask) e.0 p true false ne ∙ was.0,
      λ j f low there at. elim (up_to j n low) [
        | inl before ↦ was.1 j f before there at
        | inr last ↦
            let two : ◌≡◌ {A = Option (ℕ × ℕ)} (Some f) (Some e) = sym there ∙ ap (slice_get changes) last ∙ got in
            let one : f ≡ e = cc in
            ne (sym at ∙ ap (λ (x : ℕ × ℕ). x.0) one)
      ],
    )

-- what holds of each place of the first changes
module _ (changes : List (ℕ × ℕ)) (Is : ℕ → ℕ → Type 0) (count : ℕ) (few : count ≤ 64) (inside : (j : ℕ) (e : ℕ × ℕ) → slice_get changes j ≡ Some e → e.0 < count)
    (others : (n p : ℕ) (e : ℕ × ℕ) → slice_get changes n ≡ Some e → (p ≡ e.0 → ⊥) → Is n p → Is (n + 1) p) (here : (n : ℕ) (e : ℕ × ℕ) → slice_get changes n ≡ Some e → Is (n + 1) e.0) where
  first_masked : (n : ℕ) → n ≤ length changes → AreMasked changes (Is n) count n (mask_of (take n changes))
  first_masked zero low = none_masked changes (Is 0) count
  first_masked (suc n) low =
      let lt : n < length changes = omega (arith, low) in
      let e : ℕ × ℕ = slice_index_or changes n (0, 0) in
      let got = slice_get-get_or changes n (0, 0) lt in
      let next : n + 1 ≡ suc n = omega arith in
      let mask = fold_more (λ (m : ℕ) (x : ℕ × ℕ). bit_or m (2 ^ x.0)) 0 changes n (0, 0) lt in
      let step = one_masked changes (Is n) (Is (n + 1)) count n (mask_of (take n changes)) e few (first_masked n (omega (arith, low))) got (inside n e got) (λ p ne is. others n p e got ne is) (here n e got) in
      subst (λ k. AreMasked changes (Is k) count k (mask_of (take k changes))) next (subst (AreMasked changes (Is (n + 1)) count (n + 1)) (sym mask) step)

  pub all_masked : AreMasked changes (Is (length changes)) count (length changes) (mask_of changes)
  all_masked =
      subst (λ l. AreMasked changes (Is (length changes)) count (length changes) (mask_of l)) (take_all (length changes) changes (omega arith)) (first_masked (length changes) (omega arith))

-- one of the changes is at a place
abbrev pub IsChanged : List (ℕ × ℕ) → ℕ → Type 0
IsChanged changes p = (j : ℕ) × (e : ℕ × ℕ) × (slice_get changes j ≡ Some e) × (e.0 ≡ p)

pub changed_masked : (changes : List (ℕ × ℕ)) (count : ℕ) → count ≤ 64 → ((j : ℕ) (e : ℕ × ℕ) → slice_get changes j ≡ Some e → e.0 < count)
    → AreMasked changes (IsChanged changes) count (length changes) (mask_of changes)
changed_masked changes count few inside =
    all_masked changes (λ n p. IsChanged changes p) count few inside (λ n p e got ne is. is) (λ n e got. (n, e, got, refl))
