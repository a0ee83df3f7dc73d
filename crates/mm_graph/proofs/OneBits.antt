-- One bit more in a list of masks.
use Rattle.std.proofs.lemmas.{Nat.{pow_below, Bits.{bit_at-pow_same, bit_at-pow_other}}, Bool.cases_lt}
use Rattle.std.proofs.Common.{◌≡◌, ◌≢◌, ℕ, ◌*◌, ◌%◌, ◌^◌, ◌<◌, ◌⊎◌, inl, inr, List, length, slice_index, slice_set}
use Rattle.std.{proofs.Common.{bit_or, refl, sym, ap, ◌∙◌, arith}, specs.Int.bit_at}
use Rattle.mm_flow.specs.Flow.{Has}
use Rattle.mm_flow.proofs.{Bits.{or_left, or_right, or_cases}, Masks.{set_cases, length_set, Set.{here, there}}}

pub one_bit : (b : ℕ) → b < 64 → 1 * 2 ^ b % 2 ^ 64 ≡ 2 ^ b
one_bit b lt = let below : 2 ^ b < 2 ^ 64 = pow_below b 64 lt in omega arith

bit_is : (b g : ℕ) → b < 64 → bit_at (1 * 2 ^ b % 2 ^ 64) g ≡ 1 → g ≡ b
bit_is b g lt h = elim (cases_lt g b) [
  | inl less ↦ absurd (other (inl less))
  | inr le ↦ elim (cases_lt b g) [ inl more ↦ absurd (other (inr more)) | inr ge ↦ omega arith ]
]
  where
    other : g < b ⊎ b < g → ⊥
    other ne =
        let differ : g ≢ b = elim ne [ inl x ↦ λ e. let lt2 = x in omega arith | inr x ↦ λ e. let lt2 = x in omega arith ] in
        let zero_bit = bit_at-pow_other b g differ in
        let e = ap (λ v. bit_at v g) (one_bit b lt) in
        omega arith

bit_there : (b : ℕ) → b < 64 → bit_at (1 * 2 ^ b % 2 ^ 64) b ≡ 1
bit_there b lt = ap (λ v. bit_at v b) (one_bit b lt) ∙ bit_at-pow_same b

-- the list with the bit set at a place
abbrev pub with_bit : List ℕ → ℕ → ℕ → List ℕ
with_bit xs a b = slice_set xs a (bit_or (slice_index xs a) (1 * 2 ^ b % 2 ^ 64))

module _ (xs : List ℕ) (a b : ℕ) (small : a < length xs) (lt : b < 64) where
  pub with_bit-only : (k g : ℕ) → Has (with_bit xs a b) k g → Has xs k g ⊎ ((k ≡ a) × (g ≡ b))
  with_bit-only k g h = elim (set_cases xs a (bit_or (slice_index xs a) (1 * 2 ^ b % 2 ^ 64)) k small) [
    | there ne f ↦ inl (ap (λ v. bit_at v g) (sym f) ∙ h)
    | here e f ↦ elim (or_cases (slice_index xs a) (1 * 2 ^ b % 2 ^ 64) g (ap (λ v. bit_at v g) (sym f) ∙ h)) [
      | inl x ↦ inl (ap (λ v. bit_at (slice_index xs v) g) e ∙ x)
      | inr y ↦ inr (e, bit_is b g lt y)
    ]
  ]

  pub with_bit-keeps : (k g : ℕ) → Has xs k g → Has (with_bit xs a b) k g
  with_bit-keeps k g h = elim (set_cases xs a (bit_or (slice_index xs a) (1 * 2 ^ b % 2 ^ 64)) k small) [
    | there ne f ↦ ap (λ v. bit_at v g) f ∙ h
    | here e f ↦ ap (λ v. bit_at v g) f ∙ or_left (slice_index xs a) (1 * 2 ^ b % 2 ^ 64) g (ap (λ v. bit_at (slice_index xs v) g) (sym e) ∙ h)
  ]

  pub with_bit-there : Has (with_bit xs a b) a b
  with_bit-there = elim (set_cases xs a (bit_or (slice_index xs a) (1 * 2 ^ b % 2 ^ 64)) a small) [
    | there ne f ↦ absurd (ne refl)
    | here e f ↦ ap (λ v. bit_at v b) f ∙ or_right (slice_index xs a) (1 * 2 ^ b % 2 ^ 64) b (bit_there b lt)
  ]

  pub with_bit-length : length (with_bit xs a b) ≡ length xs
  with_bit-length = length_set xs a (bit_or (slice_index xs a) (1 * 2 ^ b % 2 ^ 64))
