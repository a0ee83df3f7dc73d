-- A flag of a number that is set or cleared.
use Rattle.std.proofs.Common.{◌≡◌, ◌≢◌, ℕ, ◌*◌, ◌%◌, ◌^◌, ◌<◌, Bool, true, false, eqb, get_or, set, length, sym, ap}
use Rattle.std.proofs.Common.{◌∙◌, arith, inl, inr, bit_and, bit_or}
use Rattle.std.proofs.lemmas.Bool.{cases_eq}
use Rattle.std.proofs.lemmas.List.{same_lists, get_or-set_same, get_or-set_other, get_or_default, length-set}
use Rattle.std.proofs.lemmas.Nat.Bits.{bit_at_set_same, bit_at_set_other, bit_at_clear_same, bit_at_clear_other}
use Rattle.std.specs.Int.{w16, bit_not, bit_at}
use Rattle.mm_model.{proofs.{Bytes.Bitmaps.length-flags, FlagLists.flags-get}, specs.Flags.flags}

-- the flags of m are those of n, but for flag r
pub flags-one : (k m n r : ℕ) (b : Bool) → r < k → eqb (bit_at m r) 1 ≡ b → ((i : ℕ) → i < k → i ≢ r → bit_at m i ≡ bit_at n i) → flags k m ≡ set (flags k n) r b
flags-one k m n r b below here others =
    same_lists _ _ (length-flags k m ∙ sym (length-set (flags k n) r b ∙ length-flags k n)) (λ i d within.
    let small : i < k = omega (arith, length-flags k m) in
    let long : i < length (set (flags k n) r b) = omega (arith, length-flags k n, length-set (flags k n) r b) in
    get_or_default (flags k m) i d false within ∙ flags-get k m i small ∙ elim (cases_eq i r) as (λ _. eqb (bit_at m i) 1 ≡ get_or (set (flags k n) r b) i d) [
      | inl same ↦
          let at : r < length (flags k n) = omega (arith, length-flags k n) in
          rw same (here ∙ sym (get_or-set_same (flags k n) r b d at))
      | inr other ↦
          let at : i < length (flags k n) = omega (arith, length-flags k n) in
          ap (λ c. eqb c 1) (others i small other) ∙ sym (flags-get k n i small) ∙ get_or_default (flags k n) i false d at ∙ sym (get_or-set_other (flags k n) r i b d other)
    ])

pub flags_set16 : (n r : ℕ) → r < 16 → flags 16 (bit_or n (1 * 2 ^ r % 2 ^ 16)) ≡ set (flags 16 n) r true
flags_set16 n r below = flags-one 16 _ n r true below (ap (λ c. eqb c 1) (bit_at_set_same w16 n r below)) (λ i small other. bit_at_set_other w16 n r below i other)

pub flags_clear16 : (n r : ℕ) → r < 16 → flags 16 (bit_and n (bit_not w16 (1 * 2 ^ r % 2 ^ 16))) ≡ set (flags 16 n) r false
flags_clear16 n r below = flags-one 16 _ n r false below (ap (λ c. eqb c 1) (bit_at_clear_same w16 n r below)) (λ i small other. bit_at_clear_other w16 n r below i small other)
