-- The least bit of a mask that is set, and the least above a number.
use Rattle.std.proofs.Common.{◌≡◌, ◌∙◌, ◌⊎◌, inl, inr, ℕ, ◌+◌, ◌*◌, ◌-◌, ◌/◌, ◌%◌, ◌<◌, ◌≤◌, ◌^◌, nat_lt, refl, sym, ap}
use Rattle.std.proofs.Common.{subst, arith, w64, pow-add}
use Rattle.std.proofs.lemmas.{Nat.Bits.{bit_at-trailing_zeros, bit_at_above, bit_at-zero}, Bool.Decides.nat_tests}
use Rattle.std.{proofs.Math.Nat.{div-div-eq-div-mul, div-le_self}, specs.Int.{bit_at, trailing_zeros}}
use Rattle.mm_sched.specs.Following.{IsLeastBit, NoBitAbove}
use Rattle.mm_model.specs.Run.{any_number}

pub least_set : (mask : ℕ) → mask < 2 ^ 64 → (mask ≡ 0 → ⊥) → IsLeastBit mask any_number (trailing_zeros w64 mask)
least_set mask h n = let f = bit_at-trailing_zeros w64 mask (omega arith) h in
    record { small = f.0; set = f.1; passed = refl; least = λ m lt set _. let none : bit_at mask m ≡ 0 = f.2 m lt in omega arith }

shifted : (last n i : ℕ) → bit_at n (last + 1 + i) ≡ bit_at (n / 2 ^ last / 2) i
shifted last n i =
    let powers : 2 ^ (last + 1 + i) ≡ 2 ^ last * 2 * 2 ^ i = pow-add 2 (last + 1) i ∙ ap (λ (p : ℕ). p * 2 ^ i) (pow-add 2 last 1) in
    let quotients : n / 2 ^ (last + 1 + i) ≡ n / 2 ^ last / 2 / 2 ^ i =
    ap (λ (p : ℕ). n / p) powers ∙ sym (div-div-eq-div-mul n (2 ^ last * 2) (2 ^ i)) ∙ ap (λ (m : ℕ). m / 2 ^ i) (sym (div-div-eq-div-mul n (2 ^ last) 2)) in
    ap (λ (m : ℕ). m % 2) quotients

shifted_small : (last n : ℕ) → n < 2 ^ 64 → n / 2 ^ last / 2 < 2 ^ 64
shifted_small last n h = omega (arith, div-le_self n (2 ^ last), div-le_self (n / 2 ^ last) 2)

below_or : (k n : ℕ) → (n < k) ⊎ (k ≤ n)
below_or k n = grind arith

small_bit : (mask n : ℕ) → mask < 2 ^ 64 → bit_at mask n ≡ 1 → n < 64
small_bit mask n h set = elim (below_or 64 n) [
  | inl lt ↦ lt
  | inr ge ↦ let none : bit_at mask n ≡ 0 = bit_at_above mask 64 n h ge in absurd (omega arith)
]

pub least_above : (mask last : ℕ) → mask < 2 ^ 64 → (mask / 2 ^ last / 2 ≡ 0 → ⊥) → IsLeastBit mask (nat_lt last) (last + 1 + trailing_zeros w64 (mask / 2 ^ last / 2))
least_above mask last h n =
    let above : ℕ = mask / 2 ^ last / 2 in
    let f = bit_at-trailing_zeros w64 above (omega arith) (shifted_small last mask h) in
    let t : ℕ = trailing_zeros w64 above in
    let set : bit_at mask (last + 1 + t) ≡ 1 = shifted last mask t ∙ f.1 in
    record {
      small = small_bit mask (last + 1 + t) h set;
      set = set;
      passed = grind (arith, nat_tests);
      least = λ m lt bit above_last.
          let over : last < m = grind (arith, nat_tests) in
          let place : last + 1 + (m - last - 1) ≡ m = omega arith in
          let none : bit_at above (m - last - 1) ≡ 0 = f.2 (m - last - 1) (omega arith) in
          let same : bit_at mask (last + 1 + (m - last - 1)) ≡ 0 = shifted last mask (m - last - 1) ∙ none in
          let zero_there : bit_at mask m ≡ 0 = subst (λ (k : ℕ). bit_at mask k ≡ 0) place same in
          omega arith;
    }

pub none_above : (mask last : ℕ) → mask / 2 ^ last / 2 ≡ 0 → NoBitAbove mask last
none_above mask last h m lt set =
    let place : last + 1 + (m - last - 1) ≡ m = omega arith in
    let same : bit_at mask (last + 1 + (m - last - 1)) ≡ 0 = shifted last mask (m - last - 1) ∙ ap (λ (n : ℕ). bit_at n (m - last - 1)) h ∙ bit_at-zero (m - last - 1) in
    let zero_there : bit_at mask m ≡ 0 = subst (λ (k : ℕ). bit_at mask k ≡ 0) place same in
    omega arith
