-- Masks that share a group.
use Rattle.std.proofs.Common.{◌≡◌, ◌==◌, ◌↔◌, ℕ, zero, suc, Bool, true, false, not, eqb-true, ◌^◌, ◌<◌, bit_and, refl}
use Rattle.std.proofs.{Common.{ap, ◌∙◌, arith}, lemmas.Nat.{and_le_r, Bits.{bit_at-zero, bit_at-trailing_zeros}}}
use Rattle.std.specs.Int.{bit_at, w64}
use Rattle.mm_flow.proofs.Bits.{and_both, both_bits}

-- a group is of both masks
pub record Shares (a b : ℕ) : Type 0 where
  pub group : ℕ
  pub one : bit_at a group ≡ 1
  pub other : bit_at b group ≡ 1

shares_then : (a b : ℕ) → b < 2 ^ 64 → 0 < bit_and a b → Shares a b
shares_then a b lt some =
    let small : bit_and a b < 2 ^ 64 = omega (arith, and_le_r a b) in
    let t = bit_at-trailing_zeros w64 (bit_and a b) some small in
    let at = both_bits a b _ t.1 in
    record { group = _; one = at.0; other = at.1 }

then_shares : (a b : ℕ) → bit_and a b ≡ 0 → Shares a b → ⊥
then_shares a b e s =
    let set = and_both a b s.group s.one s.other in
    let clear = ap (λ v. bit_at v s.group) e ∙ bit_at-zero s.group in
    omega arith

pub shares_test : (a b : ℕ) → b < 2 ^ 64 → (not (bit_and a b == 0) ≡ true) ↔ Shares a b
shares_test a b lt = by (bit_and a b == 0) refl
  where
    by : (t : Bool) → (bit_and a b == 0) ≡ t → (not t ≡ true) ↔ Shares a b
    by true e = (λ h. cc, λ s. absurd (then_shares a b (eqb-true _ _ e) s))
    by false e = (λ h. shares_then a b lt (some (bit_and a b) e), λ s. refl)
      where
        some : (n : ℕ) → (n == 0) ≡ false → 0 < n
        some zero f = cc
        some (suc n) f = omega arith
