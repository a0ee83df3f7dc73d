-- The least crossing slot, and the mask of groups, with one more.
use Rattle.std.proofs.Common.{◌≡◌, ℕ, ◌+◌, ◌*◌, ◌%◌, ◌^◌, ◌<◌, ◌≤◌, ◌↔◌, inl, inr, min, bit_or, Bool, true}
use Rattle.std.proofs.Common.{false, List, Option, Some, None, MatchOption, sym, ap, ◌∙◌, subst, arith}
use Rattle.std.proofs.lemmas.{Bool.{cases_lt, cases_eq}, Nat.Bits.{bit_at_set_same, bit_at_set_other}}
use Rattle.std.specs.Int.{bit_at, w64}
use Rattle.mm_seg.proofs.Searches.{same_or_below}
use Rattle.mm_audit.specs.{declared.handlers.Served.Served, Crossing.{IsCrossing, LeastCrossing, NoCrossing, served_at}}

abbrev IsMask : ℕ → ℕ → (ℕ → Bool) → Type 0
IsMask mask g c = (n : ℕ) → (bit_at mask n ≡ 1) ↔ ((n < g) × (c n ≡ true))

pub mask_more : (mask g : ℕ) (c : ℕ → Bool) → g < 64 → c g ≡ true → IsMask mask g c → IsMask (bit_or mask (1 * 2 ^ g % 2 ^ 64)) (g + 1) c
mask_more mask g c lt inside h n = elim (cases_eq n g) [
  | inl e ↦ (λ bit. (omega arith, ap c e ∙ inside), λ two. ap (bit_at (bit_or mask (1 * 2 ^ g % 2 ^ 64))) e ∙ bit_at_set_same w64 mask g lt)
  | inr ne ↦
      let same : bit_at (bit_or mask (1 * 2 ^ g % 2 ^ 64)) n ≡ bit_at mask n = bit_at_set_other w64 mask g lt n ne in (
        λ bit. let two = (h n).0 (sym same ∙ bit) in (let l = two.0 in omega arith, two.1),
        λ two. same ∙ (h n).1 (elim (same_or_below n g two.0) [ inl l ↦ (l, two.1) | inr e ↦ absurd (ne e) ]),
      )
]

pub mask_skip : (mask g : ℕ) (c : ℕ → Bool) → c g ≡ false → IsMask mask g c → IsMask mask (g + 1) c
mask_skip mask g c outside h n = (
  λ bit. let two = (h n).0 bit in (let l = two.0 in omega arith, two.1),
  λ two. (h n).1 (elim (same_or_below n g two.0) [ inl l ↦ (l, two.1) | inr e ↦ absurd (let no_way : ◌≡◌ {A = Bool} true false = sym two.1 ∙ ap c e ∙ outside in cc) ]),
)

module _ (served : List Served) (c : ℕ → Bool) (k : ℕ) where
  abbrev pub Best : ℕ → Option ℕ → Type 0
  Best top o = MatchOption o (NoCrossing served c top) (LeastCrossing served c top)

  pub cross_skip : (o : Option ℕ) → ¬ (IsCrossing served c k) → Best k o → Best (k + 1) o
  cross_skip None out b = λ n lt x. elim (same_or_below n k lt) [ inl l ↦ b n l x | inr e ↦ out (subst (IsCrossing served c) e x) ]
  cross_skip (Some v) out b = record {
    at = b.at;
    small = let l = b.small in omega arith;
    crosses = b.crosses;
    is = b.is;
    least = λ n lt x. elim (same_or_below n k lt) [ inl l ↦ b.least n l x | inr e ↦ absurd (out (subst (IsCrossing served c) e x)) ];
  }

  pub cross_more : (o : Option ℕ) (r : ℕ) → IsCrossing served c k → MatchOption o (r ≡ (served_at served k).slot)
      (λ v. r ≡ min v (served_at served k).slot) → Best k o → LeastCrossing served c (k + 1) r
  cross_more None r x e b = record {
    at = k;
    small = omega arith;
    crosses = x;
    is = sym e;
    least = λ n lt y. elim (same_or_below n k lt) [ inl l ↦ absurd (b n l y) | inr same ↦ subst (λ m. r ≤ (served_at served m).slot) (sym same) (omega arith) ];
  }
  cross_more (Some v) r x e b = elim (cases_lt v (served_at served k).slot) [
    | inl lt ↦ let is_v : r ≡ v = omega arith in record {
      at = b.at;
      small = let l = b.small in omega arith;
      crosses = b.crosses;
      is = b.is ∙ sym is_v;
      least = λ n l y. elim (same_or_below n k l) [ inl less ↦ (let m = b.least n less y in omega arith) | inr same ↦ subst (λ m. r ≤ (served_at served m).slot) (sym same) (omega arith) ];
    }
    | inr le ↦ let is_k : r ≡ (served_at served k).slot = omega arith in record {
      at = k;
      small = omega arith;
      crosses = x;
      is = sym is_k;
      least = λ n l y. elim (same_or_below n k l) [ inl less ↦ (let m = b.least n less y in omega arith) | inr same ↦ subst (λ m. r ≤ (served_at served m).slot) (sym same) (omega arith) ];
    }
  ]
