-- The best so far, with one group more.
use Rattle.std.proofs.Common.{◌≡◌, ℕ, ◌+◌, ◌<◌, ◌≤◌, inl, inr, min, bit_and, List, slice_index, Option, Some, None}
use Rattle.std.proofs.{Common.{MatchOption, sym, ◌∙◌, subst, arith}, lemmas.Bool.cases_lt}
use Rattle.std.specs.Int.{bit_at}
use Rattle.mm_seg.proofs.Searches.{same_or_below}
use Rattle.mm_audit.specs.{declared.shared_words.Meets.Meets, Meeting.row_at}
use Rattle.mm_audit.specs.Writers.{IsWord, NoneWith, LeastWith, IsOutside}
use Rattle.mm_flow.proofs.Bits.{and_both, both_bits}

module _ (row : Meets) (inside h : ℕ) where
  abbrev pub Best : ℕ → Option ℕ → Type 0
  Best top o = MatchOption o (NoneWith row inside top) (λ w. LeastWith row inside top w)

  narrower : (g : ℕ) → IsWord row inside (h + 1) g → (g ≡ h → ⊥) → IsWord row inside h g
  narrower g x other = record { small = elim (same_or_below g h x.small) [ inl lt ↦ lt | inr e ↦ absurd (other e) ]; is_in = x.is_in; has = x.has }

  wider : (g : ℕ) → IsWord row inside h g → IsWord row inside (h + 1) g
  wider g x = record { small = (let lt = x.small in omega arith); is_in = x.is_in; has = x.has }

  here : bit_at (bit_and row.groups inside) h ≡ 1 → IsWord row inside (h + 1) h
  here bit = let b = both_bits row.groups inside h bit in record { small = omega arith; is_in = b.1; has = b.0 }

  not_here : (bit_at (bit_and row.groups inside) h ≡ 1 → ⊥) → (g : ℕ) → IsWord row inside (h + 1) g → IsWord row inside h g
  not_here out g x = narrower g x (λ e. out (and_both row.groups inside h (subst (λ v. bit_at row.groups v ≡ 1) e x.has) (subst (λ v. bit_at inside v ≡ 1) e x.is_in)))

  pub best_skip : (bit_at (bit_and row.groups inside) h ≡ 1 → ⊥) → (o : Option ℕ) → Best h o → Best (h + 1) o
  best_skip out None b = λ g x. b g (not_here out g x)
  best_skip out (Some w) b = record { group = b.group; has = wider b.group b.has; is = b.is; least = λ g x. b.least g (not_here out g x) }

  pub best_more : (r : ℕ) → bit_at (bit_and row.groups inside) h ≡ 1 → (o : Option ℕ) → Best h o
      → MatchOption o (r ≡ slice_index row.words h) (λ v. r ≡ min v (slice_index row.words h)) → LeastWith row inside
      (h + 1) r
  best_more r bit None b e = record {
    group = h;
    has = here bit;
    is = e;
    least = λ g x. elim (same_or_below g h x.small) [
      | inl lt ↦ absurd (b g (record { small = lt; is_in = x.is_in; has = x.has }))
      | inr same ↦ subst
          (λ v. r ≤ slice_index row.words v) (sym same) (omega arith)
    ];
  }
  best_more r bit (Some v) b e = elim (cases_lt v (slice_index row.words h)) [
    | inl lt ↦ let is : r ≡ v = omega arith in record {
      group = b.group;
      has = wider b.group b.has;
      is = is ∙ b.is;
      least = λ g x. elim (same_or_below g h x.small) [
        | inl less ↦ let t = b.least g (record { small = less; is_in = x.is_in; has = x.has }) in omega arith
        | inr same ↦ subst (λ u. r ≤ slice_index row.words u) (sym same) (omega arith)
      ];
    }
    | inr le ↦ let is : r ≡ slice_index row.words h = omega arith in record {
      group = h;
      has = here bit;
      is = is;
      least = λ g x. elim (same_or_below g h x.small) [
        | inl less ↦ let t = b.least g (record { small = less; is_in = x.is_in; has = x.has }) in omega arith
        | inr same ↦ subst (λ u. r ≤ slice_index row.words u) (sym same) (omega arith)
      ];
    }
  ]

-- one group more that has no word with one inside, or is inside
pub rows_more : (table : List Meets) (inside h : ℕ) → ((k : ℕ) → k < h → IsOutside inside k → NoneWith (row_at table k) inside 64) → (IsOutside inside h → NoneWith (row_at table h) inside 64)
    → (k : ℕ) → k < h + 1 → IsOutside inside k → NoneWith (row_at table k) inside 64
rows_more table inside h inv at_h k lt out = elim (same_or_below k h lt) [
  | inl less ↦ inv k less out
  | inr e ↦ subst (λ v. NoneWith (row_at table v) inside 64) (sym e) (at_h (subst (IsOutside inside) e out))
]
