-- Kept marks of the nodes before one.
use Rattle.std.proofs.Common.{◌≡◌, ℕ, ◌+◌, ◌<◌, ◌↔◌, inl, inr, Bool, true, List, length, slice_index, bit_or, sym, ap}
use Rattle.std.{proofs.Common.{◌∙◌, arith}, specs.Int.bit_at}
use Rattle.mm_seg.proofs.Searches.{same_or_below}
use Rattle.mm_flow.specs.{Flow.Has, Sharing.kept_mark, Reached.HasSome}
use Rattle.mm_flow.proofs.{Bits.{or_left, or_right, or_cases, zero_bit}, SharedMarks.{kept_then, then_kept}}

pub record SomeBefore (k : ℕ) (marks : List ℕ) (keep : ℕ → Bool) (g : ℕ) : Type 0 where
  pub node : ℕ
  pub small : node < k
  pub marked : Has marks node g
  pub kept : keep node ≡ true

pub none_before : (marks : List ℕ) (keep : ℕ → Bool) (g : ℕ) → (bit_at 0 g ≡ 1) ↔ SomeBefore 0 marks keep g
none_before marks keep g = (λ x. absurd (zero_bit g x), λ x. let lt = x.small in absurd (omega arith))

pub one_more : (k all own g : ℕ) (marks : List ℕ) (keep : ℕ → Bool) → own ≡ kept_mark (keep k) (slice_index marks k)
    → ((bit_at all g ≡ 1) ↔ SomeBefore k marks keep g) → (bit_at (bit_or all own) g ≡ 1) ↔ SomeBefore (k + 1) marks keep
    g
one_more k all own g marks keep is h = (
  λ x. elim (or_cases all own g x) [
    | inl y ↦ let z = h.0 y in record { node = z.node; small = (let lt = z.small in omega arith); marked = z.marked; kept = z.kept }
    | inr y ↦ let two = kept_then (keep k) (slice_index marks k) g (ap (λ v. bit_at v g) (sym is) ∙ y) in record { node = k; small = omega arith; marked = two.0; kept = two.1 }
  ],
  λ x. elim (same_or_below x.node k x.small) [
    | inl lt ↦ or_left all own g (h.1 (record { node = x.node; small = lt; marked = x.marked; kept = x.kept }))
    | inr e ↦ or_right all own g (ap (λ v. bit_at v g) is
        ∙ then_kept (keep k) (slice_index marks k) g (ap (λ v. bit_at (slice_index marks v) g) (sym e) ∙ x.marked) (ap keep (sym e) ∙ x.kept))
  ],
)

pub all_before : (k all g : ℕ) (marks : List ℕ) (keep : ℕ → Bool) → k ≡ length marks → ((bit_at all g ≡ 1) ↔ SomeBefore k marks keep g) → (bit_at all g ≡ 1) ↔ HasSome marks keep g
all_before k all g marks keep e h = (
  λ x. let z = h.0 x in record { node = z.node; small = (let lt = z.small in omega arith); marked = z.marked; kept = z.kept },
  λ x. h.1 (record { node = x.node; small = (let lt = x.small in omega arith); marked = x.marked; kept = x.kept }),
)
