-- Ordered segments nest, and share an address where both are above one.
use Rattle.std.proofs.Common.{◌≡◌, ℕ, ◌+◌, ◌<◌, ◌≤◌, inl, inr, List, length, slice_index, refl, subst, arith, pow_pos}
use Rattle.std.proofs.lemmas.Bool.{cases_lt}
use Rattle.mm_flow.specs.{Sharing.{Up, Up.here}, Forest.{IsNested, IsForest, IsOrdered, In, SharesOf}}
use Rattle.mm_seg.proofs.{Searches.same_or_below, Inserts.nested_aligned}

pub ordered_nested : (bases logs ends : List ℕ) → IsOrdered bases logs ends → IsNested bases ends
ordered_nested bases logs ends o = record {
  len = o.len;
  some = λ k lt. let e = o.last k lt in let pos = pow_pos (slice_index logs k) in omega arith;
  rise = λ k lt. o.rise k (k + 1) (omega arith) lt;
  nested = λ i j lt small inside.
      let up = o.rise i j lt small in
      let ei = o.last i (omega arith) in
      let ej = o.last j small in
      let pos = pow_pos (slice_index logs j) in
      elim (nested_aligned (slice_index bases i, slice_index logs i) (slice_index bases j, slice_index logs j) (o.aligned i (omega arith)) (o.aligned j small) (omega arith) (omega arith)) [
        | inl w ↦ let q = w.1 in omega arith
        | inr w ↦ let q = w.0 in o.greater i j lt small (omega arith)
      ];
}

rises : (bases logs ends : List ℕ) → IsOrdered bases logs ends → (i j : ℕ) → i ≤ j → j < length bases → slice_index bases i ≤ slice_index bases j
rises bases logs ends o i j le lt = elim (same_or_below i j (omega arith)) [
  | inl less ↦ o.rise i j less lt
  | inr e ↦ subst (λ v. slice_index bases i ≤ slice_index bases v) e (omega arith)
]

module _ (bases logs ends par : List ℕ) (o : IsOrdered bases logs ends) (f : IsForest bases ends par) (len : length par ≡ length bases) where
  -- the later of two segments with a common address is below both
  pub share : (a b w : ℕ) → a < length bases → b < length bases → In bases ends a w → In bases ends b w → SharesOf bases ends par a b
  share a b w la lb x y = elim (cases_lt a b) [
    | inl lt ↦ record { at = b; small = lb; left = f.up a b (omega arith) (omega arith) (let p = x.1 in let q = y.0 in omega arith); right = here refl }
    | inr le ↦ record { at = a; small = la; left = here refl; right = f.up b a (omega arith) (omega arith) (let p = y.1 in let q = x.0 in omega arith) }
  ]

  pub shared_base : (a m : ℕ) → m < length bases → Up par a m → In bases ends a (slice_index bases m)
  shared_base a m lm u = let d = f.down a m (omega arith) u in (rises bases logs ends o a m d.0 lm, d.1)
