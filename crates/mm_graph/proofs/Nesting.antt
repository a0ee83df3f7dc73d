-- The keys of a graph in their order: segments that nest.
use Rattle.std.proofs.Common.{◌≡◌, ℕ, zero, suc, ◌+◌, ◌-◌, ◌*◌, ◌/◌, ◌^◌, ◌<◌, ◌≤◌, ◌⊎◌, inl, inr, List, [], ◌∷◌}
use Rattle.std.proofs.{Common.{length, map, slice_index, refl, sym, ap, ◌∙◌, arith}, lemmas.Cmp.ranked}
use Rattle.std.proofs.Math.Pow.{pow_mono}
use Rattle.std.specs.{List.All, Ordering.{nat_cmp, ordering_then}}
use Rattle.std.specs.declared.cmp.Ordering.{Ordering, TheVariants.{Less, Equal, Greater}}
use Rattle.mm_flow.{specs.Forest.{IsOrdered, IsNested, IsForest}, proofs.Geometry.ordered_nested}
use Rattle.mm_graph.specs.declared.canonical_ptr.CanonicalPtr.{CanonicalPtr}
use Rattle.mm_graph.specs.Key.{IsKey, IsRising, key_cmp, key_at, no_key, pointer_at}
use Rattle.mm_graph.{specs.Forest.{IsBases, IsEnds, HasForest}, proofs.Representatives.base-block}

-- by base, or by length at one base
less_cases : (x y : CanonicalPtr) → key_cmp x y ≡ Less → (x.base < y.base) ⊎ ((x.base ≡ y.base) × (x.narrow ≤ y.narrow))
less_cases x y h = at (nat_cmp x.base y.base) refl h
  where
    narrows : (o : Ordering) → o ≡ nat_cmp x.narrow y.narrow → ordering_then o (nat_cmp x.bits y.bits) ≡ Less → x.narrow ≤ y.narrow
    narrows Less e f = let lt = ranked x.narrow y.narrow Less e in omega arith
    narrows Equal e f = let same = ranked x.narrow y.narrow Equal e in omega arith
    narrows Greater e f = cc

    at : (o : Ordering) → o ≡ nat_cmp x.base y.base → ordering_then o (ordering_then (nat_cmp x.narrow y.narrow)
        (nat_cmp x.bits y.bits)) ≡ Less → (x.base < y.base) ⊎ ((x.base ≡ y.base) × (x.narrow ≤ y.narrow))
    at Less e f = inl (ranked x.base y.base Less e)
    at Equal e f = inr (ranked x.base y.base Equal e, narrows (nat_cmp x.narrow y.narrow) refl f)
    at Greater e f = cc

module _ (x y : CanonicalPtr) (less : key_cmp x y ≡ Less) where
  pub base_rises : x.base ≤ y.base
  base_rises = elim (less_cases x y less) [ inl lt ↦ omega arith | inr same ↦ let e = same.0 in omega arith ]

  pub length_falls : x.base ≡ y.base → 2 ^ (54 - y.narrow) ≤ 2 ^ (54 - x.narrow)
  length_falls e = elim (less_cases x y less) [
    | inl lt ↦ absurd (omega arith)
    | inr same ↦ let narrow = same.1 in let le : 54 - y.narrow ≤ 54 - x.narrow = omega arith in pow_mono le
  ]

abbrev pub logs_of : List CanonicalPtr → List ℕ
logs_of keys = map (λ (k : CanonicalPtr). 54 - k.narrow) keys

log_at : (keys : List CanonicalPtr) (k : ℕ) → k < length keys → slice_index (logs_of keys) k ≡ 54 - (key_at keys k).narrow
log_at [] k lt = absurd (omega arith)
log_at (x ∷ xs) zero lt = refl
log_at (x ∷ xs) (suc k) lt = log_at xs k (omega arith)

pub log_is : (k : CanonicalPtr) → IsKey k → 54 - k.narrow ≡ (pointer_at k).log
log_is k h = let e = h.narrow in omega arith

-- the base is a multiple of the length
pub aligned_key : (k : CanonicalPtr) → IsKey k → k.base / 2 ^ (54 - k.narrow) * 2 ^ (54 - k.narrow) ≡ k.base
aligned_key k h = rw (log_is k h, h.base) (ap (λ v. v * 2 ^ (pointer_at k).log) (base-block (pointer_at k).log (pointer_at k).addr))

pub ordered_keys : (keys : List CanonicalPtr) (bases ends : List ℕ) → IsRising keys → All IsKey keys → IsBases keys bases → IsEnds keys ends → IsOrdered bases (logs_of keys) ends
ordered_keys keys bases ends rising all b e = record {
  len = e.len ∙ sym b.len;
  aligned = λ k lt.
      let small : k < length keys = (let l = b.len in omega arith) in
      rw (log_at keys k small, b.at k small) (aligned_key (key_at keys k) (all k no_key small));
  last = λ k lt.
      let small : k < length keys = (let l = b.len in omega arith) in
      e.at k small ∙ ap (λ v. v + 2 ^ (54 - (key_at keys k).narrow)) (sym (b.at k small)) ∙ ap (λ v. slice_index bases k + 2 ^ v) (sym (log_at keys k small));
  rise = λ i j lt small.
      let sj : j < length keys = (let l = b.len in omega arith) in
      let bi = b.at i (omega arith) in
      let bj = b.at j sj in
      let up = base_rises (key_at keys i) (key_at keys j) (rising.rise i j lt sj) in
      omega arith;
  greater = λ i j lt small same.
      let sj : j < length keys = (let l = b.len in omega arith) in
      let bi = b.at i (omega arith) in
      let bj = b.at j sj in
      let ei = e.at i (omega arith) in
      let ej = e.at j sj in
      let up = length_falls (key_at keys i) (key_at keys j) (rising.rise i j lt sj) (omega arith) in
      omega arith;
}

pub nested_keys : (keys : List CanonicalPtr) (bases ends : List ℕ) → IsRising keys → All IsKey keys → IsBases keys bases → IsEnds keys ends → IsNested bases ends
nested_keys keys bases ends rising all b e = ordered_nested bases (logs_of keys) ends (ordered_keys keys bases ends rising all b e)

pub has_forest : (keys : List CanonicalPtr) (bases ends parents : List ℕ) → IsRising keys → All IsKey keys
    → IsBases keys bases → IsEnds keys ends → IsForest bases ends parents → length parents ≡ length bases
    → HasForest keys parents
has_forest keys bases ends parents rising all b e f len =
    record { bases = bases; logs = logs_of keys; ends = ends; is_bases = b; is_ends = e; ordered = ordered_keys keys bases ends rising all b e; forest = f; len = len ∙ b.len }
