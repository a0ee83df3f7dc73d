-- The order of keys.
use Rattle.std.proofs.Common.{◌≡◌, ℕ, ◌+◌, ◌<◌, Bool, true, false, ◌==◌, ◌&&◌, List, length, get_or, refl, sym, ap, ◌∙◌}
use Rattle.std.proofs.Common.{inl, inr, arith, eqb-true}
use Rattle.std.proofs.lemmas.Bool.{cases_lt, and_parts}
use Rattle.std.proofs.lemmas.Cmp.{nat_cmp_total, on_total, then_total, nat_eq_equiv, and_equiv, tied_itself}
use Rattle.std.proofs.lemmas.List.{get_or_default, Sorted.searchable_from_sorted}
use Rattle.std.specs.List.{Contains, Sorted.{IsNonDecreasingBy, IsPartitionPoint}}
use Rattle.std.specs.Cmp.{IsTotalOrder, IsEquivalence, unsigned_ties, both_tied}
use Rattle.std.specs.Ordering.{nat_cmp, ordering_then, ordering_index, eq_by_cmp, is_lt, is_eq, ordering_reverse}
use Rattle.std.specs.declared.cmp.Ordering.{Ordering, TheVariants.{Less, Equal, Greater}}
use Rattle.mm_graph.specs.declared.canonical_ptr.CanonicalPtr.{CanonicalPtr}
use Rattle.mm_graph.specs.Key.{key_cmp, key_eq, key_at, no_key, IsRising}

pub key_total : IsTotalOrder key_cmp
key_total = then_total (on_total (λ (k : CanonicalPtr). k.base) nat_cmp_total)
    (then_total (on_total (λ (k : CanonicalPtr). k.narrow) nat_cmp_total) (on_total (λ (k : CanonicalPtr). k.bits)
    nat_cmp_total))

pub key_ties : (x y : CanonicalPtr) → key_eq x y ≡ eq_by_cmp key_cmp x y
key_ties x y =
    both_tied (x.base == y.base) ((x.narrow == y.narrow) && (x.bits == y.bits)) (nat_cmp x.base y.base)
    (ordering_then (nat_cmp x.narrow y.narrow) (nat_cmp x.bits y.bits)) (unsigned_ties x.base y.base)
    (both_tied (x.narrow == y.narrow) (x.bits == y.bits) (nat_cmp x.narrow y.narrow) (nat_cmp x.bits y.bits) (unsigned_ties x.narrow y.narrow) (unsigned_ties x.bits y.bits))

pub same_fields : (x y : CanonicalPtr) → x.base ≡ y.base → x.narrow ≡ y.narrow → x.bits ≡ y.bits → x ≡ y
same_fields x y p q r = λ i. record { base = p i; narrow = q i; bits = r i }

pub same_key : (x y : CanonicalPtr) → key_eq x y ≡ true → x ≡ y
same_key x y h =
    let one = and_parts (x.base == y.base) ((x.narrow == y.narrow) && (x.bits == y.bits)) h in
    let two = and_parts (x.narrow == y.narrow) (x.bits == y.bits) one.1 in
    same_fields x y (eqb-true x.base y.base one.0) (eqb-true x.narrow y.narrow two.0) (eqb-true x.bits y.bits two.1)

pub key_equiv : IsEquivalence key_eq
key_equiv = and_equiv (record { refl = λ (x : CanonicalPtr). nat_eq_equiv.refl x.base; symm = λ x y. nat_eq_equiv.symm x.base y.base; congr = λ x y z. nat_eq_equiv.congr x.base y.base z.base })
    (and_equiv (record { refl = λ (x : CanonicalPtr). nat_eq_equiv.refl x.narrow; symm = λ x y. nat_eq_equiv.symm x.narrow y.narrow; congr = λ x y z. nat_eq_equiv.congr x.narrow y.narrow z.narrow })
    (record { refl = λ (x : CanonicalPtr). nat_eq_equiv.refl x.bits; symm = λ x y. nat_eq_equiv.symm x.bits y.bits; congr = λ x y z. nat_eq_equiv.congr x.bits y.bits z.bits }))

pub same_from_equal : (x y : CanonicalPtr) → key_cmp x y ≡ Equal → x ≡ y
same_from_equal x y h = same_key x y (key_ties x y ∙ ap is_eq h)

back : (o p : Ordering) → p ≡ ordering_reverse o → o ≡ Less → is_lt p ≡ false
back o p e f = ap is_lt (e ∙ ap ordering_reverse f)

pub searchable : (keys : List CanonicalPtr) (x : CanonicalPtr) → IsRising keys → IsNonDecreasingBy (λ y. ordering_index (key_cmp y x)) keys
searchable keys x h = searchable_from_sorted key_total (λ (k : CanonicalPtr). k) keys x (λ k d low lt. at_default k d (omega arith))
  where
    at_default : (k : ℕ) (d : CanonicalPtr) → k + 1 < length keys → is_lt (key_cmp (get_or keys (k + 1) d) (get_or keys k d)) ≡ false
    at_default k d lt =
        let up = h.rise k (k + 1) (omega arith) lt in
        let one = get_or_default keys (k + 1) d no_key lt in
        let two = get_or_default keys k d no_key (omega arith) in
        rw (one, two) (back (key_cmp (key_at keys k) (key_at keys (k + 1))) (key_cmp (key_at keys (k + 1)) (key_at keys k)) (key_total.antisymm (key_at keys (k + 1)) (key_at keys k)) up)

pub not_there : (keys : List CanonicalPtr) (x : CanonicalPtr) (i : ℕ) → IsRising keys
    → (IsNonDecreasingBy (λ y. ordering_index (key_cmp y x)) keys → IsPartitionPoint (λ y. key_cmp y x ≡ Less)
    (λ y. key_cmp y x ≡ Greater) keys i) → Contains keys x → ⊥
not_there keys x i h parts m =
    let apart = parts (searchable keys x h) in
    let tied : key_cmp (get_or keys m.0 x) x ≡ Equal = ap (λ y. key_cmp y x) m.2 ∙ tied_itself key_total x in
    elim (cases_lt m.0 i) [
      | inl lt ↦ let less = apart.0 m.0 x (omega arith) lt in cc
      | inr le ↦ let more = apart.1 m.0 x le m.1 in cc
    ]

-- a key stands once
pub same_place : (keys : List CanonicalPtr) (i j : ℕ) → IsRising keys → i < length keys → j < length keys → key_at keys i ≡ key_at keys j → i ≡ j
same_place keys i j h li lj e = elim (cases_lt i j) [
  | inl lt ↦ absurd (not_less (key_at keys i) (key_at keys j) e (h.rise i j lt lj))
  | inr le ↦ elim (cases_lt j i) [
    | inl lt ↦ absurd (not_less (key_at keys j) (key_at keys i) (sym e) (h.rise j i lt li))
    | inr ge ↦ omega arith
  ]
]
  where
    not_less : (x y : CanonicalPtr) → x ≡ y → key_cmp x y ≡ Less → ⊥
    not_less x y f l = let tied : key_cmp x y ≡ Equal = ap (λ v. key_cmp v y) f ∙ tied_itself key_total y in cc
