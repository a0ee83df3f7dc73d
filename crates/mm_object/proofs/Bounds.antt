-- How large the numbers of an object are.
use Rattle.std.proofs.Common.{◌≡◌, ℕ, zero, suc, ◌+◌, ◌-◌, ◌^◌, ◌<◌, ◌≤◌, true, List, [], ◌∷◌, length, Option, Some}
use Rattle.std.proofs.{Common.{None, refl, subst, arith}, lemmas.Bool.{ltb-true, and_parts}, Math.Nat.pow-le-pow_right}
use Rattle.std.specs.{Prelude.{slice_get, IfSome}, List.AllByRecursion}
use Rattle.mm_object.specs.declared.{item.Item.Item, target.{Target.Target, Reloc.Reloc}}
use Rattle.mm_object.specs.Objects.{Segment, IsSegment, is_within, is_target, is_zero, item_of, is_reloc}

pub pow_up : (i j : ℕ) → i ≤ j → 2 ^ i ≤ 2 ^ j
pow_up i j le = pow-le-pow_right (omega arith) le

get_holds : {A : Type 0} (P : A → Type 0) (xs : List A) → AllByRecursion P xs → (i : ℕ) (o : Option A)
    → slice_get xs i ≡ o → IfSome o (λ x. (i < length xs) × P x)
get_holds P xs all i None e = tt
get_holds P [] all i (Some x) e = absurd cc
get_holds P (y ∷ xs) all zero (Some x) e = let same : y ≡ x = cc in (omega arith, subst P same all.0)
get_holds P (y ∷ xs) all (suc i) (Some x) e =
    let later = get_holds P xs all.1 i (Some x) e in (omega (arith, later.0), later.1)

zero_small : (word : ℕ) (items : List Item) → is_zero (slice_get items word) ≡ true → word < length items
zero_small word [] e = absurd cc
zero_small zero (item ∷ items) e = omega arith
zero_small (suc word) (item ∷ items) e = let later = zero_small word items e in omega arith

module _ (segments : List Segment) (whole : AllByRecursion IsSegment segments) where
  within_small : (o : Option Segment) (all index addend : ℕ)
      → IfSome o (λ s. (index < length segments) × IsSegment s) → length segments ≤ all
      → is_within o all index addend ≡ true → (index < all) × (addend < 2 ^ 20)
  within_small None all index addend h le e = let p = and_parts _ _ e in (ltb-true _ _ p.0, ltb-true _ _ p.1)
  within_small (Some s) all index addend h le e =
      let long : 2 ^ s.log ≤ 2 ^ 20 = pow_up s.log 20 h.1.greatest in
      (omega (arith, h.0), omega (arith, ltb-true addend (2 ^ s.log) e, long))

  pub target_small : (externals : ℕ) (t : Target) → is_target segments externals t ≡ true
      → (t.index < length segments + externals) × (t.addend < 2 ^ 20)
  target_small externals t e =
      within_small (slice_get segments t.index) (length segments + externals) t.index t.addend
      (get_holds IsSegment segments whole t.index (slice_get segments t.index) refl) (omega arith) e

  reloc_of : (word index : ℕ) (o : Option Segment) → IfSome o (λ s. (index < length segments) × IsSegment s)
      → is_zero (item_of o word) ≡ true → (index < length segments) × (word < 2 ^ 20)
  reloc_of word index None h e = absurd cc
  reloc_of word index (Some s) h e =
      let long : 2 ^ (s.log - 3) ≤ 2 ^ 17 = pow_up (s.log - 3) 17 (omega (arith, h.1.greatest)) in
      (h.0, omega (arith, zero_small word s.items e, h.1.room, long))

  pub reloc_small : (externals : ℕ) (r : Reloc) → is_reloc segments externals r ≡ true
      → (r.segment < length segments) × (r.word < 2 ^ 20) × (r.target.index < length segments + externals)
      × (r.target.addend < 2 ^ 20)
  reloc_small externals r e =
      let p = and_parts _ _ e in
      let a = reloc_of r.word r.segment (slice_get segments r.segment)
      (get_holds IsSegment segments whole r.segment (slice_get segments r.segment) refl) p.0 in
      let b = target_small externals r.target p.1 in
      (a.0, a.1, b.0, b.1)
