-- The targets of relocations and threads.
use Rattle.std.proofs.Common.{◌≡◌, ℕ, ◌+◌, ◌-◌, ◌<◌, ◌≤◌, Bool, true, false, cond, List, [], ◌∷◌, length, Option, Some}
use Rattle.std.proofs.{Common.{None, sym, ap, ◌∙◌, arith, inl, inr}, Math.Pow.pow_mono}
use Rattle.std.proofs.lemmas.{Bool.{ltb-true, and_parts}, Option.slice_get_cases}
use Rattle.std.specs.{Prelude.{find, nat_lt, ◌^◌, slice_get}, List.list_all}
use Rattle.mm_object.specs.declared.{target.{Target.Target, Reloc.Reloc}, thread.Thread.Thread}
use Rattle.mm_object.specs.Lookups.{is_at, reloc_at}
use Rattle.mm_object.specs.Objects.{Segment, Object, IsObject, IsSegment, greatest_log, is_within, is_target, is_zero}
use Rattle.mm_object.specs.Objects.{item_of, is_reloc, is_value, is_thread}

-- a target has a name
pub index_inside : (segments : List Segment) (externals : ℕ) (t : Target) → is_target segments externals t ≡ true → t.index < length segments + externals
index_inside segments externals t h =
    let all = length segments + externals in
    elim (slice_get_cases segments t.index).1 [
      | inl here ↦ let lt : t.index < length segments = here.1 in omega (arith, lt)
      | inr past ↦
          let none : is_within None all t.index t.addend ≡ true = ap (λ (s : Option Segment). is_within s all t.index t.addend) (sym past.1) ∙ h in
          ltb-true t.index all (and_parts (nat_lt t.index all) (nat_lt t.addend (2 ^ greatest_log)) none).0
    ]

-- what all elements pass, one that is found passes
passes : {A : Type 0} (p q : A → Bool) (b : Bool) (x y : A) (ys : List A) → q y ≡ true → (Some x ≡ find p ys → q x ≡ true)
    → Some x ≡ cond b (Some y) (find p ys) → q x ≡ true
passes p q true x y ys here there e = let same : x ≡ y = cc in ap q same ∙ here
passes p q false x y ys here there e = there e

found_passes : {A : Type 0} (p q : A → Bool) (xs : List A) (x : A) → list_all q xs ≡ true → Some x ≡ find p xs → q x ≡ true
found_passes p q [] x all e = absurd cc
found_passes p q (y ∷ ys) x all e =
    let parts = and_parts (q y) (list_all q ys) all in
    passes p q (p y) x y ys parts.0 (found_passes p q ys x parts.1) e

-- that of a relocation
pub reloc_target : (o : Object) (segment word : ℕ) (r : Reloc) → IsObject o → Some r ≡ reloc_at o segment word → is_target o.segments (length o.externals) r.target ≡ true
unfolding reloc_at
reloc_target o segment word r object e =
    let externals = length o.externals in
    (and_parts (is_zero (item_of (slice_get o.segments r.segment) r.word)) (is_target o.segments externals r.target)
    (found_passes (is_at segment word) (is_reloc o.segments externals) o.relocs r object.relocs e)).1

-- that of a thread, and its registers
pub thread_parts : (segments : List Segment) (externals : ℕ) (t : Thread) → is_thread segments externals t ≡ true
    → (is_target segments externals t.target ≡ true) × (list_all (is_value segments externals) t.regs ≡ true)
thread_parts segments externals t h = let b = and_parts _ _ h in ((and_parts _ _ b.0).1, b.1)

-- a segment of an object has few words
pub few_items : (s : Segment) → IsSegment s → length s.items ≤ 131072
few_items s is =
    let most : 2 ^ (s.log - 3) ≤ 2 ^ 17 = pow_mono {i = s.log - 3} {j = 17} (omega (arith, is.greatest)) in
    omega (arith, is.room, most)
