-- What objects point to, and what of it is outside its segment.
use Rattle.std.proofs.Common.{◌≡◌, ℕ, zero, suc, ◌+◌, ◌^◌, ◌<◌, Bool, true, false, cond, List, [], ◌∷◌, ◌++◌, length}
use Rattle.std.proofs.Common.{get_or, drop, map, slice_get, Option, Some, None, refl, sym, ap, ◌∙◌, arith}
use Rattle.std.proofs.lemmas.{Bool.{and_parts, Decides.nat_tests}, List.Elements.filter-append}
use Rattle.std.specs.{Prelude.{nat_lt, find}, Option.option_map, List.{filter, flat_map, list_all}}
use Rattle.mm_word.specs.Perm.{can_fetch}
use Rattle.mm_object.specs.declared.{target.{Target.Target, Reloc.Reloc}, thread.Thread.Thread}
use Rattle.mm_object.specs.Lookups.{name_of_target, is_at, reloc_at}
use Rattle.mm_object.specs.Objects.{Segment, Object, IsObject, is_target, is_within, is_zero, item_of, is_reloc}
use Rattle.mm_object.{specs.Objects.{is_value, is_thread, is_handler}, proofs.Bools.all_at}
use Rattle.mm_link.specs.{declared.fault.{LinkFault.TheVariants.Offset, LinkError.LinkError}, Answers.Fails}
use Rattle.mm_link.specs.{Placing.Site, Faults.{is_outside, first}, Steps.{IsTargetOf, outside}}
use Rattle.mm_link.proofs.{Lists.itself, Firsts.{sooner, first-append, map-sooner, failing}}

-- 1. Targets of an object.

within : {A : Type 0} (xs : List A) (n : ℕ) (x : A) → slice_get xs n ≡ Some x → n < length xs
within [] n x h = absurd cc
within (y ∷ xs) zero x h = omega arith
within (y ∷ xs) (suc n) x h = let l = within xs n x h in omega (arith, l)

find_passes : {A : Type 0} (p q : A → Bool) (xs : List A) (x : A) → list_all q xs ≡ true → find p xs ≡ Some x → q x ≡ true
find_passes p q [] x all h = absurd (let impossible : None ≡ Some x = h in cc)
find_passes p q (y ∷ xs) x all h = by (p y) h (find_passes p q xs x (and_parts (q y) (list_all q xs) all).1)
  where
    by : (b : Bool) → cond b (Some y) (find p xs) ≡ Some x → (find p xs ≡ Some x → q x ≡ true) → q x ≡ true
    by true h rest = let same : y ≡ x = cc in ap q (sym same) ∙ (and_parts (q y) (list_all q xs) all).0
    by false h rest = rest h

pub in_range : (segments : List Segment) (externals : ℕ) (t : Target) → is_target segments externals t ≡ true → t.index < length segments + externals
in_range segments externals t h = by (slice_get segments t.index) refl h
  where
    by : (o : Option Segment) → slice_get segments t.index ≡ o → is_within o (length segments + externals) t.index t.addend ≡ true → t.index < length segments + externals
    by None e h = let b = (and_parts (nat_lt t.index (length segments + externals)) (nat_lt t.addend (2 ^ 20)) h).0 in grind (arith, nat_tests)
    by (Some s) e h = let l = within segments t.index s e in omega (arith, l)

of_reloc : (o : Object) (r : Reloc) → is_reloc o.segments (length o.externals) r ≡ true → IsTargetOf o r.target
of_reloc o r h = in_range o.segments (length o.externals) r.target (and_parts (is_zero (item_of (slice_get o.segments r.segment) r.word))
    (is_target o.segments (length o.externals) r.target) h).1

-- that of a relocation
pub reloc_target : (o : Object) → IsObject o → (relocs : List Reloc) → relocs ≡ o.relocs → (i : ℕ) (d : Reloc) → i < length relocs → IsTargetOf o (get_or relocs i d).target
reloc_target o is relocs are i d lt =
    let test = is_reloc o.segments (length o.externals) in
    let r = get_or relocs i d in
    of_reloc o r (all_at test relocs (ap (list_all test) are ∙ is.relocs) i d lt)

-- that of a word
pub found_target : (o : Object) → IsObject o → (segment word : ℕ) (r : Reloc) → reloc_at o segment word ≡ Some r → IsTargetOf o r.target
unfolding reloc_at
found_target o is segment word r h = of_reloc o r (find_passes (is_at segment word) (is_reloc o.segments (length o.externals)) o.relocs r is.relocs h)

-- its parts
pub record ThreadIs (segments : List Segment) (externals : ℕ) (t : Thread) : Type 0 where
  pub slot : t.slot < 16
  pub fetches : can_fetch t.perm ≡ true
  pub target : is_target segments externals t.target ≡ true
  pub values : list_all (is_value segments externals) t.regs ≡ true

pub thread_is : (segments : List Segment) (externals : ℕ) (t : Thread) → is_thread segments externals t ≡ true → ThreadIs segments externals t
thread_is segments externals t h =
    let f = and_parts _ (list_all (is_value segments externals) t.regs) h in
    let e = and_parts _ (is_target segments externals t.target) f.0 in
    let d = and_parts _ (can_fetch t.perm) e.0 in
    let c = and_parts _ (is_handler t.slot t.handler) d.0 in
    let b = and_parts (nat_lt t.slot 16) (nat_lt t.group 16) c.0 in
    record { slot = less t.slot b.0; fetches = d.1; target = e.1; values = f.1 }
  where
    less : (n : ℕ) → nat_lt n 16 ≡ true → n < 16
    less n h = grind (arith, nat_tests)

-- 2. What is outside.

map-append : {A B : Type 0} (f : A → B) (xs ys : List A) → map f (xs ++ ys) ≡ map f xs ++ map f ys
map-append f [] ys = refl
map-append f (x ∷ xs) ys = ap (λ zs. f x ∷ zs) (map-append f xs ys)

module _ (sites : List Site) (o : Object) where
  pub outside-append : (xs ys : List Target) → outside sites o (xs ++ ys) ≡ sooner (outside sites o xs) (outside sites o ys)
  outside-append xs ys =
      let test = is_outside sites o in
      ap (λ ts. option_map Offset (first (map (name_of_target o) ts))) (filter-append test xs ys)
      ∙ ap (λ names. option_map Offset (first names)) (map-append (name_of_target o) (filter test xs) (filter test ys))
      ∙ ap (option_map Offset) (first-append (map (name_of_target o) (filter test xs)) (map (name_of_target o) (filter test ys)))
      ∙ map-sooner Offset (first (map (name_of_target o) (filter test xs))) (first (map (name_of_target o) (filter test ys)))

-- 3. What comes of each item of a list.

module _ {A : Type 0} (sites : List Site) (o : Object) (f : A → List Target) (xs : List A) (i : ℕ)
    (so_far : outside sites o (flat_map f (drop i xs)) ≡ outside sites o (flat_map f xs)) where
  step : (x : A) (ys : List A) → outside sites o (flat_map f (x ∷ ys)) ≡ sooner (outside sites o (f x)) (outside sites o (flat_map f ys))
  step x ys = outside-append sites o (f x) (flat_map f ys)

  pub failing_targets : (x : A) (e : LinkError) → i < length xs → x ≡ get_or xs i x → Fails (outside sites o (f x)) e → Fails (outside sites o (flat_map f xs)) e
  failing_targets = failing (λ ys. outside sites o (flat_map f ys)) (λ x. outside sites o (f x)) step xs i so_far

  -- the same, by the place of the item
  pub failing_at : (d : A) (e : LinkError) → i < length xs → Fails (outside sites o (f (get_or xs i d))) e → Fails (outside sites o (flat_map f xs)) e
  failing_at d e lt h = failing_targets (get_or xs i d) e lt (itself xs i d lt) h
