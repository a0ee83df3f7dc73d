-- Pointers are into the segments that their targets go by.
use Rattle.std.proofs.Common.{◌≡◌, ℕ, zero, suc, ◌+◌, ◌-◌, ◌*◌, ◌/◌, ◌%◌, ◌^◌, ◌<◌, ◌≤◌, Bool, true, false, not, List}
use Rattle.std.proofs.Common.{bytes_eq, [], ◌∷◌, ◌++◌, map, length, get_or, slice_get, find, Some, None, refl, sym, ap}
use Rattle.std.proofs.Common.{◌∙◌, subst, inl, inr, arith}
use Rattle.std.proofs.lemmas.Bool.{ltb-true, not-false, and_parts, false_from_ne_true, Decides.nat_tests}
use Rattle.std.proofs.lemmas.List.{length-map, get_or-map, get_or_append_left, get_or-append-add}
use Rattle.std.proofs.lemmas.{List.Elements.Contains-get_or, Nat.div-mul-add, Option.slice_get_cases}
use Rattle.std.proofs.{lemmas.Slice.Eq.bytes_eq-Decides, Math.Nat.div-add-mod}
use Rattle.std.specs.Prelude.{◌⊎◌, if◌then◌else◌, is_some, nat_le, nat_lt, ◌&&◌}
use Rattle.std.specs.List.{flat_map, filter, AllByRecursion}
use Rattle.mm_word.specs.{declared.perm.Perm.Perm, Pointer.Pointer}
use Rattle.mm_object.specs.declared.{target.{Target.Target, Reloc.Reloc}, thread.{Value.Value, Thread.Thread}}
use Rattle.mm_object.specs.Lookups.{name_of_target}
use Rattle.mm_object.specs.Objects.{Segment, Object, IsObject, names_of, is_target, is_within, is_reloc, is_value}
use Rattle.mm_object.specs.Objects.{value_targets, targets_of}
use Rattle.mm_object.proofs.Members.{In, in_either, in_map, from_map, in_flat, from_flat, in_filter, each_in}
use Rattle.mm_object.proofs.Members.{each_passes, contained, from_contained, not_found}
use Rattle.mm_model.proofs.Causes.{some_of}
use Rattle.mm_link.specs.declared.fault.LinkFault.TheVariants.{Undefined, Offset}
use Rattle.mm_link.specs.Placing.{Part, Site, parts_from, parts_of, sites_of, site_in, site_or_none, site_named}
use Rattle.mm_link.specs.{Placing.pointer_to, Faults.{is_outside, names_outside, first}}
use Rattle.mm_link.specs.Laws.{IsInto, PointersAreIntoTheirSegments}
use Rattle.mm_link.proofs.{Clean.{IsClean, clean, unmapped}, Numbered.is_start, Falling.segments_are_aligned}
use Rattle.mm_link.proofs.Mapped.{part_found}
use Rattle.mm_object.specs.declared.thread.Value.TheVariants as value

-- 1. What targets are.

module _ (o : Object) (is : IsObject o) where
  abbrev IsGood : Target → Type 0
  IsGood t = is_target o.segments (length o.externals) t ≡ true

  value_good : (v : Value) → is_value o.segments (length o.externals) v ≡ true → (t : Target) → In t (value_targets v) → IsGood t
  value_good (value.Int n) good t h = absurd h
  value_good (value.Ptr perm target) good t (inl e) = subst IsGood (sym e) good
  value_good (value.Ptr perm target) good t (inr h) = absurd h

  thread_good : (u : Thread) → In u o.threads → (t : Target) → In t (u.target ∷ flat_map value_targets u.regs) → IsGood t
  thread_good u at t (inl e) = subst IsGood (sym e) (is_start o is u at).target
  thread_good u at t (inr h) =
      let r = from_flat value_targets t u.regs h in
      value_good r.0 (each_in (λ v. is_value o.segments (length o.externals) v ≡ true) r.0 u.regs (is_start o is u at).values r.1) t r.2

  reloc_good : (t : Target) → In t (map (λ (r : Reloc). r.target) o.relocs) → IsGood t
  reloc_good t h =
      let r = from_map (λ (x : Reloc). x.target) t o.relocs h in
      let good = each_in (λ x. is_reloc o.segments (length o.externals) x ≡ true) r.0 o.relocs (each_passes (is_reloc o.segments (length o.externals)) o.relocs is.relocs) r.1 in
      subst IsGood (sym r.2) (and_parts _ _ good).1

  pub target_good : (t : Target) → In t (targets_of o.relocs o.threads) → IsGood t
  target_good t h = elim (in_either t (map (λ (r : Reloc). r.target) o.relocs) (flat_map (λ (u : Thread). u.target ∷ flat_map value_targets u.regs) o.threads) h) [
    | inl reloc ↦ reloc_good t reloc
    | inr thread ↦ let r = from_flat (λ (u : Thread). u.target ∷ flat_map value_targets u.regs) t o.threads thread in thread_good r.0 r.1 t r.2
  ]

-- 2. What they are called.

part_there : (o : Object) (number k : ℕ) (segments : List Segment) (s : Segment) → slice_get segments k ≡ Some s
    → (n : ℕ) × In (record { object = o; number = n; segment = s }) (parts_from o number segments)
part_there o number k [] s e = absurd cc
part_there o number zero (x ∷ segments) s e =
    let same : x ≡ s = cc in
    (number, inl (ap (λ y. record { object = o; number = number; segment = y }) (sym same)))
part_there o number (suc k) (x ∷ segments) s e = let r = part_there o (number + 1) k segments s e in (r.0, inr r.1)

-- a segment of an object is a part
part_in : (objects : List Object) (o : Object) → In o objects → (k : ℕ) (s : Segment) → slice_get o.segments k ≡ Some s → (p : Part) × In p (parts_of objects) × (p.segment ≡ s)
unfolding parts_of
part_in objects o is k s e =
    let r = part_there o 0 k o.segments s e in
    let p : Part = record { object = o; number = r.0; segment = s } in
    (p, in_flat (λ (x : Object). parts_from x 0 x.segments) o p objects is r.1, refl)

segment_name : (o : Object) (t : Target) (s : Segment) → t.index < length o.segments → get_or o.segments t.index s ≡ s → name_of_target o t ≡ s.name
unfolding name_of_target
segment_name o t s lt e =
    let long = length-map o.segments (λ (x : Segment). x.name) in
    get_or_append_left (names_of o.segments) o.externals [] t.index (omega arith) ∙ get_or-map (λ (x : Segment). x.name) o.segments t.index s [] lt ∙ ap (λ (x : Segment). x.name) e

external_name : (o : Object) (t : Target) → length o.segments ≤ t.index → name_of_target o t ≡ get_or o.externals (t.index - length o.segments) []
unfolding name_of_target
external_name o t le =
    let place : t.index ≡ length (names_of o.segments) + (t.index - length o.segments) = omega (arith, length-map o.segments (λ (x : Segment). x.name)) in
    ap (λ n. get_or (names_of o.segments ++ o.externals) n []) place ∙ get_or-append-add (names_of o.segments) o.externals (t.index - length o.segments) []

-- a target of a segment of the object, at an offset in it
pub record IsOwn (o : Object) (t : Target) : Type 0 where
  pub segment : Segment
  pub place : slice_get o.segments t.index ≡ Some segment
  pub name : name_of_target o t ≡ segment.name
  pub within : t.addend < 2 ^ segment.log

-- or one of a name that it does not have itself
pub record IsForeign (o : Object) (t : Target) : Type 0 where
  pub past : length o.segments ≤ t.index
  pub name : In (name_of_target o t) o.externals

pub own_or_foreign : (o : Object) (t : Target) → is_target o.segments (length o.externals) t ≡ true → IsOwn o t ⊎ IsForeign o t
own_or_foreign o t good = elim (slice_get_cases o.segments t.index).1 [
  | inl own ↦ inl (record {
    segment = own.0;
    place = own.2;
    name = segment_name o t own.0 own.1 own.3;
    within = ltb-true t.addend (2 ^ own.0.log) (sym (ap (λ found. is_within found (length o.segments + length o.externals) t.index t.addend) own.2) ∙ good);
  })
  | inr none ↦ inr (foreign none.0 (and_parts _ _ (sym (ap (λ found. is_within found (length o.segments + length o.externals) t.index t.addend) none.1) ∙ good)).0)
]
  where
    foreign : length o.segments ≤ t.index → nat_lt t.index (length o.segments + length o.externals) ≡ true → IsForeign o t
    foreign le test =
        let lt = ltb-true t.index (length o.segments + length o.externals) test in
        let among = Contains-get_or o.externals (t.index - length o.segments) [] (omega arith) in
        record { past = le; name = subst (λ name. In name o.externals) (sym (external_name o t le)) (from_contained (get_or o.externals (t.index - length o.segments) []) o.externals among) }

-- 3. Their sites.

pub site_is : (sites : List Site) (name : List ℕ) (s : Site) → site_in sites name ≡ Some s → In s sites × (s.name ≡ name)
site_is [] name s e = absurd cc
site_is (x ∷ sites) name s e = by (bytes_eq name x.name) refl e (site_is sites name s)
  where
    by : (b : Bool) → bytes_eq name x.name ≡ b → (if b then Some x else site_in sites name) ≡ Some s → (site_in sites name ≡ Some s → In s sites × (s.name ≡ name))
        → In s (x ∷ sites) × (s.name ≡ name)
    by true is e later = let same : x ≡ s = cc in (inl (sym same), sym ((bytes_eq-Decides name x.name).0 is ∙ ap (λ (y : Site). y.name) same))
    by false is e later = let r = later e in (inr r.0, r.1)

first_none : {A : Type 0} (xs : List A) → first xs ≡ None → (x : A) → In x xs → ⊥
first_none [] none x h = h
first_none (y ∷ xs) none x h = absurd cc

-- where a target goes: to a segment, at an offset in it
pub record Goes (objects : List Object) (o : Object) (t : Target) : Type 0 where
  pub site : Site
  pub found : site_in (sites_of objects) (name_of_target o t) ≡ Some site
  pub within : t.addend < 2 ^ site.log

module _ (objects : List Object) (are : AllByRecursion IsObject objects) (well : IsClean objects) where
  own_goes : (o : Object) → In o objects → (t : Target) → IsOwn o t → Goes objects o t
  own_goes o is t own =
      let p = part_in objects o is t.index own.segment own.place in
      let s = part_found objects are well p.0 p.1 in
      let log : s.0.log ≡ own.segment.log = s.2 ∙ ap (λ (x : Segment). x.log) p.2 in
      record {
        site = s.0;
        found = ap (site_in (sites_of objects)) (own.name ∙ ap (λ (x : Segment). x.name) (sym p.2)) ∙ s.1;
        within = subst (λ n. t.addend < 2 ^ n) (sym log) own.within;
      }

  -- each external has a site
  pub external_found : (name : List ℕ) → In name (flat_map (λ (o : Object). o.externals) objects) → (s : Site) × (site_in (sites_of objects) name ≡ Some s)
  external_found name is =
      let missing : List ℕ → Bool = λ x. not (is_some (site_in (sites_of objects) x)) in
      let all = flat_map (λ (o : Object). o.externals) objects in
      some_of (site_in (sites_of objects) name) (not-false _ (not_found missing all (unmapped Undefined (find missing all) well.externals) name is))

  -- no use of an external is outside its segment
  pub none_outside : (o : Object) → In o objects → (t : Target) → In t (targets_of o.relocs o.threads) → is_outside (sites_of objects) o t ≡ false
  none_outside o is t at =
      false_from_ne_true (is_outside (sites_of objects) o t) (λ e.
      let outside = in_map (name_of_target o) t (filter (is_outside (sites_of objects) o)
      (targets_of o.relocs o.threads)) (in_filter (is_outside (sites_of objects) o) t
      (targets_of o.relocs o.threads) at e) in
      let all = flat_map (names_outside (sites_of objects)) objects in
      first_none all (unmapped Offset (first all) well.offsets) (name_of_target o t) (in_flat (names_outside (sites_of objects)) o (name_of_target o t) objects is outside))

  foreign_goes : (o : Object) → In o objects → (t : Target) → In t (targets_of o.relocs o.threads) → IsForeign o t → Goes objects o t
  foreign_goes o is t at foreign =
      let name = name_of_target o t in
      let s = external_found name (in_flat (λ (x : Object). x.externals) o name objects is foreign.name) in
      let log : 2 ^ (site_named (sites_of objects) name).log ≡ 2 ^ s.0.log = ap (λ found. 2 ^ (site_or_none found).log) s.1 in
      let inside = second (length o.segments) t.index (2 ^ (site_named (sites_of objects) name).log) t.addend foreign.past (none_outside o is t at) in
      record { site = s.0; found = s.1; within = omega arith }
    where
      second : (a b c d : ℕ) → a ≤ b → (nat_le a b && nat_le c d) ≡ false → d < c
      second a b c d le none = grind (arith, nat_tests)

  pub target_goes : (o : Object) → In o objects → (t : Target) → In t (targets_of o.relocs o.threads) → Goes objects o t
  target_goes o is t at = elim (own_or_foreign o t (target_good o (each_in IsObject o objects are is) t at)) [ inl own ↦ own_goes o is t own | inr foreign ↦ foreign_goes o is t at foreign ]

-- 4. Their pointers.

-- the base of a segment is the greatest multiple of its length that is not above an address in it
rounded : (base length offset : ℕ) → base % length ≡ 0 → offset < length → (base + offset) / length * length ≡ base
rounded base length offset aligned lt =
    let parts = div-add-mod base length in
    let q = base / length in
    let whole : base ≡ q * length = sym (sym (ap (λ n. length * q + n) aligned) ∙ parts) ∙ plain length q in
    ap (λ n. (n + offset) / length * length) whole ∙ ap (λ n. n * length) (div-mul-add q length offset lt) ∙ sym whole
  where
    plain : (a b : ℕ) → a * b + 0 ≡ b * a
    plain a b = omega arith

pointer_into : (sites : List Site) (o : Object) (perm : Perm) (t : Target) (s : Site) → site_in sites (name_of_target o t) ≡ Some s → s.base % 2 ^ s.log ≡ 0 → t.addend < 2 ^ s.log
    → IsInto s perm t.addend (pointer_to sites o perm t)
unfolding pointer_to
pointer_into sites o perm t s e aligned lt =
    let named : site_named sites (name_of_target o t) ≡ s = ap site_or_none e in
    let target : Pointer = record { perm = perm; log = s.log; addr = s.base + t.addend } in
    let same : target ≡ pointer_to sites o perm t = ap (λ (x : Site). record { perm = perm; log = x.log; addr = x.base + t.addend }) (sym named) in
    subst (IsInto s perm t.addend) same (record { perm = refl; address = refl; log = refl; base = rounded s.base (2 ^ s.log) t.addend aligned lt; inside = omega arith })

pub pointers_are_into_their_segments : PointersAreIntoTheirSegments
pointers_are_into_their_segments objects i are linked o at t used perm =
    let r = target_goes objects are (clean objects linked.clean) o (from_contained o objects at) t (from_contained t (targets_of o.relocs o.threads) used) in
    let s = site_is (sites_of objects) (name_of_target o t) r.site r.found in
    let among = contained r.site (sites_of objects) s.0 in
    (r.site, among, s.1, pointer_into (sites_of objects) o perm t r.site r.found (segments_are_aligned objects r.site among) r.within)
