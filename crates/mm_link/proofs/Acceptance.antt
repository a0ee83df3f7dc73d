-- Objects link exactly where nothing about them is wrong.
use Rattle.std.proofs.Common.{◌≡◌, ℕ, ◌+◌, ◌^◌, ◌<◌, ◌≤◌, true, false, not, List, [], ◌∷◌, ◌++◌, length, Option, Some}
use Rattle.std.proofs.Common.{None, option_map, refl, sym, ap, ◌∙◌, subst, inl, inr, arith, eq-eqb, eqb-true, bytes_eq}
use Rattle.std.proofs.lemmas.{Bool.{leb-true, le-ltb, not-false, and_parts}, Option.slice_get_within}
use Rattle.std.specs.Prelude.{Contains, ◌==◌, if◌then◌else◌, is_some, nat_lt}
use Rattle.std.specs.List.{flat_map, filter, list_any, AllByRecursion}
use Rattle.mm_model.proofs.Causes.{some_of}
use Rattle.mm_object.specs.{declared.{target.Target.Target, thread.Thread.Thread}, Lookups.name_of_target}
use Rattle.mm_object.specs.Objects.{Object, IsObject, is_among, targets_of}
use Rattle.mm_object.proofs.Members.{In, in_right, in_map, from_map, in_flat, from_flat, from_filter, each_in}
use Rattle.mm_object.proofs.Members.{contained, from_contained, found}
use Rattle.mm_link.specs.declared.fault.LinkFault.TheVariants.{Twice, Undefined, Offset, SlotTwice, Handler, TooLarge}
use Rattle.mm_link.specs.Placing.{Part, Site, parts_of, by_length, sites_from, sites_of, site_in, site_or_none}
use Rattle.mm_link.specs.Placing.{site_named, bytes_of, origin}
use Rattle.mm_link.specs.Faults.{names_of, first_again, twice, undefined, is_outside, names_outside, first, offset}
use Rattle.mm_link.specs.Faults.{threads_of, with_slot, slot_numbers, slot_twice, no_thread_of, no_thread, is_absent}
use Rattle.mm_link.specs.{Faults.{handler, frames_of, too_large, first_of, link_fault}, Linked.image_of}
use Rattle.mm_link.specs.Laws.{LinkWell, ObjectsLinkExactly}
use Rattle.mm_link.proofs.Parts.{are_parts, from_by_length, in_by_length}
use Rattle.mm_link.proofs.Clean.{IsClean, clean, unmapped, one_thread, some_thread, handler_there, few_frames}
use Rattle.mm_link.proofs.{Named.splits, Mapped.site_behind}
use Rattle.mm_link.proofs.Pointed.{own_or_foreign, target_good, site_is, external_found, target_goes}
use Rattle.mm_link.proofs.Apart.{none_any, one_any, none_found, apart_from_none, none_from_apart}
use Rattle.mm_link.proofs.Threaded.{small_slot, apart_from_few, few_from_apart}

-- 1. Names and sites.

-- a part's name has a site
part_named : (at : ℕ) (p : Part) (parts : List Part) (name : List ℕ) → In p parts → bytes_eq name p.segment.name ≡ true → is_some (site_in (sites_from at parts) name) ≡ true
part_named at p [] name h e = absurd h
part_named at p (x ∷ parts) name (inl is) e =
    let here : Site = record { name = x.segment.name; log = x.segment.log; base = at } in
    ap (λ b. is_some (if b then Some here else site_in (sites_from (at + 2 ^ x.segment.log) parts) name)) (ap (λ (y : Part). bytes_eq name y.segment.name) (sym is) ∙ e)
part_named at p (x ∷ parts) name (inr h) e =
    let here : Site = record { name = x.segment.name; log = x.segment.log; base = at } in
    let later = part_named (at + 2 ^ x.segment.log) p parts name h e in
    elim (bytes_eq name x.segment.name) as (λ b. is_some (if b then Some here else site_in (sites_from (at + 2 ^ x.segment.log) parts) name) ≡ true) [ true ↦ refl | false ↦ later ]

-- so that what is among the names has one
site_there : (objects : List Object) → AllByRecursion IsObject objects → (name : List ℕ) → is_among name (names_of objects) ≡ true → (s : Site) × (site_in (sites_of objects) name ≡ Some s)
unfolding sites_of
site_there objects are name among =
    let x = found (bytes_eq name) (names_of objects) among in
    let p = from_map (λ (y : Part). y.segment.name) x.0 (parts_of objects) x.1 in
    let is = in_by_length p.0 (parts_of objects) (are_parts objects are) p.1 in
    some_of (site_in (sites_of objects) name) (part_named origin p.0 (by_length (parts_of objects)) name is (ap (bytes_eq name) (sym p.2) ∙ x.2))

-- and what has one is among them
there_named : (objects : List Object) (name : List ℕ) (s : Site) → site_in (sites_of objects) name ≡ Some s → is_among name (names_of objects) ≡ true
unfolding sites_of
there_named objects name s e =
    let r = splits origin (by_length (parts_of objects)) name s e in
    let placed : In r.part (by_length (parts_of objects)) = subst (In r.part) (sym r.whole) (in_right r.part r.before (r.part ∷ r.after) (inl refl)) in
    let is = in_map (λ (p : Part). p.segment.name) r.part (parts_of objects) (from_by_length r.part (parts_of objects) placed) in
    one_any (bytes_eq name) r.part.segment.name (names_of objects) is r.same

-- the part of a site
record IsOf (at : ℕ) (parts : List Part) (s : Site) : Type 0 where
  before : List Part
  part : Part
  after : List Part
  whole : parts ≡ before ++ part ∷ after
  same : record { name = part.segment.name; log = part.segment.log; base = at + bytes_of before } ≡ s

part_of : (at : ℕ) (parts : List Part) (s : Site) → In s (sites_from at parts) → IsOf at parts s
part_of at [] s h = absurd h
part_of at (p ∷ parts) s (inl is) =
    let start : at + 0 ≡ at = omega arith in
    record { before = []; part = p; after = parts; whole = refl; same = ap (λ n. record { name = p.segment.name; log = p.segment.log; base = n }) start ∙ sym is }
part_of at (p ∷ parts) s (inr h) =
    let r = part_of (at + 2 ^ p.segment.log) parts s h in
    let start : at + (2 ^ p.segment.log + bytes_of r.before) ≡ at + 2 ^ p.segment.log + bytes_of r.before = omega arith in
    record {
      before = p ∷ r.before;
      part = r.part;
      after = r.after;
      whole = ap (λ ps. p ∷ ps) r.whole;
      same = ap (λ n. record { name = r.part.segment.name; log = r.part.segment.log; base = n }) start ∙ r.same;
    }

-- each site is the one that its name is found at
site_itself : (objects : List Object) → AllByRecursion IsObject objects → IsClean objects → (s : Site) → In s (sites_of objects) → site_in (sites_of objects) s.name ≡ Some s
unfolding sites_of
site_itself objects are well s is =
    let r = part_of origin (by_length (parts_of objects)) s is in
    ap (site_in (sites_of objects)) (ap (λ (x : Site). x.name) (sym r.same)) ∙ site_behind objects are well r.before r.after r.part r.whole ∙ ap Some r.same

-- 2. What holds where objects have no fault.

well_from_clean : (objects : List Object) → AllByRecursion IsObject objects → IsClean objects → LinkWell objects
well_from_clean objects are well = record {
  apart = (apart_from_none [] (names_of objects) (unmapped Twice (first_again [] (names_of objects)) well.names)).0;
  defined = λ o at name of.
      let r = external_found objects are well name (in_flat (λ (x : Object). x.externals) o name objects (from_contained o objects at) (from_contained name o.externals of)) in
      there_named objects name r.0 r.1;
  within = λ o at t used past s placed same.
      let r = target_goes objects are well o (from_contained o objects at) t (from_contained t (targets_of o.relocs o.threads) used) in
      let both : Some r.site ≡ Some s = sym r.found ∙ ap (site_in (sites_of objects)) (sym same) ∙ site_itself objects are well s (from_contained s (sites_of objects) placed) in
      let is : r.site ≡ s = cc in
      subst (λ (x : Site). t.addend < 2 ^ x.log) is r.within;
  slots = apart_from_few (threads_of objects) (small_slot objects are) (one_thread objects well.slots);
  some = some_thread objects well.threads;
  handlers = λ t at h is. handled t (from_contained t (threads_of objects) at) h is;
  frames = few_frames objects well.size;
}
  where
    handled : (t : Thread) → In t (threads_of objects) → (h : ℕ) → t.handler ≡ Some h → (s : Thread) × Contains (threads_of objects) s × (s.slot ≡ h)
    handled t at h is =
        let there : is_absent (threads_of objects) (Some h) ≡ false = ap (is_absent (threads_of objects)) (sym is) ∙ handler_there objects well.handlers t at (small_slot objects are t at) in
        let u = found (λ (x : Thread). x.slot == h) (threads_of objects) (not-false _ there) in
        (u.0, contained u.0 (threads_of objects) u.1, eqb-true u.0.slot h u.2)

-- 3. That objects have no fault where it holds.

none_first : {A : Type 0} (xs : List A) → ((x : A) → In x xs → ⊥) → first xs ≡ None
none_first [] h = refl
none_first (x ∷ xs) h = absurd (h x (inl refl))

one_there : (threads : List Thread) → 1 ≤ length threads → no_thread_of threads ≡ None
one_there [] h = absurd (omega arith)
one_there (t ∷ threads) h = refl

module _ (objects : List Object) (are : AllByRecursion IsObject objects) (well : LinkWell objects) where
  each_defined : (name : List ℕ) → In name (flat_map (λ (o : Object). o.externals) objects) → not (is_some (site_in (sites_of objects) name)) ≡ false
  each_defined name h =
      let r = from_flat (λ (o : Object). o.externals) name objects h in
      let s = site_there objects are name (well.defined r.0 (contained r.0 objects r.1) name (contained name r.0.externals r.2)) in
      ap (λ o. not (is_some o)) s.1

  none_outside : (o : Object) → In o objects → (t : Target) → In t (targets_of o.relocs o.threads) → is_outside (sites_of objects) o t ≡ true → ⊥
  none_outside o at t used outside =
      let tests = and_parts _ _ outside in
      let past = leb-true (length o.segments) t.index tests.0 in
      let beyond = leb-true (2 ^ (site_named (sites_of objects) (name_of_target o t)).log) t.addend tests.1 in
      elim (own_or_foreign o t (target_good o (each_in IsObject o objects are at) t used)) [
        | inl own ↦ let lt = slice_get_within o.segments t.index own.segment own.place in omega arith
        | inr foreign ↦
            let s = site_there objects are (name_of_target o t) (well.defined o (contained o objects at) (name_of_target o t) (contained (name_of_target o t) o.externals foreign.name)) in
            let is = site_is (sites_of objects) (name_of_target o t) s.0 s.1 in
            let within = well.within o (contained o objects at) t (contained t (targets_of o.relocs o.threads) used) past s.0 (contained s.0 (sites_of objects) is.0) is.1 in
            let log : 2 ^ (site_named (sites_of objects) (name_of_target o t)).log ≡ 2 ^ s.0.log = ap (λ o. 2 ^ (site_or_none o).log) s.1 in
            omega arith
      ]

  each_within : (name : List ℕ) → In name (flat_map (names_outside (sites_of objects)) objects) → ⊥
  each_within name h =
      let o = from_flat (names_outside (sites_of objects)) name objects h in
      let t = from_map (name_of_target o.0) name (filter (is_outside (sites_of objects) o.0) (targets_of o.0.relocs o.0.threads)) o.2 in
      let r = from_filter (is_outside (sites_of objects) o.0) t.0 (targets_of o.0.relocs o.0.threads) t.1 in
      none_outside o.0 o.1 t.0 r.0 r.1

  each_present : (t : Thread) → In t (threads_of objects) → is_absent (threads_of objects) t.handler ≡ false
  each_present t at = by t.handler refl
    where
      by : (o : Option ℕ) → t.handler ≡ o → is_absent (threads_of objects) o ≡ false
      by None e = refl
      by (Some h) e =
          let s = well.handlers t (contained t (threads_of objects) at) h e in
          ap not (one_any (λ (u : Thread). u.slot == h) s.0 (threads_of objects) (from_contained s.0 (threads_of objects) s.1) (eq-eqb s.0.slot h s.2))

  each_handled : (slot : ℕ) → list_any (λ (t : Thread). is_absent (threads_of objects) t.handler) (with_slot slot (threads_of objects)) ≡ false
  each_handled slot =
      none_any (λ (t : Thread). is_absent (threads_of objects) t.handler) (with_slot slot (threads_of objects))
      (λ t is. each_present t (from_filter (λ (u : Thread). u.slot == slot) t (threads_of objects) is).0)

  each_once : (slot : ℕ) → nat_lt 1 (length (with_slot slot (threads_of objects))) ≡ false
  each_once slot = le-ltb 1 (length (with_slot slot (threads_of objects))) (few_from_apart slot (threads_of objects) well.slots)

  clean_from_well : IsClean objects
  clean_from_well = record {
    names = ap (option_map Twice) (none_from_apart [] (names_of objects) well.apart (λ x is. refl));
    externals = ap (option_map Undefined) (none_found (λ name. not (is_some (site_in (sites_of objects) name))) (flat_map (λ (o : Object). o.externals) objects) each_defined);
    offsets = ap (option_map Offset) (none_first (flat_map (names_outside (sites_of objects)) objects) each_within);
    slots = ap (option_map SlotTwice) (none_found (λ slot. nat_lt 1 (length (with_slot slot (threads_of objects)))) slot_numbers (λ slot is. each_once slot));
    threads = one_there (threads_of objects) well.some;
    handlers =
        ap (option_map Handler)
        (none_found (λ slot. list_any (λ (t : Thread). is_absent (threads_of objects) t.handler) (with_slot slot (threads_of objects))) slot_numbers (λ slot is. each_handled slot));
    size = ap (λ b. if b then Some TooLarge else None) (le-ltb 256 (frames_of objects) well.frames);
  }

-- 4. The whole.

past_none : {A : Type 0} (o : Option A) (rest : List (Option A)) → o ≡ None → first_of rest ≡ None → first_of (o ∷ rest) ≡ None
past_none o rest e h = ap (λ x. first_of (x ∷ rest)) e ∙ h

no_fault : (objects : List Object) → IsClean objects → link_fault objects ≡ None
unfolding link_fault
no_fault objects is =
    past_none (twice objects) _ is.names (past_none (undefined objects) _ is.externals (past_none (offset objects) _ is.offsets (past_none (slot_twice objects) _ is.slots
    (past_none (no_thread objects) _ is.threads (past_none (handler objects) _ is.handlers (past_none (too_large objects) _ is.size refl))))))

pub objects_link_exactly : ObjectsLinkExactly
objects_link_exactly objects are = (
  λ linked. well_from_clean objects are (clean objects linked.1.clean),
  λ well. (image_of objects, record { clean = no_fault objects (clean_from_well objects are well); image = refl }),
)
