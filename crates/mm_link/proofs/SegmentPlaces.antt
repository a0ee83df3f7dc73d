-- Where segments stand, and the pointers to them.
use Rattle.std.proofs.Common.{◌≡◌, ℕ, ◌+◌, ◌^◌, ◌≤◌, true, false, cond, List, [], ◌∷◌, length, Some, arith, bytes_eq}
use Rattle.std.specs.List.{AllByRecursion}
use Rattle.mm_word.specs.{declared.perm.Perm.Perm, Pointer.IsWellFormed}
use Rattle.mm_object.specs.{declared.target.Target.Target, Lookups.name_of_target}
use Rattle.mm_object.{specs.Objects.{Object, IsObject, is_target}, proofs.Bounds.target_small}
use Rattle.mm_link.specs.Placing.{Part, Site, parts_of, by_length, sites_from, sites_of, origin, bytes_of, site_in}
use Rattle.mm_link.specs.{Placing.{site_or_none, site_named, pointer_to}, Faults.page_count}
use Rattle.mm_link.proofs.{Parts.{IsPart, are_parts, are_placed_parts, bytes_placed}, Clean.few_bytes}

-- a site that all pages hold
pub record IsNear (s : Site) : Type 0 where
  pub log : s.log ≤ 20
  pub base : s.base ≤ 2 ^ 30

near_from : (at : ℕ) (parts : List Part) → AllByRecursion IsPart parts → at + bytes_of parts ≤ 2 ^ 30 → AllByRecursion IsNear (sites_from at parts)
near_from at [] h le = tt
near_from at (p ∷ parts) h le =
    (record { log = h.0.segment.greatest; base = omega arith }, near_from (at + 2 ^ p.segment.log) parts h.1 (omega arith))

pub near_sites : (objects : List Object) → AllByRecursion IsObject objects → page_count objects ≤ 256 → AllByRecursion IsNear (sites_of objects)
unfolding sites_of
near_sites objects are few =
    let parts = are_parts objects are in
    near_from origin (by_length (parts_of objects)) (are_placed_parts (parts_of objects) parts) (omega (arith, bytes_placed (parts_of objects) parts, few_bytes objects))

near_named : (sites : List Site) (name : List ℕ) → AllByRecursion IsNear sites → IsNear (site_named sites name)
near_named [] name h = record { log = omega arith; base = omega arith }
near_named (s ∷ sites) name h =
    elim (bytes_eq name s.name) as (λ b. IsNear (site_or_none (cond b (Some s) (site_in sites name)))) [ true ↦ h.0 | false ↦ near_named sites name h.1 ]

-- a pointer to a target of an object is well-formed
pub pointer_fits : (sites : List Site) (o : Object) (perm : Perm) (t : Target) → AllByRecursion IsNear sites → IsObject o → is_target o.segments (length o.externals) t ≡ true
    → IsWellFormed (pointer_to sites o perm t)
unfolding pointer_to
pointer_fits sites o perm t near is good =
    let site = near_named sites (name_of_target o t) near in
    let small = target_small o.segments is.segments (length o.externals) t good in
    record { log_in_range = omega (arith, site.log); addr_in_range = omega (arith, site.base, small.1) }
