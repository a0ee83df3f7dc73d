-- Where a draft has no late faults, each target of it is one of its object, and its externals are few.
use Rattle.std.proofs.Common.{◌≡◌, ℕ, ◌+◌, ◌*◌, ◌^◌, ◌<◌, ◌≤◌, true, false, not, nat_lt, List, [], ◌++◌, map, length}
use Rattle.std.proofs.Common.{slice_get, Option, Some, None, is_some, option_map, refl, ap, ◌∙◌, subst, arith}
use Rattle.std.proofs.lemmas.{List.length-map, Bool.{and_from, Decides.nat_tests}, Option.slice_get_past}
use Rattle.std.specs.List.{flat_map}
use Rattle.mm_draft.{proofs.Allowed.good, specs.{declared.location.Location.Location, Drafts.{Draft, place_of}}}
use Rattle.mm_line.specs.declared.fault.Fault.TheVariants.{Range}
use Rattle.mm_object.specs.Objects.{Segment, is_among, is_within, is_target, external_limit, greatest_log}
use Rattle.mm_object.proofs.Members.{In}
use Rattle.mm_asm.specs.Names.{Use, Here, meant_by, meant, uses_of, externals_of, position_of}
use Rattle.mm_asm.specs.Meaning.{segment_of, target_by, target_of}
use Rattle.mm_asm.specs.Faults.{is_outside, meant_faults, use_failures, goal_failures, limit_failures, late_failures}
use Rattle.mm_asm.specs.Bounds.{IsPlaced}
use Rattle.mm_asm.proofs.{Lists.{none_both, none_flat, none_map, get_map}, Order.{Rising, position_below}}
use Rattle.mm_asm.proofs.ExternalNames.{externals_rise, externals_few, used_among}
use Rattle.mm_line.specs.declared.statement.Target as text
use Rattle.mm_draft.specs.Drafts as draft

module _ (d : Draft) where
  pub externals_rising : Rising (externals_of d)
  externals_rising = externals_rise d (uses_of d) [] tt

  abbrev pub segments_of : List Segment
  segments_of = map (segment_of d) d.segments

  abbrev pub external_count : ℕ
  external_count = length (externals_of d)

  module _ (late : late_failures d ≡ []) where
    uses_none : flat_map (use_failures d) (uses_of d) ≡ []
    unfolding late_failures
    uses_none = (none_both (goal_failures d 0 d.segments) (flat_map (use_failures d) (uses_of d))
        (none_both (goal_failures d 0 d.segments ++ flat_map (use_failures d) (uses_of d))
        (limit_failures d [] (uses_of d)) late).0).1

    limits_none : limit_failures d [] (uses_of d) ≡ []
    unfolding late_failures
    limits_none = (none_both (goal_failures d 0 d.segments ++ flat_map (use_failures d) (uses_of d)) (limit_failures d [] (uses_of d)) late).1

    pub few_externals : length (externals_of d) ≤ external_limit
    few_externals = externals_few d (uses_of d) [] tt (omega arith) limits_none

    within : (o : Option draft.Segment) (all index offset : ℕ) → is_outside o offset ≡ false → is_within (option_map (segment_of d) o) all index offset ≡ true
    within None all index offset e = absurd cc
    within (Some s) all index offset e = grind (arith, nat_tests, e)

    here : (p : Location) (t : text.Target) (left : ℕ) → meant_faults d left (Here p.segment (8 * p.word + t.addend)) ≡ []
        → is_target segments_of external_count (target_by d (meant_by (Some p) t)) ≡ true
    here p t left e =
        let offset : ℕ = 8 * p.word + t.addend in
        let inside = good (is_outside (slice_get d.segments p.segment) offset) Range left e in
        ap (λ (o : Option Segment). is_within o (length segments_of + external_count) p.segment offset) (get_map (segment_of d) d.segments p.segment)
        ∙ within (slice_get d.segments p.segment) (length segments_of + external_count) p.segment offset inside

    elsewhere : (t : text.Target) → is_among t.mark.name (externals_of d) ≡ true → t.addend < 2 ^ 20 → is_target segments_of external_count (target_by d (meant_by None t)) ≡ true
    elsewhere t among small =
        let place : ℕ = position_of t.mark.name (externals_of d) in
        let low : place < external_count = position_below t.mark.name (externals_of d) among in
        let same : length segments_of ≡ length d.segments = length-map d.segments (segment_of d) in
        let none : slice_get segments_of (length d.segments + place) ≡ None = slice_get_past segments_of (length d.segments + place) (omega (arith, same)) in
        ap (λ (o : Option Segment). is_within o (length segments_of + external_count) (length d.segments + place) t.addend) none
        ∙ and_from (nat_lt (length d.segments + place) (length segments_of + external_count))
        (nat_lt t.addend (2 ^ greatest_log)) (grind (arith, nat_tests, low, same)) (grind (arith, nat_tests, small))

    -- a target of the draft is one of its object
    pub targets_are : (u : Use) → In u (uses_of d) → IsPlaced u.target → is_target segments_of external_count (target_of d u.target) ≡ true
    targets_are u m h = by (place_of d u.target.mark.name) refl
      where
        left : ℕ
        left = u.target.mark.left

        none : meant_faults d left (meant d u.target) ≡ []
        none = none_map _ (meant_faults d left (meant d u.target)) (none_flat (use_failures d) u (uses_of d) uses_none m)

        by : (o : Option Location) → place_of d u.target.mark.name ≡ o → is_target segments_of external_count (target_by d (meant_by o u.target)) ≡ true
        by (Some p) e = here p u.target left (subst (λ (o : Option Location). meant_faults d left (meant_by o u.target) ≡ []) e none)
        by None e = elsewhere u.target (used_among d u (uses_of d) [] m (ap (λ (o : Option Location). not (is_some o)) e)) h.1.addend
