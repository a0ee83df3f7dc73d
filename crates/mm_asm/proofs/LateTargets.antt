-- Where a draft has no late faults, what its targets come to can be written.
use Rattle.std.proofs.Common.{◌≡◌, ℕ, zero, suc, ◌+◌, ◌*◌, ◌^◌, ◌<◌, ◌≤◌, true, not, nat_lt, List, [], ◌∷◌, length}
use Rattle.std.proofs.Common.{slice_get, Option, Some, None, is_some, refl, sym, ap, ◌∙◌, subst, inl, inr, arith}
use Rattle.std.proofs.Math.Nat.{pow-le-pow_right}
use Rattle.std.proofs.lemmas.{Bool.{and_parts, ltb-true, Decides.nat_tests}, List.length-map}
use Rattle.std.specs.List.{AllByRecursion}
use Rattle.mm_model.proofs.CoreRows.{into_map}
use Rattle.mm_line.specs.declared.statement.{Constant.{Constant, TheVariants.{Integer, Pointer}}, Content.Content}
use Rattle.mm_draft.specs.declared.{source.Source.Source, segment.Word.Word, location.Location.Location}
use Rattle.mm_draft.specs.{declared.thread.Register.Register, Drafts.{Draft, place_of}}
use Rattle.mm_object.{specs.Objects.{Segment, is_within}, proofs.Members.{In, in_flat, each_in, each_from}}
use Rattle.mm_asm.specs.Names.{Use, uses_of, externals_of, segment_uses, word_uses, content_uses, constant_uses}
use Rattle.mm_asm.specs.Names.{thread_uses, register_uses, meant_by, position_of}
use Rattle.mm_asm.specs.{Meaning.{segment_of, target_of, target_by}, Faults.late_failures, Bounds.IsDraft}
use Rattle.mm_asm.specs.Fits.{FitsTarget, FitsConstant, FitsPointer, FitsPointers, FitsThread}
use Rattle.mm_asm.proofs.{Uses.uses_placed, Targets.{segments_of, external_count, targets_are, few_externals}}
use Rattle.mm_asm.proofs.{ExternalNames.used_among, Segments.words_in, MeantObjects.{in_words, in_threads}}
use Rattle.mm_line.specs.declared.statement.Target as text
use Rattle.mm_line.specs.declared.statement.Content.TheVariants as content
use Rattle.mm_draft.specs.Drafts as draft
use Rattle.mm_asm.specs.Bounds as bounds

-- 1. A target.

found_below : (segments : List Segment) (i : ℕ) (s : Segment) → AllByRecursion (λ (s : Segment). s.log ≤ 20) segments → slice_get segments i ≡ Some s → (i < length segments) × (s.log ≤ 20)
found_below [] i s h e = absurd cc
found_below (x ∷ segments) zero s h e = let same : x ≡ s = cc in (omega arith, subst (λ (y : Segment). y.log ≤ 20) same h.0)
found_below (x ∷ segments) (suc i) s h e = let r = found_below segments i s h.1 e in (omega (arith, r.0), r.1)

within_fits : (segments : List Segment) (all index addend : ℕ) (o : Option Segment) → slice_get segments index ≡ o
    → AllByRecursion (λ (s : Segment). s.log ≤ 20) segments → length segments ≤ 256 → all ≤ 1280
    → is_within o all index addend ≡ true → (index < 2 ^ 16) × (addend < 2 ^ 32)
within_fits segments all index addend (Some s) e logs few most h =
    let r = found_below segments index s logs e in
    let small : addend < 2 ^ s.log = ltb-true addend (2 ^ s.log) h in
    let size : 2 ^ s.log ≤ 2 ^ 20 = pow-le-pow_right {n = 2} (omega arith) r.1 in
    (omega (arith, r.0), omega (arith, small, size))
within_fits segments all index addend None e logs few most h =
    let r = and_parts (nat_lt index all) (nat_lt addend (2 ^ 20)) h in
    (let a = ltb-true index all r.0 in omega arith, let b = ltb-true addend (2 ^ 20) r.1 in omega arith)

-- 2. All of a draft.

module _ (d : Draft) (is_draft : IsDraft d) (late : late_failures d ≡ []) where
  logs : AllByRecursion (λ (s : Segment). s.log ≤ 20) (segments_of d)
  logs = into_map (λ (s : Segment). s.log ≤ 20) (segment_of d) d.segments (each_from (λ (s : draft.Segment). s.log ≤ 20)
      d.segments (λ s m. let h : bounds.IsSegment s = each_in bounds.IsSegment s d.segments is_draft.segments.each m in
      h.greatest))

  use_fits : (u : Use) → In u (uses_of d) → FitsTarget d u.target
  use_fits u m =
      let t = target_of d u.target in
      let count : length (segments_of d) ≡ length d.segments = length-map d.segments (segment_of d) in
      let few = few_externals d late in
      let r = within_fits (segments_of d) (length (segments_of d) + external_count d) t.index t.addend
      (slice_get (segments_of d) t.index) refl logs (omega (arith, count, is_draft.segments.few))
      (omega (arith, count, is_draft.segments.few, few))
      (targets_are d late u m (uses_placed d u is_draft m)) in
      record { index = r.0; addend = r.1; known = λ none. used_among d u (uses_of d) [] m (ap (λ (o : Option Location). not (is_some o)) none) }

  constant_fits : (source : Source) (c : Constant) → ((u : Use) → In u (constant_uses source c) → FitsTarget d u.target) → FitsConstant d c
  constant_fits source (Integer n) h = tt
  constant_fits source (Pointer perm t) h = h (record { target = t; source = source }) (inl refl)

  pointer_fits : (source : Source) (c : Content) → ((u : Use) → In u (content_uses source c) → FitsTarget d u.target) → FitsPointer d c
  pointer_fits source (content.Constant c) h = constant_fits source c h
  pointer_fits source (content.Code c) h = tt

  pub pointers_fit : AllByRecursion (λ (s : draft.Segment). FitsPointers d s.words) d.segments
  pointers_fit = each_from (λ (s : draft.Segment). FitsPointers d s.words) d.segments (λ s m. (
    omega (arith, words_in s d.segments m, is_draft.segments.words),
    each_from (λ (w : Word). FitsPointer d w.content) s.words (λ w n. pointer_fits w.source w.content (λ u k.
        use_fits u (in_words d is_draft late u (in_flat segment_uses s u d.segments m (in_flat word_uses w u s.words n k))))),
  ))

  pub threads_fit : AllByRecursion (FitsThread d) d.threads
  threads_fit = each_from (FitsThread d) d.threads (λ t m. (
    use_fits (record { target = t.target; source = t.source }) (in_threads d is_draft late _ (in_flat thread_uses t _ d.threads m (inl refl))),
    each_from (λ (r : Register). FitsConstant d r.value) t.registers (λ r n. constant_fits r.source r.value (λ u k.
        use_fits u (in_threads d is_draft late u (in_flat thread_uses t u d.threads m (inr (in_flat register_uses r u t.registers n k)))))),
  ))

-- 3. Where a target is.

pub here_fits : (d : Draft) (t : text.Target) (name : List ℕ) (p : Location) → name ≡ t.mark.name → place_of d name ≡ Some p → FitsTarget d t → (p.segment < 2 ^ 16) × (8 * p.word + t.addend < 2 ^ 32)
here_fits d t name p e f h =
    let found : place_of d t.mark.name ≡ Some p = ap (place_of d) (sym e) ∙ f in
    (subst (λ (o : Option Location). (target_by d (meant_by o t)).index < 2 ^ 16) found h.index, subst (λ (o : Option Location). (target_by d (meant_by o t)).addend < 2 ^ 32) found h.addend)

pub elsewhere_fits : (d : Draft) (t : text.Target) (name : List ℕ) → name ≡ t.mark.name → place_of d name ≡ None → FitsTarget d t → length d.segments + position_of name (externals_of d) < 2 ^ 16
elsewhere_fits d t name e f h =
    let none : place_of d t.mark.name ≡ None = ap (place_of d) (sym e) ∙ f in
    subst (λ (n : List ℕ). length d.segments + position_of n (externals_of d) < 2 ^ 16) (sym e) (subst (λ (o : Option Location). (target_by d (meant_by o t)).index < 2 ^ 16) none h.index)
