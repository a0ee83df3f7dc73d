-- What a text means is an object, where its draft is within its bounds.
use Rattle.std.proofs.Common.{◌≡◌, ◌⊎◌, ℕ, zero, suc, ◌+◌, ◌*◌, ◌^◌, ◌<◌, ◌≤◌, true, false, not, ◌==◌, List, [], ◌∷◌}
use Rattle.std.proofs.Common.{map, length, get_or, slice_get, Option, Some, None, is_some, refl, sym, ap, ◌∙◌, subst}
use Rattle.std.proofs.{Common.{inl, inr, arith}, lemmas.{List.length-map, Bool.{eq-eqb, Decides.nat_tests}}}
use Rattle.std.specs.List.{flat_map, list_any, list_all, AllByRecursion, Sorted.IsStrictlyIncreasing}
use Rattle.mm_model.proofs.CoreRows.{into_map}
use Rattle.mm_draft.specs.{declared.location.Location.Location, Drafts.{Draft, place_of}}
use Rattle.mm_object.specs.{declared.{target.{Target.Target, Reloc.Reloc}, thread.Thread.Thread}, Names.is_name}
use Rattle.mm_object.specs.Objects.{IsObject, IsSegment, IsNumber, names_of, is_among, are_apart, is_target, is_reloc}
use Rattle.mm_object.specs.Objects.{is_thread, place_of as reloc_place, targets_of}
use Rattle.mm_object.proofs.Members.{In, in_left, in_right, in_map, in_flat, from_flat, each_in, each_from}
use Rattle.mm_asm.specs.Names.{Use, meant_by, segment_uses, thread_uses, uses_of, is_external, name_of, externals_of}
use Rattle.mm_asm.specs.Names.{position_of}
use Rattle.mm_asm.specs.Meaning.{segment_of, target_by, target_of, segments_relocs, thread_of, by_slot, object_of}
use Rattle.mm_asm.specs.{Faults.late_failures, Bounds.IsDraft}
use Rattle.mm_asm.proofs.{Lists.{passes, any_found, none_found}, Order.{rising_ascends, each_among, position_at}}
use Rattle.mm_asm.proofs.{ExternalNames.externals_each, Uses.{in_merge, from_merge, uses_placed}}
use Rattle.mm_asm.proofs.Targets.{externals_rising, segments_of, external_count, few_externals, targets_are}
use Rattle.mm_asm.proofs.Relocs.{RisesWithin, as_many, rises, segments_rise, segments_count, segments_targets}
use Rattle.mm_asm.proofs.Relocs.{segments_replace}
use Rattle.mm_asm.proofs.ThreadRows.{numbers, sixteen, thread_targets, thread_points, thread_is, each_by_slot}
use Rattle.mm_asm.proofs.{ThreadRows.{in_by_slot, by_slot_rises, slots_same}, Kept.each_stands}
use Rattle.mm_asm.proofs.Segments.{mark_name, names_same, words_same, words_in, segment_is}
use Rattle.mm_draft.specs.Drafts as draft
use Rattle.mm_asm.specs.Bounds as bounds

module _ (d : Draft) (is_draft : IsDraft d) (late : late_failures d ≡ []) where
  abbrev relocs : List Reloc
  relocs = segments_relocs d 0 d.segments

  abbrev threads : List Thread
  threads = by_slot (map (thread_of d) d.threads)

  -- 1. Targets.

  pub in_words : (u : Use) → In u (flat_map segment_uses d.segments) → In u (uses_of d)
  unfolding uses_of
  in_words u m = in_merge u (flat_map segment_uses d.segments) (flat_map thread_uses d.threads) (inl m)

  pub in_threads : (u : Use) → In u (flat_map thread_uses d.threads) → In u (uses_of d)
  unfolding uses_of
  in_threads u m = in_merge u (flat_map segment_uses d.segments) (flat_map thread_uses d.threads) (inr m)

  either_place : (u : Use) → In u (uses_of d) → In u (flat_map segment_uses d.segments) ⊎ In u (flat_map thread_uses d.threads)
  unfolding uses_of
  either_place u m = from_merge u (flat_map segment_uses d.segments) (flat_map thread_uses d.threads) m

  target_is : (u : Use) → In u (uses_of d) → is_target (segments_of d) (external_count d) (target_of d u.target) ≡ true
  target_is u m = targets_are d late u m (uses_placed d u is_draft m)

  -- each target of the text is one of the object
  target_in : (u : Use) → In u (uses_of d) → In (target_of d u.target) (targets_of relocs threads)
  target_in u m =
      elim (either_place u m) [
        | inl l ↦
            in_left (target_of d u.target) (map (λ (r : Reloc). r.target) relocs) (flat_map (thread_targets d) threads)
            (subst (In (target_of d u.target)) (sym (segments_targets d 0 d.segments)) (in_map (λ (v : Use). target_of d v.target) u (flat_map segment_uses d.segments) l))
        | inr r ↦
            let t = from_flat thread_uses u d.threads r in
            let is_thread : bounds.IsThread t.0 = each_in bounds.IsThread t.0 d.threads is_draft.threads.each t.1 in
            in_right (target_of d u.target) (map (λ (r : Reloc). r.target) relocs) (flat_map (thread_targets d) threads)
            (in_flat (thread_targets d) (thread_of d t.0) (target_of d u.target) threads
            (in_by_slot (thread_of d t.0) (map (thread_of d) d.threads) (in_map (thread_of d) t.0 d.threads t.1))
            (thread_points d t.0 is_thread u t.2))
      ]

  -- 2. Externals.

  no_place : (u : Use) (o : Option Location) → place_of d u.target.mark.name ≡ o → is_external d u ≡ true → o ≡ None
  no_place u None e h = refl
  no_place u (Some p) e h = absurd (let f = ap (λ (o : Option Location). not (is_some o)) (sym e) ∙ h in cc f)

  -- an external is the name of a target
  abbrev IsUsed : List ℕ → Type 0
  IsUsed name = (u : Use) × In u (uses_of d) × (is_external d u ≡ true) × (name ≡ name_of u)

  externals_used : AllByRecursion IsUsed (externals_of d)
  externals_used = externals_each d IsUsed (uses_of d) [] tt (λ u m e. (u, m, e, refl))

  externals_named : AllByRecursion (λ name. is_name name ≡ true) (externals_of d)
  externals_named = externals_each d (λ name. is_name name ≡ true) (uses_of d) [] tt (λ u m e. let h = uses_placed d u is_draft m in mark_name h.0 u.target.mark h.1.mark)

  abbrev Stands : List ℕ → Type 0
  Stands name = (p : Location) × (place_of d name ≡ Some p)

  segments_stand : AllByRecursion Stands (names_of (segments_of d))
  segments_stand = subst (AllByRecursion Stands) (sym (names_same d d.segments)) (into_map Stands (λ (s : draft.Segment). s.name) d.segments (each_stands d.names 0 d.segments is_draft.segments.named))

  externals_foreign : list_any (λ name. is_among name (names_of (segments_of d))) (externals_of d) ≡ false
  externals_foreign = none_found (λ name. is_among name (names_of (segments_of d))) (externals_of d) (λ name m among.
      let u = each_in IsUsed name (externals_of d) externals_used m in
      let stands : Stands name = each_among Stands name (names_of (segments_of d)) segments_stand among in
      let here : place_of d (name_of u.0) ≡ Some stands.0 = ap (place_of d) (sym u.3) ∙ stands.1 in
      let none = no_place u.0 (place_of d (name_of u.0)) refl u.2 in
      cc (here, none))

  get_in : (xs : List (List ℕ)) (i : ℕ) → i < length xs → In (get_or xs i []) xs
  get_in [] i lt = absurd (omega arith)
  get_in (x ∷ xs) zero lt = inl refl
  get_in (x ∷ xs) (suc i) lt = inr (get_in xs i (omega arith))

  external_used : (i : ℕ) → i < length (externals_of d) → list_any (λ (t : Target). t.index == length (segments_of d) + i) (targets_of relocs threads) ≡ true
  external_used i lt =
      let name : List ℕ = get_or (externals_of d) i [] in
      let u = each_in IsUsed name (externals_of d) externals_used (get_in (externals_of d) i lt) in
      let none = no_place u.0 (place_of d (name_of u.0)) refl u.2 in
      let place : position_of (name_of u.0) (externals_of d) ≡ i = ap (λ (n : List ℕ). position_of n (externals_of d)) (sym u.3) ∙ position_at (externals_of d) i (externals_rising d) lt in
      let index : (target_of d u.0.target).index ≡ length d.segments + position_of (name_of u.0) (externals_of d) = ap (λ (o : Option Location). (target_by d (meant_by o u.0.target)).index) none in
      let same : (target_of d u.0.target).index ≡ length (segments_of d) + i = omega (arith, index, place, length-map d.segments (segment_of d)) in
      any_found (λ (t : Target). t.index == length (segments_of d) + i) (target_of d u.0.target)
      (targets_of relocs threads) (target_in u.0 u.1)
      (eq-eqb (target_of d u.0.target).index (length (segments_of d) + i) same)

  -- 3. Threads.

  threads_rise : RisesWithin 0 16 (map (λ (t : Thread). t.slot) threads)
  threads_rise =
      by_slot_rises (map (thread_of d) d.threads) (subst bounds.AreApart (sym (slots_same d d.threads)) is_draft.threads.apart)
      (into_map (λ (t : Thread). t.slot < 16) (thread_of d) d.threads (each_from (λ (t : draft.Thread). t.slot < 16)
      d.threads (λ t m. let h : bounds.IsThread t = each_in bounds.IsThread t d.threads is_draft.threads.each m in
      h.slot)))

  -- what is true of each thread of the draft is true of each of the object
  each_thread : (P : Thread → Type 0) → ((t : draft.Thread) → In t d.threads → bounds.IsThread t → P (thread_of d t)) → AllByRecursion P threads
  each_thread P h = each_by_slot P (map (thread_of d) d.threads)
      (into_map P (thread_of d) d.threads (each_from (λ (t : draft.Thread). P (thread_of d t)) d.threads
      (λ t m. h t m (each_in bounds.IsThread t d.threads is_draft.threads.each m))))

  -- 4. The whole.

  segments_are : AllByRecursion IsSegment (segments_of d)
  segments_are = into_map IsSegment (segment_of d) d.segments
      (each_from (λ (s : draft.Segment). IsSegment (segment_of d s)) d.segments
      (λ s m. segment_is d is_draft s m (each_in bounds.IsSegment s d.segments is_draft.segments.each m)))

  relocs_are : list_all (is_reloc (segments_of d) (external_count d)) relocs ≡ true
  relocs_are = passes (is_reloc (segments_of d) (external_count d)) relocs (segments_replace d (external_count d) 0
      d.segments (λ i. let same : 0 + i ≡ i = omega arith in ap (slice_get d.segments) same)
      (λ u m. target_is u (in_words u m)))

  relocs_in_order : IsStrictlyIncreasing (map reloc_place relocs)
  relocs_in_order =
      let short : AllByRecursion (λ (s : draft.Segment). length s.words ≤ 2 ^ 32) d.segments = each_from
      (λ (s : draft.Segment). length s.words ≤ 2 ^ 32) d.segments (λ s m. let h = words_in s d.segments m in omega
      (arith, h, is_draft.segments.words)) in
      rises (0 * 2 ^ 32) ((0 + length d.segments) * 2 ^ 32) (map reloc_place relocs) (segments_rise d 0 d.segments short)

  threads_are : list_all (is_thread (segments_of d) (external_count d)) threads ≡ true
  threads_are = passes (is_thread (segments_of d) (external_count d)) threads (each_thread (λ (t : Thread). is_thread (segments_of d) (external_count d) t ≡ true) (λ t m h.
      thread_is d (segments_of d) (external_count d) t h (λ u n. target_is u (in_threads u (in_flat thread_uses t u d.threads m n)))))

  pub object_is : IsObject (object_of d)
  unfolding object_of
  object_is = record {
    few_segments = omega (arith, length-map d.segments (segment_of d), is_draft.segments.few);
    segments = segments_are;
    names = ap are_apart (names_same d d.segments) ∙ is_draft.segments.names;
    few_words = omega (arith, words_same d d.segments, is_draft.segments.words);
    few_externals = few_externals d late;
    externals = passes is_name (externals_of d) externals_named;
    rising = rising_ascends (externals_of d) (externals_rising d);
    foreign = externals_foreign;
    used = external_used;
    few_relocs = omega (arith, segments_count d 0 d.segments, is_draft.segments.pointers);
    relocs = relocs_are;
    in_order = relocs_in_order;
    few_threads = omega (arith, as_many 0 16 (map (λ (t : Thread). t.slot) threads) threads_rise, length-map threads (λ (t : Thread). t.slot));
    threads = threads_are;
    whole = each_thread (λ (t : Thread). length t.regs ≡ 16) (λ t m h. sixteen d t);
    slots = rises 0 16 (map (λ (t : Thread). t.slot) threads) threads_rise;
    integers = each_thread (λ (t : Thread). AllByRecursion IsNumber t.regs) (λ t m h. numbers d t h);
    few_spare = is_draft.spare;
  }
