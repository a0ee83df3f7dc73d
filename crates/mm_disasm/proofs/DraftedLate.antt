-- The draft has no late faults.
use Rattle.std.proofs.Common.{◌≡◌, ℕ, zero, suc, ◌+◌, ◌^◌, ◌<◌, ◌≤◌, Bool, true, false, not, ◌&&◌, nat_le, bytes_eq}
use Rattle.std.proofs.Common.{if◌then◌else◌, List, [], ◌∷◌, ◌++◌, length, slice_get, Option, Some, None, refl, sym, ap}
use Rattle.std.proofs.{Common.{◌∙◌, subst, inl, inr, arith}, lemmas.Bool.{lt-leb, Decides.nat_tests}}
use Rattle.std.{proofs.Math.Bool.and-false, specs.List.flat_map}
use Rattle.mm_asm.proofs.FirstSeen.{insert_new}
use Rattle.mm_asm.specs.Names.{Use, Meant, meant_by, uses_of, is_external, name_of, insert_name, with_use}
use Rattle.mm_asm.specs.Names.{externals_with}
use Rattle.mm_asm.specs.Faults.{goal_faults, content_faults, in_source, word_failures, goal_failures, is_outside}
use Rattle.mm_asm.specs.Faults.{meant_faults, use_failures, is_too_many, limit_failures, late_failures}
use Rattle.mm_line.specs.declared.{fault.Fault.TheVariants.{Range, Limit}, statement.Content.Content}
use Rattle.mm_draft.specs.{declared.{segment.Word.Word, location.Location.Location}, Drafts.Draft, Faults.fault_if}
use Rattle.mm_object.specs.{declared.{item.Item.Item, target.Reloc.Reloc}, Lookups.reloc_at, Names.is_before}
use Rattle.mm_object.{specs.Objects.{Segment, Object, IsObject, is_among, external_limit}, proofs.Members.In}
use Rattle.mm_disasm.proofs.{Saying.{IsBits, IsContentOf}, DraftedLines.clear, DraftedWords.AreWordsOf}
use Rattle.mm_disasm.proofs.{DraftedSegments.AreSegmentsOf, Drafted.IsDraftOf}
use Rattle.mm_disasm.proofs.{DraftedNames.{own_or_foreign, foreign_place}, DraftedUses.{use_target, target_is}}
use Rattle.mm_disasm.proofs.DraftedExternals.{externals_same, own_means}
use Rattle.mm_line.specs.declared.statement.Content.TheVariants as content
use Rattle.mm_draft.specs.Drafts as draft

none_of_both : {A : Type 0} (xs ys : List A) → xs ≡ [] → ys ≡ [] → xs ++ ys ≡ []
none_of_both xs ys e f = ap (λ zs. zs ++ ys) e ∙ f

none_of_each : {A B : Type 0} (f : A → List B) (xs : List A) → ((x : A) → In x xs → f x ≡ []) → flat_map f xs ≡ []
none_of_each f [] h = refl
none_of_each f (x ∷ xs) h = none_of_both (f x) (flat_map f xs) (h x (inl refl)) (none_of_each f xs (λ y m. h y (inr m)))

-- 1. Externals: one too many would leave too many.

module _ (d : Draft) where
  grows : (name : List ℕ) (names : List (List ℕ)) → length names ≤ length (insert_name name names)
  grows name [] = omega arith
  grows name (x ∷ names) = by (bytes_eq name x) (is_before name x) (grows name names)
    where
      by : (b c : Bool) → length names ≤ length (insert_name name names) →
          length (x ∷ names) ≤ length (if b then x ∷ names else if c then name ∷ x ∷ names else x ∷ insert_name name names)
      by true c later = omega arith
      by false true later = omega arith
      by false false later = omega (arith, later)

  more_uses : (uses : List Use) (names : List (List ℕ)) → length names ≤ length (externals_with d names uses)
  more_uses [] names = omega arith
  more_uses (u ∷ uses) names = by (is_external d u) (more_uses uses (with_use d u names))
    where
      by : (b : Bool) → length (if b then insert_name (name_of u) names else names) ≤ length (externals_with d names (u ∷ uses)) →
          length names ≤ length (externals_with d names (u ∷ uses))
      by true le = omega (arith, le, grows (name_of u) names)
      by false le = le

  pub limits_none : (uses : List Use) (names : List (List ℕ)) → length (externals_with d names uses) ≤ external_limit → limit_failures d names uses ≡ []
  limits_none [] names few = refl
  limits_none (u ∷ uses) names few =
      none_of_both (in_source u.source (fault_if (is_external d u && is_too_many names (name_of u)) Limit u.target.mark.left)) (limit_failures d (with_use d u names) uses)
      (ap (in_source u.source) (clear (is_external d u && is_too_many names (name_of u)) Limit u.target.mark.left
      (by (is_external d u) (is_among (name_of u) names) refl (more_uses uses (with_use d u names)))))
      (limits_none uses (with_use d u names) few)
    where
      below : (n : ℕ) → n < external_limit → (nat_le external_limit n && true) ≡ false
      below n lt = grind (arith, nat_tests)

      by : (b c : Bool) → is_among (name_of u) names ≡ c → length (if b then insert_name (name_of u) names else names) ≤ length (externals_with d names (u ∷ uses)) →
          (b && (nat_le external_limit (length names) && not c)) ≡ false
      by false c e le = refl
      by true true e le = and-false (nat_le external_limit (length names))
      by true false e le = below (length names) (omega (arith, le, few, insert_new (name_of u) names e))

module _ (o : Object) (is : IsObject o) (d : Draft) (drafted : IsDraftOf o d) where
  -- 2. No word has a label.

  bits_none : (segment bits : ℕ) (c : Content) → IsBits bits c → content_faults d segment c ≡ []
  bits_none segment bits (content.Constant c) h = refl
  bits_none segment bits (content.Code code) h = ap (goal_faults d segment) h.0

  content_none : (segment : ℕ) (found : Option Reloc) (bits : ℕ) (c : Content) → IsContentOf o found bits c → content_faults d segment c ≡ []
  content_none segment (Some r) bits c h = ap (content_faults d segment) h.1
  content_none segment None bits c h = bits_none segment bits c h

  words_none : (segment number k : ℕ) (items : List Item) (words : List Word) → AreWordsOf o number k items words → flat_map (word_failures d segment) words ≡ []
  words_none segment number k [] [] h = refl
  words_none segment number k [] (w ∷ words) h = absurd h
  words_none segment number k (item ∷ items) [] h = absurd h
  words_none segment number k (item ∷ items) (w ∷ words) h =
      none_of_both (word_failures d segment w) (flat_map (word_failures d segment) words)
      (ap (in_source w.source) (content_none segment (reloc_at o number k) item.bits w.content h.0.is_content))
      (words_none segment number (k + 1) items words h.1)

  goals_none : (segment number : ℕ) (segments : List Segment) (xs : List draft.Segment) → AreSegmentsOf o number segments xs → goal_failures d segment xs ≡ []
  goals_none segment number [] [] h = refl
  goals_none segment number [] (x ∷ xs) h = absurd h
  goals_none segment number (s ∷ segments) [] h = absurd h
  goals_none segment number (s ∷ segments) (x ∷ xs) h =
      none_of_both (flat_map (word_failures d segment) x.words) (goal_failures d (segment + 1) xs)
      (words_none segment number 0 s.items x.words h.0.words) (goals_none (segment + 1) (number + 1) segments xs h.1)

  -- 3. Each target is in its segment.

  segment_there : (number i : ℕ) (segments : List Segment) (xs : List draft.Segment) (s : Segment) → AreSegmentsOf o number segments xs → slice_get segments i ≡ Some s →
      (x : draft.Segment) × (slice_get xs i ≡ Some x) × (x.log ≡ s.log)
  segment_there number i [] xs s h e = absurd cc
  segment_there number i (y ∷ segments) [] s h e = absurd h
  segment_there number zero (y ∷ segments) (x ∷ xs) s h e = let same : y ≡ s = cc e in (x, refl, h.0.log ∙ ap (λ (z : Segment). z.log) same)
  segment_there number (suc i) (y ∷ segments) (x ∷ xs) s h e = segment_there (number + 1) i segments xs s h.1 e

  inside : (log offset : ℕ) → offset < 2 ^ log → nat_le (2 ^ log) offset ≡ false
  inside log offset lt = lt-leb (2 ^ log) offset lt

  use_none : (u : Use) → In u (uses_of d) → use_failures d u ≡ []
  use_none u m =
      let t = use_target o is d drafted u m in
      let left : ℕ = u.target.mark.left in
      elim (own_or_foreign o t.0 (target_is o is d drafted t.0 t.1)) [
        | inl own ↦
            let x = segment_there 0 t.0.index o.segments d.segments own.segment drafted.segments own.is in
            let low : t.0.addend < 2 ^ x.0.log = subst (λ (log : ℕ). t.0.addend < 2 ^ log) (sym x.2) own.inside in
            let outside : is_outside (slice_get d.segments t.0.index) t.0.addend ≡ false =
            ap (λ (found : Option draft.Segment). is_outside found t.0.addend) x.1 ∙ inside x.0.log t.0.addend low in
            ap (λ (place : Meant). in_source u.source (meant_faults d left place)) (own_means o is d drafted t.0 u.target own t.2)
            ∙ ap (in_source u.source) (clear (is_outside (slice_get d.segments t.0.index) t.0.addend) Range left outside)
        | inr foreign ↦
            ap (λ (found : Option Location). in_source u.source (meant_faults d left (meant_by found u.target))) (foreign_place o is d drafted t.0 u.target foreign t.2)
      ]

  -- 4. The whole.

  pub late_none : late_failures d ≡ []
  unfolding late_failures
  late_none =
      let goals = goals_none 0 0 o.segments d.segments drafted.segments in
      let uses = none_of_each (use_failures d) (uses_of d) use_none in
      let limits = limits_none d (uses_of d) [] (omega (arith, ap length (externals_same o is d drafted), is.few_externals)) in
      none_of_both (goal_failures d 0 d.segments ++ flat_map (use_failures d) (uses_of d)) (limit_failures d [] (uses_of d))
      (none_of_both (goal_failures d 0 d.segments) (flat_map (use_failures d) (uses_of d)) goals uses) limits
