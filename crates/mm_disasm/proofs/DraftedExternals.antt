-- The externals of the draft are those of the object, and what its targets come to.
use Rattle.std.proofs.Common.{◌≡◌, ℕ, zero, suc, ◌+◌, ◌*◌, ◌<◌, true, not, ◌==◌, List, [], ◌∷◌, length, get_or, Option}
use Rattle.std.proofs.Common.{is_some, refl, sym, ap, ◌∙◌, subst, inl, inr, arith, bytes_eq}
use Rattle.std.proofs.lemmas.Bool.{eqb-true}
use Rattle.mm_draft.specs.{declared.location.Location.Location, Drafts.Draft}
use Rattle.mm_object.specs.{declared.target.Target.Target, Lookups.name_of_target, Names.is_before}
use Rattle.mm_object.specs.Objects.{Segment, Object, IsObject, is_among, is_target, targets_of}
use Rattle.mm_object.proofs.Members.{In, each_in, found}
use Rattle.mm_asm.specs.Names.{Use, Here, meant_by, meant, uses_of, is_external, name_of, externals_of, position_of}
use Rattle.mm_asm.specs.Meaning.{target_by, target_of}
use Rattle.mm_asm.proofs.Order.{before_all, not_itself, is_same, position_at}
use Rattle.mm_asm.proofs.{ExternalNames.{externals_each, used_among}, Targets.externals_rising}
use Rattle.mm_disasm.proofs.{Saying.IsTargetOf, DraftedOrder.{same_items, ascend_all}, DraftedSegments.AreSegmentsOf}
use Rattle.mm_disasm.proofs.Drafted.{IsDraftOf}
use Rattle.mm_disasm.proofs.DraftedNames.{IsOwn, IsForeign, own_or_foreign, foreign_name, own_place, foreign_place}
use Rattle.mm_disasm.proofs.DraftedUses.{use_target, target_use, target_is}
use Rattle.mm_line.specs.declared.statement.Target as text
use Rattle.mm_draft.specs.Drafts as draft

in_at : (names : List (List ℕ)) (name : List ℕ) → In name names → (i : ℕ) × (i < length names) × (name ≡ get_or names i [])
in_at [] name m = absurd m
in_at (x ∷ names) name (inl e) = (0, omega arith, e)
in_at (x ∷ names) name (inr m) = let h = in_at names name m in (suc h.0, omega (arith, h.1), h.2)

at_in : (names : List (List ℕ)) (i : ℕ) → i < length names → In (get_or names i []) names
at_in [] i lt = absurd (omega arith)
at_in (x ∷ names) zero lt = inl refl
at_in (x ∷ names) (suc i) lt = inr (at_in names i (omega arith))

among_in : (name : List ℕ) (names : List (List ℕ)) → is_among name names ≡ true → In name names
among_in name names h = let x = found (bytes_eq name) names h in subst (λ (n : List ℕ). In n names) (sym (is_same name x.0 x.2)) x.1

module _ (o : Object) (is : IsObject o) (d : Draft) (drafted : IsDraftOf o d) where
  -- 1. The externals.

  external_in : (u : Use) → In u (uses_of d) → is_external d u ≡ true → In (name_of u) o.externals
  external_in u m e =
      let h = use_target o is d drafted u m in
      elim (own_or_foreign o h.0 (target_is o is d drafted h.0 h.1)) [
        | inl own ↦
            let place = own_place o is d drafted h.0 u.target own h.2 in
            absurd (let f = ap (λ (found : Option Location). not (is_some found)) (sym place) ∙ e in cc f)
        | inr foreign ↦ subst (λ (n : List ℕ). In n o.externals) (sym (h.2.0 ∙ foreign_name o is d drafted h.0 foreign)) (at_in o.externals foreign.place foreign.low)
      ]

  own_externals : (name : List ℕ) → In name (externals_of d) → In name o.externals
  own_externals name m = each_in (λ n. In n o.externals) name (externals_of d) (externals_each d (λ n. In n o.externals) (uses_of d) [] tt external_in) m

  used_externals : (name : List ℕ) → In name o.externals → In name (externals_of d)
  used_externals name m =
      let at = in_at o.externals name m in
      let t = found (λ (t : Target). t.index == length o.segments + at.0) (targets_of o.relocs o.threads) (is.used at.0 at.1) in
      let u = target_use o is d drafted t.0 t.1 in
      let foreign : IsForeign o t.0 = record { place = at.0; is = eqb-true t.0.index (length o.segments + at.0) t.2; low = at.1 } in
      let same : name_of u.0 ≡ name = u.2.0 ∙ foreign_name o is d drafted t.0 foreign ∙ sym at.2 in
      let external : is_external d u.0 ≡ true = ap (λ (found : Option Location). not (is_some found)) (foreign_place o is d drafted t.0 u.0.target foreign u.2) in
      subst (λ (n : List ℕ). In n (externals_of d)) same (among_in (name_of u.0) (externals_of d) (used_among d u.0 (uses_of d) [] u.1 external))

  one_way : (a b : List ℕ) → is_before a b ≡ true → is_before b a ≡ true → ⊥
  one_way a b h k = not_itself a (before_all a b a h k)

  pub externals_same : externals_of d ≡ o.externals
  externals_same = same_items (λ a b. is_before a b ≡ true) one_way (externals_of d) o.externals (externals_rising d) (ascend_all o.externals is.rising) own_externals used_externals

  -- 2. Targets.

  same_length : (number : ℕ) (segments : List Segment) (xs : List draft.Segment) → AreSegmentsOf o number segments xs → length xs ≡ length segments
  same_length number [] [] h = refl
  same_length number [] (x ∷ xs) h = absurd h
  same_length number (s ∷ segments) [] h = absurd h
  same_length number (s ∷ segments) (x ∷ xs) h = ap suc (same_length (number + 1) segments xs h.1)

  -- a target in a segment means the segment and the offset
  pub own_means : (t : Target) (written : text.Target) → IsOwn o t → IsTargetOf o t written → meant d written ≡ Here t.index t.addend
  own_means t written own h =
      let offset : 8 * 0 + written.addend ≡ t.addend = omega (arith, h.1) in
      ap (λ (found : Option Location). meant_by found written) (own_place o is d drafted t written own h) ∙ ap (Here t.index) offset

  external_place : (t : Target) (foreign : IsForeign o t) → position_of (name_of_target o t) (externals_of d) ≡ foreign.place
  external_place t foreign =
      ap (λ (n : List ℕ). position_of n (externals_of d)) (foreign_name o is d drafted t foreign)
      ∙ ap (position_of (get_or o.externals foreign.place [])) externals_same
      ∙ position_at o.externals foreign.place (ascend_all o.externals is.rising) foreign.low

  -- what is written comes to the target
  pub target_same : (t : Target) (written : text.Target) → is_target o.segments (length o.externals) t ≡ true → IsTargetOf o t written → target_of d written ≡ t
  target_same t written inside h =
      elim (own_or_foreign o t inside) [
        | inl own ↦ ap (target_by d) (own_means t written own h)
        | inr foreign ↦
            let place = external_place t foreign in
            let position : position_of written.mark.name (externals_of d) ≡ foreign.place = ap (λ (n : List ℕ). position_of n (externals_of d)) h.0 ∙ place in
            let index : length d.segments + position_of written.mark.name (externals_of d) ≡ t.index = omega (arith, position, foreign.is, same_length 0 o.segments d.segments drafted.segments) in
            let addend = h.1 in
            ap (λ (found : Option Location). target_by d (meant_by found written)) (foreign_place o is d drafted t written foreign h)
            ∙ (λ i. let x : Target = record { index = index i; addend = addend i } in x)
      ]
