-- The outermost spans of any group, also of one that no slot can have.
use Rattle.std.proofs.Common.{◌≡◌, ℕ, ◌^◌, ◌<◌, ◌≤◌, inl, inr, Bool, true, false, nat_lt, nat_le, not, ◌==◌, ◌&&◌}
use Rattle.std.proofs.Common.{if◌then◌else◌, List, [], ◌∷◌, refl, sym, ap, ◌∙◌, subst, arith}
use Rattle.std.{proofs.lemmas.Bool.{cases_lt, Decides.nat_tests}, specs.Int.Bits.and_zero_r}
use Rattle.mm_word.specs.Pointer.{Pointer}
use Rattle.mm_model.specs.declared.word_use.WordUse.{WordUse}
use Rattle.mm_audit.specs.{declared.span.Span.Span, Spans.{can, mask, segment_of}, Held.{AreMaximal, AreSpansOf}}
use Rattle.mm_audit.specs.Walks.{outermost, outermost_of, group_mask, is_next}
use Rattle.mm_audit.proofs.MaximalSpans.{are_maximal}
use Rattle.mm_seg.specs.Segments.{end_of}

none_next : (how : WordUse) (from : ℕ) (s : Span) → is_next how 0 from s ≡ false
none_next how from s = ap (λ v. not (v == 0) && nat_le from s.base) (and_zero_r (mask how s))

none_outermost : (how : WordUse) (spans : List Span) → outermost how 0 0 spans ≡ []
none_outermost how [] = refl
none_outermost how (s ∷ spans) =
    let skips : Bool → List (ℕ × ℕ) = λ next. if next then segment_of s ∷ outermost how 0 (end_of (segment_of s)) spans else outermost how 0 0 spans in
    ap skips (none_next how 0 s) ∙ none_outermost how spans

module _ (has : ℕ → Pointer → Type 0) (groups : (g : ℕ) (p : Pointer) → has g p → g < 64) (how : WordUse) (g : ℕ) where
  -- a group that no slot can have has nothing
  pub none_maximal : 64 ≤ g → AreMaximal has g (can how) []
  none_maximal le = record {
    ascending = tt;
    each = λ t. (
      λ m. absurd (omega (arith, m.1)),
      λ m. absurd (let lt = groups g m.held.by m.held.held in omega arith),
    );
  }

  module _ (spans : List Span) (are : AreSpansOf has spans) where
    by_mask : (m : ℕ) → group_mask g ≡ m → AreMaximal has g (can how) (outermost how m 0 spans) → AreMaximal has g (can how) (outermost_of how g spans)
    by_mask m is = subst (λ v. AreMaximal has g (can how) (outermost how v 0 spans)) (sym is)

    pub segments_of : AreMaximal has g (can how) (outermost_of how g spans)
    segments_of = elim (cases_lt g 64) [
      | inl lt ↦ let is : nat_lt g 64 ≡ true = grind (arith, nat_tests) in
          by_mask (2 ^ g) (ap (λ b. if b then 2 ^ g else 0) is) (are_maximal has spans are how g)
      | inr le ↦ let no : nat_lt g 64 ≡ false = grind (arith, nat_tests) in
          by_mask 0 (ap (λ b. if b then 2 ^ g else 0) no)
          (subst (AreMaximal has g (can how)) (sym (none_outermost how spans)) (none_maximal le))
    ]
