-- The sets of a survey are its audit.
use Rattle.std.proofs.{Common.{◌≡◌, ℕ, ◌%◌, ◌^◌, ◌≤◌, ◌↔◌, inl, inr, List, [], sym, subst, arith}, lemmas.Bool.cases_lt}
use Rattle.mm_model.specs.{Image.Image, Reach.{Entries, Grants}, Audit.MaximalSegments}
use Rattle.mm_model.specs.declared.word_use.WordUse.{WordUse, TheVariants.{Touch, Write}}
use Rattle.mm_seg.specs.Segments.{IsSet, Covered}
use Rattle.mm_audit.specs.{Audits.{Audits, set_of}, GroupSets.AreGroupSets, Spans.can, Surveys.{SurveyValue, Surveys}}
use Rattle.mm_audit.specs.{Held.{CanUse, AreSpansOf}, Walks.outermost}
use Rattle.mm_audit.proofs.{MaximalSpans.{are_maximal, group_covers}, GroupSegments.none_maximal}
use Rattle.mm_audit.proofs.GrantedSpans.{touch_use, write_use, spans_granted, maximal_granted}
use Rattle.mm_audit.proofs.{Granted.granted-small, Outermost.outermost_set, Reading.{empty_past, past}}

empty_set : IsSet []
empty_set = record { segments = λ k lt. absurd (omega arith); rise = λ m n up lt. absurd (omega arith) }

module _ (i : Image) (e : Entries) (s : SurveyValue) (h : Surveys i e s) where
  are : AreSpansOf (Grants i e) s.spans
  are = spans_granted i e s.spans h.spans

  module _ (how : WordUse) (sets : List (List (ℕ × ℕ))) (own : AreGroupSets s.spans how 64 sets) where
    empty : (g : ℕ) → 64 ≤ g → set_of sets g ≡ []
    empty g le = empty_past sets g (let len = own.len in omega arith)

    maximal : (g : ℕ) → MaximalSegments i e g (can how) (set_of sets g)
    maximal g = elim (cases_lt g 64) [
      | inl lt ↦ subst (MaximalSegments i e g (can how)) (sym (own.each g lt)) (maximal_granted i e g (can how) (outermost how (2 ^ g) 0 s.spans) (are_maximal (Grants i e) s.spans are how g))
      | inr le ↦ subst (MaximalSegments i e g (can how)) (sym (empty g le))
          (maximal_granted i e g (can how) [] (none_maximal (Grants i e) (granted-small i e h.image) how g le))
    ]

    set_is : (g : ℕ) → IsSet (set_of sets g)
    set_is g = elim (cases_lt g 64) [
      | inl lt ↦ subst IsSet (sym (own.each g lt)) (outermost_set how (2 ^ g) s.spans 0 h.spans.order)
      | inr le ↦ subst IsSet (sym (empty g le)) empty_set
    ]

    covers : (g w : ℕ) → w % 8 ≡ 0 → Covered (set_of sets g) w ↔ CanUse (Grants i e) how g w
    covers g w aligned = elim (cases_lt g 64) [
      | inl lt ↦ subst (λ v. Covered v w ↔ CanUse (Grants i e) how g w) (sym (own.each g lt)) (group_covers (Grants i e) s.spans are how g w aligned)
      | inr le ↦ (λ c. absurd (past sets g w (let len = own.len in omega arith) c), λ u. absurd (let lt = granted-small i e h.image g u.by u.held in omega arith))
    ]

  pub audits : (touch write : List (List (ℕ × ℕ))) → AreGroupSets s.spans Touch 64 touch → AreGroupSets s.spans Write 64 write
      → Audits i e (record { privileged = s.privileged; touch = touch; write = write; served = s.served; least = s.least })
  audits touch write t w = record {
    image = h.image;
    served = h.served;
    least = h.least;
    touch_len = t.len;
    write_len = w.len;
    touch_sets = set_is Touch touch t;
    write_sets = set_is Write write w;
    privileged = h.privileged;
    touch_covers = λ g a aligned small. let c = covers Touch touch t g a aligned in (λ y. (touch_use i e g a).1 (c.0 y), λ y. c.1 ((touch_use i e g a).0 y));
    write_covers = λ g a aligned small. let c = covers Write write w g a aligned in (λ y. (write_use i e g a).1 (c.0 y), λ y. c.1 ((write_use i e g a).0 y));
    touch_maximal = maximal Touch touch t;
    write_maximal = maximal Write write w;
  }
