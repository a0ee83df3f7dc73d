-- The words and names of a draft have their places in its object.
use Rattle.std.proofs.Common.{◌≡◌, ℕ, zero, suc, ◌+◌, ◌<◌, ◌≤◌, true, List, [], ◌∷◌, length, get_or, sym, ap, ◌∙◌}
use Rattle.std.{proofs.Common.{subst, arith}, specs.List.{list_all, AllByRecursion}}
use Rattle.mm_isa.{specs.Table.FitInWord, proofs.Operands.fields_fit}
use Rattle.mm_line.specs.{Ranges.IsContent, declared.statement.Content.Content}
use Rattle.mm_draft.specs.{declared.segment.Word.Word, Drafts.Draft}
use Rattle.mm_object.{specs.{Names.is_name, Objects.IsObject}, proofs.Members.{each_in, each_from}}
use Rattle.mm_asm.specs.{Names.{Use, uses_of, externals_with}, Meaning.object_of, Bounds.{IsDraft, IsWord, IsSegment}}
use Rattle.mm_asm.{specs.Fits.{FitsContent, FitsWords, FitsSegment}, proofs.Segments.{words_in, fields_fit_with}}
use Rattle.mm_line.specs.declared.statement.Content.TheVariants as content

module _ (d : Draft) (is_draft : IsDraft d) where
  content_fits : (most k : ℕ) (c : Content) → k ≤ 131072 → IsContent most c → FitsContent d k c
  content_fits most k (content.Constant c) le h = tt
  content_fits most k (content.Code code) le h = fields_fit_with d is_draft k code.goal code.fields le (subst FitInWord h.fields.2 (fields_fit h.fields.0 h.fields.1))

  words_fit : (k : ℕ) (words : List Word) → k + length words ≤ 131072 → AllByRecursion IsWord words → FitsWords d k words
  words_fit k [] le h = tt
  words_fit k (w ∷ words) le h = (content_fits h.0.0 k w.content (omega arith) h.0.1, words_fit (k + 1) words (omega arith) h.1)

  pub segments_fit : AllByRecursion (FitsSegment d) d.segments
  segments_fit = each_from (FitsSegment d) d.segments (λ s m.
      let h : IsSegment s = each_in IsSegment s d.segments is_draft.segments.each m in
      record { name = h.name; words = words_fit 0 s.words (omega (arith, words_in s d.segments m, is_draft.segments.words)) h.words })

fits_from : (d : Draft) (k : ℕ) (words : List Word) (i : ℕ) (w : Word) → i < length words → w ≡ get_or words i w → FitsWords d k words → FitsContent d (k + i) w.content
fits_from d k [] i w lt is h = absurd (omega arith)
fits_from d k (x ∷ words) zero w lt is h =
    let same : k ≡ k + zero = omega arith in
    subst (λ n. FitsContent d n w.content) same (subst (λ (v : Word). FitsContent d k v.content) (sym is) h.0)
fits_from d k (x ∷ words) (suc i) w lt is h =
    let same : k + 1 + i ≡ k + suc i = omega arith in
    subst (λ n. FitsContent d n w.content) same (fits_from d (k + 1) words i w (omega arith) is h.1)

pub fits_at : (d : Draft) (words : List Word) (i : ℕ) (w : Word) → i < length words → w ≡ get_or words i w → FitsWords d 0 words → FitsContent d i w.content
fits_at d words i w lt is h =
    let same : 0 + i ≡ i = omega arith in
    subst (λ n. FitsContent d n w.content) same (fits_from d 0 words i w lt is h)

pub externals_named : (d : Draft) (uses : List Use) (names : List (List ℕ)) → IsObject (object_of d) → uses ≡ uses_of d → names ≡ externals_with d [] uses → list_all is_name names ≡ true
unfolding object_of
externals_named d uses names h e f = ap (list_all is_name) (f ∙ ap (externals_with d []) e) ∙ h.externals
