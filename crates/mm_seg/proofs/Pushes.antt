-- A set with one segment more at its end.
use Rattle.std.proofs.Common.{◌≡◌, ℕ, ◌+◌, ◌<◌, inl, inr, List, [], ◌∷◌, ◌++◌, length, length-append, refl, sym, subst}
use Rattle.std.{proofs.{Common.arith, lemmas.List.{get_or_append_left, get_or_push}}, specs.List.Contains}
use Rattle.mm_seg.specs.Segments.{IsSet, IsSegment, IsBehind, IsMaximal, LiesIn, segment_at}
use Rattle.mm_seg.proofs.{Inserts.{at_in, in_at, in_first, in_rest, in_cases}, Searches.same_or_below}

module _ (xs : List (ℕ × ℕ)) (s : ℕ × ℕ) where
  pub pushed_last : (k : ℕ) → k ≡ length xs → segment_at (xs ++ s ∷ []) k ≡ s
  pushed_last k e = get_or_push xs s (0, 0) k (sym e)

  pub pushed_before : (k : ℕ) → k < length xs → segment_at (xs ++ s ∷ []) k ≡ segment_at xs k
  pushed_before k lt = get_or_append_left xs (s ∷ []) (0, 0) k lt

  len : length (xs ++ s ∷ []) ≡ length xs + 1
  len = let e = length-append xs (s ∷ []) in omega arith

  pub pushed_set : IsSet xs → IsSegment s → IsBehind xs s.0 → IsSet (xs ++ s ∷ [])
  pushed_set set seg behind = record {
    segments = λ k lt. elim (same_or_below k (length xs) (let l = len in omega arith)) [
      | inl less ↦ subst IsSegment (sym (pushed_before k less)) (set.segments k less)
      | inr e ↦ subst IsSegment (sym (pushed_last k e)) seg
    ];
    rise = λ i j lt small. elim (same_or_below j (length xs) (let l = len in omega arith)) [
      | inl less ↦ rw (pushed_before i (omega arith), pushed_before j less) (set.rise i j lt less)
      | inr e ↦ rw (pushed_before i (omega arith), pushed_last j e) (behind i (omega arith))
    ];
  }

  -- nothing lies in a segment behind all others, nor has it others in it
  pub pushed_maximal : IsMaximal (s ∷ xs) (xs ++ s ∷ [])
  pushed_maximal = record {
    from = λ k lt. elim (same_or_below k (length xs) (let l = len in omega arith)) [
      | inl less ↦ in_rest s _ xs (subst (Contains xs) (sym (pushed_before k less)) (at_in xs k less))
      | inr e ↦ subst (Contains (s ∷ xs)) (sym (pushed_last k e)) (in_first s xs)
    ];
    holds = λ t h. elim (in_cases s t xs h) [
      | inl e ↦ record {
        at = length xs;
        small = (let l = len in omega arith);
        within = subst (λ v. LiesIn t v)
            (sym (pushed_last (length xs) refl)) (subst (λ v. LiesIn v s) (sym e) (omega arith, omega arith));
      }
      | inr m ↦
          let f = in_at xs t m in
          record {
            at = f.at;
            small = (let l = len in let lt = f.small in omega arith);
            within = subst (λ v. LiesIn t v)
                (sym (pushed_before f.at f.small)) (subst (λ v. LiesIn v (segment_at xs f.at)) (sym f.is)
                (omega arith, omega arith));
          }
    ];
  }
