-- Segments that are collected one by one.
use Rattle.std.proofs.Common.{◌≡◌, ℕ, ◌+◌, ◌/◌, ◌^◌, ◌<◌, ◌≤◌, inl, inr, ◌==◌, bit_or, bit_xor, List, [], ◌∷◌, ◌++◌}
use Rattle.std.proofs.Common.{length, length-append, refl, sym, ap, ◌∙◌, subst, arith}
use Rattle.std.{proofs.lemmas.List.{get_or_append_left, get_or_push}, specs.Int.bit_at}
use Rattle.mm_seg.{specs.Segments.{IsSet, IsSegment, IsBehind, segment_at, end_of}, proofs.Searches.same_or_below}
use Rattle.mm_model.specs.declared.word_use.WordUse.{WordUse}
use Rattle.mm_audit.specs.{declared.span.Span.Span, Spans.{mask, span_at}, GroupSets.{AreGroupSets, SameUsers}}
use Rattle.mm_audit.{specs.Walks.outermost, proofs.{Bits.{same_bit, half_bit, one_test}, Outermost.outermost_agree}}
use Rattle.mm_flow.proofs.Bits.{or_left, or_right}

module _ (s : ℕ × ℕ) (ys : List (ℕ × ℕ)) where
  in_middle : (xs : List (ℕ × ℕ)) → segment_at (xs ++ s ∷ ys) (length xs) ≡ s
  in_middle [] = refl
  in_middle (x ∷ xs) = in_middle xs

  longer : (xs : List (ℕ × ℕ)) → length xs < length (xs ++ s ∷ ys)
  longer xs = let e = length-append xs (s ∷ ys) in omega arith

  -- what stands before a segment of a set has ended where it begins
  pub next_segment : (xs all : List (ℕ × ℕ)) → IsSet all → all ≡ xs ++ s ∷ ys → IsSegment s
  next_segment xs all set e = subst IsSegment (in_middle xs) ((subst IsSet e set).segments (length xs) (longer xs))

  pub next_behind : (xs all : List (ℕ × ℕ)) → IsSet all → all ≡ xs ++ s ∷ ys → IsBehind xs s.0
  next_behind xs all set e k lt =
      let up = (subst IsSet e set).rise k (length xs) lt (longer xs) in
      subst (λ (v : ℕ × ℕ). end_of v ≤ s.0) (get_or_append_left xs (s ∷ ys) (0, 0) k lt) (subst (λ (v : ℕ × ℕ). end_of (segment_at (xs ++ s ∷ ys) k) ≤ v.0) (in_middle xs) up)

-- one span more
pub same_more : (spans : List Span) (how : WordUse) (all m k : ℕ) → ((g : ℕ) → (bit_at all g ≡ 1 → ⊥) → SameUsers spans how g (g + 1) k) → m ≡ mask how (span_at spans k)
    → (g : ℕ) → (bit_at (bit_or all (bit_xor m (m / 2))) g ≡ 1 → ⊥) → SameUsers spans how g (g + 1) (k + 1)
same_more spans how all m k same is g clear n lt = elim (same_or_below n k lt) [
  | inl less ↦ same g (λ bit. clear (or_left all (bit_xor m (m / 2)) g bit)) n less
  | inr e ↦ subst (λ v. bit_at (mask how (span_at spans v)) g ≡ bit_at (mask how (span_at spans v)) (g + 1)) (sym e)
      (subst (λ v. bit_at v g ≡ bit_at v (g + 1)) is (same_bit m (m / 2) g (λ bit. clear (or_right all (bit_xor m (m / 2)) g bit)) ∙ half_bit m g))
]

-- one set more
pub sets_more : (spans : List Span) (how : WordUse) (g : ℕ) (sets : List (List (ℕ × ℕ))) (set : List (ℕ × ℕ))
    → AreGroupSets spans how g sets → set ≡ outermost how (2 ^ g) 0 spans → AreGroupSets spans how (g + 1)
    (sets ++ set ∷ [])
sets_more spans how g sets set old new = record {
  len = (let e = length-append sets (set ∷ []) in let l = old.len in omega arith);
  each = λ h lt. elim (same_or_below h g lt) [
    | inl less ↦ get_or_append_left sets (set ∷ []) [] h (let l = old.len in omega arith) ∙ old.each h less
    | inr e ↦ get_or_push sets set [] h (old.len ∙ sym e) ∙ subst (λ v. set ≡ outermost how (2 ^ v) 0 spans) (sym e) new
  ];
}

-- a group that uses the same spans as the one before it has the same set
pub same_set : (spans : List Span) (how : WordUse) (g : ℕ) → SameUsers spans how g (g + 1) (length spans) → outermost how (2 ^ g) 0 spans ≡ outermost how (2 ^ (g + 1)) 0 spans
same_set spans how g same =
    outermost_agree how (2 ^ g) (2 ^ (g + 1)) spans 0
    (λ n lt. one_test (mask how (span_at spans n)) g ∙ ap (λ b. b == 1) (same n lt) ∙ sym (one_test (mask how (span_at spans n)) (g + 1)))
