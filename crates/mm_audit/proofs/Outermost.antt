-- The outermost spans of groups are disjoint, and hold all spans of these groups.
use Rattle.std.proofs.Common.{◌≡◌, ℕ, zero, suc, ◌<◌, ◌≤◌, ◌⊎◌, inl, inr, Bool, true, false, not, ◌==◌, ◌&&◌, nat_le}
use Rattle.std.proofs.Common.{bit_and, if◌then◌else◌, List, [], ◌∷◌, length, refl, sym, ap, subst, arith, pow_pos}
use Rattle.std.proofs.lemmas.Bool.{and_parts, leb-true, leb-false}
use Rattle.mm_model.specs.declared.word_use.WordUse.{WordUse}
use Rattle.mm_audit.specs.{declared.span.Span.Span, Spans.{AreInOrder, mask, segment_of, span_at, base_at, end_at}}
use Rattle.mm_audit.specs.Walks.{is_next, outermost}
use Rattle.mm_seg.specs.Segments.{IsSegment, IsSet, SomeHolds, segment_at, end_of}

pub order_rest : (s : Span) (spans : List Span) → AreInOrder (s ∷ spans) → AreInOrder spans
order_rest s spans o = record {
  segments = λ n lt. o.segments (suc n) (omega arith);
  rise = λ m n lt small. o.rise (suc m) (suc n) (omega arith) (omega arith);
  nested = λ m n lt small. o.nested (suc m) (suc n) (omega arith) (omega arith);
}

behind : (a b : Bool) → a ≡ true → (a && b) ≡ false → b ≡ false
behind true b t e = e
behind false b t e = cc

module _ (how : WordUse) (groups : ℕ) where
  -- one of the groups uses the span
  abbrev pub is_of : Span → Bool
  is_of s = not (bit_and (mask how s) groups == 0)

  -- a segment is that of a span that one of the groups uses, and does not begin before the address
  pub record FromSpan (from : ℕ) (spans : List Span) (t : ℕ × ℕ) : Type 0 where
    pub at : ℕ
    pub small : at < length spans
    pub uses : is_of (span_at spans at) ≡ true
    pub is : t ≡ segment_of (span_at spans at)
    pub low : from ≤ t.0

  later : (from upto : ℕ) (s : Span) (spans : List Span) (t : ℕ × ℕ) → from ≤ upto → FromSpan upto spans t → FromSpan from (s ∷ spans) t
  later from upto s spans t le f = record { at = suc f.at; small = (let a = f.small in omega arith); uses = f.uses; is = f.is; low = (let a = f.low in omega arith) }

  next_low : (from : ℕ) (s : Span) → is_next how groups from s ≡ true → (is_of s ≡ true) × (from ≤ s.base)
  next_low from s e = let p = and_parts (is_of s) (nat_le from s.base) e in (p.0, leb-true from s.base p.1)

  abbrev Out : Bool → ℕ → Span → List Span → List (ℕ × ℕ)
  Out b from s spans = if b then segment_of s ∷ outermost how groups (end_of (segment_of s)) spans else outermost how groups from spans

  abbrev AllFrom : ℕ → List Span → Type 0
  AllFrom from spans = (n : ℕ) → n < length (outermost how groups from spans) → FromSpan from spans (segment_at (outermost how groups from spans) n)

  from_more : (from : ℕ) (s : Span) (spans : List Span) → ((upto : ℕ) → AllFrom upto spans) → (b : Bool)
      → is_next how groups from s ≡ b → (n : ℕ) → n < length (Out b from s spans) → FromSpan from (s ∷ spans)
      (segment_at (Out b from s spans) n)
  from_more from s spans all true e zero lt = let p = next_low from s e in record { at = 0; small = omega arith; uses = p.0; is = refl; low = p.1 }
  from_more from s spans all true e (suc n) lt =
      let p = next_low from s e in
      let low = p.1 in
      later from (end_of (segment_of s)) s spans (segment_at (outermost how groups (end_of (segment_of s)) spans) n) (omega arith) (all (end_of (segment_of s)) n (omega arith))
  from_more from s spans all false e n lt = later from from s spans (segment_at (outermost how groups from spans) n) (omega arith) (all from n lt)

  pub from_spans : (spans : List Span) (from : ℕ) → AllFrom from spans
  from_spans [] from n lt = absurd (omega arith)
  from_spans (s ∷ spans) from n lt = from_more from s spans (from_spans spans) (is_next how groups from s) refl n lt

  abbrev Rise : List (ℕ × ℕ) → Type 0
  Rise out = (i j : ℕ) → i < j → j < length out → end_of (segment_at out i) ≤ (segment_at out j).0

  rise_more : (from : ℕ) (s : Span) (spans : List Span) → ((upto : ℕ) → Rise (outermost how groups upto spans)) → (b : Bool) → Rise (Out b from s spans)
  rise_more from s spans all true i zero lt small = absurd (omega arith)
  rise_more from s spans all true zero (suc j) lt small = (from_spans spans (end_of (segment_of s)) j (omega arith)).low
  rise_more from s spans all true (suc i) (suc j) lt small = all (end_of (segment_of s)) i j (omega arith) (omega arith)
  rise_more from s spans all false i j lt small = all from i j lt small

  rises : (spans : List Span) (from : ℕ) → Rise (outermost how groups from spans)
  rises [] from i j lt small = absurd (omega arith)
  rises (s ∷ spans) from i j lt small = rise_more from s spans (rises spans) (is_next how groups from s) i j lt small

  pub outermost_set : (spans : List Span) (from : ℕ) → AreInOrder spans → IsSet (outermost how groups from spans)
  outermost_set spans from o = record { segments = λ k lt. let f = from_spans spans from k lt in subst IsSegment (sym f.is) (o.segments f.at f.small); rise = rises spans from }

  -- what begins before the address ends by it
  abbrev EndsBy : ℕ → List Span → Type 0
  EndsBy from spans = (k : ℕ) → k < length spans → base_at spans k < from → end_at spans k ≤ from

  -- each span of the groups ends by the address, or lies in one of the segments
  abbrev AllHeld : ℕ → List Span → List (ℕ × ℕ) → Type 0
  AllHeld from spans out = (k : ℕ) → k < length spans → is_of (span_at spans k) ≡ true → (end_at spans k ≤ from) ⊎ SomeHolds out (segment_of (span_at spans k))

  held_more : (from : ℕ) (s : Span) (spans : List Span) → AreInOrder (s ∷ spans) → EndsBy from (s ∷ spans) → ((upto : ℕ) → EndsBy upto spans → AllHeld upto spans (outermost how groups upto spans))
      → (b : Bool) → is_next how groups from s ≡ b → AllHeld from (s ∷ spans) (Out b from s spans)
  held_more from s spans o ends all true e zero lt u = inr (record { at = 0; small = omega arith; within = (omega arith, omega arith) })
  held_more from s spans o ends all true e (suc k) lt u =
      elim (all (end_of (segment_of s)) (λ n small. o.nested 0 (suc n) (omega arith) (omega arith)) k (omega arith) u) [
        | inl inside ↦ inr (record { at = 0; small = omega arith; within = (o.rise 0 (suc k) (omega arith) lt, inside) })
        | inr h ↦ inr (record { at = suc h.at; small = (let a = h.small in omega arith); within = h.within })
      ]
  held_more from s spans o ends all false e zero lt u = inl (ends 0 (omega arith) (leb-false from s.base (behind (is_of s) (nat_le from s.base) u e)))
  held_more from s spans o ends all false e (suc k) lt u = all from (λ n small. ends (suc n) (omega arith)) k (omega arith) u

  held_from : (spans : List Span) (from : ℕ) → AreInOrder spans → EndsBy from spans → AllHeld from spans (outermost how groups from spans)
  held_from [] from o ends k lt u = absurd (omega arith)
  held_from (s ∷ spans) from o ends k lt u = held_more from s spans o ends (λ upto e. held_from spans upto (order_rest s spans o) e) (is_next how groups from s) refl k lt u

  -- each span of the groups lies in one of the segments
  pub outermost_holds : (spans : List Span) → AreInOrder spans → (k : ℕ) → k < length spans → is_of (span_at spans k) ≡
      true → SomeHolds (outermost how groups 0 spans) (segment_of (span_at spans k))
  outermost_holds spans o k lt u = elim (held_from spans 0 o (λ n small low. absurd (omega arith)) k lt u) [ inl none ↦ absurd (let room = pow_pos (span_at spans k).log in omega arith) | inr h ↦ h ]

-- where two groups use the same spans, they have the same segments
module _ (how : WordUse) (one other : ℕ) where
  agree_more : (from : ℕ) (s : Span) (spans : List Span) → ((upto : ℕ) → outermost how one upto spans ≡ outermost
      how other upto spans) → (a b : Bool) → a ≡ b → Out how one a from s spans ≡ Out how other b from s spans
  agree_more from s spans all true true e = ap (λ l. segment_of s ∷ l) (all (end_of (segment_of s)))
  agree_more from s spans all true false e = cc
  agree_more from s spans all false true e = cc
  agree_more from s spans all false false e = all from

  pub outermost_agree : (spans : List Span) (from : ℕ)
      → ((n : ℕ) → n < length spans → is_of how one (span_at spans n) ≡ is_of how other (span_at spans n))
      → outermost how one from spans ≡ outermost how other from spans
  outermost_agree [] from same = refl
  outermost_agree (s ∷ spans) from same =
      agree_more from s spans (λ upto. outermost_agree spans upto (λ n lt. same (suc n) (omega arith))) (is_next how one from s) (is_next how other from s)
      (ap (λ b. b && nat_le from s.base) (same 0 (omega arith)))
