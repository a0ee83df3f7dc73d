-- The set of some groups covers what they can touch.
use Rattle.std.proofs.Common.{◌≡◌, ℕ, zero, suc, ◌%◌, ◌^◌, ◌<◌, ◌≤◌, ◌↔◌, Bool, true, false, ◌&&◌, ◌||◌, nat_le, nat_lt}
use Rattle.std.proofs.Common.{IsTrue, List, [], ◌∷◌, refl, sym, arith, eqb-true, eq-eqb}
use Rattle.std.proofs.lemmas.Bool.{and_parts, and_from, leb-true, ltb-true, le-leb, lt-ltb}
use Rattle.std.specs.Int.{bit_at}
use Rattle.mm_word.proofs.Segments.{segment_below}
use Rattle.mm_model.specs.{Image.Image, Spelling.IsImage, Reach.{Entries, Grants, CanTouch, Entries.All}, Worlds.Touchable}
use Rattle.mm_model.specs.declared.word_use.WordUse.TheVariants.{Touch}
use Rattle.mm_seg.specs.Segments.{Covered, At, end_of}
use Rattle.mm_audit.specs.{Own.{CoversTouched, is_covered}, declared.span.Span.Span, Spans.{AreSpans, span_at}}
use Rattle.mm_audit.specs.Walks.{outermost}
use Rattle.mm_audit.proofs.{MaximalSpans.{use_span, span_use, covered_use, use_covered}, Sharing.shares_test}
use Rattle.mm_audit.proofs.GrantedSpans.{touch_use, spans_granted}
use Rattle.mm_audit.proofs.{Granted.{granted-well_formed, granted-small}, Words.first_byte}

pub touch_small : (i : Image) (e : Entries) → IsImage i → (g w : ℕ) → CanTouch i e g w → w < 2 ^ 54
touch_small i e image g w t =
    let p = granted-well_formed i e image g t.by t.granted in
    segment_below t.by.log w t.by.addr p.log_in_range p.addr_in_range (first_byte t.by w t.loads.covers)

module _ (i : Image) (spans : List Span) (s : AreSpans i All spans) (groups : ℕ) (fits : groups < 2 ^ 64) where
  pub covers_touched : CoversTouched i groups (outermost Touch groups 0 spans)
  covers_touched w aligned small = (
    λ c.
        let u = covered_use (Grants i All) spans (spans_granted i All spans s) Touch groups w c in
        let t = (shares_test (span_at spans u.0).touch groups fits).0 u.2 in
        record {
          group = t.group;
          member = eq-eqb _ _ t.other;
          touches = (touch_use i All t.group w).1
              (span_use (Grants i All) spans (spans_granted i All spans s) Touch t.group w aligned
              (record { at = u.0; small = u.1; uses = t.one; low = u.3; high = u.4 }));
        },
    λ y.
        let u = use_span (Grants i All) spans (spans_granted i All spans s) Touch y.group w ((touch_use i All y.group w).0 y.touches) in
        use_covered (Grants i All) spans (spans_granted i All spans s) Touch groups w u.at u.small ((shares_test (span_at spans u.at).touch groups fits).1
        (record { group = y.group; one = u.uses; other = eqb-true _ _ y.member })) u.low u.high,
  )

-- the test of a set

within : (s : ℕ × ℕ) (w : ℕ) → (nat_le s.0 w && nat_lt w (end_of s)) ≡ true → (s.0 ≤ w) × (w < end_of s)
within s w h = let t = and_parts (nat_le s.0 w) (nat_lt w (end_of s)) h in (leb-true s.0 w t.0, ltb-true w (end_of s) t.1)

inside : (s : ℕ × ℕ) (w : ℕ) → s.0 ≤ w → w < end_of s → (nat_le s.0 w && nat_lt w (end_of s)) ≡ true
inside s w lo hi = and_from (nat_le s.0 w) (nat_lt w (end_of s)) (le-leb s.0 w lo) (lt-ltb w (end_of s) hi)

pub test_covers : (set : List (ℕ × ℕ)) (w : ℕ) → is_covered set w ≡ true → Covered set w
test_covers [] w h = cc
test_covers (s ∷ set) w h = by (nat_le s.0 w && nat_lt w (end_of s)) refl h (test_covers set w)
  where
    by : (b : Bool) → (nat_le s.0 w && nat_lt w (end_of s)) ≡ b → (b || is_covered set w) ≡ true → (is_covered set w ≡ true → Covered set w) → Covered (s ∷ set) w
    by true t y later = let p = within s w t in record { by = 0; at = (omega arith, p.0, p.1) }
    by false f y later = let r = later y in record { by = suc r.by; at = (let lt = r.at.0 in omega arith, r.at.1, r.at.2) }

pub covers_test : (set : List (ℕ × ℕ)) (w k : ℕ) → At set k w → is_covered set w ≡ true
covers_test [] w k h = absurd (let lt = h.0 in omega arith)
covers_test (s ∷ set) w zero h = first (nat_le s.0 w && nat_lt w (end_of s)) (inside s w h.1 h.2)
  where
    first : (b : Bool) → b ≡ true → (b || is_covered set w) ≡ true
    first true t = refl
    first false t = cc
covers_test (s ∷ set) w (suc k) h = rest (nat_le s.0 w && nat_lt w (end_of s)) (covers_test set w k (let lt = h.0 in omega arith, h.1, h.2))
  where
    rest : (b : Bool) → is_covered set w ≡ true → (b || is_covered set w) ≡ true
    rest true t = refl
    rest false t = t

pub covers_is : (set : List (ℕ × ℕ)) (w : ℕ) (r : Bool) → IsTrue r ↔ Covered set w → r ≡ is_covered set w
covers_is set w true h = let x = h.0 refl in sym (covers_test set w x.by x.at)
covers_is set w false h = none (is_covered set w) (λ t. let no_way : ◌≡◌ {A = Bool} false true = h.1 (test_covers set w t) in cc)
  where
    none : (b : Bool) → (b ≡ true → ⊥) → false ≡ b
    none true f = absurd (f refl)
    none false f = refl

-- the groups of a list
pub test_touches : (i : Image) → IsImage i → (c : ℕ → Bool) (mask : ℕ) → ((g : ℕ) → (bit_at mask g ≡ 1) ↔ ((g < 64) × (c g ≡ true))) → (set : List (ℕ × ℕ)) → CoversTouched i mask set
    → (w : ℕ) → w % 8 ≡ 0 → w < 2 ^ 54 → (is_covered set w ≡ true) ↔ Touchable i All c w
test_touches i image c mask is_mask set covers w aligned small = (
  λ t. let y = (covers w aligned small).0 (test_covers set w t) in record { group = y.group; member = ((is_mask y.group).0 (eqb-true _ _ y.member)).1; touches = y.touches },
  λ t.
      let lt = granted-small i All image t.group t.touches.by t.touches.granted in
      let y = (covers w aligned small).1 (record { group = t.group; member = eq-eqb _ _ ((is_mask t.group).1 (lt, t.member)); touches = t.touches }) in
      covers_test set w y.by y.at,
)
