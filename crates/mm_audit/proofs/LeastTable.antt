-- The words at which groups meet are the least that they share.
use Rattle.std.proofs.{Common.{ℕ, ◌+◌, ◌<◌, ◌≤◌, inl, inr, List, length, sym, subst, arith}, lemmas.Bool.cases_lt}
use Rattle.mm_word.specs.Pointer.{Pointer}
use Rattle.mm_model.specs.declared.word_use.WordUse.{WordUse, TheVariants.{Touch, Write}}
use Rattle.mm_seg.proofs.Searches.{same_or_below}
use Rattle.mm_audit.specs.{declared.{span.Span.Span, shared_words.Meets.Meets}, Spans.base_at}
use Rattle.mm_audit.specs.{Opening.IsLive, Meeting.{HaveMet, HasWord, MeetAt, word_at}}
use Rattle.mm_audit.specs.Held.{CanUse, AreSpansOf, IsLeastOf, IsTableOf}
use Rattle.mm_audit.proofs.{MaximalSpans.{UsedSpan, use_span, span_use}, Words.base_word}

module _ (has : ℕ → Pointer → Type 0) (groups : (g : ℕ) (p : Pointer) → has g p → g < 64) (spans : List Span) (a : AreSpansOf has spans)
    (table : List Meets) (m : HaveMet spans (length spans) table) where
  rises : (j k : ℕ) → j ≤ k → k < length spans → base_at spans j ≤ base_at spans k
  rises j k le lt = elim (same_or_below j k (omega arith)) [ inl less ↦ a.order.rise j k less lt | inr same ↦ subst (λ v. base_at spans j ≤ base_at spans v) same (omega arith) ]

  -- who is live at the base of a span uses it
  live_use : (how : WordUse) (g k : ℕ) → k < length spans → IsLive spans how (k + 1) (base_at spans k) g → CanUse has how g (base_at spans k)
  live_use how g k lt live =
      span_use has spans a how g (base_at spans k) (base_word _ (a.order.segments k lt))
      (record { at = live.span; small = (let s = live.small in omega arith); uses = live.uses; low = rises live.span k (let s = live.small in omega arith) lt; high = live.live })

  use_live : (how : WordUse) (g w k : ℕ) (u : UsedSpan spans how g w) → u.at ≤ k → base_at spans k ≤ w → IsLive spans how (k + 1) (base_at spans k) g
  use_live how g w k u le low = record { span = u.at; small = omega arith; uses = u.uses; live = (let h = u.high in omega arith) }

  -- Two groups that share a word meet at the base of the later of the two spans that have it.
  pub record MeetBefore (h g w : ℕ) : Type 0 where
    pub at : ℕ
    pub small : at < length spans
    pub low : base_at spans at ≤ w
    pub meet : MeetAt spans at h g

  meet_before : (h g w : ℕ) → UsedSpan spans Write h w → UsedSpan spans Touch g w → MeetBefore h g w
  meet_before h g w x y = elim (cases_lt x.at y.at) [
    | inl lt ↦ record { at = y.at; small = y.small; low = y.low; meet = record { writes = use_live Write h w y.at x (omega arith) y.low; touches = use_live Touch g w y.at y (omega arith) y.low } }
    | inr le ↦ record { at = x.at; small = x.small; low = x.low; meet = record { writes = use_live Write h w x.at x (omega arith) x.low; touches = use_live Touch g w x.at y le x.low } }
  ]

  shared_word : (h g w : ℕ) → CanUse has Write h w → CanUse has Touch g w → HasWord table h g × (word_at table h g ≤ w)
  shared_word h g w x y =
      let b = meet_before h g w (use_span has spans a Write h w x) (use_span has spans a Touch g w y) in
      let z = m.each b.at h g b.small (groups h x.by x.held) (groups g y.by y.held) b.meet in
      (z.0, let p = z.1 in let q = b.low in omega arith)

  pub least_table : IsTableOf has table
  least_table = record {
    len = m.rows.len;
    some = λ h g lt small marked.
        let x = m.some h g lt small marked in
        subst (IsLeastOf has h g) (sym x.is) (record {
          writes = live_use Write h x.span x.small x.meet.writes;
          touches = live_use Touch g x.span x.small x.meet.touches;
          least = λ v p q. let z = (shared_word h g v p q).1 in let is = x.is in omega arith;
        });
    each = λ h g w x y. (shared_word h g w x y).0;
  }
