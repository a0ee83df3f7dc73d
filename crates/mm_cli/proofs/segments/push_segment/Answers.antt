use Rattle.std.proofs.Common.{◌≡◌, ◌+◌, ◌^◌, ◌≤◌, ℕ, length, sym, ◌∙◌, subst, arith}
use Rattle.std.{proofs.lemmas.Bool.{both_ways, eqb-true}, specs.List.AllByRecursion}
use Rattle.mm_cli.proofs.SegmentWords.{same_segment}
use Rattle.mm_cli.proofs.segments.push_segment.Goals.{then-is_full-via-then-is_full}
use Rattle.mm_cli.proofs.segments.push_segment.Goals.{then-is_full-via-else-is_full+then-not-ends_before}
use Rattle.mm_cli.proofs.segments.push_segment.Goals as goal

pub returns-then-is_full-clause-none : goal.returns-then-is_full-clause-none
returns-then-is_full-clause-none c none s next written =
    let segments = c.args.segments.now.items in
    let base = c.in_ok-base.base in
    let same : s ≡ (base, c.in_ok-base.log) = same_segment s (base, c.in_ok-base.log) next.follows.one c.in_ok-base.ensures.0 (sym written ∙ c.in_ok-base.ensures.1) in
    let after : AllByRecursion (λ (t : ℕ × ℕ). t.0 + 2 ^ t.1 ≤ base) segments =
    subst (λ (u : ℕ × ℕ). AllByRecursion (λ (t : ℕ × ℕ). t.0 + 2 ^ t.1 ≤ u.0) segments) same next.follows.after in
    elim c.then-is_full.branch [
      | then-is_full-via-then-is_full w ↦ let full : length segments ≡ 64 = eqb-true _ _ (sym c.is_full.ensures.value ∙ w.if-is_full.true) in omega (arith, full, next.room)
      | then-is_full-via-else-is_full+then-not-ends_before w ↦
          both_ways w.ends_before.result w.if-not-ends_before.true
          (w.ends_before.ensures.1 (subst (AllByRecursion (λ (t : ℕ × ℕ). t.0 + 2 ^ t.1 ≤ base)) (sym w.as_slice.ensures.value) after))
    ]
