use Rattle.std.proofs.Common.{◌≡◌, ℕ, ◌+◌, ◌<◌, Bool, true, false, not, cond, List, ◌∷◌, Option, Some, drop, length}
use Rattle.std.proofs.Common.{get_or, sym, ap, subst, ◌∙◌, arith}
use Rattle.std.proofs.lemmas.{List.{drop_more, drop_all}, Result.err_from_is_err_and}
use Rattle.mm_format.{specs.{Formats.{answer, first_late, Parsed.{Got, Bad}}, Reading.FailsOr}, proofs.Loops.late_stop}
use Rattle.mm_object.specs.{declared.target.Target.Target, Answers.number_of, Format.{is_unused, use_tests}}
use Rattle.mm_object.specs.Objects.{targets_of}
use Rattle.mm_object.proofs.reading.test_uses.Goals as goal

module _ (targets : List Target) (start own k offset : ℕ) (names : List (List ℕ)) where
  abbrev rest : List ℕ → Option (ℕ × ℕ)
  rest n = first_late start (use_tests targets (own + (k + 1)) (offset + (1 + length n)) (drop (k + 1) names))

  step : (n : List ℕ) → k < length names → n ≡ get_or names k n
      → first_late start (use_tests targets (own + k) offset (drop k names))
      ≡ cond (is_unused targets (own + k)) (Some (5, start + offset)) (rest n)
  step n lt is =
      let next : own + k + 1 ≡ own + (k + 1) = omega arith in
      ap (λ ns. first_late start (use_tests targets (own + k) offset ns)) (drop_more names k n lt)
      ∙ ap (λ (x : List ℕ). first_late start (use_tests targets (own + k) offset (x ∷ drop (k + 1) names))) (sym is)
      ∙ ap (λ i. cond (is_unused targets (own + k)) (Some (5, start + offset))
      (first_late start (use_tests targets i (offset + (1 + length n)) (drop (k + 1) names)))) next

pub loop-k-init : goal.loop-k-init
loop-k-init c =
    let none : c.args.segments + 0 ≡ c.args.segments = omega arith in
    record {
      tests = ap (λ i. first_late c.args.start
          (use_tests (targets_of c.args.relocs.now c.args.threads.now) i 0 c.args.externals.now)) none;
      small = omega arith;
    }

pub returns-in_err-refuse_if : goal.returns-in_err-refuse_if
returns-in_err-refuse_if c =
    let p = err_from_is_err_and c.from_residual.result c.from_residual.ensures.1 in
    let l = c.loop-k in
    let names = c.args.externals.now in
    let targets = targets_of c.args.relocs.now c.args.threads.now in
    let n = c.index-externals-k.result in
    let e = c.in_err-refuse_if.field-0.0 in
    let used = ap not (c.uses-used.ensures l.k (omega (arith, c.requires.few, c.loop-k-test.true))) in
    let fails = subst (λ (b : Bool). FailsOr ⊥ number_of (cond b (Bad 5 (c.args.start + l.offset)) (Got false 0)) e) used
    c.in_err-refuse_if.ensures.fault in
    rw (p.1, p.2) (late_stop number_of (is_unused targets (c.args.segments + l.k)) 5 (c.args.start + l.offset)
    (rest targets c.args.start c.args.segments l.k l.offset names n) _ true 0
    (sym (step targets c.args.start c.args.segments l.k l.offset names n c.loop-k-test.true c.index-externals-k.is)
    ∙ l.invariant.tests) _ e fails)

pub loop-k-preserved : goal.loop-k-preserved
loop-k-preserved c =
    let l = c.loop-k in
    let names = c.args.externals.now in
    let targets = targets_of c.args.relocs.now c.args.threads.now in
    let n = c.index-externals-k.result in
    let right = sym (ap not (c.uses-used.ensures l.k (omega (arith, c.requires.few, c.loop-k-test.true))))
    ∙ c.in_ok-refuse_if.ensures.right in
    let others = rest targets c.args.start c.args.segments l.k l.offset names n in
    record {
      tests = ap (λ size. first_late c.args.start
          (use_tests targets (c.args.segments + (l.k + 1)) (l.offset + size) (drop (l.k + 1) names)))
          c.name_size-offset.ensures.size
          ∙ sym (ap (λ b. cond b (Some (5, c.args.start + l.offset)) others) right)
          ∙ sym (step targets c.args.start c.args.segments l.k l.offset names n c.loop-k-test.true c.index-externals-k.is)
          ∙ l.invariant.tests;
      small = omega (arith, l.invariant.small, c.name_size-offset.ensures.small);
    }

pub returns : goal.returns
returns c =
    let l = c.loop-k in
    let targets = targets_of c.args.relocs.now c.args.threads.now in
    ap (λ o. answer o true 0) (sym l.invariant.tests
    ∙ ap (λ ns. first_late c.args.start (use_tests targets (c.args.segments + l.k) l.offset ns))
    (drop_all l.k c.args.externals.now c.loop-k-test.false))
