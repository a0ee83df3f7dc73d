use Rattle.std.proofs.Common.{◌≡◌, ℕ, ◌+◌, ◌*◌, ◌<◌, Bool, true, cond, Option, Some, List, drop, length, get_or, sym}
use Rattle.std.proofs.{Common.{ap, subst, ◌∙◌}, lemmas.{List.{drop_more, drop_all}, Result.err_from_is_err_and}}
use Rattle.mm_model.specs.{Slot.Slot, Spelling.is_bad_handler}
use Rattle.mm_format.specs.{Formats.{answer, first_late, Parsed.{Got, Bad}}, Images.handler_tests, Reading.FailsOr}
use Rattle.mm_format.proofs.Loops.{late_stop}
use Rattle.mm_image.specs.Faults.{number_of}
use Rattle.mm_image.proofs.slots.test_handlers.Goals as goal

module _ (all : List Slot) (k : ℕ) where
  abbrev rest : Option (ℕ × ℕ)
  rest = first_late 16 (handler_tests all (k + 1) (drop (k + 1) all))

  abbrev place : ℕ
  place = 16 + (142 * k + 2)

  step : (s : Slot) → k < length all → s ≡ get_or all k s
      → first_late 16 (handler_tests all k (drop k all)) ≡ cond (is_bad_handler all s) (Some (7, place)) rest
  step s lt is =
      ap (λ xs. first_late 16 (handler_tests all k xs)) (drop_more all k s lt)
      ∙ ap (λ (x : Slot). cond (is_bad_handler all x) (Some (7, place)) rest) (sym is)

pub returns-in_err-refuse_if : goal.returns-in_err-refuse_if
returns-in_err-refuse_if c =
    let p = err_from_is_err_and c.from_residual.result c.from_residual.ensures.1 in
    let l = c.loop-k in
    let all = c.args.slots.now in
    let s = c.index-slots-k.result in
    let e = c.in_err-refuse_if.field-0.0 in
    let wrong = c.is_bad_handler-wrong.ensures all c.numbers-present.ensures in
    let fails = subst (λ (b : Bool). FailsOr ⊥ number_of (cond b (Bad 7 (place all l.k)) (Got Rattle.std.proofs.Common.false 0)) e) wrong
    c.in_err-refuse_if.ensures.fault in
    rw (p.1, p.2) (late_stop number_of (is_bad_handler all s) 7 (place all l.k) (rest all l.k) _ true 0
    (sym (step all l.k s c.loop-k-test.true c.index-slots-k.is) ∙ l.invariant) _ e fails)

pub loop-k-preserved : goal.loop-k-preserved
loop-k-preserved c =
    let l = c.loop-k in
    let all = c.args.slots.now in
    let right = sym (c.is_bad_handler-wrong.ensures all c.numbers-present.ensures) ∙ c.in_ok-refuse_if.ensures.right in
    sym (ap (λ b. cond b (Some (7, place all l.k)) (rest all l.k)) right)
    ∙ sym (step all l.k c.index-slots-k.result c.loop-k-test.true c.index-slots-k.is) ∙ l.invariant

pub returns : goal.returns
returns c =
    let l = c.loop-k in
    let all = c.args.slots.now in
    ap (λ o. answer o true 0)
    (sym (sym (ap (λ xs. first_late 16 (handler_tests all l.k xs)) (drop_all l.k all c.loop-k-test.false)) ∙ l.invariant))
