use Rattle.std.proofs.Common.{◌≡◌, ◌+◌, ◌-◌, ◌*◌, ◌<◌, ◌≤◌, inl, inr, ℕ, take, drop, length, get_or, arith, subst, sym}
use Rattle.std.proofs.{Common.◌∙◌, lemmas.{List.take_rest, Bool.Decides.nat_tests}}
use Rattle.std.specs.{Char.IsAsciiDigit, Str.Parse.digits_value}
use Rattle.mm_sched.proofs.Numbers.{EndsAt, at_least, first_digit, no_leading_zero, digits_more, value_more}
use Rattle.mm_sched.proofs.Numbers.{begins_with, not_digit}
use Rattle.mm_sched.proofs.word.leading_number.Goals.{then-loop-end-test+else-is_ascii_digit, else-loop-end-test}
use Rattle.mm_sched.proofs.word.leading_number.Goals.{then-end-eq0-via-then-end-eq0}
use Rattle.mm_sched.proofs.word.leading_number.Goals.{then-end-eq0-via-else-end-eq0+then-text-eq48, then-end-gt1}
use Rattle.mm_sched.proofs.word.leading_number.Goals.{else-end-gt1}
use Rattle.mm_sched.proofs.word.leading_number.Goals as goal

pub returns-in_err-number-clause-none : goal.returns-in_err-number-clause-none
returns-in_err-number-clause-none c _ n rest le begins =
    let digit : IsAsciiDigit (get_or c.args.text.now c.loop-end.end 0) = c.if-is_ascii_digit.ensures.cases in
    let value : digits_value 10 (take (c.loop-end.end + 1) c.args.text.now) ≡ c.loop-end.number * 10 + (get_or c.args.text.now c.loop-end.end 0 - 48) =
    value_more c.args.text.now c.loop-end.end c.loop-end.number c.loop-end-test.true digit c.loop-end.invariant.value in
    let least : digits_value 10 (take (c.loop-end.end + 1) c.args.text.now) ≤ n =
    at_least c.args.text.now rest n (c.loop-end.end + 1) (omega arith) begins (omega arith) (digits_more c.args.text.now c.loop-end.end c.loop-end.invariant.digits digit) in
    omega (arith, c.in_err-number.ensures)

pub loop-end-preserved : goal.loop-end-preserved
loop-end-preserved c =
    let digit : IsAsciiDigit (get_or c.args.text.now c.loop-end.end 0) = c.if-is_ascii_digit.ensures.cases in
    let read = c.in_ok-number.ensures in
    record {
      inside = omega arith;
      digits = digits_more c.args.text.now c.loop-end.end c.loop-end.invariant.digits digit;
      value = value_more c.args.text.now c.loop-end.end c.loop-end.number c.loop-end-test.true digit c.loop-end.invariant.value ∙ sym read.0;
      limit = read.1;
    }

pub returns-then-end-eq0-clause-none : goal.returns-then-end-eq0-clause-none
returns-then-end-eq0-clause-none c _ n rest le begins =
    let first = first_digit c.args.text.now rest n (omega arith) begins in
    elim c.then-end-eq0.branch [
      | then-end-eq0-via-then-end-eq0 w ↦
          elim c.loop-end-test.branch [
            | then-loop-end-test+else-is_ascii_digit v ↦ not_digit (get_or c.args.text.now c.loop-end.end 0)
                v.if-is_ascii_digit.ensures.cases (subst (λ (i : ℕ). IsAsciiDigit (get_or c.args.text.now i 0))
                (sym w.if-end-eq0.true) first.1)
            | else-loop-end-test v ↦ omega arith
          ]
      | then-end-eq0-via-else-end-eq0+then-text-eq48 w ↦
          let zero : get_or c.args.text.now 0 0 ≡ 48 = elim w.if-end-gt1.branch [ then-end-gt1 v ↦ grind (arith, nat_tests) | else-end-gt1 v ↦ grind (arith, nat_tests) ] in
          let more : 1 < c.loop-end.end = elim w.if-end-gt1.branch [ then-end-gt1 v ↦ omega arith | else-end-gt1 v ↦ grind (arith, nat_tests) ] in
          no_leading_zero c.args.text.now rest n c.loop-end.end (omega arith) begins more c.loop-end.invariant.inside c.loop-end.invariant.digits zero
    ]

pub returns-clause-some : goal.returns-clause-some
returns-clause-some c =
    let whole : take (length c.args.text.now - c.loop-end.end) (drop c.loop-end.end c.args.text.now) ≡ drop c.loop-end.end c.args.text.now = take_rest c.args.text.now c.loop-end.end in
    let ends : EndsAt c.args.text.now c.loop-end.end = elim c.loop-end-test.branch [
      | then-loop-end-test+else-is_ascii_digit w ↦ inr (w.loop-end-test.true, not_digit (get_or c.args.text.now c.loop-end.end 0) w.if-is_ascii_digit.ensures.cases)
      | else-loop-end-test w ↦ inl (w.loop-end-test.false)
    ] in
    let lead : get_or c.args.text.now 0 0 ≡ 48 → c.loop-end.end ≡ 1 = λ zero. elim c.if-end-gt1.branch [
      | then-end-gt1 w ↦ absurd (grind (arith, nat_tests))
      | else-end-gt1 w ↦ omega arith
    ] in (
      rw whole (begins_with c.args.text.now c.loop-end.end c.loop-end.number (omega arith) c.loop-end.invariant.inside
          c.loop-end.invariant.digits c.loop-end.invariant.value (omega arith) lead ends),
      c.loop-end.invariant.limit,
    )
