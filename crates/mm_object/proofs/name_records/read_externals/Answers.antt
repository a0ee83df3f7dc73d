use Rattle.std.proofs.{Common.{◌≡◌, ℕ, ◌+◌, List, refl, ap, subst, ◌∙◌, arith}, lemmas.Result.err_from_is_err_and}
use Rattle.mm_format.specs.{Formats.Parsed.Got, Reading.FailsOr}
use Rattle.mm_format.proofs.Loops.{times_more, times_stop, times_read, fails_so}
use Rattle.mm_object.{specs.{Answers.number_of, Format.{external_row, push}}, proofs.Readings.push_begin}
use Rattle.mm_object.proofs.name_records.read_externals.Goals as goal

pub loop-init : goal.loop-init
loop-init c =
    let r = c.args.reader.now in
    record {
      read = push_begin (external_row c.args.segments.now) c.args.count r.bytes.now r.at _ c.in_ok-names.ensures.items;
      same = refl;
      count = c.in_ok-names.ensures.len;
    }

pub returns-in_err-name-clause-read : goal.returns-in_err-name-clause-read
returns-in_err-name-clause-read c =
    let p = err_from_is_err_and c.from_residual-in_err-name.result c.from_residual-in_err-name.ensures.1 in
    let l = c.loop in
    let row = external_row c.args.segments.now in
    let bytes = l.reader.bytes.now in
    let e = c.in_err-name.field-0.0 in
    let fails = subst (λ (xs : List (List ℕ)). FailsOr ⊥ number_of ((row xs).read bytes l.reader.at) e)
    c.deref.ensures.value (c.in_err-name.ensures.read c.args.segments.now c.in_ok-known.ensures).0 in (
      rw (p.1, p.2) (times_stop row push c.args.count l.counter l.names.items bytes l.reader.at l.names.items _
          l.invariant.read (omega (arith, c.loop-test.true, c.from-end.ensures)) number_of _ e (fails_so number_of _ _ e fails)),
      (c.in_err-name.ensures.read c.args.segments.now c.in_ok-known.ensures).1 ∙ c.loop.invariant.same,
    )

pub loop-preserved : goal.loop-preserved
loop-preserved c =
    let l = c.loop in
    let row = external_row c.args.segments.now in
    let bytes = l.reader.bytes.now in
    let a = c.in_ok-name.name in
    let next = c.read_external.new.reader.at in
    let given = c.in_ok-name.ensures.read c.args.segments.now c.in_ok-known.ensures in
    let read = subst (λ (xs : List (List ℕ)). (row xs).read bytes l.reader.at ≡ Got a next) c.deref.ensures.value
    given.0 in
    record {
      read = rw (given.1, c.in_ok-push.ensures.items)
          (times_more row push c.args.count l.counter l.names.items bytes l.reader.at l.names.items _ l.invariant.read
          (omega (arith, c.loop-test.true, c.from-end.ensures)) a next read);
      same = given.1 ∙ l.invariant.same;
      count = c.in_ok-push.ensures.len ∙ ap (λ n. n + 1) l.invariant.count;
    }

pub returns-clause-read : goal.returns-clause-read
returns-clause-read c =
    let l = c.loop in (
      times_read (external_row c.args.segments.now) push c.args.count l.counter l.names.items l.reader.bytes.now
          l.reader.at l.names.items _ l.invariant.read (omega (arith, c.loop-test.false, c.from-end.ensures)),
      l.invariant.same,
    )

pub returns-clause-count : goal.returns-clause-count
returns-clause-count c =
    c.loop.invariant.count ∙ omega (arith, c.loop-test.false, c.from-end.ensures, c.loop.auto.counter-end)
