use Rattle.std.proofs.{Common.{◌≡◌, ◌+◌, subst, ap, ◌∙◌}, lemmas.{Result.err_from_is_err_and, List.drop_all}}
use Rattle.mm_format.specs.{Formats.{each, Parsed.Got}, Reading.FailsOr}
use Rattle.mm_format.proofs.Loops.{prefixed, is_read, each_more, each_stop, fails_so}
use Rattle.mm_image.specs.Faults.{number_of}
use Rattle.mm_checkpoint.specs.Format.{slot_row}
use Rattle.mm_checkpoint.proofs.rows.read_rows.Goals as goal

pub returns-in_err-row-clause-read : goal.returns-in_err-row-clause-read
returns-in_err-row-clause-read c =
    let p = err_from_is_err_and c.from_residual-in_err-row.result c.from_residual-in_err-row.ensures.1 in
    let l = c.loop-slot in
    let row = slot_row c.args.split c.args.cycles in
    let bytes = l.reader.bytes.now in
    let e = c.in_err-row.field-0.0 in
    let fails = subst (λ s. FailsOr ⊥ number_of ((row s).read bytes l.reader.at) e) c.slot-item.is c.in_err-row.ensures.read.0 in (
      rw (p.1, p.2) (each_stop row c.args.known.now l.slot-index c.slot-item.result bytes l.reader.at l.rows.items _
          l.invariant.read c.loop-slot-test.true number_of _ e (fails_so number_of _ _ e fails)),
      c.in_err-row.ensures.read.1 ∙ c.loop-slot.invariant.same,
    )

pub loop-slot-preserved : goal.loop-slot-preserved
loop-slot-preserved c =
    let l = c.loop-slot in
    let row = slot_row c.args.split c.args.cycles in
    let bytes = l.reader.bytes.now in
    let a = c.in_ok-row.row in
    let next = c.read_row.new.reader.at in
    let read = subst (λ s. (row s).read bytes l.reader.at ≡ Got a next) c.slot-item.is c.in_ok-row.ensures.read.0 in
    record {
      read = rw (c.in_ok-row.ensures.read.1, c.in_ok-push.ensures.items)
          (each_more row c.args.known.now l.slot-index c.slot-item.result bytes l.reader.at l.rows.items _
          l.invariant.read c.loop-slot-test.true a next read);
      same = c.in_ok-row.ensures.read.1 ∙ l.invariant.same;
      count = c.in_ok-push.ensures.len ∙ ap (λ n. n + 1) l.invariant.count;
    }

pub returns-clause-read : goal.returns-clause-read
returns-clause-read c =
    let l = c.loop-slot in
    let row = slot_row c.args.split c.args.cycles in
    let known = c.args.known.now in
    let bytes = l.reader.bytes.now in (
      is_read l.rows.items l.reader.at ((each row known).read c.args.reader.now.bytes.now c.args.reader.now.at)
          (subst (λ slots. prefixed l.rows.items ((each row slots).read bytes l.reader.at)
          ≡ (each row known).read c.args.reader.now.bytes.now c.args.reader.now.at)
          (drop_all l.slot-index known c.loop-slot-test.false) l.invariant.read),
      l.invariant.same,
    )
