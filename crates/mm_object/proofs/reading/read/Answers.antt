use Rattle.std.proofs.{Common.arith, lemmas.Result.err_from_is_err_and}
use Rattle.mm_format.proofs.Files.{answers_ok, answers_err}
use Rattle.mm_object.specs.{Answers.number_of, Faults.{fault_of, object_fault}}
use Rattle.mm_object.proofs.FormatWhole.{read_spells, spelled_read, told_right}
use Rattle.mm_object.proofs.reading.read.Goals as goal

pub returns : goal.returns
unfolding object_fault
returns c =
    let read = c.in_ok-object.ensures in
    answers_ok _ _ _ (spelled_read c.args.bytes.now) number_of fault_of c.in_ok-object.object read.0 read.1
    (read_spells c.args.bytes.now (λ i. omega (arith, c.type_inv.bytes i)) c.in_ok-object.object read.0 read.1)

pub returns-in_err-object : goal.returns-in_err-object
unfolding object_fault
returns-in_err-object c =
    let p = err_from_is_err_and c.from_residual.result c.from_residual.ensures.1 in
    rw (p.1, p.2) (answers_err _ _ _ (spelled_read c.args.bytes.now) number_of fault_of c.in_err-object.field-0.0 _
    (told_right c.in_err-object.field-0.0) c.in_err-object.ensures)
