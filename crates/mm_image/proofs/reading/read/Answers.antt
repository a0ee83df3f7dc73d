use Rattle.std.proofs.{Common.{◌≡◌, refl, arith}, lemmas.Result.err_from_is_err_and}
use Rattle.mm_format.specs.declared.reader.ReadError.{ReadError, TheVariants.{Fault, NoMemory}}
use Rattle.mm_format.specs.{Reading.fault_named_by, Images.image_fault}
use Rattle.mm_format.proofs.{Files.{answers_ok, answers_err}, ImagesWhole.{read_spells, spelled_read}}
use Rattle.mm_image.specs.{declared.fault.ImageFault.ImageFault, Faults.{number_of, from_read_error, fault_of}}
use Rattle.mm_image.proofs.reading.read.Goals as goal

told_right : (e : ReadError ImageFault) → fault_of (from_read_error e) ≡ fault_named_by number_of e
told_right (Fault kind offset) = refl
told_right NoMemory = refl

pub returns-in_err-image : goal.returns-in_err-image
unfolding image_fault
returns-in_err-image c =
    let p = err_from_is_err_and c.from_residual.result c.from_residual.ensures.1 in
    rw (p.1, p.2) (answers_err _ _ _ (spelled_read c.args.bytes.now) number_of fault_of c.in_err-image.field-0.0 _
    (told_right c.in_err-image.field-0.0) c.in_err-image.ensures)

pub returns : goal.returns
unfolding image_fault
returns c =
    let read = c.in_ok-image.ensures in
    answers_ok _ _ _ (spelled_read c.args.bytes.now) number_of fault_of c.in_ok-image.image read.0 read.1
    (read_spells c.args.bytes.now (λ k. omega (arith, c.type_inv.bytes k)) c.in_ok-image.image read.0 read.1)
