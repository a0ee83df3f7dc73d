use Rattle.std.proofs.Common.{◌≡◌, ℕ, List, Some, Err, refl, ap, ◌∙◌, subst}
use Rattle.mm_line.specs.Faults.{number_of}
use Rattle.mm_asm.specs.{declared.fault.AsmError.AsmError, Faults.first_fault}
use Rattle.mm_load.{specs.Kinds.an_object, proofs.Reading.{accepted_file, refused_file}}
use Rattle.mm_load.proofs.load.load_source.Goals as goal

pub returns-in-Err-Fault : goal.returns-in-Err-Fault
returns-in-Err-Fault g c before counted =
    let fault = c.in-Err-Fault.fault in
    let line = c.in-Err-Fault.line in
    let column = c.in-Err-Fault.column in
    let P : List ℕ → Type 0 = λ bytes. first_fault bytes ≡ Some (record { line = line; column = column; number = number_of fault }) in
    let says = subst P c.deref.ensures.value (c.assemble.ensures.fault fault line column (c.in-Err-Fault.is ∙ ap (λ (e : AsmError). Err e) c.in-Err-Fault.field-0-is)) in
    refused_file _ _ c.in_ok-bytes.ensures.bytes c.in_ok-bytes.ensures.short (fault, line, column, refl, says) c.read_file.ensures.asks.of_name c.read_file.ensures.asks.asks

pub returns-in-Ok : goal.returns-in-Ok
returns-in-Ok g c before counted =
    accepted_file an_object c.in-Ok.object _ _ c.deref.ensures.value c.in_ok-bytes.ensures.bytes c.in_ok-bytes.ensures.short c.in-Ok.ensures.means
    c.in_ok-bytes.ensures.asks.of_name c.in_ok-bytes.ensures.asks.asks c.in_ok-bytes.ensures.whole.whole c.in_ok-bytes.ensures.whole.asks
