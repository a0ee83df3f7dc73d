use Rattle.std.proofs.Common.{◌≡◌, ℕ, List, Some, Err, refl, ap, ◌∙◌, subst}
use Rattle.mm_checkpoint.specs.{Faults.save_fault, declared.fault.SaveError.SaveError, Checkpoints.saved_of}
use Rattle.mm_load.specs.{Kinds.a_checkpoint, declared.load.Checkpoint.Checkpoint}
use Rattle.mm_load.proofs.Reading.{accepted_file, refused_file}
use Rattle.mm_load.proofs.load.load_checkpoint.Goals as goal

pub returns-in-Err-Fault-clause-read : goal.returns-in-Err-Fault-clause-read
returns-in-Err-Fault-clause-read g c =
    let offset = c.in-Err-Fault.offset in
    let P : List ℕ → Type 0 = λ bytes. save_fault c.args.image.now bytes ≡ Some offset in
    let says = subst P c.deref.ensures.value (c.read.ensures.fault offset (c.in-Err-Fault.is ∙ ap (λ (e : SaveError). Err e) c.in-Err-Fault.field-0-is)) in
    refused_file _ _ c.in_ok-bytes.ensures.bytes c.in_ok-bytes.ensures.short (offset, refl, says) c.read_file.ensures.asks.of_name c.read_file.ensures.asks.asks

pub returns-in-Ok-clause-read : goal.returns-in-Ok-clause-read
returns-in-Ok-clause-read g c =
    accepted_file (λ (x : Checkpoint). a_checkpoint (saved_of x.snapshot x.last)) (record { snapshot = c.in-Ok.snapshot; last = c.in-Ok.last }) _ _ c.deref.ensures.value c.in_ok-bytes.ensures.bytes
    c.in_ok-bytes.ensures.short (c.in-Ok.snapshot, c.in-Ok.last, c.in-Ok.ensures.saves, refl)
    c.in_ok-bytes.ensures.asks.of_name c.in_ok-bytes.ensures.asks.asks c.in_ok-bytes.ensures.whole.whole c.in_ok-bytes.ensures.whole.asks
