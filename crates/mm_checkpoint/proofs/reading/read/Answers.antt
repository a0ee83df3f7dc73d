use Rattle.std.proofs.{Common.{length, sym, ap, subst, ◌∙◌, arith}, lemmas.Result.err_from_is_err_and}
use Rattle.mm_model.specs.Bytes.{IsBytes}
use Rattle.mm_machine.specs.Snapshot.{Parts, parts_of}
use Rattle.mm_checkpoint.specs.{Checkpoints.saved_of, Format.Saves}
use Rattle.mm_checkpoint.proofs.SpelledLaws.{told_fault, told_first, told_memory}
use Rattle.mm_checkpoint.proofs.FormatWhole.{are_saved, spelled_said}
use Rattle.mm_format.proofs.Files.{same_value}
use Rattle.mm_checkpoint.proofs.reading.read.Goals as goal

pub returns-in_err-parts-clause-again : goal.returns-in_err-parts-clause-again
returns-in_err-parts-clause-again c =
    let p = err_from_is_err_and c.from_residual.result c.from_residual.ensures.1 in
    let i = c.args.img.now in
    let bytes = c.args.bytes.now in
    rw (p.1, p.2) (λ q also saves. told_memory i bytes c.in_err-parts.field-0.0 (saved_of q also) (length bytes)
    (spelled_said i bytes c.in_err-parts.ensures.image q also saves) c.in_err-parts.ensures.parts)

pub returns-in_err-parts-clause-fault : goal.returns-in_err-parts-clause-fault
returns-in_err-parts-clause-fault c =
    let p = err_from_is_err_and c.from_residual.result c.from_residual.ensures.1 in
    rw (p.1, p.2) (λ offset e. told_fault c.args.img.now c.args.bytes.now c.in_err-parts.field-0.0 offset
    c.in_err-parts.ensures.parts (cc))

pub returns-in_err-parts-clause-first : goal.returns-in_err-parts-clause-first
returns-in_err-parts-clause-first c =
    let p = err_from_is_err_and c.from_residual.result c.from_residual.ensures.1 in
    rw (p.1, p.2) (λ offset some. told_first c.args.img.now c.args.bytes.now c.in_err-parts.field-0.0 offset
    c.in_err-parts.ensures.parts some)

pub of-snapshot-requires : goal.of-snapshot-requires
of-snapshot-requires c =
    let parts = c.in_ok-parts.parts in
    let fits : IsBytes c.args.bytes.now = λ k. omega (arith, c.type_inv.bytes k) in
    let p : Parts = parts_of parts.slots.items parts.events.items parts.outputs.items parts.pages.items parts.cycles in
    let saves = are_saved c.args.img.now c.args.bytes.now c.in_ok-parts.ensures.image fits p parts.last
    c.in_ok-parts.ensures.parts.0 c.in_ok-parts.ensures.parts.1 in
    saves.checkpoint.rules

pub returns-clause-saves : goal.returns-clause-saves
returns-clause-saves c =
    let parts = c.in_ok-parts.parts in
    let fits : IsBytes c.args.bytes.now = λ k. omega (arith, c.type_inv.bytes k) in
    let p : Parts = parts_of parts.slots.items parts.events.items parts.outputs.items parts.pages.items parts.cycles in
    subst (λ (x : Parts). Saves c.args.bytes.now c.args.img.now x parts.last) (sym c.of-snapshot.ensures)
    (are_saved c.args.img.now c.args.bytes.now c.in_ok-parts.ensures.image fits p parts.last
    c.in_ok-parts.ensures.parts.0 c.in_ok-parts.ensures.parts.1)

pub returns-clause-again : goal.returns-clause-again
returns-clause-again c =
    let parts = c.in_ok-parts.parts in
    λ q also saves. ap (λ (x : Parts). saved_of x parts.last) c.of-snapshot.ensures
    ∙ same_value (sym c.in_ok-parts.ensures.parts.1
    ∙ spelled_said c.args.img.now c.args.bytes.now c.in_ok-parts.ensures.image q also saves)
