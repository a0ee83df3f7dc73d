use Rattle.std.proofs.Common.{◌+◌, ℕ, refl, ◌∙◌}
use Rattle.mm_model.specs.Image.{slot_limit}
use Rattle.mm_image.specs.declared.slots.SlotRecords.{SlotRecords}
use Rattle.mm_format.{specs.Images.slot, proofs.Loops.{times_runs, runs_told}}
use Rattle.mm_image.proofs.slots.slot_records.Goals as goal

pub returns-clause-read : goal.returns-clause-read
returns-clause-read c =
    let to : ℕ → SlotRecords = λ least. record { limit = slot_limit c.args.version; least = least } in
    let bytes = c.args.reader.now.bytes.now in
    let at = c.args.reader.now.at in
    let same = times_runs (slot (slot_limit c.args.version)) (λ _ s. s.number + 1) c.args.count 0 bytes at
    ∙ runs_told to (λ r. (slot r.limit r.least).read) (λ _ s. s.number + 1)
    (λ r s. record { limit = r.limit; least = s.number + 1 }) (λ s a. refl) c.args.count 0 bytes at in
    rw same (rw (c.slot_limit.ensures, c.from.ensures) at c.read_records.ensures.read)
