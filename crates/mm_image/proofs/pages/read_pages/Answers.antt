use Rattle.std.proofs.Common.{◌+◌, ℕ, refl, ◌∙◌}
use Rattle.mm_format.{specs.Images.page, proofs.Loops.{times_runs, runs_told}}
use Rattle.mm_image.specs.declared.pages.PageRecords.{PageRecords}
use Rattle.mm_image.proofs.pages.read_pages.Goals as goal

pub returns : goal.returns
returns c =
    let to : ℕ → PageRecords = λ least. record { least = least } in
    let bytes = c.args.reader.now.bytes.now in
    let at = c.args.reader.now.at in
    let same = times_runs page (λ _ p. p.0 + 1) c.args.count 0 bytes at
    ∙ runs_told to (λ r. (page r.least).read) (λ _ p. p.0 + 1) (λ r p. record { least = p.0 + 1 }) (λ s a. refl)
    c.args.count 0 bytes at in
    record { read = rw same (rw c.from.ensures at c.read_records.ensures.read) }
