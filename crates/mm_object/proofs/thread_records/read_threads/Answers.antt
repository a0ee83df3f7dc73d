use Rattle.std.proofs.Common.{ℕ, ◌+◌, refl, ◌∙◌}
use Rattle.mm_format.proofs.Loops.{times_runs, runs_told}
use Rattle.mm_object.specs.{declared.thread_records.ThreadRecords.ThreadRecords, Format.thread_row}
use Rattle.mm_object.proofs.thread_records.read_threads.Goals as goal

pub returns : goal.returns
returns c =
    let segments = c.args.segments in
    let externals = c.args.externals in
    let to : ℕ → ThreadRecords = λ least. record { segments = segments; externals = externals; least = least } in
    let bytes = c.args.reader.now.bytes.now in
    let at = c.args.reader.now.at in
    let same = times_runs (thread_row segments.now externals) (λ _ r. r.slot + 1) c.args.count 0 bytes at
    ∙ runs_told to (λ s. (thread_row s.segments.now s.externals s.least).read) (λ _ r. r.slot + 1)
    (λ s r. record { segments = s.segments; externals = s.externals; least = r.slot + 1 }) (λ s a. refl) c.args.count 0
    bytes at in
    record { read = rw same (rw c.from.ensures at c.read_records.ensures.read) }
