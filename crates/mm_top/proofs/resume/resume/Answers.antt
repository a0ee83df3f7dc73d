use Rattle.std.proofs.Common.{ℕ, [], ◌∷◌, slice_get, Ok, refl, sym, ◌∙◌, subst, arith, append-nil}
use Rattle.mm_word.specs.Adding.{adds_both}
use Rattle.mm_checkpoint.specs.Checkpoints.{saved_of}
use Rattle.mm_cli.specs.declared.{table.{Kind.{TheVariants.{Image as image_file, Checkpoint as checkpoint_file}}}}
use Rattle.mm_cli.specs.Arguments.{name_of}
use Rattle.mm_load.specs.{Kinds.{an_image, a_checkpoint, values_of}, Files.{FilesRead, reading}}
use Rattle.mm_load.proofs.Reading.{files_then}
use Rattle.mm_top.{specs.Saving.Continues, proofs.{Rows.{row_stops, row_ends}, NamedFiles.{named, schedule_named}}}
use Rattle.mm_top.proofs.resume.resume.Goals as goal

pub returns-in_err-image : goal.returns-in_err-image
returns-in_err-image g c = row_stops _ c.from_residual.result (named c.name_at.ensures (c.in_err-image.ensures.read [] refl)) refl refl c.from_residual.ensures.1

pub returns-in_err-checkpoint : goal.returns-in_err-checkpoint
returns-in_err-checkpoint g c =
    row_stops _ c.from_residual-in_err-checkpoint.result
    (files_then (named c.name_at.ensures (c.in_ok-image.ensures.read [] refl)) (named c.name_at-2.ensures c.in_err-checkpoint.ensures.read)
    (record { kept = c.load_file.ensures.kept; counts = refl; later = c.load_file.ensures.later; asked = λ names more one two. adds_both one two }))
    refl refl c.from_residual-in_err-checkpoint.ensures.1

pub returns-in_err-order : goal.returns-in_err-order
returns-in_err-order g c =
    let i = c.in_ok-image.image in
    let k = c.in_ok-checkpoint.checkpoint in
    let both : FilesRead (reading g.F.Files.held g.F.Files.faults g.F.Files.asked c.args.files.now
    c.load_checkpoint.new.files) [] ((name_of (slice_get c.args.words.now 0), image_file) ∷
    (name_of (slice_get c.args.words.now 1), checkpoint_file) ∷ [])
    (λ k. an_image i ∷ a_checkpoint (saved_of k.snapshot k.last) ∷ []) (Ok k) =
    files_then (named c.name_at.ensures (c.in_ok-image.ensures.read [] refl)) (named c.name_at-2.ensures c.in_ok-checkpoint.ensures.read)
    (record { kept = c.load_file.ensures.kept; counts = refl; later = c.load_file.ensures.later; asked = λ names more one two. adds_both one two }) in
    row_stops _ c.from_residual-in_err-order.result
    (files_then both (schedule_named c.optional_name_at.ensures (c.in_err-order.ensures (an_image i ∷ a_checkpoint (saved_of k.snapshot k.last) ∷ []) refl))
    (record {
      kept = c.load_checkpoint.ensures.kept ∙ c.load_file.ensures.kept;
      counts = refl;
      later = λ n. omega
          (arith, c.load_file.ensures.later n, c.load_checkpoint.ensures.later n);
      asked = λ names more one two.
          adds_both one two;
    }))
    (sym (append-nil _)) refl c.from_residual-in_err-order.ensures.1

pub returns : goal.returns
returns g c =
    let i = c.in_ok-image.image in
    let k = c.in_ok-checkpoint.checkpoint in
    let both : FilesRead (reading g.F.Files.held g.F.Files.faults g.F.Files.asked c.args.files.now
    c.load_checkpoint.new.files) [] ((name_of (slice_get c.args.words.now 0), image_file) ∷
    (name_of (slice_get c.args.words.now 1), checkpoint_file) ∷ [])
    (λ k. an_image i ∷ a_checkpoint (saved_of k.snapshot k.last) ∷ []) (Ok k) =
    files_then (named c.name_at.ensures (c.in_ok-image.ensures.read [] refl)) (named c.name_at-2.ensures c.in_ok-checkpoint.ensures.read)
    (record { kept = c.load_file.ensures.kept; counts = refl; later = c.load_file.ensures.later; asked = λ names more one two. adds_both one two }) in
    row_ends _ _
    (files_then both (schedule_named c.optional_name_at.ensures (c.in_ok-order.ensures (an_image i ∷ a_checkpoint (saved_of k.snapshot k.last) ∷ []) refl))
    (record {
      kept = c.load_checkpoint.ensures.kept ∙ c.load_file.ensures.kept;
      counts = refl;
      later = λ n. omega
          (arith, c.load_file.ensures.later n, c.load_checkpoint.ensures.later n);
      asked = λ names more one two.
          adds_both one two;
    }))
    refl c.write_resumed.ensures (λ r no. no)
    (λ text is.
    let P : ℕ → Type 0 = λ cycles. Continues g.M.Inspect.tells i (saved_of k.snapshot k.last) cycles (values_of c.in_ok-order.order) text in
    subst P c.number_at.ensures is)

pub write_resumed-requires-clause-few : goal.write_resumed-requires-clause-few
write_resumed-requires-clause-few g c = omega (arith, c.number_at.ensures, c.requires.1.1.0.1)
