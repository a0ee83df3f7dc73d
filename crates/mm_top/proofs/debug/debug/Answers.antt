use Rattle.std.proofs.Common.{◌≡◌, ℕ, List, [], ◌∷◌, inr, refl, sym, append-nil, subst}
use Rattle.mm_word.specs.Adding.{Adds, adds_both}
use Rattle.mm_cli.specs.declared.{table.{Command.TheVariants.Debug, Kind.{TheVariants.{Text as text_input}}}}
use Rattle.mm_cli.specs.Arguments.{row}
use Rattle.mm_load.{specs.{Kinds.{an_image, values_of}, Files.drawing}, proofs.Reading.{files_then, asks_of_all}}
use Rattle.mm_top.specs.{Commands.replies_to, Answers.writing}
use Rattle.mm_top.proofs.Inputs.{files_stop, input_stops, row_stopped, row_writes, whole_read}
use Rattle.mm_top.proofs.NamedFiles.{named, schedule_named}
use Rattle.mm_top.proofs.debug.debug.Goals as goal

-- the image is not read
pub returns-in_err-image-clause-ends : goal.returns-in_err-image-clause-ends
returns-in_err-image-clause-ends g c =
    row_stopped g.M.Inspect.tells (writing g.O.Sink.taken g.O.Sink.faults c.args.out.now c.args.out.now) (row Debug c.args.words.now) c.from_residual.result
    (files_stop (drawing g.I.Source.left g.I.Source.faults c.args.input.now c.args.input.now) text_input _ _
    (named c.name_at.ensures (c.in_err-image.ensures.read [] refl)) refl) refl c.from_residual.ensures.1

pub returns-in_err-image-clause-asked : goal.returns-in_err-image-clause-asked
returns-in_err-image-clause-asked g c = asks_of_all _ (named c.name_at.ensures (c.in_err-image.ensures.read [] refl)).asked

-- the order is not
pub returns-in_err-order-clause-ends : goal.returns-in_err-order-clause-ends
returns-in_err-order-clause-ends g c =
    row_stopped g.M.Inspect.tells (writing g.O.Sink.taken g.O.Sink.faults c.args.out.now c.args.out.now) (row Debug c.args.words.now) c.from_residual-in_err-order.result
    (files_stop (drawing g.I.Source.left g.I.Source.faults c.args.input.now c.args.input.now) text_input _ []
    (files_then {asks = Adds g.F.Files.asked c.args.files.now c.load_order.new.files}
    (named c.name_at.ensures (c.in_ok-image.ensures.read [] refl)) (schedule_named c.optional_name_at.ensures
    (c.in_err-order.ensures (an_image c.in_ok-image.image ∷ []) refl))
    (record { kept = c.load_file.ensures.kept; counts = refl; later = c.load_file.ensures.later; asked = λ names more one two. adds_both one two }))
    (sym (append-nil _))) refl c.from_residual-in_err-order.ensures.1

pub returns-in_err-order-clause-asked : goal.returns-in_err-order-clause-asked
returns-in_err-order-clause-asked g c =
    (files_then {asks = Adds g.F.Files.asked c.args.files.now c.load_order.new.files}
    (named c.name_at.ensures (c.in_ok-image.ensures.read [] refl)) (schedule_named c.optional_name_at.ensures
    (c.in_err-order.ensures (an_image c.in_ok-image.image ∷ []) refl))
    (record { kept = c.load_file.ensures.kept; counts = refl; later = c.load_file.ensures.later; asked = λ names more one two. adds_both one two })).asked

-- the lines are not
pub returns-in_err-lines-clause-ends : goal.returns-in_err-lines-clause-ends
returns-in_err-lines-clause-ends g c =
    row_stopped g.M.Inspect.tells (writing g.O.Sink.taken g.O.Sink.faults c.args.out.now c.args.out.now) (row Debug c.args.words.now) c.from_residual-in_err-lines.result
    (input_stops
    (files_then {asks = Adds g.F.Files.asked c.args.files.now c.load_order.new.files}
    (named c.name_at.ensures (c.in_ok-image.ensures.read [] refl)) (schedule_named c.optional_name_at.ensures
    (c.in_ok-order.ensures (an_image c.in_ok-image.image ∷ []) refl))
    (record { kept = c.load_file.ensures.kept; counts = refl; later = c.load_file.ensures.later; asked = λ names more one two. adds_both one two }))
    (c.in_err-lines.ensures.read _)) refl c.from_residual-in_err-lines.ensures.1

pub returns-in_err-lines-clause-asked : goal.returns-in_err-lines-clause-asked
returns-in_err-lines-clause-asked g c =
    (files_then {asks = Adds g.F.Files.asked c.args.files.now c.load_order.new.files}
    (named c.name_at.ensures (c.in_ok-image.ensures.read [] refl)) (schedule_named c.optional_name_at.ensures
    (c.in_ok-order.ensures (an_image c.in_ok-image.image ∷ []) refl))
    (record { kept = c.load_file.ensures.kept; counts = refl; later = c.load_file.ensures.later; asked = λ names more one two. adds_both one two })).asked

pub returns-in_err-lines-clause-drawn : goal.returns-in_err-lines-clause-drawn
returns-in_err-lines-clause-drawn g c =
    inr (
      an_image c.in_ok-image.image ∷ values_of c.in_ok-order.order,
      (files_then {asks = Adds g.F.Files.asked c.args.files.now c.load_order.new.files}
          (named c.name_at.ensures (c.in_ok-image.ensures.read [] refl)) (schedule_named c.optional_name_at.ensures
          (c.in_ok-order.ensures (an_image c.in_ok-image.image ∷ []) refl))
          (record { kept = c.load_file.ensures.kept; counts = refl; later = c.load_file.ensures.later; asked = λ names more one two. adds_both one two })).accepted,
    )

-- the replies are written
pub returns-clause-ends : goal.returns-clause-ends
returns-clause-ends g c =
    let i = c.in_ok-image.image in
    let order = c.in_ok-order.order in
    row_writes g.M.Inspect.tells (writing g.O.Sink.taken g.O.Sink.faults c.args.out.now c.write_replies.new.out) (row Debug c.args.words.now) _ c.write_replies.result
    (files_then {asks = Adds g.F.Files.asked c.args.files.now c.load_order.new.files}
    (named c.name_at.ensures (c.in_ok-image.ensures.read [] refl)) (schedule_named c.optional_name_at.ensures
    (c.in_ok-order.ensures (an_image i ∷ []) refl))
    (record { kept = c.load_file.ensures.kept; counts = refl; later = c.load_file.ensures.later; asked = λ names more one two. adds_both one two }))
    (c.in_ok-lines.ensures.read _) refl c.write_replies.ensures
    (λ text is. (order, c.in_ok-lines.lines.items, refl, subst (λ (input : List ℕ). text ≡ replies_to i order input) c.deref.ensures.value is))

pub returns-clause-asked : goal.returns-clause-asked
returns-clause-asked g c =
    (files_then {asks = Adds g.F.Files.asked c.args.files.now c.load_order.new.files}
    (named c.name_at.ensures (c.in_ok-image.ensures.read [] refl)) (schedule_named c.optional_name_at.ensures
    (c.in_ok-order.ensures (an_image c.in_ok-image.image ∷ []) refl))
    (record { kept = c.load_file.ensures.kept; counts = refl; later = c.load_file.ensures.later; asked = λ names more one two. adds_both one two })).asked

pub returns-clause-whole : goal.returns-clause-whole
returns-clause-whole g c =
    whole_read c.write_replies.result ((files_then {asks = Adds g.F.Files.asked c.args.files.now c.load_order.new.files}
    (named c.name_at.ensures (c.in_ok-image.ensures.read [] refl)) (schedule_named c.optional_name_at.ensures
    (c.in_ok-order.ensures (an_image c.in_ok-image.image ∷ []) refl))
    (record { kept = c.load_file.ensures.kept; counts = refl; later = c.load_file.ensures.later; asked = λ names more one two. adds_both one two })).whole)

pub returns-clause-drawn : goal.returns-clause-drawn
returns-clause-drawn g c =
    inr (
      an_image c.in_ok-image.image ∷ values_of c.in_ok-order.order,
      (files_then {asks = Adds g.F.Files.asked c.args.files.now c.load_order.new.files}
          (named c.name_at.ensures (c.in_ok-image.ensures.read [] refl)) (schedule_named c.optional_name_at.ensures
          (c.in_ok-order.ensures (an_image c.in_ok-image.image ∷ []) refl))
          (record { kept = c.load_file.ensures.kept; counts = refl; later = c.load_file.ensures.later; asked = λ names more one two. adds_both one two })).accepted,
    )

pub returns-clause-read : goal.returns-clause-read
returns-clause-read g c = whole_read c.write_replies.result c.in_ok-lines.ensures.end
