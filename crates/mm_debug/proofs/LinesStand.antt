-- Whatever lines a session carries out, it has its order, and stands for every image for which it stood.
use Rattle.std.proofs.Common.{◌≡◌, ℕ, List, [], ◌∷◌, refl, ap, ◌∙◌}
use Rattle.mm_model.specs.{Image.{Image, start}, Run.run}
use Rattle.mm_sched.specs.declared.schedule.Order.{Order}
use Rattle.mm_debug.specs.{declared.command.Command.Command, Commands.command_of}
use Rattle.mm_debug.specs.{Session.{Session, total_of, begun, answer, answer_to}, Standing.{run_items, StandsFor}}
use Rattle.mm_debug.specs.Laws.{after_lines, LinesKeepStanding, DebuggingChangesNoRun}
use Rattle.mm_debug.proofs.{AnswersKeep.{Keeps, answer_keeps, lines_keep}, Standing.{answer_stands, begun_stands}}

each_order : (o : Order) → Keeps (λ (s : Session). s.order ≡ o)
each_order o = record { issues = λ s item is same. same; breaks = λ s entries same. same; watches = λ s words same. same }

pub answer_order : (s : Session) (c : Command) → (answer s c).session.order ≡ s.order
answer_order s c = answer_keeps (λ (t : Session). t.order ≡ s.order) (each_order s.order) s c refl

pub lines_order : (s : Session) (lines : List (List ℕ)) → (after_lines s lines).order ≡ s.order
lines_order s lines = lines_keep (λ (t : Session). t.order ≡ s.order) (each_order s.order) s lines refl

pub lines_stand : (i : Image) (s : Session) (lines : List (List ℕ)) → StandsFor i s → StandsFor i (after_lines s lines)
lines_stand i s [] stands = stands
lines_stand i s (line ∷ lines) stands = lines_stand i (answer_to s line).session lines (answer_stands i s (command_of line) stands)

pub lines_keep_standing : LinesKeepStanding
lines_keep_standing i s lines stands = (lines_order s lines, lines_stand i s lines stands)

pub debugging_changes_no_run : DebuggingChangesNoRun
debugging_changes_no_run i o lines =
    let first : Session = begun o (start i) in
    let last : Session = after_lines first lines in
    (lines_stand i first lines (begun_stands i o)).state ∙ ap (λ (x : Order). run (start i) (run_items i x (total_of last))) (lines_order first lines)
