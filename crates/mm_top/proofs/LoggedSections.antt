-- What groups see of what `log` writes: whole lines stand before the report.
use Rattle.std.proofs.Common.{ℕ, inl, inr, Bool, true, false, List, [], ◌∷◌, ◌++◌, Option, codes, decimal, refl, sym}
use Rattle.std.proofs.Common.{append_assoc}
use Rattle.mm_word.specs.declared.word.Word.TheVariants.{Ptr}
use Rattle.mm_model.specs.{declared.counts.Counts.Counts, Digits.hex}
use Rattle.mm_model.specs.{Lines.{newline, cell_line, word_text, state_text, full_text}, Image.{Image, start}}
use Rattle.mm_model.specs.{Groups.HasSlot, Run.run, Report.report, Spelling.IsImage, Reach.Entries.All, Worlds.Apart}
use Rattle.mm_laws.{specs.Runs.{EndsALine, AreLinesOf, Isolates}, proofs.WholeRuns.runs_isolate}
use Rattle.mm_log.specs.Lines.{Line, line_text, event_text, register_text}
use Rattle.mm_log.specs.Lines.Line.{Traced, Points, Enters, Holds, Empties, Issues, Queues, Reads, Puts, Maps, Removes}
use Rattle.mm_log.specs.{Lines.Line.Sets, Log.{log, log_text, text_of}}
use Rattle.mm_top.proofs.TracedSections.{both, step_ends, later}

literal_ends : (a b : List ℕ) → EndsALine (a ++ (b ++ newline))
literal_ends a b = inr (a ++ b, sym (append_assoc a b newline))

line_ends : (line : Line) → EndsALine (line_text line)
unfolding line_text
line_ends (Traced turns step) = step_ends turns step step.tick
line_ends (Points slot ip true) =
    literal_ends (codes "ip " ++ decimal slot ++ codes " " ++ word_text (Ptr ip)) (codes " past")
line_ends (Points slot ip false) = inr (codes "ip " ++ decimal slot ++ codes " " ++ word_text (Ptr ip), refl)
line_ends (Enters slot state) = inr (codes "state " ++ decimal slot ++ codes " " ++ state_text state, refl)
line_ends (Holds slot reg word) = inr (register_text slot reg ++ word_text word, refl)
line_ends (Empties slot reg) = literal_ends (register_text slot reg) (codes "empty")
line_ends (Issues slot load) =
    inr (codes "load " ++ decimal slot ++ codes " " ++ decimal load.reg ++ codes " " ++ word_text load.word, refl)
line_ends (Queues handler event) = inr (codes "event " ++ decimal handler ++ codes " " ++ event_text event, refl)
line_ends (Reads handler) = inr (codes "taken " ++ decimal handler, refl)
line_ends (Puts group byte) = inr (codes "out " ++ decimal group ++ codes " " ++ hex 2 byte, refl)
line_ends (Maps page) = literal_ends (codes "page " ++ hex 11 page) (codes " new")
line_ends (Removes page) = literal_ends (codes "page " ++ hex 11 page) (codes " gone")
line_ends (Sets word cell) =
    inr (codes "cell " ++ hex 14 word ++ codes " " ++ word_text cell.word ++ full_text cell.full, refl)

lines_end : (lines : List Line) → EndsALine (text_of lines)
lines_end [] = inl refl
lines_end (line ∷ lines) = both (line_text line) (text_of lines) (line_ends line) (lines_end lines)

pub logs_isolate : (i : Image) (items : List ℕ) (counts : Option Counts) (c : ℕ → Bool) → IsImage i → HasSlot i c
    → Apart i All c → Isolates i items (log_text (start i) items ++ report (run (start i) items) i counts) c
logs_isolate i items counts c image has apart =
    let first = log_text (start i) items in
    let ends = lines_end (log (start i) items) in
    let text = report (run (start i) items) i counts in
    let alone = runs_isolate i items counts c image has apart in
    record {
      view = alone.view;
      sections = AreLinesOf.left_out ends alone.sections;
      cells = λ w cell touched changed. later first (cell_line w cell) text ends (alone.cells w cell touched changed);
    }
