-- A law of sessions that go back.
use Rattle.std.specs.Prelude.{◌≡◌, ℕ, List, [], ◌∷◌}
use Rattle.mm_model.specs.{Image.{Image, start}, Run.run}
use Rattle.mm_sched.specs.declared.schedule.Order.{Order}
use Rattle.mm_debug.specs.{Session.{Session, begun, total_of}, Standing.run_items}
use Rattle.mm_save.specs.Recorder.{recalled, recollection}

-- the session after lines, each of which is carried out, also those after a `quit`
abbrev pub after_lines : (first : Session) → Session → List (List ℕ) → Session
after_lines first s [] = s
after_lines first s (line ∷ lines) = after_lines first (recalled first s line).session lines

-- the session's state is that of the image's run after as many items of the order as its total says
abbrev pub IsInRun : Image → Order → Session → Type 0
IsInRun i order s = s.state ≡ run (start i) (run_items i order (total_of s))

-- a session that began at the start of an image's run and can go back is in that run after any lines: after the lines
-- of an input up to a `quit`, and also if lines after a `quit` are carried out
abbrev pub GoingBackChangesNoRun : Type 0
GoingBackChangesNoRun = (i : Image) (order : Order) (lines : List (List ℕ)) →
    let first = begun order (start i) in
    IsInRun i order (recollection first first lines).session × IsInRun i order (after_lines first first lines)
