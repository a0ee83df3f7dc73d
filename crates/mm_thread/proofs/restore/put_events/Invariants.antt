use Rattle.std.proofs.Common.{◌≡◌, map, take}
use Rattle.mm_model.specs.Fits.{slots_of}
use Rattle.mm_thread.specs.Parts.{row_with}
use Rattle.mm_thread.proofs.restore.put_events.Given as goal

abbrev pub invariant-loop-number : goal.invariant-loop-number
invariant-loop-number l = l.tables ≡ record l.initial.tables { rows = map (row_with (take l.number-index l.events)) (slots_of l.initial.tables) }
