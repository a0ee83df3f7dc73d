use Rattle.std.proofs.Common.{◌≡◌, take, length}
use Rattle.mm_model.specs.Flags.{flags}
use Rattle.mm_thread.specs.Revisions.{with_slots}
use Rattle.mm_thread.proofs.restore.put_changed.Given as goal

abbrev pub invariant-loop-at : goal.invariant-loop-at
invariant-loop-at l = l.tables ≡ record l.initial.tables
    { rows = with_slots (take l.at (flags (length l.slots) l.changed)) l.slots l.initial.tables.rows }
