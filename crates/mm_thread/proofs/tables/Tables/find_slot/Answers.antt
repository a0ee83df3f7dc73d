use Rattle.std.proofs.Common.{ap, arith}
use Rattle.mm_model.specs.State.{slot_at, slot_of}
use Rattle.mm_thread.proofs.Index.{row_in-none, none_past}
use Rattle.mm_thread.proofs.tables.Tables.find_slot.Goals as goal

pub returns-then-number-ge64-clause-missing : goal.returns-then-number-ge64-clause-missing
unfolding slot_at
returns-then-number-ge64-clause-missing c = rw (← c.self.view_is)
    (ap slot_of (row_in-none c.self.inside.rows.items c.args.number (λ k within same. let small = c.self.invariant.running.numbered.small k within in omega (arith, same))))

pub returns-then-slot_index-count-clause-number : goal.returns-then-slot_index-count-clause-number
returns-then-slot_index-count-clause-number c = rw (← c.self.view_is) (c.self.invariant.places.there c.args.number (omega arith) (omega arith))

pub returns-else-slot_index-count-clause-missing : goal.returns-else-slot_index-count-clause-missing
unfolding slot_at
returns-else-slot_index-count-clause-missing c = rw (← c.self.view_is)
    (ap slot_of (row_in-none c.self.inside.rows.items c.args.number (none_past c.self.inside.rows.items c.self.inside.index c.self.invariant.places c.args.number (omega arith))))
