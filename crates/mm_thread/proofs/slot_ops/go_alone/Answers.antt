use Rattle.std.proofs.Common.{Ok, Err}
use Rattle.mm_thread.proofs.{SlotUpdates.alone_leaves, RowIndex.apart_in}
use Rattle.mm_thread.proofs.slot_ops.go_alone.Goals as goal

pub returns-in-Ok : goal.returns-in-Ok
returns-in-Ok c = λ m.
    let r = c.requires.can in
    alone_leaves c.args.tables.now (apart_in c.args.tables.now r.whole) c.args.slot_index r.within m c.args.instr.now
    c.requires.alone c.carry_out.new.self (Ok c.in-Ok.entered) c.in-Ok.ensures.ends c.in-Ok.ensures.others

pub returns-in-Err : goal.returns-in-Err
returns-in-Err c = λ m.
    let r = c.requires.can in
    alone_leaves c.args.tables.now (apart_in c.args.tables.now r.whole) c.args.slot_index r.within m c.args.instr.now
    c.requires.alone c.carry_out.new.self (Err c.in-Err.cause) c.in-Err.ensures.ends c.in-Err.ensures.others
