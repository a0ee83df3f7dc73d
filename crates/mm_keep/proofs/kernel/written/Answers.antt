use Rattle.mm_keep.proofs.Writing.{more_written, all_written}
use Rattle.mm_keep.proofs.kernel.written.Goals as goal

pub loop-p-preserved : goal.loop-p-preserved
loop-p-preserved c =
    let l = c.loop-p in
    more_written c.args.pointers.now l.p-index c.p-item.result l.set c.note_pointer.new.writable c.loop-p-test.true c.p-item.is
    l.invariant c.in_ok-note_pointer.ensures

pub returns : goal.returns
returns c =
    let l = c.loop-p in
    all_written c.args.pointers.now l.p-index l.set c.loop-p-test.false l.invariant
