use Rattle.mm_image.proofs.Written.{both_written}
use Rattle.mm_checkpoint.specs.Format.{tagged_word}
use Rattle.mm_checkpoint.proofs.writing.put_operands.Goals as goal

pub returns-in_ok-put_tagged-in-Some-2 : goal.returns-in_ok-put_tagged-in-Some-2
returns-in_ok-put_tagged-in-Some-2 c =
    let event = c.in-Some.queued.now.event in
    rw c.in-Some.is
    (both_written c.args.out.now.items c.put_tagged.new.out.items c.put_tagged-in-Some.new.out.items (tagged_word event.addr_op) (tagged_word event.value_op)
    c.in_ok-put_tagged-in-Some.ensures c.in_ok-put_tagged-in-Some-2.ensures)
