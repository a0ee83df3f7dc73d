use Rattle.mm_text.proofs.Appending.{appends_item}
use Rattle.mm_keep_text.specs.Answers.{leak_line}
use Rattle.mm_keep_text.proofs.text.put_leaks.Goals as goal

pub loop-leak-preserved : goal.loop-leak-preserved
loop-leak-preserved g c = appends_item leak_line c.args.leaks.now c.loop-leak.leak-index
    c.leak-item.result c.loop-leak-test.true c.leak-item.is c.loop-leak.invariant c.put_leak_line.ensures
