use Rattle.mm_keep.proofs.{Claims.facts_none, Loops.{facts_more, facts_all}}
use Rattle.mm_keep.specs.Searching.{across_facts}
use Rattle.mm_keep.proofs.begin.begin_pointers.Goals as goal

pub loop-p-init : goal.loop-p-init
loop-p-init c =
    facts_none c.args.kernel.now.image c.args.kernel.now.kept c.args.tables.now

pub loop-p-preserved : goal.loop-p-preserved
loop-p-preserved c =
    let l = c.loop-p in
    facts_more c.args.kernel.now.image c.args.kernel.now.kept (across_facts c.args.kernel.now.kept) c.args.pointers.now l.p-index c.p-item.result c.args.tables.now l.tables c.note_across.new.tables
    c.loop-p-test.true c.p-item.is l.invariant c.in_ok-note_across.ensures

pub returns : goal.returns
returns c =
    let l = c.loop-p in
    facts_all c.args.kernel.now.image c.args.kernel.now.kept (across_facts c.args.kernel.now.kept) c.args.pointers.now l.p-index c.args.tables.now l.tables c.loop-p-test.false l.invariant
