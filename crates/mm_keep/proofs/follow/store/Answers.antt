use Rattle.mm_keep.proofs.{Claims.facts_none, Loops.{facts_more, facts_all}}
use Rattle.mm_keep.specs.Searching.{stored_facts}
use Rattle.mm_keep.proofs.follow.store.Goals as goal

pub loop-held-init : goal.loop-held-init
loop-held-init c =
    facts_none c.args.kernel.now.image c.args.kernel.now.kept c.args.tables.now

pub loop-held-preserved : goal.loop-held-preserved
loop-held-preserved c =
    let l = c.loop-held in
    let x = c.held-item.result in
    facts_more c.args.kernel.now.image c.args.kernel.now.kept (stored_facts c.args.part c.args.form.now) c.args.first.now l.held-index x c.args.tables.now l.tables c.store_to.new.tables
    c.loop-held-test.true c.held-item.is l.invariant (c.in_ok-store_to.ensures c.args.kernel.now.image c.args.kernel.now.kept x.1)

pub returns : goal.returns
returns c =
    let l = c.loop-held in
    facts_all c.args.kernel.now.image c.args.kernel.now.kept (stored_facts c.args.part c.args.form.now) c.args.first.now l.held-index c.args.tables.now l.tables c.loop-held-test.false l.invariant
