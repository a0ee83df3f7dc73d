use Rattle.mm_keep.proofs.{Loops.{facts_more, facts_all, appended_more, appended_all}}
use Rattle.mm_keep.specs.Searching.{page_handed, page_first}
use Rattle.mm_keep.proofs.begin.begin_pages.Goals as goal

pub loop-page-preserved : goal.loop-page-preserved
loop-page-preserved c =
    let l = c.loop-page in
    let x = c.page-item.result in
    let e = c.in_ok-begin_page.ensures in
    let lt = c.loop-page-test.true in
    record {
      facts = facts_more c.args.kernel.now.image c.args.kernel.now.kept (page_handed c.args.kernel.now.image c.args.kernel.now.kept) c.args.pages.now l.page-index x c.args.tables.now l.tables c.begin_page.new.tables lt c.page-item.is l.invariant.facts e.facts;
      first = appended_more (page_first c.args.kernel.now.image c.args.kernel.now.kept) c.args.first.now.items l.first.items c.begin_page.new.first.items c.args.pages.now l.page-index x lt c.page-item.is
          l.invariant.first e.first;
    }

pub returns-clause-facts : goal.returns-clause-facts
returns-clause-facts c =
    let l = c.loop-page in
    facts_all c.args.kernel.now.image c.args.kernel.now.kept (page_handed c.args.kernel.now.image c.args.kernel.now.kept) c.args.pages.now l.page-index c.args.tables.now l.tables c.loop-page-test.false l.invariant.facts

pub returns-clause-first : goal.returns-clause-first
returns-clause-first c =
    let l = c.loop-page in
    appended_all (page_first c.args.kernel.now.image c.args.kernel.now.kept) c.args.first.now.items l.first.items c.args.pages.now l.page-index c.loop-page-test.false l.invariant.first
