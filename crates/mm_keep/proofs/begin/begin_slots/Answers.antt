use Rattle.mm_keep.proofs.{Loops.{facts_more, facts_all, appended_more, appended_all}}
use Rattle.mm_keep.specs.Searching.{slot_facts, handler_in}
use Rattle.mm_keep.proofs.begin.begin_slots.Goals as goal

pub loop-slot-preserved : goal.loop-slot-preserved
loop-slot-preserved c =
    let l = c.loop-slot in
    let x = c.slot-item.result in
    let e = c.in_ok-begin_slot.ensures in
    let lt = c.loop-slot-test.true in
    record {
      facts = facts_more c.args.kernel.now.image c.args.kernel.now.kept (slot_facts c.args.kernel.now.image c.args.kernel.now.kept) c.args.slots.now l.slot-index x c.args.tables.now l.tables c.begin_slot.new.tables lt c.slot-item.is l.invariant.facts e.facts;
      handlers = appended_more (handler_in c.args.kernel.now.image c.args.kernel.now.kept) c.args.handlers.now.items l.handlers.items c.begin_slot.new.handlers.items c.args.slots.now l.slot-index x lt c.slot-item.is
          l.invariant.handlers e.handlers;
    }

pub returns-clause-facts : goal.returns-clause-facts
returns-clause-facts c =
    let l = c.loop-slot in
    facts_all c.args.kernel.now.image c.args.kernel.now.kept (slot_facts c.args.kernel.now.image c.args.kernel.now.kept) c.args.slots.now l.slot-index c.args.tables.now l.tables c.loop-slot-test.false l.invariant.facts

pub returns-clause-handlers : goal.returns-clause-handlers
returns-clause-handlers c =
    let l = c.loop-slot in
    appended_all (handler_in c.args.kernel.now.image c.args.kernel.now.kept) c.args.handlers.now.items l.handlers.items c.args.slots.now l.slot-index c.loop-slot-test.false l.invariant.handlers
