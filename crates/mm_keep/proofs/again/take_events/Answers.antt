use Rattle.std.proofs.Common.{◌<◌, length, arith}
use Rattle.mm_keep.proofs.{Claims.facts_none, Loops.{begins_get, begins_within, facts_more, facts_all}}
use Rattle.mm_keep.specs.Searching.{taken_facts}
use Rattle.mm_keep.proofs.again.take_events.Goals as goal

pub loop-k-init : goal.loop-k-init
loop-k-init c =
    facts_none c.args.kernel.now.image c.args.kernel.now.kept c.args.tables.now

pub event_at-event-requires : goal.event_at-event-requires
event_at-event-requires c =
    let l = c.loop-k in
    let a = c.args.tables.now in
    let lt : l.k < length a.events = (let test = c.loop-k-test.true in let end = c.events-k-end.ensures in omega (arith, test, end)) in
    begins_within a.events l.tables.events l.k l.invariant.grows.events lt

pub loop-k-preserved : goal.loop-k-preserved
loop-k-preserved c =
    let l = c.loop-k in
    let a = c.args.tables.now in
    let x = c.event_at-event.result in
    let lt : l.k < length a.events = (let test = c.loop-k-test.true in let end = c.events-k-end.ensures in omega (arith, test, end)) in
    facts_more c.args.kernel.now.image c.args.kernel.now.kept (taken_facts c.args.kernel.now.image c.args.kernel.now.kept c.args.origin.now c.args.reg c.args.next.now) a.events l.k x a l.tables c.take_event.new.tables lt
    (begins_get a.events l.tables.events l.k x l.invariant.grows.events lt c.event_at-event.ensures) l.invariant c.in_ok-take_event.ensures

pub returns : goal.returns
returns c =
    let l = c.loop-k in
    let a = c.args.tables.now in
    let test = c.loop-k-test.false in
    let end = c.events-k-end.ensures in
    facts_all c.args.kernel.now.image c.args.kernel.now.kept (taken_facts c.args.kernel.now.image c.args.kernel.now.kept c.args.origin.now c.args.reg c.args.next.now) a.events l.k a l.tables (omega (arith, test, end)) l.invariant
