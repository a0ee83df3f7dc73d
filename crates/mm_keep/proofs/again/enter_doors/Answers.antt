use Rattle.std.proofs.Common.{◌<◌, length, arith}
use Rattle.mm_keep.proofs.{Claims.facts_none, Loops.{begins_get, begins_within, facts_more, facts_all}}
use Rattle.mm_keep.specs.Searching.{enter_facts}
use Rattle.mm_keep.proofs.again.enter_doors.Goals as goal

pub loop-k-init : goal.loop-k-init
loop-k-init c =
    facts_none c.args.kernel.now.image c.args.kernel.now.kept c.args.tables.now

pub door-door-requires : goal.door-door-requires
door-door-requires c =
    let l = c.loop-k in
    let a = c.args.tables.now in
    let lt : l.k < length a.doors = (let test = c.loop-k-test.true in let end = c.doors-k-end.ensures in omega (arith, test, end)) in
    begins_within a.doors l.tables.doors l.k l.invariant.grows.doors lt

pub loop-k-preserved : goal.loop-k-preserved
loop-k-preserved c =
    let l = c.loop-k in
    let a = c.args.tables.now in
    let x = c.door-door.result in
    let lt : l.k < length a.doors = (let test = c.loop-k-test.true in let end = c.doors-k-end.ensures in omega (arith, test, end)) in
    facts_more c.args.kernel.now.image c.args.kernel.now.kept (enter_facts c.args.kernel.now.image c.args.kernel.now.kept c.args.handlers.now) a.doors l.k x a l.tables c.enter_door.new.tables lt
    (begins_get a.doors l.tables.doors l.k x l.invariant.grows.doors lt c.door-door.ensures) l.invariant c.in_ok-enter_door.ensures

pub returns : goal.returns
returns c =
    let l = c.loop-k in
    let a = c.args.tables.now in
    let test = c.loop-k-test.false in
    let end = c.doors-k-end.ensures in
    facts_all c.args.kernel.now.image c.args.kernel.now.kept (enter_facts c.args.kernel.now.image c.args.kernel.now.kept c.args.handlers.now) a.doors l.k a l.tables (omega (arith, test, end)) l.invariant
