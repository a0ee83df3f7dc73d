use Rattle.std.proofs.Common.{◌<◌, length, arith}
use Rattle.mm_keep.proofs.{Claims.facts_none, Loops.{begins_get, begins_within, facts_more, facts_all}}
use Rattle.mm_keep.specs.Searching.{loaded_facts}
use Rattle.mm_keep.proofs.again.load_stored.Goals as goal

pub loop-k-init : goal.loop-k-init
loop-k-init c =
    facts_none c.args.kernel.now.image c.args.kernel.now.kept c.args.tables.now

pub stored_at-held-requires : goal.stored_at-held-requires
stored_at-held-requires c =
    let l = c.loop-k in
    let a = c.args.tables.now in
    let lt : l.k < length a.stored = (let test = c.loop-k-test.true in let end = c.stored-k-end.ensures in omega (arith, test, end)) in
    begins_within a.stored l.tables.stored l.k l.invariant.grows.stored lt

pub loop-k-preserved : goal.loop-k-preserved
loop-k-preserved c =
    let l = c.loop-k in
    let a = c.args.tables.now in
    let x = c.stored_at-held.result in
    let lt : l.k < length a.stored = (let test = c.loop-k-test.true in let end = c.stored-k-end.ensures in omega (arith, test, end)) in
    facts_more c.args.kernel.now.image c.args.kernel.now.kept (loaded_facts c.args.kernel.now.image c.args.kernel.now.kept c.args.part c.args.reg c.args.next.now) a.stored l.k x a l.tables c.load.new.tables lt
    (begins_get a.stored l.tables.stored l.k x l.invariant.grows.stored lt c.stored_at-held.ensures) l.invariant c.in_ok-load.ensures

pub returns : goal.returns
returns c =
    let l = c.loop-k in
    let a = c.args.tables.now in
    let test = c.loop-k-test.false in
    let end = c.stored-k-end.ensures in
    facts_all c.args.kernel.now.image c.args.kernel.now.kept (loaded_facts c.args.kernel.now.image c.args.kernel.now.kept c.args.part c.args.reg c.args.next.now) a.stored l.k a l.tables (omega (arith, test, end)) l.invariant
