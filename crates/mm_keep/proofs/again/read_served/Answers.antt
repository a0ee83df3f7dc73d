use Rattle.std.proofs.Common.{◌<◌, length, arith}
use Rattle.mm_keep.proofs.{Claims.facts_none, Loops.{begins_get, begins_within, facts_more, facts_all}}
use Rattle.mm_keep.specs.Searching.{read_facts}
use Rattle.mm_keep.proofs.again.read_served.Goals as goal

pub loop-k-init : goal.loop-k-init
loop-k-init c =
    facts_none c.args.kernel.now.image c.args.kernel.now.kept c.args.tables.now

pub faulted_at-served-requires : goal.faulted_at-served-requires
faulted_at-served-requires c =
    let l = c.loop-k in
    let a = c.args.tables.now in
    let lt : l.k < length a.faulted = (let test = c.loop-k-test.true in let end = c.faulted-k-end.ensures in omega (arith, test, end)) in
    begins_within a.faulted l.tables.faulted l.k l.invariant.grows.faulted lt

pub loop-k-preserved : goal.loop-k-preserved
loop-k-preserved c =
    let l = c.loop-k in
    let a = c.args.tables.now in
    let x = c.faulted_at-served.result in
    let lt : l.k < length a.faulted = (let test = c.loop-k-test.true in let end = c.faulted-k-end.ensures in omega (arith, test, end)) in
    facts_more c.args.kernel.now.image c.args.kernel.now.kept (read_facts c.args.kernel.now.image c.args.kernel.now.kept c.args.origin.now c.args.reg c.args.from c.args.next.now) a.faulted l.k x a l.tables c.read_one.new.tables lt
    (begins_get a.faulted l.tables.faulted l.k x l.invariant.grows.faulted lt c.faulted_at-served.ensures) l.invariant c.in_ok-read_one.ensures

pub returns : goal.returns
returns c =
    let l = c.loop-k in
    let a = c.args.tables.now in
    let test = c.loop-k-test.false in
    let end = c.faulted-k-end.ensures in
    facts_all c.args.kernel.now.image c.args.kernel.now.kept (read_facts c.args.kernel.now.image c.args.kernel.now.kept c.args.origin.now c.args.reg c.args.from c.args.next.now) a.faulted l.k a l.tables (omega (arith, test, end)) l.invariant
