use Rattle.std.proofs.Common.{◌<◌, length, arith}
use Rattle.mm_keep.proofs.{Claims.facts_none, Loops.{begins_get, begins_within, facts_more, facts_all, some_image}}
use Rattle.std.proofs.Common.{[]}
use Rattle.mm_keep.specs.Searching.{written_facts}
use Rattle.mm_keep.proofs.again.write.Goals as goal

pub loop-k-init : goal.loop-k-init
loop-k-init c =
    λ i kept. facts_none i kept c.args.tables.now

pub writes_at-done-requires : goal.writes_at-done-requires
writes_at-done-requires c =
    let l = c.loop-k in
    let a = c.args.tables.now in
    let lt : l.k < length a.writes = (let test = c.loop-k-test.true in let end = c.writes-k-end.ensures in omega (arith, test, end)) in
    begins_within a.writes l.tables.writes l.k (l.invariant some_image []).grows.writes lt

pub loop-k-preserved : goal.loop-k-preserved
loop-k-preserved c =
    let l = c.loop-k in
    let a = c.args.tables.now in
    let x = c.writes_at-done.result in
    let lt : l.k < length a.writes = (let test = c.loop-k-test.true in let end = c.writes-k-end.ensures in omega (arith, test, end)) in
    λ i kept. facts_more i kept (written_facts c.args.slot c.args.u.now) a.writes l.k x a l.tables c.write_by.new.tables lt
    (begins_get a.writes l.tables.writes l.k x (l.invariant i kept).grows.writes lt c.writes_at-done.ensures) (l.invariant i kept) (c.in_ok-write_by.ensures i kept)

pub returns : goal.returns
returns c =
    let l = c.loop-k in
    let a = c.args.tables.now in
    let test = c.loop-k-test.false in
    let end = c.writes-k-end.ensures in
    λ i kept. facts_all i kept (written_facts c.args.slot c.args.u.now) a.writes l.k a l.tables (omega (arith, test, end)) (l.invariant i kept)
