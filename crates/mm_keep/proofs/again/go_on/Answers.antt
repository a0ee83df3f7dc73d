use Rattle.std.proofs.Common.{◌<◌, length, arith}
use Rattle.mm_keep.proofs.{Loops.begins_within, Rounds.{derives_none, derives_all, faulted_more}}
use Rattle.mm_keep.specs.Searching.{goes_on_facts}
use Rattle.mm_keep.proofs.again.go_on.Goals as goal

pub loop-k-init : goal.loop-k-init
loop-k-init c =
    derives_none c.args.kernel.now.image c.args.kernel.now.kept c.args.tables.now

pub faulted_at-slot-requires : goal.faulted_at-slot-requires
faulted_at-slot-requires c =
    let l = c.loop-k in
    let a = c.args.tables.now in
    let lt : l.k < length a.faulted = (let test = c.loop-k-test.true in let end = c.faulted-k-end.ensures in omega (arith, test, end)) in
    begins_within a.faulted l.tables.faulted l.k l.invariant.grows.faulted lt

pub loop-k-preserved : goal.loop-k-preserved
loop-k-preserved c =
    let l = c.loop-k in
    let a = c.args.tables.now in
    let lt : l.k < length a.faulted = (let test = c.loop-k-test.true in let end = c.faulted-k-end.ensures in omega (arith, test, end)) in
    faulted_more c.args.kernel.now.image c.args.kernel.now.kept l.k c.faulted_at-slot.result a l.tables c.resume.new.tables c.write.new.tables lt c.faulted_at-slot.ensures
    l.invariant c.in_ok-resume.ensures (c.in_ok-write.ensures c.args.kernel.now.image c.args.kernel.now.kept)

pub returns : goal.returns
returns c =
    let l = c.loop-k in
    let a = c.args.tables.now in
    let test = c.loop-k-test.false in
    let end = c.faulted-k-end.ensures in
    derives_all c.args.kernel.now.image c.args.kernel.now.kept (goes_on_facts c.args.kernel.now.image c.args.kernel.now.kept a) a.faulted l.k a l.tables (omega (arith, test, end)) l.invariant
