use Rattle.std.proofs.Common.{◌<◌, length, arith}
use Rattle.mm_keep.proofs.{Claims.facts_none, Loops.{begins_get, begins_within, facts_more, facts_all}}
use Rattle.mm_keep.specs.Searching.{resumed_facts}
use Rattle.mm_keep.proofs.again.resume.Goals as goal

pub loop-k-init : goal.loop-k-init
loop-k-init c =
    facts_none c.args.kernel.now.image c.args.kernel.now.kept c.args.tables.now

pub resumes_at-done-requires : goal.resumes_at-done-requires
resumes_at-done-requires c =
    let l = c.loop-k in
    let a = c.args.tables.now in
    let lt : l.k < length a.resumes = (let test = c.loop-k-test.true in let end = c.resumes-k-end.ensures in omega (arith, test, end)) in
    begins_within a.resumes l.tables.resumes l.k l.invariant.grows.resumes lt

pub loop-k-preserved : goal.loop-k-preserved
loop-k-preserved c =
    let l = c.loop-k in
    let a = c.args.tables.now in
    let x = c.resumes_at-done.result in
    let lt : l.k < length a.resumes = (let test = c.loop-k-test.true in let end = c.resumes-k-end.ensures in omega (arith, test, end)) in
    facts_more c.args.kernel.now.image c.args.kernel.now.kept (resumed_facts c.args.kernel.now.image c.args.kernel.now.kept c.args.slot c.args.u.now) a.resumes l.k x a l.tables c.resume_by.new.tables lt
    (begins_get a.resumes l.tables.resumes l.k x l.invariant.grows.resumes lt c.resumes_at-done.ensures) l.invariant c.in_ok-resume_by.ensures

pub returns : goal.returns
returns c =
    let l = c.loop-k in
    let a = c.args.tables.now in
    let test = c.loop-k-test.false in
    let end = c.resumes-k-end.ensures in
    facts_all c.args.kernel.now.image c.args.kernel.now.kept (resumed_facts c.args.kernel.now.image c.args.kernel.now.kept c.args.slot c.args.u.now) a.resumes l.k a l.tables (omega (arith, test, end)) l.invariant
