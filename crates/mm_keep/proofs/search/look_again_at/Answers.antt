use Rattle.std.proofs.Common.{◌<◌, length, get_or, arith}
use Rattle.std.proofs.lemmas.List.{get_or_default}
use Rattle.mm_keep.specs.Searching.{again_facts}
use Rattle.mm_keep.proofs.{Loops.{begins_within, read_in}, Rounds.{derives_all, derives_none, reader_more, has_more}}
use Rattle.mm_keep.proofs.search.look_again_at.Goals as goal

pub look_again-requires : goal.look_again-requires
look_again-requires c =
    let l = c.loop-at in
    let a = c.args.tables.now in
    let at = get_or c.args.readers.now l.at-index 0 in
    begins_within a.threads l.tables.threads at l.invariant.derives.grows.threads
    (c.requires.inside at (read_in c.args.readers.now l.at-index at c.loop-at-test.true (get_or_default c.args.readers.now l.at-index 0 at c.loop-at-test.true)))

pub loop-at-init : goal.loop-at-init
loop-at-init c =
    record { derives = derives_none c.args.kernel.now.image c.args.kernel.now.kept c.args.tables.now; few = c.requires.few }

pub loop-at-preserved : goal.loop-at-preserved
loop-at-preserved c =
    let l = c.loop-at in
    let at = get_or c.args.readers.now l.at-index 0 in
    record {
      derives = reader_more c.args.kernel.now.image c.args.kernel.now.kept c.args.readers.now l.at-index at c.args.tables.now l.tables c.look_again.new.tables
          c.loop-at-test.true (get_or_default c.args.readers.now l.at-index 0 at c.loop-at-test.true) l.invariant.derives c.in_ok-look_again.ensures;
      few = (let le = c.if-found-limit.false in let is = c.threads-found.ensures.count in omega (arith, le, is));
    }

pub returns-then-found-limit-clause-more : goal.returns-then-found-limit-clause-more
returns-then-found-limit-clause-more c =
    let l = c.loop-at in
    let now = c.look_again.new.tables in
    let many : c.args.limit < length now.threads = (let gt = c.if-found-limit.true in let is = c.threads-found.ensures.count in omega (arith, gt, is)) in
    λ off. has_more c.args.kernel.now.image c.args.kernel.now.kept now c.args.limit (c.in_ok-look_again.ensures.sound (l.invariant.derives.sound c.requires.sound)) c.threads-found.ensures.distinct many

pub returns-clause-derives : goal.returns-clause-derives
returns-clause-derives c =
    let l = c.loop-at in
    λ on. derives_all c.args.kernel.now.image c.args.kernel.now.kept (again_facts c.args.kernel.now.image c.args.kernel.now.kept c.args.tables.now) c.args.readers.now l.at-index c.args.tables.now l.tables
    c.loop-at-test.false l.invariant.derives
