use Rattle.std.proofs.Common.{◌+◌, arith}
use Rattle.mm_pairs.proofs.Names.{grown_twice}
use Rattle.mm_config.proofs.PageTrees.{deeper, shallow}
use Rattle.mm_config.proofs.pages.deepen.Goals as goal

pub loop-names-preserved : goal.loop-names-preserved
loop-names-preserved c =
    let old = c.args.pairs.now in
    let l = c.loop-names in
    let now = c.join.new.self in
    let same = l.invariant.same in
    let low = shallow c.args.place l.names.height c.requires.place c.loop-names-test.true in
    record {
      same = deeper old l.pairs c.args.names.now l.names same now c.in_ok-names.field-0 (l.names.height + 1) c.in_ok-names.ensures.grown
          (grown_twice old l.pairs now same.grown c.in_ok-names.ensures.grown) c.in_ok-names.ensures.name (omega arith);
      few = omega (arith, low);
    }
