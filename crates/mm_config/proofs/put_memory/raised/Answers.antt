use Rattle.std.proofs.Common.{◌+◌, arith}
use Rattle.mm_pairs.proofs.Names.{grown_twice}
use Rattle.mm_config.specs.declared.names.Names.{Names}
use Rattle.mm_config.proofs.PageTrees.{deeper, still_same}
use Rattle.mm_config.proofs.put_memory.raised.Goals as goal

pub loop-k-init : goal.loop-k-init
loop-k-init c = still_same c.args.pairs.now c.args.names.now c.requires.tree

pub loop-k-preserved : goal.loop-k-preserved
loop-k-preserved c =
    let old = c.args.pairs.now in
    let l = c.loop-k in
    let names = c.args.names.now in
    let n : Names = record names { height = l._k; pages = l.tree } in
    let now = c.join.new.self in
    deeper old l.pairs names n l.invariant now c.in_ok-tree.tree (l._k + 1) c.in_ok-tree.ensures.grown (grown_twice old l.pairs now l.invariant.grown c.in_ok-tree.ensures.grown)
    c.in_ok-tree.ensures.name (omega arith)
