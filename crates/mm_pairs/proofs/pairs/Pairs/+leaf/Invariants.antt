use Rattle.mm_pairs.proofs.pairs.Pairs.+leaf.Given as goal

abbrev pub decreases-leaf : goal.decreases-leaf
decreases-leaf l = l.depth
