use Rattle.mm_pairs.proofs.pairs.Pairs.+with_leaf.Given as goal

abbrev pub decreases-with_leaf : goal.decreases-with_leaf
decreases-with_leaf l = l.depth
