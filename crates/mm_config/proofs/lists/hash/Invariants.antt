use Rattle.std.proofs.Common.{◌≡◌, take, fold}
use Rattle.mm_config.specs.ListsFound.{hash_with}
use Rattle.mm_config.proofs.lists.hash.Given as goal

abbrev pub invariant-loop-number : goal.invariant-loop-number
invariant-loop-number l = l.hash ≡ fold hash_with 0x9e3779b97f4a7c15 (take l.number-index l.numbers)
