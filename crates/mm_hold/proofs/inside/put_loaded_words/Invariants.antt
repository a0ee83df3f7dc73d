use Rattle.std.{proofs.Common.{◌≡◌, ◌++◌, take}, specs.List.flat_map}
use Rattle.mm_hold.specs.Deeds.{used_in}
use Rattle.mm_hold.specs.declared.deed.Deed.TheVariants.{Loaded}
use Rattle.mm_hold.proofs.inside.put_loaded_words.Given as goal

abbrev pub invariant-loop-word : goal.invariant-loop-word
invariant-loop-word l = l.deeds.items ≡ l.initial.deeds.items ++ flat_map (used_in Loaded l.origin l.part) (take l.word-index l.carrying)
