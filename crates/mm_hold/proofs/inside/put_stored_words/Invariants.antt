use Rattle.std.{proofs.Common.{◌≡◌, ◌++◌, take}, specs.List.flat_map}
use Rattle.mm_hold.specs.Deeds.{used_in}
use Rattle.mm_hold.specs.declared.deed.Deed.TheVariants.{Stored}
use Rattle.mm_hold.proofs.inside.put_stored_words.Given as goal

abbrev pub invariant-loop-word : goal.invariant-loop-word
invariant-loop-word l = l.deeds.items ≡ l.initial.deeds.items ++ flat_map (used_in Stored l.origin l.part) (take l.word-index l.carrying)
