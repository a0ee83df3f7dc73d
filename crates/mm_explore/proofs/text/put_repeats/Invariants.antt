use Rattle.std.{proofs.Common.{◌≡◌, ◌-◌, ◌≤◌, ℕ, List, ◌++◌, drop, length}, specs.List.flat_map}
use Rattle.mm_text.specs.Appends.{Appends}
use Rattle.mm_explore.specs.Texts.{repeats_of, repeat_text}
use Rattle.mm_explore.proofs.text.put_repeats.Given as goal

-- what is gathered so far and the text of the items that are left are the text of all
abbrev pub invariant-loop-at : goal.invariant-loop-at
invariant-loop-at g l = record {
  done : List ℕ;
  appends : Appends g.O.Sink.taken g.O.Sink.faults l.initial.out l.out l.initial.text l.text done;
  left : done ++ flat_map repeat_text (repeats_of (drop l.at l.items)) ≡ flat_map repeat_text (repeats_of l.items);
  within : l.at ≤ length l.items;
}

abbrev pub decreases-loop-at : goal.decreases-loop-at
decreases-loop-at g l = length l.items - l.at
