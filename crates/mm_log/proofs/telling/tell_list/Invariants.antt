use Rattle.std.proofs.Common.{◌≡◌, ℕ, ◌+◌, ◌-◌, ◌≤◌, ◌^◌, List, ◌++◌, length, take}
use Rattle.mm_model.specs.{Image.Image, Run.run}
use Rattle.mm_log.specs.Telling.{text_of_run}
use Rattle.mm_text.specs.Appends.{Appends}
use Rattle.mm_machine.specs.Machine.{state_of, StandsFor}
use Rattle.mm_log.proofs.telling.tell_list.Given as goal

-- the machine went on with the items so far, and their lines were gathered
abbrev pub invariant-loop-item : goal.invariant-loop-item
invariant-loop-item g l = record {
  cycles : (state_of l.machine).cycles + (length l.items - l.item-index) ≤ 2 ^ 32;
  goes : (i : Image) (before : List ℕ) → StandsFor i before l.initial.machine → StandsFor i (before ++ take l.item-index l.items) l.machine;
  state : state_of l.machine ≡ run (state_of l.initial.machine) (take l.item-index l.items);
  lines : Appends g.O.Sink.taken g.O.Sink.faults l.initial.out l.out l.initial.text l.text (text_of_run g.T.Teller.of_cycle (state_of l.initial.machine) (take l.item-index l.items));
}
