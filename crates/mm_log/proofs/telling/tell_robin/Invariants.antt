use Rattle.std.proofs.Common.{◌≡◌, ℕ, ◌+◌, ◌-◌, ◌≤◌, ◌^◌, List, ◌++◌, None}
use Rattle.mm_model.specs.{Image.Image, Run.{run, robin_from}}
use Rattle.mm_log.specs.Telling.{text_of_run}
use Rattle.mm_text.specs.Appends.{Appends}
use Rattle.mm_machine.specs.Machine.{state_of, StandsFor}
use Rattle.mm_log.proofs.telling.tell_robin.Given as goal

-- the machine went on with some items, their lines were gathered, and they and the rest of round robin from here are the whole of it
abbrev pub invariant-loop : goal.invariant-loop
invariant-loop g l = record {
  cycles : (state_of l.machine).cycles + (l.count - l.counter) ≤ 2 ^ 32;
  goes : (front : List ℕ) × ((i : Image) (before : List ℕ) → StandsFor i before l.initial.machine → StandsFor i (before ++ front) l.machine)
      × (state_of l.machine ≡ run (state_of l.initial.machine) front)
      × Appends g.O.Sink.taken g.O.Sink.faults l.initial.out l.out l.initial.text l.text (text_of_run g.T.Teller.of_cycle (state_of l.initial.machine) front)
      × (front ++ robin_from (state_of l.machine) l.robin (l.count - l.counter) ≡ robin_from (state_of l.initial.machine) None l.count);
}
