-- What contracts see of a machine, and the runs that it stands for.
use Rattle.std.specs.Prelude.{◌≡◌, ℕ, List}
use Rattle.mm_mem.specs.declared.memory.Memory.{Ghosts}
use Rattle.mm_model.specs.{Uses.{Use, TakesUses}, State.State, Image.{Image, start}, Run.{run, uses}}
use Rattle.mm_machine.specs.declared.machine.Machine.{Machine}

module _ {M : Type 0} {memory : Ghosts M} where
  -- the state of a machine
  abbrev pub state_of : Machine M memory → State
  state_of m = record { core = m.core; memory = memory.meaning m.mem; cycles = m.cycles }

  -- the count of port calls so far
  abbrev pub ports_used : Machine M memory → ℕ
  ports_used m = m.ports

  -- the memory of the machine stands for this list of uses
  abbrev pub StandsTo : Machine M memory → List Use → Type 0
  StandsTo m us = memory.stands m.mem us

  -- the new machine's memory stands for each list for which the old one's stood, with these uses added
  abbrev pub Takes : Machine M memory → Machine M memory → List Use → Type 0
  Takes old new us = TakesUses memory.stands old.mem new.mem us

  -- the machine is in the state to which the items lead from the image's start, and its memory was asked what that run
  -- asks
  pub record StandsFor (i : Image) (items : List ℕ) (m : Machine M memory) : Type 0 where
    pub state : state_of m ≡ run (start i) items
    pub uses_made : StandsTo m (uses (start i) items)
