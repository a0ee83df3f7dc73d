-- The items of a machine, in any of its states.
use Rattle.std.specs.Prelude.{◌≡◌, ℕ, List}
use Rattle.mm_mem.specs.declared.memory.Memory.{Ghosts}
use Rattle.mm_model.specs.Run.{run, uses}
use Rattle.mm_machine.specs.{declared.machine.Machine.Machine, Machine.{state_of, Takes}}

module _ {M : Type 0} {memory : Ghosts M} where
  -- a machine went on with these items: its state is the one to which they lead, and its memory was asked what they ask
  pub record WentOn (old new : Machine M memory) (items : List ℕ) : Type 0 where
    pub state : state_of new ≡ run (state_of old) items
    pub takes : Takes old new (uses (state_of old) items)
