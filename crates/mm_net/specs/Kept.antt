-- What is true of a net at every moment.
use Rattle.std.specs.Prelude.{◌≡◌, ℕ, ◌<◌, ◌≤◌, List, slice_get, Some}
use Rattle.mm_mem.specs.declared.memory.Memory.{Ghosts}
use Rattle.mm_machine.specs.{declared.machine.Machine.Machine, Machine.{state_of, ports_used}}
use Rattle.mm_net.specs.Wires.{Wired}

module _ {M : Type 0} {memory : Ghosts M} where
  -- no node did more cycles or port calls than there were steps
  pub record AreWithin (steps : ℕ) (nodes : List (Machine M memory)) : Type 0 where
    pub cycles : (n : ℕ) (m : Machine M memory) → slice_get nodes n ≡ Some m → (state_of m).cycles ≤ steps
    pub ports : (n : ℕ) (m : Machine M memory) → slice_get nodes n ≡ Some m → ports_used m ≤ steps

-- the nodes at both ends of each link are there, and each link has room for at least this count of integers
pub record AreWired (nodes least : ℕ) (wires : List Wired) : Type 0 where
  pub from : (l : ℕ) (w : Wired) → slice_get wires l ≡ Some w → w.link.from < nodes
  pub to : (l : ℕ) (w : Wired) → slice_get wires l ≡ Some w → w.link.to < nodes
  pub room : (l : ℕ) (w : Wired) → slice_get wires l ≡ Some w → least ≤ w.room
