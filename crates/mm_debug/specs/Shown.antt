-- The values of a session and of a point that contracts see.
use Rattle.mm_mem.specs.declared.memory.Memory.{Ghosts}
use Rattle.mm_machine.specs.Machine.{state_of}
use Rattle.mm_debug.specs.declared.session.Session.{Session}
use Rattle.mm_debug.specs.Session as model

module _ {M : Type 0} {memory : Ghosts M} where
  -- the session's order, the last item of round robin, the state of its machine, and its breaks and watches
  abbrev pub session_of : Session M memory → model.Session
  session_of s =
      record { order = s.order; last = s.robin; state = state_of s.machine; breaks = s.breaks; watches = s.watches }
