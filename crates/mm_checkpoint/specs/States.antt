-- The parts of a state that a checkpoint has.
use Rattle.std.specs.Prelude.{ℕ, List, map, Option}
use Rattle.mm_model.specs.{Fits.slots_of, State.{Core, State, output_of}}
use Rattle.mm_machine.specs.Snapshot.{queued}
use Rattle.mm_checkpoint.specs.{Checkpoints.Saved, Reading.groups_of}

-- each group of a slot, ascending, with its output
abbrev pub outputs_of : Core → List (ℕ × List ℕ)
outputs_of core = map (λ g. (g, output_of core g)) (groups_of (slots_of core))

-- the parts of a state, and the slot that round robin issued last
abbrev pub saved_form : State → Option ℕ → Saved
saved_form s last = record {
  slots = slots_of s.core;
  events = queued s.core;
  outputs = outputs_of s.core;
  pages = s.memory.pages;
  cycles = s.cycles;
  last = last;
}
