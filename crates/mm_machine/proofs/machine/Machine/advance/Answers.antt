use Rattle.std.proofs.Common.{arith}
use Rattle.mm_model.specs.State.{State}
use Rattle.mm_machine.{specs.Machine.state_of, proofs.Keeping.{few_turns, goes_on, state_made}}
use Rattle.mm_machine.proofs.machine.Machine.advance.Goals as goal

pub turn_watched-requires-clause-turns : goal.turn_watched-requires-clause-turns
turn_watched-requires-clause-turns g c = few_turns (state_of c.args.self.now) c.requires c.args.self.now.valid

pub invariant_of-self : goal.invariant_of-self
invariant_of-self g c =
    let old : State = state_of c.args.self.now in
    record {
      valid = goes_on old _ c.args.item
          (state_made old c.args.item c.turn_watched.new.core (g.M.Memory.meaning c.turn_watched.new.mem) c.turn_watched.ensures.core c.turn_watched.ensures.memory)
          c.args.self.now.valid;
      few_ports = c.args.self.now.few_ports;
      few_uses = omega (arith, c.turn_watched.ensures.count, c.turn_watched.ensures.few, c.args.self.now.few_uses);
      most_uses = omega (arith, c.turn_watched.ensures.count, c.turn_watched.ensures.few, c.args.self.now.few_uses);
    }

pub returns-clause-state : goal.returns-clause-state
returns-clause-state g c = state_made (state_of c.args.self.now) c.args.item c.turn_watched.new.core (g.M.Memory.meaning c.turn_watched.new.mem) c.turn_watched.ensures.core c.turn_watched.ensures.memory
