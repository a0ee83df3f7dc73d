use Rattle.std.proofs.Common.{arith}
use Rattle.mm_machine.{specs.Machine.state_of, proofs.Ports.valid_taken}
use Rattle.mm_machine.proofs.machine.Machine.port_take.Goals as goal

pub invariant_of-self : goal.invariant_of-self
invariant_of-self g c = record {
  valid = valid_taken (state_of c.args.self.now) c.args.a.now.addr (g.M.Memory.meaning c.load.new.self) c.load.ensures.after c.args.self.now.valid;
  few_ports = omega arith;
  few_uses = omega (arith, c.load.ensures.count, c.args.self.now.few_uses);
  most_uses = omega (arith, c.load.ensures.count, c.args.self.now.most_uses);
}
