use Rattle.std.proofs.Common.{arith}
use Rattle.mm_machine.{specs.Machine.state_of, proofs.Ports.valid_put}
use Rattle.mm_machine.proofs.machine.Machine.port_put.Goals as goal

pub invariant_of-self : goal.invariant_of-self
invariant_of-self g c = record {
  valid = valid_put (state_of c.args.self.now) c.args.a.now.addr c.args.bits (g.M.Memory.meaning c.store.new.self) (omega (arith, c.ranges.bits)) c.store.ensures.after c.args.self.now.valid;
  few_ports = omega arith;
  few_uses = omega (arith, c.store.ensures.count, c.args.self.now.few_uses);
  most_uses = omega (arith, c.store.ensures.count, c.args.self.now.most_uses);
}
