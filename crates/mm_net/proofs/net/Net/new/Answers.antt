use Rattle.std.proofs.Common.{◌∙◌}
use Rattle.mm_net.proofs.Beginning.{begins_within, begins_wired, few_wires, begins}
use Rattle.mm_net.proofs.net.Net.new.Goals as goal

pub invariant_of-result : goal.invariant_of-result
invariant_of-result g c =
    let same = c.in_ok-wires.ensures.links ∙ c.items.ensures.items in
    record {
      some = c.requires.some;
      most = c.requires.most;
      few = few_wires c.in_ok-wires.wires.items c.args.links same c.items.ensures.rules.limit;
      small = c.requires.small;
      within = begins_within c.args.nodes.items c.requires.unused;
      wired = begins_wired _ c.args.room c.in_ok-wires.wires.items c.args.links same c.requires.ends c.in_ok-wires.ensures.room;
    }

pub returns-clause-stands : goal.returns-clause-stands
returns-clause-stands g c = begins _ c.items.result.now c.in_ok-wires.ensures.links c.in_ok-wires.ensures.carried
