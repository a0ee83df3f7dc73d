use Rattle.std.proofs.Common.{sym, ◌∙◌}
use Rattle.mm_hold.proofs.HeldKeys.{node_none, node_found}
use Rattle.mm_hold.proofs.graph.node_of.Goals as goal

pub returns-in-Some : goal.returns-in-Some
returns-in-Some c =
    node_found c.args.kernel.now.kept c.args.bits c.args.keys.now c.in-Some.key (sym c.key_of_bits.ensures.value ∙ c.in-Some.is) c.find.result c.find.ensures

pub returns-in-None : goal.returns-in-None
returns-in-None c = node_none c.args.kernel.now.kept c.args.bits c.args.keys.now (sym c.key_of_bits.ensures.value ∙ c.in-None.is)
