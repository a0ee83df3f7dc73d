use Rattle.std.proofs.Common.{sym, ◌∙◌}
use Rattle.mm_hold.proofs.PartySets.{served_then, served_else}
use Rattle.mm_hold.proofs.sharing.parties_if_served.Goals as goal

pub returns-then-is_served : goal.returns-then-is_served
returns-then-is_served c =
    served_then c.args.kernel.now.image c.args.kernel.now.kept c.parties_of.result c.args.slot.now c.args.number (sym c.is_served.ensures ∙ c.if-is_served.true) c.parties_of.ensures

pub returns-else-is_served : goal.returns-else-is_served
returns-else-is_served c =
    served_else c.args.kernel.now.image c.args.kernel.now.kept c.none.result c.args.slot.now c.args.number (sym c.is_served.ensures ∙ c.if-is_served.false) c.none.ensures
