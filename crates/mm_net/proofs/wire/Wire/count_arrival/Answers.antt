use Rattle.std.proofs.Common.{true, ap, ◌∙◌}
use Rattle.mm_net.{specs.{Nets.{due, with_arrived}, Wires.Wired}, proofs.Carrying.one_more}
use Rattle.mm_net.proofs.wire.Wire.count_arrival.Goals as goal

pub returns-clause-carried : goal.returns-clause-carried
returns-clause-carried c number bits is =
    one_more c.self.inside.sent.items c.self.inside.arrived number bits c.self.invariant.front (ap (λ (w : Wired). due w.carried number) c.self.view_is ∙ is)
    ∙ ap (λ (w : Wired). with_arrived w.carried bits true) c.self.view_is
