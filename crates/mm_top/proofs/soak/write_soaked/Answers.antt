use Rattle.std.proofs.Common.{[], None, refl, ap, subst, arith}
use Rattle.mm_io.proofs.Known.{writes_same}
use Rattle.mm_model.specs.{Image.{Image, start}, Run.robin_from}
use Rattle.mm_machine.specs.Machine.{StandsFor}
use Rattle.mm_gen.specs.{Generated.generated, Summary.summary}
use Rattle.mm_top.proofs.{Reported.{start_cycles, ends_written}, Issued.issued_from_start}
use Rattle.mm_sched.specs.declared.schedule.Order.TheVariants as order
use Rattle.mm_top.proofs.soak.write_soaked.Goals as goal

pub round_robin-requires-clause-few : goal.round_robin-requires-clause-few
round_robin-requires-clause-few g c = omega (arith, c.requires.most, start_cycles _ _ c.in_ok-machine.ensures.stands)

pub returns : goal.returns
returns g c =
    let i = generated c.args.number c.args.size in
    let m = c.in_ok-machine.machine in
    let begun : StandsFor i [] m = subst (λ (j : Image). StandsFor j [] m) c.in_ok-image.ensures c.in_ok-machine.ensures.stands in
    let stands : StandsFor i (robin_from (start i) None c.args.cycles) c.round_robin.new.self = issued_from_start i
    order.Robin c.args.cycles m c.round_robin.new.self begun c.round_robin.ensures.goes in
    ends_written _ _ _ _ refl _ _ c.ended.ensures (writes_same c.summary.ensures (ap summary stands.state))
