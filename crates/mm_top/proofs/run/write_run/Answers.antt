use Rattle.std.proofs.Common.{refl, arith}
use Rattle.mm_machine.specs.Machine.{StandsFor}
use Rattle.mm_top.specs.Plans.{items_planned}
use Rattle.mm_top.proofs.{Reported.{start_cycles, reported, ends_written}, Issued.issued_from_start}
use Rattle.mm_top.proofs.run.write_run.Goals as goal

pub issue-requires-clause-few : goal.issue-requires-clause-few
issue-requires-clause-few g c = omega (arith, c.requires, start_cycles _ _ c.in_ok-machine.ensures.stands)

pub returns : goal.returns
returns g c =
    let p = c.args.plan.now in
    let stands : StandsFor p.image (items_planned p) c.issue.new.machine = issued_from_start p.image p.order p.cycles
    c.in_ok-machine.machine c.issue.new.machine c.in_ok-machine.ensures.stands c.issue.ensures.goes in
    ends_written _ _ _ _ refl _ _ c.ended.ensures (reported g.M.Inspect.tells p.image (items_planned p) c.issue.new.machine stands c.report.ensures.counts)
