use Rattle.std.proofs.Common.{◌++◌, [], Err, refl, sym, ap, subst, arith}
use Rattle.mm_io.proofs.Known.{writes_then, writes_same, writes_cut}
use Rattle.mm_model.specs.{Image.start, State.State, Report.report_after}
use Rattle.mm_machine.specs.Machine.{StandsFor}
use Rattle.mm_sched.specs.Orders.{items_of}
use Rattle.mm_top.specs.Plans.{items_planned, detail_text}
use Rattle.mm_top.proofs.Reported.{start_cycles, start_state, reported, ends_written, ends_cut}
use Rattle.mm_top.proofs.detail.write_detail.Goals as goal

pub write_lines-requires : goal.write_lines-requires
write_lines-requires g c = omega (arith, c.requires, start_cycles _ _ c.in_ok-machine.ensures.stands)

pub returns-in_err-write_lines : goal.returns-in_err-write_lines
returns-in_err-write_lines g c =
    let p = c.args.plan.now in
    let rest = report_after g.M.Inspect.tells p.image (items_planned p) in
    let text = λ (s : State). detail_text c.args.detail s (items_of p.order s p.cycles) ++ rest in
    ends_cut {T = Unit {0}} _ _ _ _ _ refl
    (writes_cut c.in_err-write_lines.ensures.lines (text (start p.image)) rest
    (ap text (sym (start_state p.image c.in_ok-machine.machine c.in_ok-machine.ensures.stands)))
    (Err c.in_err-write_lines.field-0) refl)
    c.from_residual-in_err-write_lines.ensures.1

pub returns : goal.returns
returns g c =
    let p = c.args.plan.now in
    let i = p.image in
    let begun = start_state i c.in_ok-machine.machine c.in_ok-machine.ensures.stands in
    let P : State → Type 0 = λ s. StandsFor i (items_of p.order s p.cycles) c.write_lines.new.machine in
    let stands : StandsFor i (items_planned p) c.write_lines.new.machine = subst P begun (c.write_lines.ensures.goes i [] c.in_ok-machine.ensures.stands) in
    ends_written _ _ _ _ refl _ _ c.ended.ensures
    (writes_then (writes_same c.in_ok-write_lines.ensures.lines (ap (λ (s : State). detail_text c.args.detail s (items_of p.order s p.cycles)) begun))
    (reported g.M.Inspect.tells i (items_planned p) c.write_lines.new.machine stands c.report.ensures.counts))
