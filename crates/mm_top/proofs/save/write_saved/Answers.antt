use Rattle.std.proofs.Common.{◌∙◌, subst, arith}
use Rattle.mm_model.specs.{Image.start, State.State}
use Rattle.mm_machine.specs.{Machine.StandsFor, Snapshot.{IsSnapshotOf, IsTyped}}
use Rattle.mm_checkpoint.proofs.Reached.{snapshots}
use Rattle.mm_top.specs.Plans.{items_planned}
use Rattle.mm_top.proofs.{Reported.{start_cycles, ends_cut}, Issued.{issued_from_start, few_items, saved_from_start}}
use Rattle.mm_top.proofs.save.write_saved.Goals as goal

pub issue-last-requires-clause-few : goal.issue-last-requires-clause-few
issue-last-requires-clause-few g c = omega (arith, c.requires, start_cycles _ _ c.in_ok-machine.ensures.stands)

pub write-requires : goal.write-requires
write-requires g c =
    let p = c.args.plan.now in
    let i = p.image in
    let stands : StandsFor i (items_planned p) c.issue-last.new.machine = issued_from_start i p.order p.cycles
    c.in_ok-machine.machine c.issue-last.new.machine c.in_ok-machine.ensures.stands c.issue-last.ensures.goes in
    let few = few_items p.order (start i) p.cycles in
    snapshots i (items_planned p) c.in_ok-snapshot.snapshot _ c.in_ok-machine.ensures.image (omega (arith, few, c.requires))
    (subst (λ (s : State). IsSnapshotOf s c.in_ok-snapshot.snapshot) stands.state c.in_ok-snapshot.ensures.state)
    (subst IsTyped c.snapshot-2.view_is c.snapshot-2.invariant.1) c.issue-last.ensures.slot

pub returns-in_err-write_all : goal.returns-in_err-write_all
returns-in_err-write_all g c =
    let p = c.args.plan.now in
    ends_cut {T = Unit {0}} _ _ _ _ _
    (saved_from_start p.image p.order p.cycles c.in_ok-machine.machine c.issue-last.new.machine c.in_ok-snapshot.snapshot c.issue-last.result _
    c.in_ok-machine.ensures.image c.in_ok-machine.ensures.stands c.issue-last.ensures.goes c.issue-last.ensures.last
    c.in_ok-snapshot.ensures.state (c.as_slice.ensures.value ∙ c.in_ok-bytes.ensures.written))
    c.in_err-write_all.ensures c.from_residual-in_err-write_all.ensures.1

pub returns : goal.returns
returns g c =
    let p = c.args.plan.now in (
      c.as_slice.result.now,
      saved_from_start p.image p.order p.cycles c.in_ok-machine.machine c.issue-last.new.machine c.in_ok-snapshot.snapshot c.issue-last.result _
          c.in_ok-machine.ensures.image c.in_ok-machine.ensures.stands c.issue-last.ensures.goes
          c.issue-last.ensures.last c.in_ok-snapshot.ensures.state (c.as_slice.ensures.value
          ∙ c.in_ok-bytes.ensures.written),
      c.in_ok-write_all.ensures.whole,
    )
