use Rattle.std.proofs.Common.{◌∙◌, arith}
use Rattle.mm_debug.proofs.Kept.{break_searched, there_fits, there_stays, new_fits, new_placed, new_kept}
use Rattle.mm_debug.proofs.Spots.{new_spotted}
use Rattle.mm_debug.proofs.breakpoints.Breaks.insert.Goals as goal

pub invariant_of-self : goal.invariant_of-self
invariant_of-self c =
    let found = c.in-Err.ensures in
    let added = c.try_insert.ensures in (
      new_kept c.in-Err.at c.self.inside.kept c.try_insert.new.self
          (break_searched c.args.slot c.args.address _ _ _ c.deref.ensures.0 c.self.invariant.0 found.bound found.position) c.try_insert.result
          added.variant added.ok added.len added.err,
      new_spotted c.self.inside.spots c.in-Err.at c.args.slot c.args.address c.spot.result c.self.inside.kept c.try_insert.new.self
          c.spot.ensures.spot (omega arith) c.self.invariant.1 c.try_insert.result added.ok added.err,
    )

pub returns-in-Ok-clause-fits : goal.returns-in-Ok-clause-fits
returns-in-Ok-clause-fits c =
    let found = c.in-Ok.ensures in
    rw (← c.self.view_is) (there_fits c.in-Ok.field-0 (break_searched c.args.slot c.args.address _ _ _ c.deref.ensures.0 c.self.invariant.0 found.bound found.position))

pub returns-in-Ok-clause-after : goal.returns-in-Ok-clause-after
returns-in-Ok-clause-after c =
    let found = c.in-Ok.ensures in
    rw (← c.self.view_is) (there_stays c.in-Ok.field-0 (break_searched c.args.slot c.args.address _ _ _ c.deref.ensures.0 c.self.invariant.0 found.bound found.position))

pub returns-in-Err-clause-fits : goal.returns-in-Err-clause-fits
returns-in-Err-clause-fits c =
    let found = c.in-Err.ensures in
    rw (← c.self.view_is)
    (c.is_ok.ensures.value ∙ new_fits c.in-Err.at c.self.inside.kept
    (break_searched c.args.slot c.args.address _ _ _ c.deref.ensures.0 c.self.invariant.0 found.bound found.position) c.try_insert.result
    c.try_insert.ensures.variant)

pub returns-in-Err-clause-after : goal.returns-in-Err-clause-after
returns-in-Err-clause-after c =
    let found = c.in-Err.ensures in
    let added = c.try_insert.ensures in
    rw (← c.self.view_is)
    (new_placed c.in-Err.at c.self.inside.kept c.try_insert.new.self
    (break_searched c.args.slot c.args.address _ _ _ c.deref.ensures.0 c.self.invariant.0 found.bound found.position) c.try_insert.result
    added.variant added.ok added.err)
