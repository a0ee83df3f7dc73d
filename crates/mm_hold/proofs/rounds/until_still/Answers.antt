use Rattle.std.proofs.Common.{◌+◌, ◌<◌, ◌≤◌, length, sym, subst, arith}
use Rattle.mm_model.specs.Spelling.{IsImage}
use Rattle.mm_hold.specs.Exactly.{IsSound}
use Rattle.mm_hold.specs.Marks.{HasSize, room_of}
use Rattle.mm_hold.specs.Standing.{Grew}
use Rattle.mm_hold.proofs.Rounding.{round_sound}
use Rattle.mm_hold.proofs.Closing.{round_closed, round_falls, round_grew, started_on}
use Rattle.mm_hold.proofs.rounds.until_still.Goals as goal

pub loop-init : goal.loop-init
loop-init c = (c.requires.size, c.requires.sound, λ x k h. h)

pub round-requires-clause-size : goal.round-requires-clause-size
round-requires-clause-size c = c.loop.invariant.0

pub returns-then-not-branch-clause-grew : goal.returns-then-not-branch-clause-grew
returns-then-not-branch-clause-grew c =
    let a = c.args in
    let r = c.in_ok-round.ensures.round in
    λ x k h. round_grew a.kernel.now.image a.kernel.now.kept a.conduct.now a.graph.now a.passes.now c.loop.marks c.round.new.marks c.in_ok-round.field-0 r x k (c.loop.invariant.2 x k h)

pub returns-then-not-branch-clause-sound : goal.returns-then-not-branch-clause-sound
returns-then-not-branch-clause-sound c =
    let a = c.args in
    round_sound a.kernel.now.image a.kernel.now.kept (subst IsImage c.image.ensures c.slots-slots.ensures.image) c.requires.keeps a.conduct.now c.requires.conduct a.graph.now c.requires.graph
    a.passes.now c.requires.passes c.loop.marks c.round.new.marks c.in_ok-round.field-0
    (subst (HasSize c.loop.marks) (sym c.requires.parts.many) c.loop.invariant.0) c.loop.invariant.1 c.in_ok-round.ensures.round

pub returns-then-not-branch-clause-closed : goal.returns-then-not-branch-clause-closed
returns-then-not-branch-clause-closed c =
    let a = c.args in
    let i = a.kernel.now.image in
    let kept = a.kernel.now.kept in
    let g = a.graph.now in
    let img : IsImage i = subst IsImage c.image.ensures c.slots-slots.ensures.image in
    let old = c.loop.marks in
    let new = c.round.new.marks in
    let changed = c.in_ok-round.field-0 in
    let r = c.in_ok-round.ensures.round in
    let size : HasSize old (length g.keys.items) = subst (HasSize old) (sym c.requires.parts.many) c.loop.invariant.0 in
    let sound : IsSound i kept g.keys.items new =
    round_sound i kept img c.requires.keeps a.conduct.now c.requires.conduct g c.requires.graph a.passes.now c.requires.passes old new changed size c.loop.invariant.1 r in
    let grew : Grew a.marks.now new = λ x k h. round_grew i kept a.conduct.now g a.passes.now old new changed r x k (c.loop.invariant.2 x k h) in
    round_closed i kept img c.requires.keeps a.conduct.now c.requires.conduct g c.requires.graph c.requires.parts.keys a.passes.now c.requires.passes old new changed r
    c.if-not-branch.true size sound (started_on i kept g.keys.items a.marks.now new grew c.requires.started)

pub loop-smaller : goal.loop-smaller
loop-smaller c =
    let a = c.args in
    let old = c.loop.marks in
    let new = c.round.new.marks in
    let fell : room_of new + 1 ≤ room_of old =
    round_falls a.kernel.now.image a.kernel.now.kept a.conduct.now a.graph.now a.passes.now old new c.in_ok-round.field-0 c.in_ok-round.ensures.round c.if-not-branch.false in
    let less : room_of new < room_of old = omega arith in
    less

pub loop-preserved : goal.loop-preserved
loop-preserved c =
    let a = c.args in
    let i = a.kernel.now.image in
    let kept = a.kernel.now.kept in
    let g = a.graph.now in
    let old = c.loop.marks in
    let new = c.round.new.marks in
    let changed = c.in_ok-round.field-0 in
    let r = c.in_ok-round.ensures.round in
    let img : IsImage i = subst IsImage c.image.ensures c.slots-slots.ensures.image in
    let size : HasSize old (length g.keys.items) = subst (HasSize old) (sym c.requires.parts.many) c.loop.invariant.0 in (
      c.in_ok-round.ensures.size,
      round_sound i kept img c.requires.keeps a.conduct.now c.requires.conduct g c.requires.graph a.passes.now c.requires.passes old new changed size c.loop.invariant.1 r,
      λ x k h. round_grew i kept a.conduct.now g a.passes.now old new changed r x k (c.loop.invariant.2 x k h),
    )
