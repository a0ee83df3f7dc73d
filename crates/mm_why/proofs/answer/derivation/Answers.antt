use Rattle.std.proofs.Common.{◌<◌, List, length, sym, subst}
use Rattle.mm_why.specs.{declared.line.Line.Line, Derivations.GivesUse, Pruning.NameEarlier}
use Rattle.mm_why.proofs.{Deciding.derives, Growing.each_earlier}
use Rattle.mm_why.proofs.answer.derivation.Goals as goal

pub ensure_searched-requires-clause-group : goal.ensure_searched-requires-clause-group
ensure_searched-requires-clause-group c = c.requires.source.small

pub own_line-requires-clause-owner : goal.own_line-requires-clause-owner
own_line-requires-clause-owner c = c.requires.source.small

pub own_line-requires-clause-owns : goal.own_line-requires-clause-owns
own_line-requires-clause-owns c = c.requires.source.owns

pub pointer_of-pointer-requires : goal.pointer_of-pointer-requires
pointer_of-pointer-requires c = subst (λ (lines : List Line). c.in_ok-place.place < length lines) (sym c.deref.ensures.value) c.in_ok-place.ensures.line.small

pub derive_for-requires-clause-context : goal.derive_for-requires-clause-context
derive_for-requires-clause-context c = c.requires.context

pub derive_for-requires-clause-source : goal.derive_for-requires-clause-source
derive_for-requires-clause-source c = c.requires.source.small

pub derive_for-requires-clause-round : goal.derive_for-requires-clause-round
derive_for-requires-clause-round c = c.requires.source.round

pub derive_for-requires-clause-come : goal.derive_for-requires-clause-come
derive_for-requires-clause-come c = c.requires.source.comes

pub derive_for-requires-clause-line : goal.derive_for-requires-clause-line
derive_for-requires-clause-line c =
    let line = c.in_ok-place.ensures.line in
    (c.in_ok-place.place, record { earlier = line.small; group = line.group_is; pointer = sym (rw c.deref.ensures.value at c.pointer_of-pointer.ensures) })

pub prune-requires-clause-small : goal.prune-requires-clause-small
prune-requires-clause-small c =
    subst (λ (lines : List Line). c.in_ok-last.last < length lines) (sym c.deref-2.ensures.value) c.in_ok-last.ensures.says.earlier

pub prune-requires-clause-earlier : goal.prune-requires-clause-earlier
prune-requires-clause-earlier c =
    subst NameEarlier (sym c.deref-2.ensures.value)
    (each_earlier c.args.context.now.image.now c.derive_for.new.self.lines.items c.in_ok-last.ensures.goes_on.work.trace.follows)

pub returns : goal.returns
returns c =
    let pruned = rw c.deref-2.ensures.value at c.in_ok-lines.ensures.derivation in
    let end = rw c.deref-2.ensures.value at c.in_ok-lines.ensures.last in
    derives c.args.context.now.image.now c.args.how c.args.group c.args.word c.derive_for.new.self.lines.items c.in_ok-lines.lines.items c.in_ok-last.last c.pointer_of-pointer.result
    c.in_ok-last.ensures.goes_on.work.trace c.in_ok-last.ensures.says (subst (λ v. GivesUse c.args.how v c.args.word) (sym (rw c.deref.ensures.value at c.pointer_of-pointer.ensures)) c.in_ok-place.ensures.line.gives)
    (pruned c.args.context.now.image.now) end
