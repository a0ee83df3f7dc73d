use Rattle.std.proofs.Common.{◌++◌, take, sym, ap, ◌∙◌, subst, arith}
use Rattle.mm_config.proofs.ChangedOutputs.{ChangesSoFar, changing_begins, changing_ends, both_within, one_shorter, one_longer}
use Rattle.mm_config.proofs.outputs.Outputs.changed.Goals as goal

pub loop-left-init : goal.loop-left-init
loop-left-init c =
    let was = c.requires.was in
    let wanted = c.requires.wanted in
    subst (ChangesSoFar c.args.self.now c.args.was c.args.wanted c.args.len c.args.len c.args.was c.args.wanted) (sym c.new-bytes.ensures.items)
    (changing_begins c.args.self.now was.0 wanted.0 c.args.was c.args.wanted c.args.len was.1 wanted.1 was.2 wanted.2)

pub parts-left-requires : goal.parts-left-requires
parts-left-requires c = (both_within c.loop-left.invariant).0

pub parts-shorter-requires : goal.parts-shorter-requires
parts-shorter-requires c = (both_within c.loop-left.invariant).1

pub overflow_sub-kept : goal.overflow_sub-kept
overflow_sub-kept c = (one_shorter c.loop-left.invariant c.if-left-aim.true c.parts-left.result c.parts-left.ensures).0

pub loop-left-smaller-then-left-aim : goal.loop-left-smaller-then-left-aim
loop-left-smaller-then-left-aim c = let low = (one_shorter c.loop-left.invariant c.if-left-aim.true c.parts-left.result c.parts-left.ensures).1 in omega (arith, low)

pub loop-left-preserved-then-left-aim : goal.loop-left-preserved-then-left-aim
loop-left-preserved-then-left-aim c = (one_shorter c.loop-left.invariant c.if-left-aim.true c.parts-left.result c.parts-left.ensures).2

pub overflow_sub-byte : goal.overflow_sub-byte
overflow_sub-byte c = (one_longer c.loop-left.invariant (omega (arith, c.if-left-aim.false, c.loop-left-test.true)) c.parts-shorter.result c.parts-shorter.ensures).0

pub overflow_cast-byte : goal.overflow_cast-byte
overflow_cast-byte c =
    let small = (one_longer c.loop-left.invariant (omega (arith, c.if-left-aim.false, c.loop-left-test.true)) c.parts-shorter.result c.parts-shorter.ensures).1 in
    omega (arith, small)

pub loop-left-smaller : goal.loop-left-smaller
loop-left-smaller c =
    let low = (one_longer c.loop-left.invariant (omega (arith, c.if-left-aim.false, c.loop-left-test.true)) c.parts-shorter.result c.parts-shorter.ensures).2 in
    omega (arith, low)

pub loop-left-preserved : goal.loop-left-preserved
loop-left-preserved c =
    let l = c.loop-left in
    let more = (one_longer l.invariant (omega (arith, c.if-left-aim.false, c.loop-left-test.true)) c.parts-shorter.result c.parts-shorter.ensures).3 in
    subst (ChangesSoFar c.args.self.now c.args.was c.args.wanted c.args.len l.kept l.left c.parts-shorter.result.0) (sym c.in_ok-push.ensures.items) more

pub returns : goal.returns
returns c = λ old new named long target.
    let end = changing_ends c.loop-left.invariant c.loop-left-test.false old new named target in
    (end.0, ap (λ b. take c.loop-left.kept old ++ b) c.reverse.ensures.items ∙ end.1)
