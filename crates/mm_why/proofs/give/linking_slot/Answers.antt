use Rattle.std.proofs.Common.{ℕ, sym, subst, arith}
use Rattle.mm_why.{specs.Giving.JoinedAt, proofs.Giving.joined_more}
use Rattle.mm_why.proofs.give.linking_slot.Goals as goal

pub loop-k-preserved : goal.loop-k-preserved
loop-k-preserved c =
    joined_more c.args.slots.now c.loop-k.k c.args.one c.args.other c.index-slots-k.result c.loop-k-test.true (sym c.index-slots-k.is) c.loop-k.invariant
    (λ j. let bad = c.if-is_linked_in.ensures.1 j in cc)

pub returns : goal.returns
returns c = subst (λ v. (n : ℕ) → JoinedAt c.args.slots.now v c.args.one c.args.other n → ⊥) (let f = c.loop-k-test.false in let e = c.loop-k.auto.k-end in omega (arith, f, e)) c.loop-k.invariant
