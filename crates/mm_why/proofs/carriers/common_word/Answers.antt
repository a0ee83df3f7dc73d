use Rattle.std.proofs.Common.{sym, subst, arith}
use Rattle.mm_model.specs.Reach.{LoadsAt, StoresAt}
use Rattle.mm_why.proofs.Carrying.{common_at_store, common_at_load}
use Rattle.mm_why.proofs.carriers.common_word.Goals as goal

pub returns-then-log : goal.returns-then-log
returns-then-log c = λ w st ld.
    subst (λ v. StoresAt c.args.store v × LoadsAt c.args.load v) (sym c.base.ensures.base)
    (common_at_store c.args.store c.args.load w (let a = c.log.ensures.log in let b = c.log-2.ensures.log in let lt = c.if-log.true in omega (arith, a, b, lt)) st ld)

pub returns-else-log : goal.returns-else-log
returns-else-log c = λ w st ld.
    subst (λ v. StoresAt c.args.store v × LoadsAt c.args.load v) (sym c.base-else-log.ensures.base)
    (common_at_load c.args.store c.args.load w (let a = c.log.ensures.log in let b = c.log-2.ensures.log in let lt = c.if-log.false in omega (arith, a, b, lt)) st ld)
