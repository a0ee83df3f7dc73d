use Rattle.mm_keep.proofs.Loops.{facts_next}
use Rattle.mm_kernel.specs.{Derived.register_left, Facts.loose}
use Rattle.std.proofs.lemmas.Result.{on_ok_weaker}
use Rattle.mm_keep.proofs.Claims.{facts_then}
use Rattle.std.proofs.Common.{◌≡◌, ℕ, subst, arith}
use Rattle.std.specs.List.{flat_map, range_with_len}
use Rattle.mm_keep.specs.Claims.{AddsFacts}
use Rattle.mm_keep.proofs.follow.leave.Goals as goal

pub loop-reg-preserved : goal.loop-reg-preserved
loop-reg-preserved c =
    let l = c.loop-reg in
    facts_next c.args.kernel.now.image c.args.kernel.now.kept (register_left c.args.kernel.now.kept c.args.t.now) l.reg (c.args.tables.now) l.tables c.leave_register.new.tables l.invariant c.in_ok-leave_register.ensures

pub returns : goal.returns
returns c =
    let l = c.loop-reg in
    let end : l.reg ≡ 16 = (let lo = c.loop-reg-test.false in let hi = l.auto.reg-end in omega (arith, lo, hi)) in
    let all = subst (λ (n : ℕ). AddsFacts c.args.kernel.now.image c.args.kernel.now.kept (flat_map (register_left c.args.kernel.now.kept c.args.t.now) (range_with_len 0 n)) c.args.tables.now l.tables) end l.invariant in
    on_ok_weaker c.loosen.result (λ h. facts_then c.args.kernel.now.image c.args.kernel.now.kept (flat_map (register_left c.args.kernel.now.kept c.args.t.now) (range_with_len 0 16)) (loose c.args.kernel.now.image c.args.kernel.now.kept c.args.t.now.origin) c.args.tables.now l.tables
    c.loosen.new.self all h) c.loosen.ensures
