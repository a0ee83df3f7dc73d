use Rattle.std.proofs.{Common.{◌^◌, ◌≤◌, sym, ◌∙◌, arith}, Math.Nat.pow-le-pow_right, lemmas.Bool.{lt-ltb, le-leb}}
use Rattle.mm_object.proofs.relocs.has_room.Goals as goal

pub returns-then-log-ge32 : goal.returns-then-log-ge32
returns-then-log-ge32 c =
    let long : 2 ^ 32 ≤ 2 ^ c.args.log = pow-le-pow_right (omega arith) c.if-log-ge32.true in
    le-leb _ _ c.if-log-ge32.true ∙ sym (lt-ltb _ _ (omega (arith, long)))
