use Rattle.std.proofs.{Common.{◌≡◌, pos, ◌∙◌, arith, rules}, lemmas.Int.{to_z-of_z, ints}}
use Rattle.std.specs.{Prelude.{◌*ℤ◌, FitsSigned}, Int.{w32, w64}}
use Rattle.mm_keep.proofs.Moving.{lea_code}
use Rattle.mm_keep.proofs.turn.at_distance.Goals as goal

pub returns : goal.returns
returns c =
    let fits : FitsSigned w32 c.args.imm = search rules in
    let same : c.from.result ≡ c.args.imm = c.from.ensures ∙ to_z-of_z w32 c.args.imm fits in
    let wide : FitsSigned w64 c.from.result = search rules in
    let far : FitsSigned w64 (pos 8 *ℤ c.from.result) = omega (arith, ints) in
    let moved = rw (to_z-of_z w64 c.from.result wide, to_z-of_z w64 (pos 8 *ℤ c.from.result) far, same) at c.lea.ensures.value in
    moved ∙ lea_code c.args.t.now.ip (pos 8 *ℤ c.args.imm) c.requires
