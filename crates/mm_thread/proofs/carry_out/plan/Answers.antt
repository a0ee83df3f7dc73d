use Rattle.std.proofs.{Common.{ap, ◌∙◌, sym, rules}, lemmas.Int.to_z-of_z}
use Rattle.std.specs.{Prelude.FitsSigned, Int.w32}
use Rattle.mm_isa.specs.declared.instr.Instr.TheVariants.{Ldi, Br}
use Rattle.mm_model.specs.Effect.{effect, Reply.{Fine}}
use Rattle.mm_thread.proofs.carry_out.plan.Goals as goal

pub returns-in-Ldi-clause-planned : goal.returns-in-Ldi-clause-planned
returns-in-Ldi-clause-planned c = λ split.
    let s = c.args.slot.now in
    let fits : FitsSigned w32 c.in-Ldi.imm = search rules in
    let is = c.in-Ldi.is ∙ ap (λ n. Ldi c.in-Ldi.rd n) (sym (to_z-of_z w32 c.in-Ldi.imm fits)) in
    ap (λ i. effect split i s Fine) is ∙ c.ldi.ensures split s

pub returns-in-Br-clause-planned : goal.returns-in-Br-clause-planned
returns-in-Br-clause-planned c = λ split.
    let s = c.args.slot.now in
    let fits : FitsSigned w32 c.in-Br.imm = search rules in
    let is = c.in-Br.is ∙ ap Br (sym (to_z-of_z w32 c.in-Br.imm fits)) in
    ap (λ i. effect split i s Fine) is ∙ c.br.ensures split s
