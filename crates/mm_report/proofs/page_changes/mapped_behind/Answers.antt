use Rattle.std.{proofs.Common.{◌∙◌, ◌<◌, List, ℕ, ◌+◌, ◌^◌, sym, subst, refl, arith, length}, specs.Option.IsSome}
use Rattle.mm_report.{specs.Pages.numbers, proofs.Unions.{rest_behind, inside, length_numbers, equal_says}}
use Rattle.mm_report.proofs.page_changes.mapped_behind.Goals as goal

pub overflow_add-result : goal.overflow_add-result
overflow_add-result g c =
    let some : IsSome c.mapped_at.result = subst IsSome (sym (equal_says c.mapped_at.result c.args.number (sym c.if-eq.true ∙ c.eq.ensures))) refl in
    let room : c.args.i + 1 < 2 ^ 32 = c.mapped_at.ensures.room some in
    omega arith

pub returns-then-eq-clause-place : goal.returns-then-eq-clause-place
returns-then-eq-clause-place g c =
    let ns : List ℕ = numbers (g.M.Memory.meaning c.args.mem.now).pages in
    let lt : c.args.i < length ns = inside ns c.args.i c.args.number (sym c.mapped_at.ensures.number ∙ equal_says c.mapped_at.result c.args.number (sym c.if-eq.true ∙ c.eq.ensures)) in
    omega (arith, length_numbers (g.M.Memory.meaning c.args.mem.now).pages)

pub returns-then-eq-clause-rest : goal.returns-then-eq-clause-rest
returns-then-eq-clause-rest g c = rest_behind (numbers (g.M.Memory.meaning c.args.mem.now).pages) c.args.i c.args.number
    (sym c.mapped_at.ensures.number ∙ equal_says c.mapped_at.result c.args.number (sym c.if-eq.true ∙ c.eq.ensures))
