use Rattle.std.proofs.Common.{◌≡◌, ◌∙◌, ◌<◌, Some, sym, arith, length, drop}
use Rattle.mm_report.{specs.Pages.{numbers, first}, proofs.Unions.{rest_behind, inside, length_numbers, equal_says}}
use Rattle.mm_report.proofs.page_changes.had_behind.Goals as goal

here : (c : goal.Then-eq) → first (drop c.args.j (numbers c.args.pages.now)) ≡ Some c.args.number
here c = sym c.had_at.ensures ∙ equal_says c.had_at.result c.args.number (sym c.if-eq.true ∙ c.eq.ensures)

pub returns-then-eq-clause-place : goal.returns-then-eq-clause-place
returns-then-eq-clause-place c =
    let lt : c.args.j < length (numbers c.args.pages.now) = inside (numbers c.args.pages.now) c.args.j c.args.number (here c) in
    omega (arith, length_numbers c.args.pages.now)

pub returns-then-eq-clause-rest : goal.returns-then-eq-clause-rest
returns-then-eq-clause-rest c = rest_behind (numbers c.args.pages.now) c.args.j c.args.number (here c)
