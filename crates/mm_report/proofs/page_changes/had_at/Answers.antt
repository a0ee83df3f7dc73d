use Rattle.std.proofs.Common.{◌∙◌, ℕ, List, Some, sym, ap}
use Rattle.mm_word.specs.declared.word.Cell.{Cell}
use Rattle.mm_report.proofs.Unions.{head_at}
use Rattle.mm_report.proofs.page_changes.had_at.Goals as goal

pub returns-then-j-pages : goal.returns-then-j-pages
returns-then-j-pages c =
    ap (λ (n : ℕ). Some n) (c.number.ensures.number ∙ ap (λ (page : ℕ × List Cell). page.0) c.index-pages-j.is)
    ∙ sym (head_at c.args.pages.now c.args.j c.index-pages-j.result c.if-j-pages.true)
