use Rattle.std.proofs.{Common.{◌≡◌, ℕ, ◌-◌, ◌++◌, List, take, replicate, ap, ◌∙◌, arith}, lemmas.Grind.common_steps}
use Rattle.mm_word.specs.declared.word.Cell.{Cell}
use Rattle.mm_model.specs.Memory.{zero_cell}
use Rattle.mm_link.proofs.Cells.{filled}
use Rattle.mm_link.proofs.memory.page_of.Goals as goal

pub returns-clause-page : goal.returns-clause-page
returns-clause-page c =
    let at = λ (cells : List Cell). let p : ℕ × List Cell = (c.args.number, cells) in p in
    let kept = c.min-kept.result in
    let first : c.extend_from_slice.new.self.items ≡ take kept c.args.cells.now = grind (arith, common_steps, c.in_ok-extend_from_slice.ensures.items, c.in_ok-page.ensures.items) in
    c.of.ensures ∙ ap at (c.in_ok-push_zeros.ensures.cells ∙ ap (λ (cells : List Cell). cells ++ replicate (512 - kept) zero_cell) first
    ∙ filled 512 zero_cell c.args.cells.now kept c.min-kept.ensures)
