use Rattle.std.proofs.Common.{ℕ, ◌+◌, ◌++◌, List, take, ap, ◌∙◌}
use Rattle.mm_word.specs.declared.word.Cell.{Cell}
use Rattle.mm_model.specs.Memory.{zero_cell, zero_page}
use Rattle.mm_link.{specs.Linked.{pages_from, first_page}, proofs.{Lists.whole_rest, Cells.{beyond, page_more}}}
use Rattle.mm_link.proofs.memory.pages_from.Goals as goal

pub loop-number-preserved : goal.loop-number-preserved
loop-number-preserved c =
    let l = c.loop-number in
    let at = λ (n : ℕ). let p : ℕ × List Cell = (first_page + n, take 512 (l.rest.now ++ zero_page)) in p in
    page_more (pages_from c.args.count first_page c.args.cells.now) l.pages.items c.push.new.self.items c.args.count l.number first_page l.rest.now _ c.in_ok-page_of.field-0
    c.loop-number-test.true l.invariant c.in_ok-push.ensures.items
    (c.in_ok-page_of.ensures.page ∙ ap at c.from.ensures) (whole_rest l.rest.now c.min.result ∙ beyond 512 zero_cell l.rest.now c.min.result c.min.ensures)
