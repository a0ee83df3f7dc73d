use Rattle.std.proofs.{Common.{ℕ, List, rules}, lemmas.List.Sorted.answers_always}
use Rattle.mm_word.specs.declared.word.Cell.{Cell}
use Rattle.mm_image.proofs.SortedPages.{found_at, not_found}
use Rattle.mm_image.proofs.image.page_of.Goals as goal

pub returns-in-Ok : goal.returns-in-Ok
returns-in-Ok c =
    let at = c.in-Ok.ensures.position (λ (p : ℕ × List Cell). p.0) (answers_always _ _ _ (λ f a r g called. search rules)) in
    found_at c.args.pages.now c.args.number c.in-Ok.at c.index-pages-at.result c.requires c.in-Ok.ensures.bound at c.index-pages-at.is

pub returns-in-Err : goal.returns-in-Err
returns-in-Err c =
    let parts = c.in-Err.ensures.position (λ (p : ℕ × List Cell). p.0) (answers_always _ _ _ (λ f a r g called. search rules)) in
    not_found c.args.pages.now c.args.number c.in-Err.field-0 c.requires parts
