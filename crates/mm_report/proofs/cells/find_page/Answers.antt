use Rattle.std.proofs.Common.{◌≡◌, ℕ, List, Option, Result, Ok, Err, None, sym, rules, subst}
use Rattle.std.{proofs.lemmas.List.Sorted.answers_always, specs.{Option.MatchOption, Result.{result_ok, IfOk, IfErr}}}
use Rattle.mm_word.specs.declared.word.Cell.{Cell}
use Rattle.mm_model.specs.Memory.{page_at}
use Rattle.mm_mem.{specs.Places.{IsAt, IsGap}, proofs.Places.{held, searched, absent_in_gap}}
use Rattle.mm_report.specs.Changes.{contents}
use Rattle.mm_report.proofs.cells.find_page.Goals as goal

found : (pages : List (ℕ × List Cell)) (number : ℕ) (r : Result ℕ ℕ) → IfOk r (IsAt number pages) → IfErr r (IsGap number pages)
    → MatchOption (result_ok r) (page_at (contents pages) number ≡ None) (IsAt number pages)
found pages number (Ok i) at gap = at
found pages number (Err i) at gap = absent_in_gap number pages i gap

pub returns : goal.returns
returns c =
    let facts = c.binary_search_by_key.ensures in
    let by_number = facts.position (λ page. page.0) (answers_always _ _ _ (λ f a r g called. search rules)) in
    let both = searched c.args.pages.now (held _ c.requires) c.args.number _ facts.bound by_number in
    let P : Option ℕ → Type 0 = λ o. MatchOption o (page_at (contents c.args.pages.now) c.args.number ≡ None) (IsAt c.args.number c.args.pages.now) in
    subst P (sym c.ok.ensures.value) (found c.args.pages.now c.args.number c.binary_search_by_key.result both.0 both.1)
