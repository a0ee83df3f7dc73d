use Rattle.std.proofs.{Common.rules, lemmas.List.Sorted.answers_always}
use Rattle.mm_mem.proofs.Places.{held, searched}
use Rattle.mm_mem.proofs.search.search.Goals as goal

-- the closure gives a page's number
pub returns : goal.returns
returns c =
    let facts = c.binary_search_by_key.ensures in
    let by_number = facts.position (λ page. page.0) (answers_always _ _ _ (λ f a r g called. search rules)) in
    let both = searched c.args.pages.now (held _ c.requires) c.args.number _ facts.bound by_number in
    record { found = both.0; absent = both.1 }
