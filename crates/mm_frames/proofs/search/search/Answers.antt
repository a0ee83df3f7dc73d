use Rattle.std.proofs.{Common.rules, lemmas.List.Sorted.answers_always}
use Rattle.mm_mem.proofs.Places.{held, searched}
use Rattle.mm_frames.proofs.search.search.Goals as goal

-- the closure gives the number of the row's page
pub returns : goal.returns
returns c =
    let facts = c.binary_search_by_key.ensures in
    let by_number = facts.position (λ row. row.0) (answers_always _ _ _ (λ f a r g called. search rules)) in
    let both = searched c.args.rows.now (held _ c.requires) c.args.page _ facts.bound by_number in
    record { found = both.0; absent = both.1 }
