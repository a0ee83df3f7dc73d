use Rattle.std.proofs.lemmas.List.Filters.{dedup_is}
use Rattle.std.proofs.lemmas.List.Kept.{IsStrictlySortedBy-dedup, Contains-dedup, Contains-from_dedup}
use Rattle.std.proofs.lemmas.{List.Sorted.{Contains-permutation, IsPermutation-sym}, Map.Keys.Less-from_sorted}
use Rattle.mm_graph.{specs.Key.{key_cmp, key_eq, no_key}, proofs.Rising.{key_total, key_ties, key_equiv, same_key}}
use Rattle.mm_graph.proofs.order.put_in_order.Goals as goal

pub returns-clause-rising : goal.returns-clause-rising
returns-clause-rising c =
    let is = dedup_is key_eq _ _ c.dedup.ensures.filtered in
    let strict = IsStrictlySortedBy-dedup key_total key_ties _ c.sort_unstable.ensures.sorted in
    record { rise = λ i j lt small. Less-from_sorted key_cmp _ i j no_key (rw is strict) lt small }

pub returns-clause-same : goal.returns-clause-same
returns-clause-same c x =
    let is = dedup_is key_eq _ _ c.dedup.ensures.filtered in
    let moved = c.sort_unstable.ensures.permutation in (
      λ m. Contains-permutation _ _ x (IsPermutation-sym _ _ moved) (Contains-from_dedup key_eq _ x (rw is at m)),
      λ m. rw is (Contains-dedup key_equiv same_key _ x (Contains-permutation _ _ x moved m)),
    )
