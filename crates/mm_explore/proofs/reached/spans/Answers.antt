use Rattle.std.proofs.Common.{◌≡◌, ◌<◌, [], List, ℕ, sym, subst}
use Rattle.std.{proofs.lemmas.{Map.Iter.rest_all, Result.IfOk-weaker}, specs.{Prelude.{Contains, IfOk}, Map.Iter.deref, List.{AllByRecursion, Sorted.IsStrictlySortedBy}}}
use Rattle.mm_span.specs.{Pairs.EachPair, Spans.{AreSpans, IsWord}}
use Rattle.mm_span.proofs.Runs.{spans_alike}
use Rattle.mm_explore.specs.Words.{order, words_in}
use Rattle.mm_explore.proofs.WordKeys.{words_up, words_whole, word_of_key, key_of_word, words_so_far}
use Rattle.mm_explore.proofs.reached.spans.Goals as goal

pub finish-requires : goal.finish-requires
finish-requires c =
    let keys = c.args.words.now in
    let group = c.args.group in
    let none : c.loop-key.key-iterator ≡ [] = rest_all deref c.loop-key.key-iterator c.next.new.self c.next.result c.in-None.is c.next.ensures.steps in
    let whole = words_so_far group c.loop-key.spans c.loop-key.key-iterator keys none c.loop-key.invariant.whole in
    record {
      ascending = subst (EachPair ◌<◌) (sym whole) (words_up group keys (subst (IsStrictlySortedBy order) c.words.view_is c.iter-key-items.ensures.ordered));
      words = subst (AllByRecursion IsWord) (sym whole) (words_whole group keys c.requires);
    }

pub returns : goal.returns
returns c =
    let keys = c.args.words.now in
    let group = c.args.group in
    let none : c.loop-key.key-iterator ≡ [] = rest_all deref c.loop-key.key-iterator c.next.new.self c.next.result c.in-None.is c.next.ensures.steps in
    let whole = words_so_far group c.loop-key.spans c.loop-key.key-iterator keys none c.loop-key.invariant.whole in
    let P : List ℕ → Type 0 = λ ws. IfOk c.finish.result (λ spans. AreSpans (Contains ws) spans.items) in
    IfOk-weaker c.finish.result (λ spans. AreSpans (Contains (words_in group keys)) spans.items) (λ spans. AreSpans (λ word. Contains keys (group, word)) spans.items)
    (λ spans h. spans_alike (Contains (words_in group keys)) (λ word. Contains keys (group, word)) (key_of_word group keys) (word_of_key group keys) spans.items h)
    (subst P whole c.finish.ensures)
