use Rattle.std.proofs.Common.{◌≡◌, ◌<◌, [], sym, subst}
use Rattle.std.{proofs.lemmas.Map.Iter.rest_all, specs.{Prelude.{Contains, IfOk}, Map.Iter.deref, List.AllByRecursion}}
use Rattle.mm_span.specs.{Pairs.EachPair, Spans.{IsWord, AreSpans}}
use Rattle.mm_span.proofs.Built.{rises, so_far}
use Rattle.mm_span.proofs.builder.spans.Goals as goal

pub finish-requires : goal.finish-requires
finish-requires c =
    let none : c.loop-word.word-iterator ≡ [] = rest_all deref c.loop-word.word-iterator c.next.new.self c.next.result c.in-None.is c.next.ensures.steps in
    let whole = so_far c.loop-word.builder c.loop-word.word-iterator c.args.words.now.keys none c.loop-word.invariant.whole in
    record {
      ascending = subst (EachPair ◌<◌) (sym whole) (rises c.args.words.now.keys c.iter-word-items.ensures.ordered);
      words = subst (AllByRecursion IsWord) (sym whole) c.requires;
    }

pub returns : goal.returns
returns c =
    let none : c.loop-word.word-iterator ≡ [] = rest_all deref c.loop-word.word-iterator c.next.new.self c.next.result c.in-None.is c.next.ensures.steps in
    let whole = so_far c.loop-word.builder c.loop-word.word-iterator c.args.words.now.keys none c.loop-word.invariant.whole in
    subst (λ keys. IfOk c.finish.result (λ spans. AreSpans (Contains keys) spans.items)) whole c.finish.ensures
