use Rattle.std.proofs.Common.{◌≡◌, ◌<◌, subst, sym}
use Rattle.std.specs.{Prelude.Contains, List.AllByRecursion}
use Rattle.mm_span.specs.{Pairs.EachPair, Spans.{AreSpans, IsWord, given}}
use Rattle.mm_span.proofs.Built.{built_whole}
use Rattle.mm_span.proofs.builder.SpanBuilder.finish.Goals as goal

pub returns : goal.returns
returns c =
    let b = c.self.inside in
    let is : given b.spans.items b.last ≡ c.args.self = c.self.view_is in
    subst (λ l. AreSpans (Contains l) c.close.new.spans.items) is
    (built_whole b.spans.items c.close.new.spans.items b.last c.self.invariant (subst (EachPair ◌<◌) (sym is) c.requires.ascending)
    (subst (AllByRecursion IsWord) (sym is) c.requires.words) c.in_ok-close.ensures)
