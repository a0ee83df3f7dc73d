use Rattle.std.proofs.Common.{◌≡◌, [], sym, subst}
use Rattle.std.{proofs.lemmas.Map.Iter.{rest_all, rest_more}, specs.{List.filter, Map.Iter.deref}}
use Rattle.mm_keep_text.proofs.Covering.{Covering, in_range, covering_more, covering_ends}
use Rattle.mm_keep_text.proofs.words.put_covered.Goals as goal

pub loop-word-preserved : goal.loop-word-preserved
loop-word-preserved c =
    let old = c.args.covered.now.keys in
    let all = filter (in_range c.bounds-first.result.0 c.bounds-first.result.1) c.args.words.now.keys in
    let rest = rest_more deref c.loop-word.word-iterator c.next.new.self c.next.result c.in-Some.word c.in-Some.is c.next.ensures.steps in
    subst (Covering old all c.next.new.self) (sym c.in_ok-insert.ensures.keys)
    (covering_more old all c.next.new.self c.loop-word.covered.keys c.in-Some.word.now
    (subst (λ l. Covering old all l c.loop-word.covered.keys) rest c.loop-word.invariant))

pub returns : goal.returns
returns c =
    let none : c.loop-word.word-iterator ≡ [] = rest_all deref c.loop-word.word-iterator c.next.new.self c.next.result c.in-None.is c.next.ensures.steps in
    covering_ends c.args.covered.now.keys c.args.words.now.keys c.loop-word.word-iterator c.loop-word.covered.keys c.args.part
    c.bounds-first.result.0 c.bounds-first.result.1 c.requires c.bounds-first.ensures.inside none c.loop-word.invariant
