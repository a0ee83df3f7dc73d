use Rattle.std.proofs.Common.{◌⊎◌, refl, sym, subst}
use Rattle.std.specs.{Prelude.Contains, List.AllByRecursion}
use Rattle.mm_kernel.specs.Derived.{Fetches}
use Rattle.mm_span.specs.Spans.{IsWord}
use Rattle.mm_keep_text.specs.Parts.{AreAll}
use Rattle.mm_keep_text.proofs.{Sets.all_same, HeldWords.{fetch_added, words_added}}
use Rattle.mm_keep_text.proofs.words.put_fetched.Goals as goal

pub returns-in_ok-insert-in-Some-clause-each : goal.returns-in_ok-insert-in-Some-clause-each
returns-in_ok-insert-in-Some-clause-each c =
    let t = c.args.t.now in
    let word = c.in-Some.word in
    subst (AreAll (λ w. Contains c.args.words.now.keys w ⊎ Fetches t w)) (sym c.in_ok-insert-in-Some.ensures.keys)
    (fetch_added t c.args.words.now.keys word ((c.in-Some.ensures.exact word).0 refl))

pub returns-in_ok-insert-in-Some-clause-words : goal.returns-in_ok-insert-in-Some-clause-words
returns-in_ok-insert-in-Some-clause-words c = λ h.
    subst (AllByRecursion IsWord) (sym c.in_ok-insert-in-Some.ensures.keys)
    (words_added c.args.words.now.keys c.in-Some.word (c.in-Some.ensures.aligned, c.in-Some.ensures.below) h)

pub returns-in-None-clause-each : goal.returns-in-None-clause-each
returns-in-None-clause-each c = all_same (Fetches c.args.t.now) c.args.words.now.keys (λ w f. let wrong = (c.in-None.ensures.exact w).1 f in cc)
