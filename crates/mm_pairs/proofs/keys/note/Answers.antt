use Rattle.std.proofs.Common.{◌∙◌, refl, sym, ap, arith, Some}
use Rattle.std.proofs.lemmas.Result.{on_ok_weaker, on_err_weaker}
use Rattle.indexmap.specs.IndexMap.{get, with_entries}
use Rattle.mm_pairs.specs.Found.{number_at, same_pair}
use Rattle.mm_pairs.proofs.{Founds.{same_found, more_first, more_later, equal_pairs, other_pair}}
use Rattle.mm_pairs.proofs.keys.note.Goals as goal

pub returns-then-get-eq0-clause-ok : goal.returns-then-get-eq0-clause-ok
returns-then-get-eq0-clause-ok c =
    on_ok_weaker c.set.result (λ both kept found absent is.
    more_first (λ pair. pair.0) kept (number_at c.args.earliest.now) (get same_pair c.args.later.now) found c.args.pair (number_at c.set.new.self)
    (sym c.get.ensures ∙ c.if-get-eq0.true) (both.0 ∙ omega (arith, is)) both.1)
    c.set.ensures.set

pub returns-then-get-eq0-clause-err : goal.returns-then-get-eq0-clause-err
returns-then-get-eq0-clause-err c =
    on_err_weaker c.set.result (λ same kept found.
    same_found (λ pair. pair.0) kept (number_at c.args.earliest.now) (get same_pair c.args.later.now) found (number_at c.set.new.self) (get same_pair c.args.later.now) same (λ x. refl))
    c.set.ensures.err

pub returns-in-Err-clause-err : goal.returns-in-Err-clause-err
returns-in-Err-clause-err c kept found =
    let was = c.args.later.now in
    same_found (λ pair. pair.0) kept (number_at c.args.earliest.now) (get same_pair was) found (number_at c.args.earliest.now) (get same_pair c.insert.new.self) (λ n. refl)
    (λ x. ap (λ entries. get same_pair (with_entries was entries) x) c.in-Err.ensures.err)

pub returns-in-Ok-clause-ok : goal.returns-in-Ok-clause-ok
returns-in-Ok-clause-ok c kept found absent is =
    let updates = c.in-Ok.ensures.updates in
    let few = c.if-get-eq0.false in
    more_later (λ pair. pair.0) kept (number_at c.args.earliest.now) (get same_pair c.args.later.now) found equal_pairs c.args.pair (get same_pair c.insert.new.self) absent
    (λ none. few (c.get.ensures ∙ none)) (updates.1 ∙ ap Some is) (λ y ne. updates.2 y (other_pair y c.args.pair ne))
