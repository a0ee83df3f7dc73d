use Rattle.std.proofs.Common.{◌≡◌, ◌≤◌, ℕ, ◌∷◌, length, take, ap, sym, ◌∙◌, subst, arith}
use Rattle.std.proofs.lemmas.{List.take_all, Iterator.items_from_collect}
use Rattle.std.proofs.lemmas.Iterator.Consumers.{YieldsList-from_copied, YieldsList-at, YieldsList-from_rest}
use Rattle.std.specs.{Prelude.Contains, Map.values_of}
use Rattle.mm_keep_text.specs.Keys.{leak_key, leak_from}
use Rattle.mm_keep_text.proofs.Listing.{Lists, listed_got, listed_whole, listed_ascend}
use Rattle.mm_kernel.specs.declared.form.Form.{Form}
use Rattle.mm_keep_text.specs.Keys.{form_key, leak_by, leak_form}
use Rattle.mm_keep_text.proofs.lists.leaks.Goals as goal

pub loop-k-preserved : goal.loop-k-preserved
loop-k-preserved c =
    let place = c.leak_place-kind.result in
    let by_form = ap (leak_by place.0 place.1 place.2) c.leak_form-form.ensures in
    let own : c.leak_key.result ≡ leak_key c.leak-leak.result =
    c.leak_key.ensures.is ∙ ap (λ (f : Form). place.0 ∷ place.1 ∷ place.2 ∷ form_key f) c.leak_form-form.ensures
    ∙ ap (λ (p : ℕ × ℕ × ℕ). p.0 ∷ p.1 ∷ p.2 ∷ form_key (leak_form c.leak-leak.result)) c.leak_place-kind.ensures.is in
    let back = ap leak_from (sym own) ∙ c.leak_key.ensures.again ∙ by_form ∙ c.leak_place-kind.ensures.again in
    listed_got leak_key leak_from c.args.tables.now.leaks c.loop-k.k c.leak-leak.result back c.leak-leak.ensures
    c.loop-k.listed.entries c.insert.new.self.entries c.leak_key.result own c.in_ok-insert.ensures.entries c.loop-k.invariant

pub returns-clause-ascend : goal.returns-clause-ascend
returns-clause-ascend c =
    let some = items_from_collect c.collect.result c.collect.ensures.ran
    (YieldsList-from_copied (YieldsList-at c.copied.ensures.source (YieldsList-from_rest (values_of c.loop-k.listed.entries) c.values.ensures.rest))) in
    let items = rw c.in_ok-collect.was at some in
    listed_ascend leak_key leak_from (Contains (take c.loop-k.k c.args.tables.now.leaks)) c.loop-k.listed.entries c.in_ok-collect.field-0.items items c.loop-k.invariant c.values.ensures.ordered

pub returns-clause-each : goal.returns-clause-each
returns-clause-each c =
    let some = items_from_collect c.collect.result c.collect.ensures.ran
    (YieldsList-from_copied (YieldsList-at c.copied.ensures.source (YieldsList-from_rest (values_of c.loop-k.listed.entries) c.values.ensures.rest))) in
    let items = rw c.in_ok-collect.was at some in
    let end = c.leaks-k-end.ensures in
    let long : length c.args.tables.now.leaks ≤ c.loop-k.k = omega (arith, end) in
    let all = take_all c.loop-k.k c.args.tables.now.leaks long in
    listed_whole leak_key leak_from (Contains c.args.tables.now.leaks) c.loop-k.listed.entries c.in_ok-collect.field-0.items items
    (subst (λ l. Lists leak_key leak_from (Contains l) c.loop-k.listed.entries) all c.loop-k.invariant)
