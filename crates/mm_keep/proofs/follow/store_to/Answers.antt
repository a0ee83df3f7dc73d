use Rattle.std.proofs.Common.{◌≡◌, true, false, [], ◌∷◌}
use Rattle.std.proofs.lemmas.Result.{on_ok_weaker}
use Rattle.mm_kernel.specs.{Segments.lies_in, Facts.Fact.HasForm}
use Rattle.mm_keep.proofs.{Claims.facts_none, Loops.facts_at}
use Rattle.mm_keep.proofs.follow.store_to.Goals as goal

pub returns-then-lies_in : goal.returns-then-lies_in
returns-then-lies_in c =
    let to = c.add_form.new.self in
    let test : (lies_in c.args.word c.args.part) ≡ true = cc in
    on_ok_weaker c.add_form.result (λ h i kept was. facts_at i kept (lies_in c.args.word c.args.part) true (HasForm c.args.word c.args.form.now ∷ []) [] c.args.tables.now to test (h i kept)) c.add_form.ensures

pub returns-else-lies_in : goal.returns-else-lies_in
returns-else-lies_in c =
    let test : (lies_in c.args.word c.args.part) ≡ false = cc in
    λ i kept was. facts_at i kept (lies_in c.args.word c.args.part) false (HasForm c.args.word c.args.form.now ∷ []) [] c.args.tables.now c.args.tables.now test (facts_none i kept c.args.tables.now)
