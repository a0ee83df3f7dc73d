use Rattle.std.proofs.Common.{[], ◌∷◌, map}
use Rattle.mm_keep.specs.Claims.{Facts}
use Rattle.mm_kernel.specs.Facts.Fact.{HasForm}
use Rattle.mm_keep.specs.Rows.{word_and_form}
use Rattle.mm_keep.proofs.{Claims.adds_from, Adding.adds_form, Same.{inserted, eq_stored, same_stored}}
use Rattle.mm_keep.proofs.tables.Tables.add_form.Goals as goal

pub returns : goal.returns
returns c = λ i kept.
    let keys = c.self.inside.stored.keys in
    let now = c.insert.new.self.keys in
    let put = inserted word_and_form eq_stored same_stored keys now (c.args.word, c.form_numbers.result)
    (c.args.word, c.args.form.now) c.in_ok-insert.ensures.keys
    (λ j. (c.args.word, c.form_numbers.ensures.again j)) in
    adds_from i kept (Facts (HasForm c.args.word c.args.form.now ∷ [])) _ c.args.self.now _ c.self.view_is
    (adds_form i kept _ c.args.word c.args.form.now (map word_and_form now) put)
