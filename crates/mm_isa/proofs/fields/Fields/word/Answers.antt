use Rattle.std.proofs.Common.{◌∙◌, rules}
use Rattle.mm_isa.{specs.Table.FitInWord, proofs.Packing.joined_is_packed}
use Rattle.mm_isa.proofs.fields.Fields.word.Goals as goal

pub returns-clause-value : goal.returns-clause-value
returns-clause-value c =
    let fit : FitInWord c.args.self = search rules in
    joined_is_packed c.args.self _ _ _ _ _ _ fit c.from.ensures (c.from-2.ensures ∙ c.number.ensures.value)
    (c.from-3.ensures ∙ c.number-2.ensures.value) (c.from-4.ensures ∙ c.number-3.ensures.value) c.from-5.ensures
    (c.from-6.ensures ∙ c.cast_unsigned.ensures)
