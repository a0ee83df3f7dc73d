use Rattle.std.proofs.Common.{◌++◌, ◌∙◌, length, sym, ap}
use Rattle.std.proofs.lemmas.List.{append-nil}
use Rattle.mm_model.specs.Flags.{flags}
use Rattle.mm_config.{specs.Forms.bits_set, proofs.WordForms.none_set}
use Rattle.mm_config.proofs.slot_form.+put_bits.Goals as goal

pub returns-then-mask-eq0 : goal.returns-then-mask-eq0
returns-then-mask-eq0 t c =
    let words = c.args.words.now in
    sym (ap (λ l. c.args.out.now.items ++ l) (ap (λ n. bits_set (flags (length words) n) words) c.if-mask-eq0.true ∙ none_set words)
    ∙ append-nil c.args.out.now.items)
