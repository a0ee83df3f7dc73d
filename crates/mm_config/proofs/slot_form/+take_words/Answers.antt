use Rattle.std.proofs.Common.{◌++◌, ◌∙◌, List, take, length, sym, ap, arith}
use Rattle.std.proofs.lemmas.List.{append-nil, drop_all}
use borrow.Rule.Slice.PartMut.{Post-is}
use Rattle.mm_word.specs.declared.word.Word.{Word}
use Rattle.mm_model.specs.Flags.{flags}
use Rattle.mm_config.{specs.Forms.words_from, proofs.Taking.words_none}
use Rattle.mm_config.proofs.slot_form.+take_words.Goals as goal

pub returns-then-changed-eq0-clause-words : goal.returns-then-changed-eq0-clause-words
returns-then-changed-eq0-clause-words t c =
    let base = c.args.base.now in
    let old = c.args.regs.now in
    let at = c.args.at in
    let tagged = flags (length base) c.args.tagged in
    let count = c.requires.count in
    let long = c.told-regs in
    let none = Post-is at (length old) old (omega (arith, count, long)) ∙ drop_all (length old) old (omega arith) in
    ap (λ (l : List Word). take at old ++ l)
    (ap (λ (l : List Word). c.copy_from_slice.new.self ++ l) none ∙ append-nil c.copy_from_slice.new.self ∙ c.copy_from_slice.ensures.after
    ∙ sym (ap (λ n. (words_from (flags (length base) n) tagged base c.args.reader.now).0) c.if-changed-eq0.true ∙ ap (λ x. x.0) (words_none base tagged c.args.reader.now)))
