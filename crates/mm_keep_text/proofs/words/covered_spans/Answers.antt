use Rattle.std.proofs.Common.{subst}
use Rattle.std.proofs.lemmas.List.{take_all, get_or_default}
use Rattle.mm_keep_text.specs.Parts.{AreAll, IsIn}
use Rattle.mm_keep_text.proofs.Covering.{in_none, in_more, in_words, covered_are}
use Rattle.mm_keep_text.proofs.words.covered_spans.Goals as goal

pub loop-part-preserved : goal.loop-part-preserved
loop-part-preserved c =
    in_more c.args.words.now.keys c.args.parts.now c.loop-part.part-index _ c.loop-part.covered.keys c.put_covered.new.covered.keys
    c.loop-part-test.true (get_or_default c.args.parts.now c.loop-part.part-index _ _ c.loop-part-test.true) c.loop-part.invariant c.in_ok-put_covered.ensures

pub spans-requires : goal.spans-requires
spans-requires c =
    in_words c.args.words.now.keys c.args.parts.now c.loop-part.covered.keys c.requires
    (subst (λ l. AreAll (IsIn c.args.words.now.keys l) c.loop-part.covered.keys) (take_all c.loop-part.part-index c.args.parts.now c.loop-part-test.false) c.loop-part.invariant)

pub returns : goal.returns
returns c =
    covered_are c.args.words.now.keys c.args.parts.now c.loop-part.part-index c.loop-part.covered.keys c.loop-part-test.false c.loop-part.invariant
    c.in_ok-spans.field-0.items c.in_ok-spans.ensures
