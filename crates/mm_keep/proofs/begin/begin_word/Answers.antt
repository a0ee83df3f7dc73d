use Rattle.std.proofs.Common.{◌≡◌, false, subst}
use Rattle.std.proofs.lemmas.Result.{on_ok_weaker}
use Rattle.mm_keep.specs.Claims.{AddsFacts}
use Rattle.mm_word.specs.declared.word.Cell.{Cell}
use Rattle.mm_model.specs.{Memory.cell_at}
use Rattle.std.proofs.Common.{Some}
use Rattle.mm_kernel.specs.{Segments.is_kept, Forms.exactly, Facts.hand_out}
use Rattle.mm_kernel.specs.declared.form.Form.{Form}
use Rattle.mm_kernel.specs.declared.fact.Leak.TheVariants.{Cell as InCell}
use Rattle.mm_keep.proofs.Words.{handed_other}
use Rattle.mm_keep.proofs.begin.begin_word.Goals as goal

pub returns-clause-facts : goal.returns-clause-facts
returns-clause-facts c =
    let to = c.hand_out.new.self in
    let w = c.args.word in
    let cell : Cell = c.in-Some.cell in
    let at : cell_at c.args.kernel.now.image.memory w ≡ Some cell = cc in
    let off : is_kept c.args.kernel.now.kept w ≡ false = cc in
    let same : c.of-form.result ≡ exactly cell.word = cc in
    on_ok_weaker c.hand_out.result (λ h. handed_other c.args.kernel.now.image c.args.kernel.now.kept w cell c.args.tables.now to at off
    (subst (λ (f : Form). AddsFacts c.args.kernel.now.image c.args.kernel.now.kept (hand_out c.args.kernel.now.kept f (InCell w f)) c.args.tables.now to) same h)) c.hand_out.ensures
