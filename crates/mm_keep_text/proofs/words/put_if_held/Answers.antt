use Rattle.std.proofs.Common.{◌≡◌, ◌⊎◌, ap, sym, ◌∙◌, subst}
use Rattle.std.specs.Prelude.{Contains}
use Rattle.mm_model.specs.{Image.Image, Memory.cell_at}
use Rattle.mm_kernel.specs.Segments.{is_kept}
use Rattle.mm_keep_text.{specs.Parts.{AreAll, IsHeld}, proofs.HeldWords.{held_by, held_added}}
use Rattle.mm_keep_text.proofs.words.put_if_held.Goals as goal

pub returns-in_ok-insert : goal.returns-in_ok-insert
returns-in_ok-insert c =
    let i = c.args.kernel.now.image in
    let kept = c.args.kernel.now.kept in
    let w = c.args.word in
    subst (AreAll (λ x. Contains c.args.words.now.keys x ⊎ ((w ≡ x) × IsHeld i kept x))) (sym c.in_ok-insert.ensures.keys)
    (held_added i kept c.args.words.now.keys w
    (held_by i kept w c.cell.result (c.cell.ensures ∙ ap (λ (j : Image). cell_at j.memory w) c.image.ensures) (sym c.is_some.ensures ∙ c.if-is_some.true)
    (ap (λ s. is_kept s w) (sym c.kept.ensures) ∙ sym c.is_kept.ensures ∙ c.if-is_kept.true)))
