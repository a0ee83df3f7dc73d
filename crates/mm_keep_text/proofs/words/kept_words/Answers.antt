use Rattle.std.proofs.Common.{◌⊎◌, ap, ◌∙◌, subst}
use Rattle.std.{proofs.lemmas.List.take_all, specs.Prelude.Contains}
use Rattle.mm_model.specs.{Image.Image, Memory.IsPaged}
use Rattle.mm_keep_text.specs.Parts.{AreAll, IsHeldIn, InPages}
use Rattle.mm_keep_text.proofs.HeldWords.{page_more, held_all, held_words}
use Rattle.mm_keep_text.proofs.words.kept_words.Goals as goal

pub loop-page-preserved : goal.loop-page-preserved
loop-page-preserved c =
    let i = c.args.kernel.now.image in
    let kept = c.args.kernel.now.kept in
    page_more i kept c.pages-pages.result.now c.loop-page.page-index c.page-item.result c.loop-page.words.keys c.put_page.new.words.keys
    c.loop-page-test.true c.page-item.is c.loop-page.invariant
    (subst (λ n. AreAll (λ x. Contains c.loop-page.words.keys x ⊎ IsHeldIn i kept n 512 x) c.put_page.new.words.keys) c.number.ensures.number c.in_ok-put_page.ensures)

pub returns-clause-held : goal.returns-clause-held
returns-clause-held c =
    let i = c.args.kernel.now.image in
    let kept = c.args.kernel.now.kept in
    let is = c.pages-pages.ensures.pages ∙ ap (λ (j : Image). j.memory.pages) c.image.ensures in
    let all = take_all c.loop-page.page-index c.pages-pages.result.now c.loop-page-test.false in
    held_all i kept c.loop-page.words.keys (subst (λ ps. AreAll (InPages i kept ps) c.loop-page.words.keys) (all ∙ is) c.loop-page.invariant)

pub returns-clause-words : goal.returns-clause-words
returns-clause-words c =
    let i = c.args.kernel.now.image in
    let kept = c.args.kernel.now.kept in
    let is = c.pages-pages.ensures.pages ∙ ap (λ (j : Image). j.memory.pages) c.image.ensures in
    let all = take_all c.loop-page.page-index c.pages-pages.result.now c.loop-page-test.false in
    held_words i kept (subst (λ (j : Image). IsPaged j.memory) c.image.ensures c.pages-pages.ensures.image.paged) c.loop-page.words.keys
    (held_all i kept c.loop-page.words.keys (subst (λ ps. AreAll (InPages i kept ps) c.loop-page.words.keys) (all ∙ is) c.loop-page.invariant))
