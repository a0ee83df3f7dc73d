use Rattle.std.proofs.{Common.{◌≡◌, ◌∙◌, ◌++◌, ◌∷◌, [], ℕ, List, take, sym, ap}, lemmas.List.take_more}
use Rattle.mm_word.specs.declared.word.Cell.{Cell}
use Rattle.mm_audit.specs.Own.{is_covered, has_word, kept_pages}
use Rattle.mm_audit.proofs.OwnPages.{kept_page_in, kept_page_out}
use Rattle.mm_audit.proofs.kept_parts.pages_of.Goals.{then-has_word+in_ok-own+in_ok-push, else-has_word}
use Rattle.mm_audit.proofs.kept_parts.pages_of.Goals as goal

pub loop-page-preserved : goal.loop-page-preserved
loop-page-preserved c =
    let covered = is_covered c.args.set.now in
    let page : ℕ × List Cell = c.page-item.result in
    let before = take c.loop-page.page-index c.args.pages.now in
    let more = ap (kept_pages covered) (take_more c.args.pages.now c.loop-page.page-index page c.loop-page-test.true ∙ ap (λ (v : ℕ × List Cell). before ++ v ∷ []) (sym c.page-item.is)) in
    let test : c.has_word.result ≡ has_word covered page.0 = c.has_word.ensures ∙ ap (has_word covered) c.number.ensures.number in
    elim c.if-has_word.branch [
      | then-has_word+in_ok-own+in_ok-push w ↦ rw w.kept-is
          (w.in_ok-push.ensures.items ∙ ap (λ l. l ++ w.in_ok-own.own ∷ []) c.loop-page.invariant ∙ ap (λ (v : ℕ × List Cell). kept_pages covered before ++ v ∷ []) w.in_ok-own.ensures
          ∙ sym (kept_page_in covered before page (sym test ∙ w.if-has_word.true)) ∙ sym more)
      | else-has_word w ↦ rw w.kept-is (c.loop-page.invariant ∙ sym (kept_page_out covered before page (sym test ∙ w.if-has_word.false)) ∙ sym more)
    ]
