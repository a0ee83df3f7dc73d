use Rattle.std.proofs.Common.{refl, sym, arith}
use Rattle.mm_image.proofs.Ascending.{pages_end, pages_fall}
use Rattle.mm_image.proofs.fits.pages_ascend.Goals as goal

pub returns-then-number-least : goal.returns-then-number-least
returns-then-number-least c =
    let l = c.loop-page in (
      λ f. absurd cc,
      λ sorted. sym (pages_fall c.args.pages.now l.page-index l.least c.page-item.result l.invariant
          c.loop-page-test.true c.page-item.is (omega (arith, c.number.ensures.number, c.if-number-least.true)) sorted),
    )

pub returns : goal.returns
returns c =
    let l = c.loop-page in
    (λ t. pages_end c.args.pages.now l.page-index l.least l.invariant c.loop-page-test.false, λ sorted. refl)
