use Rattle.std.proofs.Common.{ℕ, List, arith}
use Rattle.mm_word.specs.declared.word.Cell.{Cell}
use Rattle.mm_machine.proofs.Rising.{rise_more, rise_not}
use Rattle.mm_machine.proofs.validate.pages_ascend.Goals as goal

pub loop-k-preserved : goal.loop-k-preserved
loop-k-preserved c =
    rise_more (λ (p : ℕ × List Cell). p.0) c.args.pages.now c.loop-k.k c.index-pages-k.result
    c.index-pages-k-in-loop-k.result c.loop-k.auto.k c.loop-k-test.true c.index-pages-k.is
    c.index-pages-k-in-loop-k.is c.loop-k.invariant
    (omega (arith, c.number-before.ensures.number, c.number-number.ensures.number, c.if-number-before.false))

pub returns-then-number-before : goal.returns-then-number-before
returns-then-number-before c = (
  λ f. absurd cc,
  λ rising. absurd (rise_not (λ (p : ℕ × List Cell). p.0) c.args.pages.now c.loop-k.k c.index-pages-k.result
      c.index-pages-k-in-loop-k.result c.loop-k.auto.k c.loop-k-test.true c.index-pages-k.is
      c.index-pages-k-in-loop-k.is
      (omega (arith, c.number-before.ensures.number, c.number-number.ensures.number, c.if-number-before.true)) rising),
)
