use Rattle.std.proofs.Common.{ap, arith}
use Rattle.mm_cache.specs.declared.lines.Lines.TheInside.{Inside}
use Rattle.mm_cache.proofs.DropPage.{step_gone, step_kept, index_in}
use Rattle.mm_cache.proofs.lines.Lines.drop_page.Goals.{then-has_page, else-has_page}
use Rattle.mm_cache.proofs.lines.Lines.drop_page.Goals as goal

pub loop-i-preserved : goal.loop-i-preserved
loop-i-preserved c = elim c.if-has_page.branch [
  | then-has_page w ↦ step_gone c.loop-i.i c.args.page c.loop-i.self-inside.lines c.if-has_page.self-inside.lines c.self.inside.lines _
      (index_in c.loop-i.self-inside.lines c.loop-i.i _ (omega (arith, c.loop-i.invariant.lines_ok.many))) (c.has_page.ensures.gone w.if-has_page.true)
      (ap (λ (b : Inside). b.lines) w.self-inside-is) c.loop-i.invariant
  | else-has_page w ↦ step_kept c.loop-i.i c.args.page c.loop-i.self-inside.lines c.if-has_page.self-inside.lines c.self.inside.lines _
      (index_in c.loop-i.self-inside.lines c.loop-i.i _ (omega (arith, c.loop-i.invariant.lines_ok.many))) (c.has_page.ensures.kept w.if-has_page.false)
      (ap (λ (b : Inside). b.lines) w.self-inside-is) c.loop-i.invariant
]
