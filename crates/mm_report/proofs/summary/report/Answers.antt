use Rattle.std.proofs.Common.{List, ℕ, refl, sym, subst}
use Rattle.std.specs.{Prelude.IsTrue, List.AllByRecursion, Ordering.nat_cmp, FinMap.is_sorted}
use Rattle.mm_word.specs.declared.word.Cell.{Cell}
use Rattle.mm_model.specs.Memory.{IsPage}
use Rattle.mm_machine.specs.Machine.{state_of}
use Rattle.mm_text.proofs.Appending.{appends_then, appends_same, buffered_writes}
use Rattle.mm_report.proofs.ReportText.{report_text}
use Rattle.mm_report.proofs.summary.report.Goals as goal

pub put_pages-requires-clause-rising : goal.put_pages-requires-clause-rising
put_pages-requires-clause-rising g c = subst (λ (ps : List (ℕ × List Cell)). IsTrue (is_sorted nat_cmp ps)) (sym c.pages-pages.ensures.pages) c.pages-pages.ensures.image.paged.pages.rising

pub put_pages-requires-clause-whole : goal.put_pages-requires-clause-whole
put_pages-requires-clause-whole g c = subst (λ (ps : List (ℕ × List Cell)). AllByRecursion IsPage ps) (sym c.pages-pages.ensures.pages) c.pages-pages.ensures.image.paged.pages.whole

pub returns-clause-text : goal.returns-clause-text
returns-clause-text g c = (
  c.counts.result,
  buffered_writes c.new-text.ensures
      (appends_same
      (appends_then (appends_then (appends_then (appends_then c.put_cycles.ensures c.put_sections.ensures) c.put_pages.ensures) c.put_cells.ensures) c.put_counts.ensures)
      (report_text (state_of c.args.m.now) c.args.img.now c.counts.result c.counts.result c.cycles.result (g.M.Memory.meaning c.memory-mem.result.now) c.pages-pages.result.now
      c.cycles.ensures c.memory-mem.ensures.memory c.pages-pages.ensures.pages refl))
      c.finish.ensures,
)

pub returns-clause-counts : goal.returns-clause-counts
returns-clause-counts g c us stands =
    buffered_writes c.new-text.ensures
    (appends_same
    (appends_then (appends_then (appends_then (appends_then c.put_cycles.ensures c.put_sections.ensures) c.put_pages.ensures) c.put_cells.ensures) c.put_counts.ensures)
    (report_text (state_of c.args.m.now) c.args.img.now (g.M.Inspect.tells us) c.counts.result c.cycles.result (g.M.Memory.meaning c.memory-mem.result.now) c.pages-pages.result.now
    c.cycles.ensures c.memory-mem.ensures.memory c.pages-pages.ensures.pages (c.counts.ensures us (c.memory-mem.ensures.stands us stands))))
    c.finish.ensures
