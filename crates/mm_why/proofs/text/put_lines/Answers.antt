use Rattle.std.proofs.{Common.{rules, ap, sym, arith}, lemmas.List.take_all}
use Rattle.mm_text.proofs.Appending.{appends_then, appends_same}
use Rattle.mm_why.{specs.Text.lines_text, proofs.Texts.{appends_none, lines_text-more}}
use Rattle.mm_why.proofs.text.put_lines.Goals as goal

pub loop-k-init : goal.loop-k-init
loop-k-init g c = appends_none (search rules)

pub loop-k-preserved : goal.loop-k-preserved
loop-k-preserved g c =
    appends_same (appends_then c.loop-k.invariant c.put_line.ensures)
    (sym (lines_text-more c.args.lines.now c.loop-k.k c.index-lines-k.result c.loop-k-test.true c.index-lines-k.is))

pub returns : goal.returns
returns g c = appends_same c.loop-k.invariant (ap (lines_text 0) (take_all c.loop-k.k c.args.lines.now (omega (arith, c.loop-k-test.false))))
