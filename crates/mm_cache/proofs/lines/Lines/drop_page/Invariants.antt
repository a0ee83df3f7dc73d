use Rattle.mm_cache.proofs.DropPage.{Cleared}
use Rattle.mm_cache.proofs.lines.Lines.drop_page.Given as goal

abbrev pub invariant-loop-i : goal.invariant-loop-i
invariant-loop-i l = Cleared l.i l.page l.self-inside.lines l.initial.self-inside.lines
