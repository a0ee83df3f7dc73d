use Rattle.mm_audit.proofs.Noting.{noted, nothing_noted}
use Rattle.mm_audit.proofs.shared_words.Meets.note.Goals as goal

pub returns-then-fresh-ne0 : goal.returns-then-fresh-ne0
returns-then-fresh-ne0 c = noted c.args.groups c.args.word c.without-fresh.result c.args.self.now c.without-fresh.ensures c.fill.new.words c.fill.ensures

pub returns-else-fresh-ne0 : goal.returns-else-fresh-ne0
returns-else-fresh-ne0 c = nothing_noted c.args.groups c.args.word c.without-fresh.result c.args.self.now c.without-fresh.ensures c.if-fresh-ne0.false
