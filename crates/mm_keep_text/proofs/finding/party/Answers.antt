use Rattle.std.proofs.Common.{subst}
use Rattle.mm_span.specs.Spans.{AreSpans}
use Rattle.mm_keep_text.{specs.Parts.IsIn, proofs.Telling.party_is}
use Rattle.mm_keep_text.proofs.finding.party.Goals as goal

pub returns : goal.returns
returns c =
    let words = c.args.used.now.words.keys in
    party_is c.args.kernel.now.image c.args.kernel.now.kept c.args.tables.now c.requires.exact c.args.used.now c.requires.using c.args.origin
    c.origin_numbers-numbers.result c.origin_numbers-numbers.ensures.is c.origin_numbers-numbers.ensures.again c.in_ok-read.read.items
    c.in_ok-written.written.items c.in_ok-read.ensures c.in_ok-written.ensures c.in_ok-reads.reads.items c.in_ok-writes.writes.items
    (subst (λ l. AreSpans (IsIn words l) c.in_ok-reads.reads.items) c.deref.ensures.value c.in_ok-reads.ensures)
    (subst (λ l. AreSpans (IsIn words l) c.in_ok-writes.writes.items) c.deref-2.ensures.value c.in_ok-writes.ensures)
