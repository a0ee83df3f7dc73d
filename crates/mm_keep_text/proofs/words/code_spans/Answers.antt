use Rattle.std.specs.Prelude.{Contains}
use Rattle.mm_span.proofs.Runs.{spans_alike}
use Rattle.mm_keep_text.specs.Parts.{SomeFetches}
use Rattle.mm_keep_text.proofs.words.code_spans.Goals as goal

pub returns : goal.returns
returns c =
    let ts = c.args.tables.now.threads in
    spans_alike (Contains c.in_ok-words.words.keys) (SomeFetches ts) (λ w h. (c.in_ok-words.ensures.each.each w).0 h) (λ w h. (c.in_ok-words.ensures.each.each w).1 h)
    c.in_ok-spans.field-0.items c.in_ok-spans.ensures
