use Rattle.std.proofs.{Common.get_or, lemmas.List.get_or_default}
use Rattle.mm_text.proofs.Appending.{appends_item}
use Rattle.mm_log.specs.Lines.{line_text, Line.Puts}
use Rattle.mm_log.proofs.after.put_bytes.Goals as goal

pub loop-byte-preserved : goal.loop-byte-preserved
loop-byte-preserved g c =
    let bytes = c.args.bytes.now in
    let at = c.loop-byte.byte-index in
    appends_item (λ b. line_text (Puts c.args.group b)) bytes at (get_or bytes at 0) c.loop-byte-test.true
    (get_or_default bytes at 0 (get_or bytes at 0) c.loop-byte-test.true) c.loop-byte.invariant c.put_byte.ensures
