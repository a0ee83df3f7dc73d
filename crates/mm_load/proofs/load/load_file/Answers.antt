use Rattle.std.proofs.Common.{ℕ, ◌≤◌, length, subst}
use Rattle.mm_load.proofs.Reading.{parsed_file}
use Rattle.mm_load.proofs.load.load_file.Goals as goal

pub returns-clause-read : goal.returns-clause-read
returns-clause-read g c before counted =
    let read = c.in_ok-bytes.ensures in
    let short = subst (λ (n : ℕ). length c.in_ok-bytes.bytes.items ≤ n) c.limit.ensures.is read.short in
    parsed_file read.asks.reads read.whole.reads counted c.deref.ensures.value read.bytes short (c.parse.ensures.means before)
    (c.parse.ensures.fault before) read.asks.of_name read.asks.asks read.whole.whole read.whole.asks
