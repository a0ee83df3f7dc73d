use Rattle.std.proofs.Common.{ap}
use Rattle.mm_model.specs.Report.{cycles_line}
use Rattle.mm_text.proofs.Appending.{appends_then, appends_same, buffered_writes}
use Rattle.mm_gen.specs.Summary.{summary}
use Rattle.mm_gen.proofs.summing.summary.Goals as goal

pub returns : goal.returns
unfolding summary
returns g c =
    buffered_writes c.new-text.ensures (appends_then (appends_same c.put_cycles.ensures (ap cycles_line c.cycles.ensures)) c.put_slots.ensures) c.finish.ensures
