use Rattle.std.proofs.Common.{refl}
use Rattle.mm_model.specs.{Reach.Entries.All, Audit.apart_line}
use Rattle.mm_audit.specs.Crossing.{verdict_of}
use Rattle.mm_audit_text.proofs.lines.put_apart.Goals as goal

pub returns : goal.returns
returns g c = (
  apart_line c.args.groups.now (verdict_of c.apart.result),
  c.put_answer.ensures,
  λ i surveys. record { verdict = verdict_of c.apart.result; judged = c.apart.ensures.judged i All surveys; is = refl },
)
