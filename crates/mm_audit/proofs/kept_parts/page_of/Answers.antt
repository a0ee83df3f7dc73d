use Rattle.std.proofs.Common.{◌∙◌}
use Rattle.mm_audit.proofs.kept_parts.page_of.Goals as goal

pub of-requires : goal.of-requires
of-requires c = record { number = c.number.ensures.limit; cells = c.in_ok-cells.ensures.whole }

pub returns : goal.returns
returns c = c.of.ensures ∙ (λ j. (c.number.ensures.number j, c.in_ok-cells.ensures.cells j))
