use Rattle.std.proofs.Common.{[], refl, sym, append-nil}
use Rattle.mm_top.{specs.Plans.items_planned, proofs.Rows.{row_stops, row_ends}}
use Rattle.mm_top.proofs.trace.trace.Goals as goal

pub load_plan-requires : goal.load_plan-requires
load_plan-requires g c = c.requires

pub returns-in_err-plan : goal.returns-in_err-plan
returns-in_err-plan g c = row_stops [] c.from_residual.result c.in_err-plan.ensures.read (sym (append-nil _)) refl c.from_residual.ensures.1

pub returns : goal.returns
returns g c =
    row_ends _ _ c.in_ok-plan.ensures.read refl c.write_detail.ensures (λ r no. no)
    (λ text is. (items_planned c.in_ok-plan.plan, c.in_ok-plan.ensures.issues, is))
