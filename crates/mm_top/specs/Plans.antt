-- What `run`, `trace`, `log` and `save` are given, and what a `trace` and a `log` tell of each cycle.
use Rattle.std.specs.Prelude.{ℕ, List}
use Rattle.mm_model.specs.{Image.start, State.State, Trace.trace}
use Rattle.mm_log.specs.Log.{log_text}
use Rattle.mm_sched.specs.Orders.{items_of}
use Rattle.mm_top.specs.declared.{plan.Plan.Plan, detail.TraceDetail.{TraceDetail, TheVariants.{Turn, Changes}}}

-- the items that a plan issues
abbrev pub items_planned : Plan → List ℕ
items_planned p = items_of p.order (start p.image) p.cycles

-- what is told of the cycles of these items
abbrev pub detail_text : TraceDetail → State → (items : List ℕ) → List ℕ
detail_text Turn s items = trace s items
detail_text Changes s items = log_text s items
