use Rattle.std.proofs.Common.{sym, ap, ◌∙◌}
use Rattle.mm_model.specs.State.{Core, slot_at, queue_at}
use Rattle.mm_thread.proofs.{RowIndex.apart_in, Index.queue_found, Sound.queue-none}
use Rattle.mm_thread.proofs.state.Core.queue.Goals as goal

pub returns-in-Some : goal.returns-in-Some
returns-in-Some c =
    let t = c.self.inside.tables in
    let p = c.in-Some.slot_index in
    let found = queue_found t (apart_in t c.self.invariant) p c.in-Some.ensures.within in
    c.queue.ensures ∙ sym found ∙ ap (queue_at t) (c.in-Some.ensures.number ∙ c.from.ensures) ∙ ap (λ (k : Core). queue_at k c.args.n) c.self.view_is

pub returns-in-None : goal.returns-in-None
returns-in-None c =
    let t = c.self.inside.tables in
    sym (queue-none t c.args.n (ap (slot_at t) (sym c.from.ensures) ∙ c.in-None.ensures.missing)) ∙ ap (λ (k : Core). queue_at k c.args.n) c.self.view_is
