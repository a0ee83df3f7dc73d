use Rattle.std.proofs.Common.{[], ◌∷◌}
use Rattle.std.proofs.lemmas.Result.{on_ok_weaker}
use Rattle.mm_kernel.specs.Facts.Fact.{HasEvent, HasFaulted}
use Rattle.mm_keep.proofs.Claims.{facts_then}
use Rattle.mm_keep.proofs.follow.note_fault.Goals as goal

pub returns : goal.returns
returns c =
    on_ok_weaker c.add_faulted.result (λ h i kept. facts_then i kept (HasEvent c.args.slot c.args.event.now ∷ []) (HasFaulted c.args.slot c.args.t.now ∷ []) c.args.tables.now
    c.add_event.new.self c.add_faulted.new.self (c.in_ok-add_event.ensures i kept) (h i kept)) c.add_faulted.ensures
