use Rattle.std.proofs.Common.{◌∙◌, ◌&&◌, ap}
use Rattle.std.specs.List.{list_any}
use Rattle.mm_model.specs.{Slot.Slot, Turn.{is_handler, is_running}}
use Rattle.mm_kernel.specs.Threads.{serves_some}
use Rattle.mm_keep.proofs.Flags.{any_filtered}
use Rattle.mm_keep.proofs.kernel.serves_some.Goals as goal

pub returns : goal.returns
unfolding serves_some
returns c =
    c.serves_one.ensures ∙ ap (list_any (λ (s : Slot). is_running s.state && is_handler c.args.number s.handler)) c.slots.ensures.slots
    ∙ any_filtered (λ (s : Slot). is_running s.state) (λ (s : Slot). is_handler c.args.number s.handler) c.args.image.now.slots
