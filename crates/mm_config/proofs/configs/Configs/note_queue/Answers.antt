use Rattle.std.proofs.Common.{◌++◌, ◌∙◌, ap}
use Rattle.mm_model.specs.{Slot.Slot, State.queue_at}
use Rattle.mm_config.{specs.Forms.queue_form, proofs.OneNote.queue_noted}
use Rattle.mm_config.proofs.configs.Configs.note_queue.Goals as goal

pub returns : goal.returns
returns c =
    let queue = c.queue.result.now in
    let own = ap (λ (s : Slot). queue_at c.args.self.now.core s.number) c.behind-self.view_is in
    queue_noted c.args.self.now c.args.at c.requires.trees c.requires.within c.known.ensures c.index.result.now queue c.deref.result.now c.name.new.self c.with_leaf.new.self c.in_ok-name.name
    c.in_ok-self.field-0 c.put_events.new.out c.index.ensures (c.queue.ensures ∙ own) (c.deref.ensures.value ∙ c.in_ok-put_events.ensures ∙ ap (λ l. l ++ queue_form queue) c.clear.ensures.items)
    c.in_ok-name.ensures.name c.in_ok-name.ensures.grown c.in_ok-self.ensures.leaves c.in_ok-self.ensures.grown
