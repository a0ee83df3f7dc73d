use Rattle.std.proofs.Common.{◌++◌, ◌∙◌, ap}
use Rattle.mm_config.{specs.Forms.slot_form, proofs.OneNote.slot_noted}
use Rattle.mm_config.proofs.configs.Configs.note_slot.Goals as goal

pub returns : goal.returns
returns c =
    let b = c.index.result.now in
    let s = c.nth.result.now in
    slot_noted c.args.self.now c.args.at c.requires.trees c.requires.within b s c.deref.result.now c.name.new.self c.with_leaf.new.self c.in_ok-name.name c.in_ok-self.field-0 c.put_slot.new.out
    c.index.ensures c.nth.ensures (c.deref.ensures.value ∙ c.in_ok-put_slot.ensures ∙ ap (λ l. l ++ slot_form b s) c.clear.ensures.items) c.in_ok-name.ensures.name
    c.in_ok-name.ensures.grown c.in_ok-self.ensures.leaves c.in_ok-self.ensures.grown
