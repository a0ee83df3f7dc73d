use Rattle.std.proofs.Common.{◌≡◌, ap, subst, List}
use Rattle.std.proofs.lemmas.Result.{on_ok_weaker}
use Rattle.mm_model.specs.Slot.{Slot}
use Rattle.mm_config.specs.declared.configs.Configs as code
use Rattle.mm_config.{specs.Turning.{NotesSlots, IsServedBy}, proofs.OneNote.{slots_twice, trees_after_slots}}
use Rattle.mm_config.proofs.configs.Configs.note_slots.Goals as goal

pub note_served-requires : goal.note_served-requires
note_served-requires c = trees_after_slots (λ k. k ≡ c.args.at) c.args.self.now c.note_slot.new.self c.in_ok-note_slot.ensures c.requires.trees

pub returns : goal.returns
returns c =
    let me = c.args.self.now in
    let mid = c.note_slot.new.self in
    let new = c.note_served.new.self in
    let own = c.in_ok-note_slot.ensures in
    on_ok_weaker c.note_served.result
    (λ served. slots_twice (λ k. k ≡ c.args.at) (IsServedBy me.base.items c.args.number c.args.running) me mid new own
    (subst (λ (l : List Slot). NotesSlots (IsServedBy l c.args.number c.args.running) mid new) (ap (λ (x : code.Configs). x.base.items) own.others) served)) c.note_served.ensures
