use Rattle.std.proofs.Common.{◌<◌, ◌≤◌, ◌++◌, ℕ, List, length, ap, ◌∙◌, sym, subst, refl, arith}
use Rattle.std.{specs.{List.AllByRecursion, Vec.with_items}, proofs.lemmas.List.with_items_is}
use Rattle.mm_model.specs.Slot.{Slot}
use Rattle.mm_config.specs.declared.configs.Configs as code
use Rattle.mm_config.specs.{Reads.{mask_of, slots_read}, Reaching.HasReadSlots}
use Rattle.mm_config.proofs.{Reached.room, ReadSlots.{slot_changes, kept_slots, few_places, slots_are_read}}
use Rattle.mm_config.proofs.configs.Configs.read_slots.Goals as goal

pub list_changed-requires : goal.list_changed-requires
list_changed-requires c =
    let r = c.requires in
    let low = r.stands.depth in
    record { was = r.stands.named.names.slots.inner; tree = r.names.slots.inner; depth = omega (arith, low); room = room c.args.wanted.now c.args.self.now r }

pub take_slots-requires-clause-kept : goal.take_slots-requires-clause-kept
take_slots-requires-clause-kept c =
    let me = c.args.self.now in
    let w = c.args.wanted.now in
    let list = c.deref-2.ensures.value ∙ c.in_ok-list_changed.ensures ∙ ap (λ l. l ++ slot_changes w me) c.clear.ensures.items in
    let kept = subst (AllByRecursion (λ (e : ℕ × ℕ). (e.0 < length me.base.items) × (e.1 ≤ length me.store.lists))) (sym list) (kept_slots w me c.requires) in
    subst (λ (l : List Slot). AllByRecursion (λ (e : ℕ × ℕ). (e.0 < length l) × (e.1 ≤ length me.store.lists)) c.deref-2.result.now) (sym c.deref.ensures.value) kept

pub mask_of-requires : goal.mask_of-requires
mask_of-requires c =
    let me = c.args.self.now in
    let w = c.args.wanted.now in
    let list = c.deref-3.ensures.value ∙ c.in_ok-list_changed.ensures ∙ ap (λ l. l ++ slot_changes w me) c.clear.ensures.items in
    subst (AllByRecursion (λ (e : ℕ × ℕ). e.0 < 64)) (sym list) (few_places w me c.requires)

pub returns : goal.returns
returns c = λ r.
    let me = c.args.self.now in
    let w = c.args.wanted.now in
    let changes = c.in_ok-list_changed.ensures ∙ ap (λ l. l ++ slot_changes w me) c.clear.ensures.items in
    let list = c.deref-2.ensures.value ∙ changes in
    let now : code.Configs = record me { slots = with_items me.slots c.take_slots.new.slots; changed = c.list_changed.new.out } in
    let long = c.take_slots.auto.slots in
    let is = with_items_is me.slots c.take_slots.new.slots (omega (arith, long, c.deref_mut.ensures.len)) ∙ c.take_slots.ensures ∙ (λ j. slots_read me.store.lists (c.deref.ensures.value j) (list j) (c.deref_mut.ensures.value j)) in
    let mask = c.mask_of.ensures ∙ ap mask_of (c.deref-3.ensures.value ∙ changes) in
    subst (HasReadSlots r.state.core me now) (sym mask) (slots_are_read w me r now is refl)
