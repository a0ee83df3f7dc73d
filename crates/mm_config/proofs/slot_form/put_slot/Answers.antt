use Rattle.std.proofs.Common.{◌≡◌, ◌+◌, ◌*◌, ◌++◌, ◌∙◌, [], ◌∷◌, length, sym, ap}
use Rattle.std.proofs.lemmas.Result.{on_ok_weaker}
use Rattle.std.specs.List.{flat_map}
use Rattle.mm_word.specs.Pointer.{bits_of}
use Rattle.mm_model.specs.Flags.{flags}
use Rattle.mm_config.specs.Forms.{slot_form, slot_head, slot_masks, load_form, bits_set, changed_bits}
use Rattle.mm_config.proofs.{WordForms.bits_changed, Taking.slot_put}
use Rattle.mm_config.proofs.slot_form.put_slot.Goals as goal

pub returns : goal.returns
unfolding slot_form
returns c =
    let base = c.base.inside.regs in
    let words = c.slot.inside.regs in
    let mask = c.masks_of-changed.result.0 in
    let was = c.args.base.now in
    let slot = c.args.slot.now in
    let out = c.args.out.now.items in
    let bits : bits_set (flags (length words) mask) words ≡ changed_bits was.regs slot.regs =
    bits_changed base words mask (c.base.invariant.registers ∙ sym c.slot.invariant.registers) c.masks_of-changed.ensures.changed
    ∙ (λ j. changed_bits (c.base.view_is j).regs (c.slot.view_is j).regs) in
    let head : c.push.new.self.items ≡ out ++ slot_head slot ∷ [] = c.in_ok-push.ensures.items ∙ ap (λ n. out ++ n ∷ []) c.head_of.ensures in
    let masks : c.push-2.new.self.items ≡ c.push.new.self.items ++ slot_masks was slot ∷ [] =
    c.in_ok-push-2.ensures.items ∙ ap (λ n. c.push.new.self.items ++ n ∷ [])
    ((λ j. c.masks_of-changed.ensures.changed j + 65536 * c.masks_of-changed.ensures.pointers j) ∙ (λ j. slot_masks (c.base.view_is j) (c.slot.view_is j))) in
    let ip : c.push-3.new.self.items ≡ c.push-2.new.self.items ++ bits_of slot.ip ∷ [] =
    c.in_ok-push-3.ensures.items ∙ ap (λ n. c.push-2.new.self.items ++ n ∷ []) (c.bits.ensures.bits ∙ (λ j. bits_of (c.slot.view_is j).ip)) in
    let put : c.put_bits.new.out.items ≡ c.push-3.new.self.items ++ changed_bits was.regs slot.regs = c.in_ok-put_bits.ensures ∙ ap (λ l. c.push-3.new.self.items ++ l) bits in
    on_ok_weaker c.put_loads.result (λ e. slot_put out (changed_bits was.regs slot.regs) (flat_map load_form slot.pending) _ _ _ _ _ (slot_head slot) (slot_masks was slot) (bits_of slot.ip) head masks ip put
    (e ∙ ap (λ l. c.put_bits.new.out.items ++ flat_map load_form l) (c.as_slice.ensures.value ∙ (λ j. (c.slot.view_is j).pending)))) c.put_loads.ensures
