use Rattle.std.proofs.Common.{◌≡◌, ◌%◌, ℕ, ltb, [], ◌∷◌, ◌++◌, length, sym, ap, ◌∙◌, arith, ltb-true}
use Rattle.mm_word.specs.Word.{word_bits}
use Rattle.mm_model.specs.{Slot.{Slot, register}, State.{Core, output_of, put_output}, Image.output_limit, Effect.plain}
use Rattle.mm_model.specs.Turn.{slot_after}
use Rattle.mm_thread.specs.SlotIndices.{slot_in, with_slot}
use Rattle.mm_thread.proofs.{Cores.{group_small, byte_limit}, SlotUpdates.{room_left, no_room_left, leaves_at}}
use Rattle.mm_thread.proofs.RowIndex.{apart_in}
use Rattle.mm_thread.proofs.slot_ops.put_out.Goals as goal

pub has_room-requires : goal.has_room-requires
has_room-requires c =
    let r = c.requires in
    let t = c.args.tables.now in
    let group = ap (λ (s : Slot). s.group) (c.slot.view_is ∙ c.slot-slot.ensures) in
    omega (arith, group_small t r.whole c.args.slot_index r.within, r.whole.formed.outputs)

pub put_byte-requires-clause-group : goal.put_byte-requires-clause-group
put_byte-requires-clause-group c =
    let r = c.requires in
    let t = c.args.tables.now in
    let group = ap (λ (s : Slot). s.group) (c.slot.view_is ∙ c.slot-slot.ensures) in
    omega (arith, group_small t r.whole c.args.slot_index r.within, r.whole.formed.outputs, ap (λ (k : Core). length k.outputs) c.advance.ensures)

pub put_byte-requires-clause-room : goal.put_byte-requires-clause-room
unfolding output_of
put_byte-requires-clause-room c =
    let t = c.args.tables.now in
    let fits = ltb-true _ _ (sym c.has_room.ensures ∙ c.if-has_room.true) in
    omega (arith, fits, byte_limit t.version, ap (λ (k : Core). length (output_of k c.slot.inside.group)) c.advance.ensures)

pub returns-then-has_room : goal.returns-then-has_room
unfolding output_of put_output
returns-then-has_room c = λ m.
    let r = c.requires in
    let t = c.args.tables.now in
    let p = c.args.slot_index in
    let s = slot_in t p in
    let same = c.slot.view_is ∙ c.slot-slot.ensures in
    let group : c.slot.inside.group ≡ s.group = ap (λ (x : Slot). x.group) same in
    let byte : c.bits.result % 256 ≡ word_bits (register s c.args.ra) % 256 =
    ap (λ (n : ℕ). n % 256) (c.bits.ensures.value ∙ ap word_bits (c.word_of.ensures ∙ ap (λ (x : Slot). register x c.args.ra) c.slot-slot.ensures))
    in
    let gone : Core = with_slot t p (slot_after s (plain s)) in
    let put : ℕ → ℕ → Core = λ g b. put_output gone g (output_of t g ++ b ∷ []) in
    leaves_at t m s _ (put s.group (word_bits (register s c.args.ra) % 256)) c.put_byte.new.self _
    (room_left t (apart_in t r.whole) p r.within m c.args.ra (ap (λ (g : ℕ). ltb (length (output_of t g)) (output_limit t.version)) (sym group) ∙ sym c.has_room.ensures ∙ c.if-has_room.true))
    (c.put_byte.ensures
    ∙ ap (λ (k : Core). put_output k c.slot.inside.group (output_of k c.slot.inside.group ++ (c.bits.result % 256) ∷ [])) c.advance.ensures
    ∙ ap (λ (g : ℕ). put g (c.bits.result % 256)) group
    ∙ ap (put s.group) byte)

pub returns-else-has_room : goal.returns-else-has_room
returns-else-has_room c = λ m.
    let r = c.requires in
    let t = c.args.tables.now in
    let group = ap (λ (x : Slot). x.group) (c.slot.view_is ∙ c.slot-slot.ensures) in
    no_room_left t (apart_in t r.whole) c.args.slot_index r.within m c.args.ra
    (ap (λ (g : ℕ). ltb (length (output_of t g)) (output_limit t.version)) (sym group) ∙ sym c.has_room.ensures
    ∙ c.if-has_room.false)
