-- The bytes of a checkpoint, part by part.
use Rattle.std.proofs.Common.{◌≡◌, ℕ, suc, ◌+◌, Bool, false, List, [], ◌∷◌, ◌++◌, length, map, Option, Some, None, refl}
use Rattle.std.proofs.{Common.{sym, ap, ◌∙◌, append_assoc, arith}, lemmas.List.{append-nil, length-map}}
use Rattle.std.specs.{Prelude.option_map, List.flat_map, Int.{w16, w64, to_be_bytes}}
use Rattle.mm_word.specs.{Pointer.bits_of, declared.word.{Word.Word, Cell.Cell}, Word.{word_bits, is_pointer}}
use Rattle.mm_model.specs.{declared.event.Event.Event, Flags.{flags, number_of_flags, one_if}, Fits.identity_of}
use Rattle.mm_model.specs.{Slot.Slot, Image.{Image, output_limit}, Spelling.IsImage}
use Rattle.mm_thread.specs.Output.{Output}
use Rattle.mm_machine.specs.Snapshot.{Parts}
use Rattle.mm_format.specs.{Formats.{each, times}, Images.{mask, ip, word, page, page_record}}
use Rattle.mm_format.proofs.{ImagesWhole.{words_spelled, pages_spelled}, Lists.{each_spell, times_spell}}
use Rattle.mm_checkpoint.specs.Checkpoints.{saved_of, IsCheckpoint, state_byte, cause_byte, place_byte, event_of}
use Rattle.mm_checkpoint.specs.declared.rows.{Queued.Queued, SlotRow.SlotRow}
use Rattle.mm_checkpoint.specs.Format.{header, word_with, tagged, register, load, beside, event_in, place_in_row}
use Rattle.mm_checkpoint.specs.Format.{address_in, value_in, slot_row, load_count, front, output, checkpoint, row_of}
use Rattle.mm_checkpoint.specs.Format.{header_of, spelling, slot_record, output_record, load_record, tagged_word}
use Rattle.mm_checkpoint.{specs.Reading.groups_of, proofs.Groups.groups_same}

-- 1. The record of a slot.

pub event_back : (events : List (ℕ × Event)) (s : Slot) → event_in (row_of events s) ≡ event_of events s.number
event_back events s = by (event_of events s.number)
  where
    by : (o : Option Event) → option_map (λ (q : Queued). q.event)
        (option_map (λ e. record { place = place_byte events s; event = e }) o) ≡ o
    by None = refl
    by (Some e) = refl

pub place_back : (place n : ℕ) (o : Option Event) → (o ≡ None → n ≡ 0) → n ≡ place
    → n ≡ place_in_row (option_map (λ e. record { place = place; event = e }) o)
place_back place n None none is = none refl
place_back place n (Some e) none is = is

beside_long : (xs ys : List Bool) → length xs ≡ length ys → length xs ≡ length (beside xs ys)
beside_long [] ys even = refl
beside_long (x ∷ xs) [] even = even
beside_long (x ∷ xs) (y ∷ ys) even = ap suc (beside_long xs ys (omega arith))

-- its numbers up to the registers
abbrev pub numbers : SlotRow → List ℕ
numbers r = (state_byte r.slot.state ∷ cause_byte r.slot.state (event_in r) ∷ place_in_row r.queued ∷ one_if r.slot.past
    ∷ []) ++ to_be_bytes w64 r.slot.turns ++ to_be_bytes w64 (bits_of r.slot.ip)
    ++ to_be_bytes w16 (number_of_flags (map is_pointer r.slot.regs)) ++ to_be_bytes w16 (number_of_flags r.slot.empty)

pub record_spelled : (events : List (ℕ × Event)) (s : Slot) → length s.regs ≡ 16 → slot_record events s
    ≡ numbers (row_of events s) ++ ((each word (map is_pointer s.regs)).spell s.regs
    ++ (tagged_word (address_in (event_in (row_of events s))) ++ (tagged_word (value_in (event_in (row_of events s)))
    ++ ((length s.pending ∷ []) ++ flat_map load_record s.pending))))
unfolding slot_row load_count mask ip tagged word_with word load
record_spelled events s sixteen =
    let r = row_of events s in
    let n = number_of_flags s.empty in
    let f = numbers r in
    let a = tagged_word (address_in (event_in r)) in
    let v = tagged_word (value_in (event_in r)) in
    let c : List ℕ = length s.pending ∷ [] in
    let tags = map is_pointer s.regs in
    let ks = beside tags (flags 16 n) in
    let loads = times (load n) (λ earlier p. earlier ++ p ∷ []) (length s.pending) [] in
    let even = length-map s.regs is_pointer in
    ap (λ x. f ++ (x ++ (a ++ (v ++ (c ++ (loads.spell s.pending ++ []))))))
    (each_spell register (λ w. to_be_bytes w64 (word_bits w)) (λ k w. refl) ks s.regs
    (sym even ∙ beside_long tags (flags 16 n) (even ∙ sixteen)) ∙ sym (words_spelled tags s.regs (sym even)))
    ∙ ap (λ x. f ++ ((each word tags).spell s.regs ++ (a ++ (v ++ (c ++ x))))) (append-nil (loads.spell s.pending)
    ∙ times_spell (load n) _ load_record (λ earlier p. refl) (length s.pending) [] s.pending refl)

-- 2. The whole.

mapped : {A B : Type 0} (f : B → List ℕ) (g : A → B) (xs : List A) → flat_map f (map g xs) ≡ flat_map (λ x. f (g x)) xs
mapped f g [] = refl
mapped f g (x ∷ xs) = ap (λ t. f (g x) ++ t) (mapped f g xs)

glued : (h r o p : List ℕ) → (h ++ (r ++ [])) ++ (o ++ (p ++ [])) ≡ h ++ r ++ o ++ p
glued h r o p = simp (append_assoc, append-nil)

module _ (i : Image) (p : Parts) (last : Option ℕ) (image : IsImage i) (ck : IsCheckpoint i p last) where
  rows_spelled : (each (slot_row i.split p.cycles) i.slots).spell (map (row_of p.events) p.slots)
      ≡ flat_map (slot_record p.events) p.slots
  unfolding slot_row load_count
  rows_spelled =
      each_spell (slot_row i.split p.cycles) (λ r. (slot_row false 0 r.slot).spell r) (λ s r. refl) i.slots
      (map (row_of p.events) p.slots)
      (length-map p.slots (row_of p.events) ∙ sym (length-map p.slots identity_of) ∙ ap length ck.slots
      ∙ length-map i.slots identity_of)
      ∙ mapped (λ r. (slot_row false 0 r.slot).spell r) (row_of p.events) p.slots

  outputs_spelled : (each (output (output_limit i.version)) (groups_of i.slots)).spell (saved_of p last).outputs
      ≡ flat_map output_record (saved_of p last).outputs
  unfolding output
  outputs_spelled =
      each_spell (output (output_limit i.version)) output_record (λ g o. refl) (groups_of i.slots) (saved_of p last).outputs
      (length-map p.outputs (λ (o : Output). (o.group, o.bytes))
      ∙ sym (length-map p.outputs (λ (o : Output). o.group))
      ∙ ap length (sym (groups_same i p image ck.rules ck.slots)))

  pub checkpoint_spelled : spelling i (saved_of p last)
      ≡ (header 0).spell (header_of (saved_of p last)) ++ flat_map (slot_record p.events) p.slots
      ++ flat_map output_record (saved_of p last).outputs ++ flat_map page_record p.pages
  unfolding checkpoint front header
  checkpoint_spelled =
      let h = (header 0).spell (header_of (saved_of p last)) in
      let o = (each (output (output_limit i.version)) (groups_of i.slots)).spell (saved_of p last).outputs in
      let q = (times page (λ _ x. x.0 + 1) (length p.pages) 0).spell p.pages in
      ap (λ r. (h ++ (r ++ [])) ++ (o ++ (q ++ []))) rows_spelled
      ∙ glued h (flat_map (slot_record p.events) p.slots) o q
      ∙ ap (λ t. h ++ flat_map (slot_record p.events) p.slots ++ t ++ q) outputs_spelled
      ∙ ap (λ t. h ++ flat_map (slot_record p.events) p.slots ++ flat_map output_record (saved_of p last).outputs ++ t)
      (pages_spelled p.pages)
