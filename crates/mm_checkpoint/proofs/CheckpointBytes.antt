-- The text of a checkpoint: how long it is at most, and that it is bytes if its outputs are.
use Rattle.std.proofs.Common.{◌≡◌, ℕ, zero, suc, ◌+◌, ◌*◌, ◌%◌, ◌/◌, ◌^◌, ◌<◌, ◌≤◌, Bool, true, false, cond, List, []}
use Rattle.std.proofs.Common.{◌∷◌, ◌++◌, length, map, take, drop, Option, Some, None, sym, ap, subst, ◌∙◌, arith}
use Rattle.std.proofs.{lemmas.List.{length-append, length-map, length-take, Sums.count_by-le-length}, Math.Pow.pow_mono}
use Rattle.std.specs.{Prelude.{◌==◌, codes, IfSome, option_map}, Int.{w64, to_be_bytes, byte_at, bytes_high_first}}
use Rattle.std.specs.List.{flat_map, AllByRecursion}
use Rattle.mm_model.proofs.{OneIf.at_most_one, TurnKeeps.each_of}
use Rattle.mm_model.proofs.{CoreRows.{into_map, each_map, each_both, slot_limit-few}, Bytes.Apart.number_of_flags-below}
use Rattle.mm_model.specs.{declared.{event.Event.Event, slot.Pending.Pending}, Flags.{flags, one_if, number_of_flags}}
use Rattle.mm_model.specs.{Memory.IsPage, Slot.Slot, Image.{Image, frame_limit}, Fits.identity_of}
use Rattle.mm_model.specs.{Spelling.{IsImage, bitmap}, Typed.IsTypedSlot}
use Rattle.mm_word.specs.{Pointer.bits_of, declared.word.{Word.{Word, TheVariants.Int}, Cell.Cell}}
use Rattle.mm_word.specs.Word.{word_bits, is_pointer}
use Rattle.mm_format.specs.{Formats.each, Images.{word, page_record}}
use Rattle.mm_format.proofs.ImagesWhole.{words_spelled, page_spelled}
use Rattle.mm_thread.specs.Output.{Output}
use Rattle.mm_machine.specs.Snapshot.{Parts, IsPending}
use Rattle.mm_checkpoint.specs.Checkpoints.{Saved, saved_of, IsCheckpoint, last_byte, state_byte, cause_byte, place_in}
use Rattle.mm_checkpoint.specs.{Checkpoints.{place_byte, event_of}, Laws.CheckpointsAreShort}
use Rattle.mm_checkpoint.specs.Format.{header, tagged, load, output, event_in, place_in_row, address_in, value_in}
use Rattle.mm_checkpoint.specs.Format.{row_of, header_of, spelling, slot_record, output_record, load_record}
use Rattle.mm_checkpoint.specs.Format.{tagged_word}
use Rattle.mm_checkpoint.proofs.{Spelled.{record_spelled, checkpoint_spelled}, Counts.each_append, Groups.few_outputs}
use Rattle.mm_checkpoint.proofs.{Loads.{registers_small, pending_set}, Owns.few_events}
use Rattle.mm_checkpoint.proofs.States.{state_small, cause_small}

-- 1. Numbers that are spelled.

place_few : (events : List (ℕ × Event)) (queue slot : ℕ) → place_in events queue slot ≤ length events
place_few [] queue slot = omega arith
place_few (x ∷ events) queue slot = by (x.1.slot == slot) (x.0 == queue) (place_few events queue slot)
  where
    by : (here own : Bool) → place_in events queue slot ≤ length events
        → cond here 0 (cond own (suc (place_in events queue slot)) (place_in events queue slot)) ≤ suc (length events)
    by true own le = omega arith
    by false true le = omega arith
    by false false le = omega arith

pub place_small : (events : List (ℕ × Event)) (s : Slot) → length events ≤ 64 → place_byte events s < 256
place_small events s few = by (state_byte s.state == 1)
    (place_few events (elim s.handler [ None ↦ 0 | Some handler ↦ handler ]) s.number)
  where
    by : {n : ℕ} (b : Bool) → n ≤ length events → cond b n 0 < 256
    by true le = omega arith
    by false le = omega arith

-- the place of an event, if there is one
place_row : (o : Option Event) (place : ℕ) → place < 256
    → place_in_row (option_map (λ e. record { place = place; event = e }) o) < 256
place_row None place small = omega arith
place_row (Some e) place small = small

pub last_small : (last : Option ℕ) → IfSome last (λ n. n < 64) → last_byte last < 256
last_small None small = omega arith
last_small (Some n) small = omega arith

pub frames_few : (version : ℕ) → frame_limit version ≤ 4096
frames_few version = by (version == 1)
  where
    by : (b : Bool) → cond b 256 4096 ≤ 4096
    by true = omega arith
    by false = omega arith

low_byte : (n : ℕ) → n % 256 < 256
low_byte n = omega arith

byte_small : (k n : ℕ) → byte_at k n < 256
byte_small zero n = low_byte n
byte_small (suc k) n = low_byte (n / 256 ^ suc k)

-- 2. Texts, of what holds of all bytes, and their lengths.

module _ (P : ℕ → Type 0) (is : (b : ℕ) → b < 256 → P b) where
  pub record Text (most : ℕ) (text : List ℕ) : Type 0 where
    pub each : AllByRecursion P text
    pub long : length text ≤ most

  joined : {m n : ℕ} {a b : List ℕ} → Text m a → Text n b → Text (m + n) (a ++ b)
  joined {a = a} {b = b} s t =
      record { each = each_append _ a b s.each t.each; long = omega (arith, length-append a b, s.long, t.long) }

  within : {m n : ℕ} {a : List ℕ} → m ≤ n → Text m a → Text n a
  within le t = let long = t.long in record { each = t.each; long = omega (arith, le, long) }

  one : (b : ℕ) → b < 256 → Text 1 (b ∷ [])
  one b small = record { each = (is b small, tt); long = omega arith }

  number : (k n : ℕ) → Text k (bytes_high_first k n)
  number zero n = record { each = tt; long = omega arith }
  number (suc k) n =
      let rest = number k n in
      let long = rest.long in
      record { each = (is (byte_at k n) (byte_small k n), rest.each); long = omega (arith, long) }

  parts : {A : Type 0} (spell : A → List ℕ) (size : ℕ) (xs : List A) → AllByRecursion (λ x. Text size (spell x)) xs
      → Text (size * length xs) (flat_map spell xs)
  parts spell size [] h = record { each = tt; long = omega arith }
  parts spell size (x ∷ xs) h = within (omega arith) (joined h.0 (parts spell size xs h.1))

  none : Text 0 []
  none = record { each = tt; long = omega arith }

  words : (tags : List Bool) (ws : List Word) → length ws ≡ length tags → Text (8 * length ws) ((each word tags).spell ws)
  words tags ws even = subst (Text (8 * length ws)) (sym (words_spelled tags ws even))
      (parts (λ w. to_be_bytes w64 (word_bits w)) 8 ws (each_of _ (λ w. number 8 (word_bits w)) ws))

  one_bit : (b : Bool) → Text 1 (one_if b ∷ [])
  one_bit b = one (one_if b) (let le = at_most_one b in omega (arith, le))

  word_text : (w : Word) → Text 9 (tagged_word w)
  unfolding tagged word
  word_text w = joined (one_bit (is_pointer w)) (joined (joined (number 8 (word_bits w)) none) none)

  load_text : (p : Pending) → p.reg < 256 → Text 10 (load_record p)
  unfolding load
  load_text p small = joined (one p.reg small) (joined (word_text p.word) none)

  module _ (events : List (ℕ × Event)) (few : length events ≤ 64) where
    slot : (s : Slot) → IsTypedSlot s → IsPending s → Text 331 (slot_record events s)
    slot s typed pending =
        let r = row_of events s in
        let sixteen = typed.registers in
        let set = pending_set s typed.flags pending in
        let most = count_by-le-length (λ (b : Bool). b) (flags 16 (number_of_flags s.empty)) in
        let loads = parts load_record 10 s.pending
        (each_map _ _ (λ p small. load_text p (let flags = typed.flags in omega (arith, flags, small))) s.pending
        (registers_small s typed.flags pending)) in
        let front = joined (joined (joined (joined (joined (joined (joined
        (one (state_byte s.state) (state_small s.state)) (one (cause_byte s.state (event_in r)) (cause_small s.state (event_in r))))
        (one (place_in_row r.queued) (place_row (event_of events s.number) (place_byte events s) (place_small events s few))))
        (one_bit s.past)) (number 8 s.turns)) (number 8 (bits_of s.ip))) (number 2 (number_of_flags (map is_pointer s.regs))))
        (number 2 (number_of_flags s.empty)) in
        subst (Text 331) (sym (record_spelled events s sixteen)) (within (omega (arith, sixteen, set, most))
        (joined front (joined (words (map is_pointer s.regs) s.regs (sym (length-map s.regs is_pointer)))
        (joined (word_text (address_in (event_in r))) (joined (word_text (value_in (event_in r)))
        (joined (one (length s.pending) (omega (arith, set, most))) loads))))))

    slots : (ss : List Slot) → AllByRecursion IsTypedSlot ss → AllByRecursion IsPending ss
        → Text (331 * length ss) (flat_map (slot_record events) ss)
    slots ss typed pending = parts (slot_record events) 331 ss
        (each_both _ _ _ slot ss typed pending)

  output_text : (o : ℕ × List ℕ) → length o.1 ≤ 65536 → AllByRecursion P o.1 → Text 65540 (output_record o)
  unfolding output
  output_text o few all = joined (number 4 (length o.1)) (joined bytes none)
    where
      bytes : Text 65536 o.1
      bytes = record { each = all; long = few }

  bits : (count : ℕ) (fs : List Bool) → Text count (bitmap count fs)
  bits zero fs = record { each = tt; long = omega arith }
  bits (suc count) fs =
      let low = number_of_flags-below (take 8 fs) in
      let most : 2 ^ length (take 8 fs) ≤ 2 ^ 8 =
      pow_mono {i = length (take 8 fs)} {j = 8} (omega (arith, length-take 8 fs)) in
      within (omega arith) (joined (one (number_of_flags (take 8 fs)) (omega (arith, low, most))) (bits count (drop 8 fs)))

  page_text : (p : ℕ × List Cell) → IsPage p → Text 4232 (page_record p)
  page_text p whole =
      let many = whole.cells in
      let tags = map (λ (c : Cell). is_pointer c.word) p.1 in
      let ws = map (λ (c : Cell). c.word) p.1 in
      let wide = length-map p.1 (λ (c : Cell). c.word) in
      let even = wide ∙ sym (length-map p.1 (λ (c : Cell). is_pointer c.word)) in
      subst (Text 4232) (sym (page_spelled p)) (within (omega (arith, many, wide))
      (joined (joined (joined (number 8 p.0) (bits 64 tags)) (bits 64 (map (λ (c : Cell). c.full) p.1))) (words tags ws even)))

  head : (c : Saved) → IfSome c.last (λ n. n < 64) → Text 18 ((header 0).spell (header_of c))
  unfolding header
  head c small =
      let magic : Text 4 (codes "MMS1") = record {
        each = (is 77 (omega arith), (is 77 (omega arith), (is 83 (omega arith), (is 49 (omega arith), tt))));
        long = omega arith;
      } in
      joined magic (joined (number 2 1) (joined (one (last_byte c.last) (last_small c.last small))
      (joined (one 0 (omega arith)) (joined (number 8 c.cycles) (joined (number 2 (length c.pages)) none)))))

-- 3. The whole.

abbrev pair : Output → ℕ × List ℕ
pair o = (o.group, o.bytes)

module _ (i : Image) (p : Parts) (last : Option ℕ) (image : IsImage i) (checkpoint : IsCheckpoint i p last) where
  abbrev c : Saved
  c = saved_of p last

  few_slots : length p.slots ≤ 64
  few_slots =
      let same : length p.slots ≡ length i.slots =
      sym (length-map p.slots identity_of) ∙ ap length checkpoint.slots ∙ length-map i.slots identity_of in
      let few = image.few_slots in
      omega (arith, same, few, slot_limit-few i.version)

  pub queued : length p.events ≤ 64
  queued = omega (arith, few_events p checkpoint.rules, few_slots)

  module _ (P : ℕ → Type 0) (is : (b : ℕ) → b < 256 → P b)
      (outputs : AllByRecursion (λ (o : ℕ × List ℕ). AllByRecursion P o.1) c.outputs) where
    pub whole : Text P is 33554432 (spelling i c)
    whole =
        let short = into_map _ _ _ checkpoint.rules.outputs in
        let put = few_outputs i p image checkpoint.slots checkpoint.rules in
        let many = length-map p.outputs pair in
        let pages = checkpoint.pages in
        let mapped = image.few_frames in
        subst (Text P is 33554432) (sym (checkpoint_spelled i p last image checkpoint))
        (within P is (omega (arith, few_slots, put, many, pages, mapped, frames_few i.version))
        (joined P is (joined P is (joined P is (head P is c checkpoint.issued)
        (slots P is p.events queued p.slots checkpoint.typed.slots checkpoint.rules.pending))
        (parts P is output_record 65540 c.outputs
        (each_both _ _ _ (output_text P is) c.outputs short outputs)))
        (parts P is page_record 4232 p.pages
        (each_map _ _ (page_text P is) p.pages
        checkpoint.typed.whole))))

pub checkpoints_are_short : CheckpointsAreShort
checkpoints_are_short i bytes p last image saves =
    let outputs = (saved_of p last).outputs in
    subst (λ (xs : List ℕ). length xs ≤ 33554432) (sym saves.spelled)
    (whole i p last image saves.checkpoint (λ _. Unit {0}) (λ b small. tt)
    (each_of _ (λ o. each_of _ (λ _. tt) o.1) outputs)).long
