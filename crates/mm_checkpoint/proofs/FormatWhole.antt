-- Checkpoints and the bytes that spell them, by their format.
use Rattle.std.proofs.Common.{◌≡◌, ◌≢◌, ℕ, ◌+◌, ◌*◌, ◌<◌, ◌≤◌, Bool, true, false, not, cond, inl, inr, List, [], ◌∷◌}
use Rattle.std.proofs.Common.{◌++◌, length, map, Option, Some, None, refl, sym, ap, subst, ◌∙◌, arith, append_assoc}
use Rattle.std.proofs.lemmas.{Bool.{le-ltb, ltb-false, Decides.nat_tests}, List.{append-nil, map-append}}
use Rattle.std.specs.Prelude.{◌==◌, ◌&&◌, nat_le, IfSome, option_map, unwrap_or, codes}
use Rattle.std.specs.{Int.{w16, w32, w64, to_be_bytes}, List.{flat_map, AllByRecursion, Sorted.IsStrictlyIncreasing}}
use Rattle.mm_model.proofs.{CoreRows.{numbers_by, into_map, each_map, by_identities}, OwnSlots.{Ascends, ascends}}
use Rattle.mm_model.proofs.Bytes.{Ranges.map-map, Rising.AreRisingFrom, SpelledRecords.not_le}
use Rattle.mm_model.specs.declared.{event.Event.Event, slot.{Pending.Pending, SlotState.TheVariants.Taken}}
use Rattle.mm_model.specs.{Flags.{flags, number_of_flags, one_if}, Fits.identity_of, Image.{Image, output_limit}}
use Rattle.mm_model.specs.{Bytes.IsBytes, Slot.Slot, Spelling.{IsImage, numbers_of}, Typed.IsTypedSlot}
use Rattle.mm_thread.{proofs.Cores.byte_limit, specs.Output.Output}
use Rattle.mm_word.specs.{declared.word.{Word.Word, Cell.Cell}, Pointer.bits_of, Word.{word_bits, is_pointer}}
use Rattle.mm_machine.specs.Snapshot.{Parts, IsSnapshot, IsPending}
use Rattle.mm_format.specs.{Formats.{each, times, cons, first_late, after, file, Parsed.Got}, Images.{mask, ip, page}}
use Rattle.mm_format.proofs.{Formats.after_got, ImagesFit.{Rise, rises, rise_all, PagesAre, pages_fit, fit_pages}}
use Rattle.mm_format.proofs.Lists.{times_long}
use Rattle.mm_checkpoint.specs.declared.{waiting.Waiter.Waiter, rows.{Queued.Queued, SlotRow.SlotRow}}
use Rattle.mm_checkpoint.specs.declared.header.Header.{Header}
use Rattle.mm_checkpoint.specs.Checkpoints.{Saved, saved_of, IsCheckpoint, last_byte, state_byte, place_byte, place_in}
use Rattle.mm_checkpoint.specs.{Reading.{in_order, events_of, slots_start, groups_of}, Faults.said_of}
use Rattle.mm_checkpoint.specs.Format.{header, event_in, place_in_row, slot_row, waiter_in, waiters_in, queue_tests}
use Rattle.mm_checkpoint.specs.Format.{front, waiting_in, output, Contents, checkpoint, saved_in, contents_from, row_of}
use Rattle.mm_checkpoint.specs.Format.{contents_of, spelling, Saves}
use Rattle.mm_checkpoint.proofs.{CheckpointBytes.{queued, place_small, last_small, frames_few}, Counts.listed}
use Rattle.mm_checkpoint.proofs.{FormatFits.{also, IsRow, IsSavedSlot, fits_row}, FormatIs.checkpoint_is}
use Rattle.mm_checkpoint.proofs.FormatRows.{slots_of, rows_fit, IsSettled, Agrees, each_agrees, one_event, awaited}
use Rattle.mm_checkpoint.proofs.FormatRows.{typed_events, fall_not}
use Rattle.mm_checkpoint.proofs.Groups.{groups_rise, groups_used, slots_shown, small_groups, groups_by, groups_same}
use Rattle.mm_checkpoint.proofs.Made.{made_output, made_outputs, made_parts, parts_back}
use Rattle.mm_checkpoint.proofs.Owns.{Owns, owns_each, first_own, ranked, by_slot, erased, same_events, are_right}
use Rattle.mm_format.proofs.Files as files

-- 1. The parts of what fits, and what they are the contents of.

queued_again : (q : Option Queued) → option_map (λ e. record { place = place_in_row q; event = e })
    (option_map (λ (x : Queued). x.event) q) ≡ q
queued_again None = refl
queued_again (Some q) = refl

row_again : (events : List (ℕ × Event)) (r : SlotRow) → Agrees events r → row_of events r.slot ≡ r
row_again events r agrees =
    let make : ℕ → Option Event → SlotRow = λ place o. record {
      slot = r.slot;
      queued = option_map (λ e. record { place = place; event = e }) o;
    } in
    ap (make (place_byte events r.slot)) agrees.event ∙ ap (λ place. make place (event_in r)) agrees.place
    ∙ ap (λ q. record { slot = r.slot; queued = q }) (queued_again r.queued)

rows_again : (events : List (ℕ × Event)) (rows : List SlotRow) → AllByRecursion (Agrees events) rows
    → map (row_of events) (slots_of rows) ≡ rows
rows_again events [] all = refl
rows_again events (r ∷ rows) all =
    ap (λ x. x ∷ map (row_of events) (slots_of rows)) (row_again events r all.0)
    ∙ ap (λ xs. r ∷ xs) (rows_again events rows all.1)

module _ (i : Image) (c : Contents) (fits : (checkpoint i).Fits c) where
  record Parted : Type 0 where
    pub head : (header i.memory.frames).Fits c.front.head
    pub rows : (each (slot_row i.split c.front.head.cycles) i.slots).Fits c.front.rows
    pub tests : first_late 0 (queue_tests (waiting_in c.front) [] (waiting_in c.front)) ≡ None
    pub outputs : (each (output (output_limit i.version)) (groups_of i.slots)).Fits c.outputs
    pub pages : (times page (λ _ p. p.0 + 1) c.front.head.pages 0).Fits c.pages
    pub long : length c.pages ≡ c.front.head.pages

  parted : Parted
  unfolding checkpoint front
  parted = record {
    head = fits.0.0.0;
    rows = fits.0.0.1.0;
    tests = fits.0.1;
    outputs = fits.1.0;
    pages = fits.1.1.0;
    long = times_long page (λ _ p. p.0 + 1) c.front.head.pages 0 c.pages fits.1.1.0;
  }

  pub contents_again : AllByRecursion (Agrees (saved_in c).events) c.front.rows → contents_of (saved_in c) ≡ c
  contents_again agrees =
      let events = (saved_in c).events in
      let head : ℕ → Header = λ n. record { last = c.front.head.last; cycles = c.front.head.cycles; pages = n } in
      ap (λ n. contents_from (head n) (map (row_of events) (slots_of c.front.rows)) c.outputs c.pages) parted.long
      ∙ ap (λ rows. contents_from c.front.head rows c.outputs c.pages) (rows_again events c.front.rows agrees)

-- 2. What fits is a checkpoint.

last_fits : (last : Option ℕ) → last ≡ cond (last_byte last == 255) None (Some (last_byte last))
    → (nat_le 64 (last_byte last) && not (last_byte last == 255)) ≡ false → IfSome last (λ n. n < 64)
last_fits None is right = tt
last_fits (Some n) is right = by (n == 255) refl is
  where
    by : (b : Bool) → (n == 255) ≡ b → Some n ≡ cond b None (Some n) → n < 64
    by true e is = absurd cc
    by false e is = grind (arith, nat_tests)

risen : (least : ℕ) (pages : List (ℕ × List Cell)) → AreRisingFrom least pages
    → Rise (λ (x : ℕ × List Cell). x.0) least pages
risen least [] h = tt
risen least (p ∷ pages) h = (h.0, risen (p.0 + 1) pages h.1)

rising : (least : ℕ) (pages : List (ℕ × List Cell)) → Rise (λ (x : ℕ × List Cell). x.0) least pages
    → AreRisingFrom least pages
rising least [] h = tt
rising least (p ∷ pages) h = (h.0, rising (p.0 + 1) pages h.1)

pub record OutputsFit (limit : ℕ) (all : List ℕ) (outputs : List (ℕ × List ℕ)) : Type 0 where
  pub groups : map (λ (o : ℕ × List ℕ). o.0) outputs ≡ all
  pub short : AllByRecursion (λ (o : ℕ × List ℕ). length o.1 ≤ limit) outputs

outputs_fit : (limit : ℕ) (groups : List ℕ) (outputs : List (ℕ × List ℕ)) → (each (output limit) groups).Fits outputs
    → OutputsFit limit groups outputs
unfolding cons output
outputs_fit limit [] outputs fits = subst (OutputsFit limit []) (sym fits) (record { groups = refl; short = tt })
outputs_fit limit (g ∷ groups) [] fits = absurd fits
outputs_fit limit (g ∷ groups) (o ∷ outputs) fits =
    let others = outputs_fit limit groups outputs fits.1 in record {
      groups = ap (λ x. x ∷ map (λ (o : ℕ × List ℕ). o.0) outputs) (ap (λ (o : ℕ × List ℕ). o.0) fits.0.1.1)
          ∙ ap (λ xs. g ∷ xs) others.groups;
      short = (ltb-false limit (length o.1) fits.0.0.1, others.short);
    }

module _ (i : Image) (img : IsImage i) (c : Contents) (fits : (checkpoint i).Fits c) where
  abbrev p : Parted i c fits
  p = parted i c fits

  abbrev rows : List SlotRow
  rows = c.front.rows

  are : AllByRecursion (IsRow i.split c.front.head.cycles) rows
      × (map identity_of (slots_of rows) ≡ map identity_of i.slots)
  are = rows_fit i.split c.front.head.cycles i.slots rows p.rows

  settled : AllByRecursion IsSettled rows
  settled = each_map _ _ (λ r is. is.event) rows are.0

  slots_rise : IsStrictlyIncreasing (numbers_of (slots_of rows))
  slots_rise = subst IsStrictlyIncreasing (sym (numbers_by (slots_of rows) i.slots are.1)) img.rising

  up : Ascends (slots_of rows)
  up = ascends (slots_of rows) slots_rise

  pub rows_agree : AllByRecursion (Agrees (saved_in c).events) rows
  rows_agree = each_agrees rows slots_start settled up p.tests

  pages : PagesAre 0 c.pages
  pages = pages_fit c.front.head.pages 0 c.pages p.pages

  of_slots : (P : Slot → Type 0) → ((r : SlotRow) → IsRow i.split c.front.head.cycles r → P r.slot)
      → AllByRecursion P (slots_of rows)
  of_slots P f = into_map _ _ _ (each_map _ _ f rows are.0)

  outs : OutputsFit (output_limit i.version) (groups_of i.slots) c.outputs
  outs = outputs_fit (output_limit i.version) (groups_of i.slots) c.outputs p.outputs

  abbrev outputs : List Output
  outputs = made_outputs c.outputs

  output_groups : map (λ (o : Output). o.group) outputs ≡ groups_of (slots_of rows)
  output_groups =
      map-map (λ (o : Output). o.group) made_output c.outputs ∙ outs.groups
      ∙ groups_by i.slots (slots_of rows) (sym are.1)

  small : AllByRecursion (λ (s : Slot). s.group < 64) (slots_of rows)
  small = by_identities (λ x. x.1 < 64) (slots_of rows) i.slots are.1 (small_groups i img)

  rules : IsSnapshot (made_parts (saved_in c))
  rules = record {
    slots = slots_rise;
    groups = groups_rise (slots_of rows) small outputs output_groups;
    pages = rises (λ (x : ℕ × List Cell). x.0) 0 c.pages (risen 0 c.pages pages.rise);
    used = groups_used (slots_of rows) small outputs output_groups;
    shown = slots_shown (slots_of rows) small outputs output_groups;
    events = fall_not rows slots_start settled up p.tests;
    awaited = awaited rows slots_start settled up;
    one_event = into_map _ _ _
        (one_event rows slots_start settled up);
    taken = of_slots (λ (s : Slot). s.state ≡ Taken → s.handler ≢ None) (λ r is. is.taken);
    outputs = into_map _ _ _
        (each_map _ _
        (λ o le. let most = byte_limit i.version in omega (arith, le, most)) c.outputs outs.short);
    pending = of_slots IsPending (λ r is. is.pending);
    turns = of_slots (λ (s : Slot). s.turns ≤ c.front.head.cycles) (λ r is. is.turns);
  }

  pub is_checkpoint : IsCheckpoint i (made_parts (saved_in c)) c.front.head.last
  unfolding header
  is_checkpoint =
      let h = p.head.1.1 in
      let is = h.1.1.1.1 in
      record {
        rules = rules;
        typed = record {
          slots = of_slots IsTypedSlot (λ r is. is.typed);
          events = typed_events rows slots_start settled up;
          whole = pages.whole;
          words = pages.words;
        };
        slots = are.1;
        cycles = ltb-false _ _ h.1.1.0.1;
        pages = let long = p.long in let few = ltb-false _ _ h.1.1.1.0.1 in omega (arith, long, few);
        outputs = into_map _ _ _ outs.short;
        mode = λ e. of_slots (λ (s : Slot). s.pending ≡ []) (λ r is. is.plain e);
        issued = last_fits c.front.head.last (ap (λ h. h.last) is) h.0.1;
      }

-- 3. A checkpoint fits.

module _ (i : Image) (image : IsImage i) (p : Parts) (last : Option ℕ) (ck : IsCheckpoint i p last) where
  abbrev c : Saved
  c = saved_of p last

  abbrev rows_of : List Slot → List SlotRow
  rows_of slots = map (row_of p.events) slots

  abbrev pub contents : Contents
  contents = contents_of c

  owns : AllByRecursion (Owns p.events) p.slots
  owns = owns_each p ck.rules ck.typed

  rows_back : (slots : List Slot) → slots_of (rows_of slots) ≡ slots
  rows_back [] = refl
  rows_back (s ∷ slots) = ap (λ xs. s ∷ xs) (rows_back slots)

  abbrev queued_of : Slot → Option Event → Option Queued
  queued_of s o = option_map (λ e. record { place = place_byte p.events s; event = e }) o

  abbrev of_event : Option (ℕ × Event) → Option Event
  of_event o = option_map (λ (x : ℕ × Event). x.1) o

  -- the waiters are the events, slot by slot
  waiter_back : (at : ℕ) (s : Slot) → Owns p.events s
      → map erased (waiter_in at s (row_of p.events s).queued) ≡ map (ranked p.events) (listed (first_own p.events s.number))
  waiter_back at s (inl a) =
      let make : ℕ → ℕ → List Waiter = λ handler place. record
      { handler = handler; place = place; at = 0; event = a.event } ∷ [] in
      ap (λ o. map erased (waiter_in at s (queued_of s (of_event o)))) a.found
      ∙ ap (λ h. make h (place_byte p.events s)) (ap (λ (o : Option ℕ). unwrap_or o 0) a.handled)
      ∙ ap (make a.handler)
      (ap (λ st. cond (state_byte st == 1) (place_in p.events (elim s.handler [ None ↦ 0 | Some handler ↦ handler ])
      s.number) 0) a.waits
      ∙ ap (λ (o : Option ℕ). place_in p.events (elim o [ None ↦ 0 | Some handler ↦ handler ]) s.number) a.handled
      ∙ ap (place_in p.events a.handler) (sym a.slot))
      ∙ sym (ap (λ o. map (ranked p.events) (listed o)) a.found)
  waiter_back at s (inr idle) =
      ap (λ o. map erased (waiter_in at s (queued_of s (of_event o)))) idle.found
      ∙ sym (ap (λ o. map (ranked p.events) (listed o)) idle.found)

  waiters_back : (at : ℕ) (slots : List Slot) → AllByRecursion (Owns p.events) slots
      → map erased (waiters_in at (rows_of slots)) ≡ map (ranked p.events) (by_slot p.events slots)
  waiters_back at [] own = refl
  waiters_back at (s ∷ slots) own =
      let next = at + 171 + 10 * length s.pending in
      map-append erased (waiter_in at s (row_of p.events s).queued) (waiters_in next (rows_of slots))
      ∙ ap (λ xs. xs ++ map erased (waiters_in next (rows_of slots))) (waiter_back at s own.0)
      ∙ ap (λ xs. map (ranked p.events) (listed (first_own p.events s.number)) ++ xs) (waiters_back next slots own.1)
      ∙ sym (map-append (ranked p.events) (listed (first_own p.events s.number)) (by_slot p.events slots))

  abbrev ws : List Waiter
  ws = waiters_in slots_start (rows_of p.slots)

  are_waiters : map erased ws ≡ map (ranked p.events) (by_slot p.events p.slots)
  are_waiters = waiters_back slots_start p.slots owns

  pub saved_back : saved_in contents ≡ c
  saved_back =
      let make : List Slot → List (ℕ × Event) → Saved = λ slots events. record {
        slots = slots;
        events = events;
        outputs = c.outputs;
        pages = c.pages;
        cycles = c.cycles;
        last = c.last;
      } in
      ap (λ xs. make xs (events_of (in_order ws))) (rows_back p.slots)
      ∙ ap (make p.slots) (same_events p ck.rules ws are_waiters)

  rows_right : (slots images : List Slot) → map identity_of slots ≡ map identity_of images
      → AllByRecursion IsTypedSlot slots → AllByRecursion (Owns p.events) slots
      → AllByRecursion (λ (s : Slot). s.state ≡ Taken → s.handler ≢ None) slots → AllByRecursion IsPending slots
      → AllByRecursion (λ (s : Slot). s.turns ≤ p.cycles) slots
      → (i.split ≡ false → AllByRecursion (λ (s : Slot). s.pending ≡ []) slots)
      → (each (slot_row i.split p.cycles) images).Fits (rows_of slots)
  unfolding cons
  rows_right [] [] same typed own taken pending turns mode = refl
  rows_right [] (k ∷ images) same typed own taken pending turns mode = absurd cc
  rows_right (s ∷ slots) [] same typed own taken pending turns mode = absurd cc
  rows_right (s ∷ slots) (k ∷ images) same typed own taken pending turns mode =
      let one : identity_of s ≡ identity_of k = cc in
      let others : map identity_of slots ≡ map identity_of images = cc in
      let saved : IsSavedSlot i.split p.cycles p.events s = record {
        typed = typed.0;
        owns = own.0;
        taken = taken.0;
        pending = pending.0;
        turns = turns.0;
        mode = λ e. (mode e).0;
      } in
      also (fits_row i.split p.cycles ck.cycles p.events k s one saved
      (place_small p.events s (queued i p last image ck)))
      (rows_right slots images others typed.1 own.1 taken.1 pending.1 turns.1 (λ e. (mode e).1))

  last_right : (last : Option ℕ) → IfSome last (λ n. n < 64)
      → ((nat_le 64 (last_byte last) && not (last_byte last == 255)) ≡ false)
      × (last ≡ cond (last_byte last == 255) None (Some (last_byte last)))
  last_right None small = (refl, refl)
  last_right (Some n) small =
      let other : (n == 255) ≡ false = grind (arith, nat_tests) in
      (ap (λ b. b && not (n == 255)) (not_le n 64 small), sym (ap (λ b. cond b None (Some n)) other))

  header_right : (header i.memory.frames).Fits contents.front.head
  unfolding header
  header_right =
      let few = image.few_frames in
      let most = frames_few i.version in
      let pages = ck.pages in
      let cycles = ck.cycles in
      let back = last_right last ck.issued in
      also (refl, refl) (also (omega arith, refl) (also (last_small last ck.issued, back.0) (also (omega arith, refl)
      (also (omega (arith, cycles), le-ltb 1000000 p.cycles cycles)
      (also (omega (arith, pages, few, most), le-ltb i.memory.frames (length p.pages) pages)
      (ap (λ x. record { last = x; cycles = p.cycles; pages = length p.pages }) back.1))))))

  outputs_right : (limit : ℕ) → limit ≤ 65536 → (outputs : List (ℕ × List ℕ))
      → AllByRecursion (λ (o : ℕ × List ℕ). length o.1 ≤ limit) outputs
      → (each (output limit) (map (λ (o : ℕ × List ℕ). o.0) outputs)).Fits outputs
  unfolding cons output
  outputs_right limit few [] short = refl
  outputs_right limit few (o ∷ outputs) short =
      let le = short.0 in
      (((omega (arith, le, few), le-ltb limit (length o.1) le), (refl, refl)), outputs_right limit few outputs short.1)

  groups_are : map (λ (o : ℕ × List ℕ). o.0) c.outputs ≡ groups_of i.slots
  groups_are =
      map-map (λ (o : ℕ × List ℕ). o.0) (λ (o : Output). (o.group, o.bytes)) p.outputs
      ∙ sym (groups_same i p image ck.rules ck.slots)

  pub contents_fit : (checkpoint i).Fits contents
  unfolding checkpoint front
  contents_fit =
      let r = ck.rules in
      let t = ck.typed in
      let rows = rows_right p.slots i.slots ck.slots t.slots owns r.taken r.pending r.turns ck.mode in
      also (also (also header_right (also rows refl)) (are_right p ck.rules ws are_waiters))
      (also (subst (λ gs. (each (output (output_limit i.version)) gs).Fits c.outputs) groups_are
      (outputs_right (output_limit i.version) (byte_limit i.version) c.outputs
      (into_map _ _ _ ck.outputs)))
      (also (fit_pages 0 p.pages (record {
        rise = rising 0 p.pages (rise_all (λ (x : ℕ × List Cell). x.0) p.pages r.pages);
        whole = t.whole;
        words = t.words;
      })) refl))

-- 4. The laws.

module _ (i : Image) (bytes : List ℕ) (image : IsImage i) where
  -- parts that the bytes say are saved by them
  pub are_saved : IsBytes bytes → (p : Parts) (last : Option ℕ) (next : ℕ) → said_of i bytes ≡ Got (saved_of p last) next
      → Saves bytes i p last
  unfolding said_of
  are_saved fits p last next e =
      let a = after_got (file (checkpoint i) 13 bytes) (λ c n. Got (saved_in c) n) (saved_of p last) next e in
      let c = a.0 in
      let s = files.spelled_by (checkpoint i) (checkpoint_is i) 13 bytes fits c a.1 a.2 in
      let same : saved_in c ≡ saved_of p last = files.same_value a.3 in
      let parts : made_parts (saved_in c) ≡ p = ap made_parts same ∙ parts_back p last in
      record {
        checkpoint = subst (λ q. IsCheckpoint i q last) parts
            (subst (IsCheckpoint i (made_parts (saved_in c))) (ap (λ (x : Saved). x.last) same)
            (is_checkpoint i image c s.0));
        spelled = s.1 ∙ ap (checkpoint i).spell (sym (contents_again i c s.0 (rows_agree i image c s.0)))
            ∙ ap (spelling i) same;
      }

  -- a checkpoint that the bytes spell is what they say
  pub spelled_said : (p : Parts) (last : Option ℕ) → Saves bytes i p last
      → said_of i bytes ≡ Got (saved_of p last) (length bytes)
  unfolding said_of
  spelled_said p last saves =
      let a = contents i image p last saves.checkpoint in
      let fit = contents_fit i image p last saves.checkpoint in
      let back = saved_back i image p last saves.checkpoint in
      ap (λ o. after o (λ c n. Got (saved_in c) n)) (files.read_whole (checkpoint i) (checkpoint_is i) 13 bytes a fit
      saves.spelled)
      ∙ ap (λ s. Got s (length bytes)) back
