-- The draft comes to the object.
use Rattle.std.proofs.Common.{◌≡◌, ℕ, zero, suc, ◌+◌, ◌<◌, Bool, true, false, ◌==◌, nat_lt, if◌then◌else◌, List, []}
use Rattle.std.proofs.Common.{◌∷◌, ◌++◌, map, length, slice_get, Option, Some, None, unwrap_or, refl, sym, ap, ◌∙◌}
use Rattle.std.proofs.{Common.arith, lemmas.Bool.{eqb-true, eq-eqb, ne_eqb, and_parts, lt-ltb}}
use Rattle.std.specs.{Option.option_to_list, List.{range_with_len, list_all, AllByRecursion}}
use Rattle.mm_isa.specs.{declared.fields.Fields.Fields, Table.packed}
use Rattle.mm_line.specs.declared.{name.Mark.Mark, statement.{Constant.Constant, Content.Content}}
use Rattle.mm_draft.specs.{declared.{segment.Word.Word, thread.Register.Register}, Drafts.Draft}
use Rattle.mm_object.specs.declared.{item.Item.Item, target.Reloc.Reloc, thread.{Value.Value, Thread.Thread}}
use Rattle.mm_object.specs.{Lookups.reloc_at, Objects.{Segment, Object, IsObject, is_target, is_value, is_thread}}
use Rattle.mm_asm.specs.Meaning.{with_goal, bits_of, word_items, segment_of, content_relocs, words_relocs}
use Rattle.mm_asm.specs.Meaning.{segments_relocs, value_of, register_value, thread_of, insert_thread, by_slot}
use Rattle.mm_asm.specs.Meaning.{object_of}
use Rattle.mm_disasm.specs.Canonical.{is_zero}
use Rattle.mm_disasm.proofs.{Saying.{IsConstantOf, IsBits, IsContentOf}, DraftedOrder.{Ascends, ascends_by}}
use Rattle.mm_disasm.proofs.DraftedRelocs.{found_words, found_segments, found_at, found_all, reloc_target, reloc_stands}
use Rattle.mm_disasm.proofs.{DraftedWords.AreWordsOf, DraftedSegments.AreSegmentsOf}
use Rattle.mm_disasm.proofs.DraftedThreads.{other_number, IsRegisterOf, RegistersBy, AreRegistersOf, IsThreadOf}
use Rattle.mm_disasm.proofs.{DraftedThreads.AreThreadsOf, Drafted.IsDraftOf}
use Rattle.mm_disasm.proofs.DraftedExternals.{externals_same, target_same}
use Rattle.mm_line.specs.declared.statement.Content.TheVariants as content
use Rattle.mm_draft.specs.Drafts as draft
use Rattle.mm_object.specs.declared.thread.Value.TheVariants as value

module _ (o : Object) (is : IsObject o) (d : Draft) (drafted : IsDraftOf o d) where
  -- 1. Words.

  -- a relocated word is 0
  zero_bits : (segment k : ℕ) (s : Segment) (item : Item) (r : Reloc) → slice_get o.segments segment ≡ Some s → slice_get s.items k ≡ Some item → reloc_at o segment k ≡ Some r →
      item.bits ≡ 0
  zero_bits segment k s item r is_segment is_item e =
      let at = found_at o segment k r e in
      let h = reloc_stands o is r at.0 in
      let same_segment : h.s ≡ s = let a : slice_get o.segments segment ≡ Some h.s = ap (slice_get o.segments) (sym at.1) ∙ h.is_segment in cc (a, is_segment) in
      let b : slice_get s.items k ≡ Some h.item = ap (slice_get s.items) (sym at.2) ∙ ap (λ (x : Segment). slice_get x.items r.word) (sym same_segment) ∙ h.is_item in
      let same_item : h.item ≡ item = cc (b, is_item) in
      ap (λ (x : Item). x.bits) (sym same_item) ∙ h.is_zero

  no_goal : (k : ℕ) (goal : Option Mark) (fields : Fields) → goal ≡ None → with_goal d k goal fields ≡ fields
  no_goal k goal fields e = ap (λ (g : Option Mark). with_goal d k g fields) e

  own_bits : (k bits : ℕ) (c : Content) → IsBits bits c → bits_of d k c ≡ bits
  own_bits k bits (content.Constant c) h = ap (λ (x : Constant). bits_of d k (content.Constant x)) h
  own_bits k bits (content.Code code) h = ap packed (no_goal k code.goal code.fields h.0) ∙ h.1

  content_bits : (k : ℕ) (found : Option Reloc) (bits : ℕ) (c : Content) → IsContentOf o found bits c → ((r : Reloc) → found ≡ Some r → bits ≡ 0) → bits_of d k c ≡ bits
  content_bits k (Some r) bits c h zeros = ap (bits_of d k) h.1 ∙ sym (zeros r refl)
  content_bits k None bits c h zeros = own_bits k bits c h

  items_same : (segment k : ℕ) (s : Segment) (items : List Item) (words : List Word) → slice_get o.segments segment ≡ Some s →
      ((i : ℕ) → slice_get s.items (k + i) ≡ slice_get items i) → AreWordsOf o segment k items words → word_items d k words ≡ items
  items_same segment k s [] [] is_segment is_items h = refl
  items_same segment k s [] (w ∷ words) is_segment is_items h = absurd h
  items_same segment k s (item ∷ items) [] is_segment is_items h = absurd h
  items_same segment k s (item ∷ items) (w ∷ words) is_segment is_items h =
      let first : slice_get s.items k ≡ Some item = let same : k ≡ k + 0 = omega arith in ap (slice_get s.items) same ∙ is_items 0 in
      let rest : (i : ℕ) → slice_get s.items (k + 1 + i) ≡ slice_get items i = λ i. let same : k + 1 + i ≡ k + suc i = omega arith in ap (slice_get s.items) same ∙ is_items (suc i) in
      let bits = content_bits k (reloc_at o segment k) item.bits w.content h.0.is_content (λ r e. zero_bits segment k s item r is_segment first e) in
      let full = h.0.full in
      let later = items_same segment (k + 1) s items words is_segment rest h.1 in
      λ i. let x : Item = record { bits = bits i; full = full i } in x ∷ later i

  segments_same : (number : ℕ) (segments : List Segment) (xs : List draft.Segment) → ((i : ℕ) → slice_get o.segments (number + i) ≡ slice_get segments i) →
      AreSegmentsOf o number segments xs → map (segment_of d) xs ≡ segments
  segments_same number [] [] is_segments h = refl
  segments_same number [] (x ∷ xs) is_segments h = absurd h
  segments_same number (s ∷ segments) [] is_segments h = absurd h
  segments_same number (s ∷ segments) (x ∷ xs) is_segments h =
      let first : slice_get o.segments number ≡ Some s = let same : number ≡ number + 0 = omega arith in ap (slice_get o.segments) same ∙ is_segments 0 in
      let rest : (i : ℕ) → slice_get o.segments (number + 1 + i) ≡ slice_get segments i =
      λ i. let same : number + 1 + i ≡ number + suc i = omega arith in ap (slice_get o.segments) same ∙ is_segments (suc i) in
      let name = h.0.name in
      let log = h.0.log in
      let items = items_same number 0 s s.items x.words first (λ i. let same : 0 + i ≡ i = omega arith in ap (slice_get s.items) same) h.0.words in
      let later = segments_same (number + 1) segments xs rest h.1 in
      λ i. let y : Segment = record { name = name i; log = log i; items = items i } in y ∷ later i

  -- 2. Relocations.

  reloc_same : (segment k : ℕ) (found : Option Reloc) (bits : ℕ) (c : Content) → reloc_at o segment k ≡ found → IsContentOf o found bits c →
      content_relocs d segment k c ≡ option_to_list found
  reloc_same segment k (Some r) bits c e h =
      let at = found_at o segment k r e in
      let target = target_same o is d drafted r.target h.0 (reloc_target o is r at.0) h.2 in
      let same_segment = sym at.1 in
      let same_word = sym at.2 in
      ap (content_relocs d segment k) h.1
      ∙ (λ i. let x : Reloc = record { segment = same_segment i; word = same_word i; perm = r.perm; target = target i } in x ∷ [])
  reloc_same segment k None bits (content.Constant c) e h = ap (λ (x : Constant). content_relocs d segment k (content.Constant x)) h
  reloc_same segment k None bits (content.Code code) e h = refl

  words_found : (segment k : ℕ) (items : List Item) (words : List Word) → AreWordsOf o segment k items words → words_relocs d segment k words ≡ found_words o segment k items
  words_found segment k [] [] h = refl
  words_found segment k [] (w ∷ words) h = absurd h
  words_found segment k (item ∷ items) [] h = absurd h
  words_found segment k (item ∷ items) (w ∷ words) h =
      let first = reloc_same segment k (reloc_at o segment k) item.bits w.content refl h.0.is_content in
      let later = words_found segment (k + 1) items words h.1 in
      λ i. first i ++ later i

  segments_found : (number : ℕ) (segments : List Segment) (xs : List draft.Segment) → AreSegmentsOf o number segments xs →
      segments_relocs d number xs ≡ found_segments o number segments
  segments_found number [] [] h = refl
  segments_found number [] (x ∷ xs) h = absurd h
  segments_found number (s ∷ segments) [] h = absurd h
  segments_found number (s ∷ segments) (x ∷ xs) h =
      let first = words_found number 0 s.items x.words h.0.words in
      let later = segments_found (number + 1) segments xs h.1 in
      λ i. first i ++ later i

  -- 3. Registers.

  value_same : (v : Value) (c : Constant) → is_value o.segments (length o.externals) v ≡ true → IsConstantOf o v c → value_of d c ≡ v
  value_same (value.Int n) c inside h = ap (value_of d) h
  value_same (value.Ptr perm t) c inside h = ap (value_of d) h.1 ∙ ap (value.Ptr perm) (target_same o is d drafted t h.0 inside h.2)

  zero_is : (v : Value) → is_zero v ≡ true → value.Int 0 ≡ v
  zero_is (value.Int n) e = ap value.Int (sym (eqb-true n 0 e))
  zero_is (value.Ptr perm t) e = absurd cc

  -- a register before all of these holds integer 0
  register_before : (j k : ℕ) (values : List Value) (registers : List Register) → j < k → AreRegistersOf o k values registers → register_value d registers j ≡ value.Int 0
  register_before j k [] registers lt h = ap (λ (rs : List Register). register_value d rs j) h
  register_before j k (v ∷ values) registers lt h = by (is_zero v) (λ rs g. register_before j (k + 1) values rs (omega arith) g) h
    where
      later : (r : Register) (rs : List Register) → IsRegisterOf o k v r → register_value d rs j ≡ value.Int 0 → (b : Bool) → r.number == j ≡ b →
          (if b then value_of d r.value else register_value d rs j) ≡ value.Int 0
      later r rs g e true f = absurd (let other : (r.number == j) ≡ false = ne_eqb r.number j (λ same. omega (arith, same, g.number, lt)) in cc (f, other))
      later r rs g e false f = e

      by : (b : Bool) → ((rs : List Register) → AreRegistersOf o (k + 1) values rs → register_value d rs j ≡ value.Int 0) →
          RegistersBy o k v (AreRegistersOf o (k + 1) values) b registers → register_value d registers j ≡ value.Int 0
      by true rest g = rest registers g
      by false rest g =
          ap (λ (rs : List Register). register_value d rs j) g.2
          ∙ later g.0 g.1 g.3 (rest g.1 g.4) (g.0.number == j) refl

  -- registers that only earlier ones stand before
  same_behind : (r : Register) (registers : List Register) (n from : ℕ) → r.number < from →
      map (register_value d (r ∷ registers)) (range_with_len from n) ≡ map (register_value d registers) (range_with_len from n)
  same_behind r registers zero from lt = refl
  same_behind r registers (suc n) from lt =
      let first = skipped (r.number == from) (other_number r.number from lt) in
      let later = same_behind r registers n (from + 1) (omega arith) in
      λ i. first i ∷ later i
    where
      skipped : (b : Bool) → b ≡ false → (if b then value_of d r.value else register_value d registers from) ≡ register_value d registers from
      skipped true e = absurd cc
      skipped false e = refl

  registers_same : (k : ℕ) (values : List Value) (registers : List Register) → list_all (is_value o.segments (length o.externals)) values ≡ true →
      AreRegistersOf o k values registers →
      map (register_value d registers) (range_with_len k (length values)) ≡ values
  registers_same k [] registers inside h = refl
  registers_same k (v ∷ values) registers inside h =
      let parts = and_parts (is_value o.segments (length o.externals) v) (list_all (is_value o.segments (length o.externals)) values) inside in
      by (is_zero v) refl parts.0 (λ rs g. registers_same (k + 1) values rs parts.1 g) h
    where
      taken : (r : Register) (rs : List Register) → value_of d r.value ≡ v → (b : Bool) → b ≡ true → (if b then value_of d r.value else register_value d rs k) ≡ v
      taken r rs e true f = e
      taken r rs e false f = absurd cc

      by : (b : Bool) → is_zero v ≡ b → is_value o.segments (length o.externals) v ≡ true →
          ((rs : List Register) → AreRegistersOf o (k + 1) values rs → map (register_value d rs) (range_with_len (k + 1) (length values)) ≡ values) →
          RegistersBy o k v (AreRegistersOf o (k + 1) values) b registers →
          map (register_value d registers) (range_with_len k (length (v ∷ values))) ≡ v ∷ values
      by true e here rest g =
          let first = register_before k (k + 1) values registers (omega arith) g ∙ zero_is v e in
          let later = rest registers g in
          λ i. first i ∷ later i
      by false e here rest g =
          let r = g.0 in
          let first = taken r g.1 (value_same v r.value here g.3.value) (r.number == k) (eq-eqb r.number k g.3.number) in
          let later = same_behind r g.1 (length values) (k + 1) (omega (arith, g.3.number)) ∙ rest g.1 g.4 in
          ap (λ (rs : List Register). map (register_value d rs) (range_with_len k (length (v ∷ values)))) g.2
          ∙ (λ i. first i ∷ later i)

  -- 4. Threads.

  thread_same : (t : Thread) (x : draft.Thread) → is_thread o.segments (length o.externals) t ≡ true → length t.regs ≡ 16 → IsThreadOf o t x → thread_of d x ≡ t
  thread_same t x inside whole h =
      let parts = and_parts _ (list_all (is_value o.segments (length o.externals)) t.regs) inside in
      let aims = and_parts _ (is_target o.segments (length o.externals) t.target) parts.0 in
      let slot = h.slot in
      let group = h.group in
      let handler = h.handler in
      let perm = h.perm in
      let target = target_same o is d drafted t.target x.target aims.1 h.target in
      let regs = ap (λ (n : ℕ). map (register_value d x.registers) (range_with_len 0 n)) (sym whole) ∙ registers_same 0 t.regs x.registers parts.1 h.registers in
      λ i. let y : Thread = record { slot = slot i; group = group i; handler = handler i; perm = perm i; target = target i; regs = regs i } in y

  threads_same : (threads : List Thread) (xs : List draft.Thread) → list_all (is_thread o.segments (length o.externals)) threads ≡ true →
      AllByRecursion (λ (t : Thread). length t.regs ≡ 16) threads → AreThreadsOf o threads xs → map (thread_of d) xs ≡ threads
  threads_same [] [] inside whole h = refl
  threads_same [] (x ∷ xs) inside whole h = absurd h
  threads_same (t ∷ threads) [] inside whole h = absurd h
  threads_same (t ∷ threads) (x ∷ xs) inside whole h =
      let parts = and_parts (is_thread o.segments (length o.externals) t) (list_all (is_thread o.segments (length o.externals)) threads) inside in
      let first = thread_same t x parts.0 whole.0 h.0 in
      let later = threads_same threads xs parts.1 whole.1 h.1 in
      λ i. first i ∷ later i

  -- threads by rising slot stay as they are
  first_slot : (t : Thread) (threads : List Thread) → AllByRecursion (λ (x : Thread). t.slot < x.slot) threads → insert_thread t threads ≡ t ∷ threads
  first_slot t [] h = refl
  first_slot t (x ∷ threads) h = by (nat_lt t.slot x.slot) (lt-ltb t.slot x.slot h.0)
    where
      by : (b : Bool) → b ≡ true → (if b then t ∷ x ∷ threads else x ∷ insert_thread t threads) ≡ t ∷ x ∷ threads
      by true e = refl
      by false e = absurd cc

  in_order : (threads : List Thread) → Ascends (λ (s t : Thread). s.slot < t.slot) threads → by_slot threads ≡ threads
  in_order [] h = refl
  in_order (t ∷ threads) h = ap (insert_thread t) (in_order threads h.1) ∙ first_slot t threads h.0

  -- 5. The whole.

  pub object_same : object_of d ≡ o
  unfolding object_of
  object_same =
      let segments = segments_same 0 o.segments d.segments (λ i. let same : 0 + i ≡ i = omega arith in ap (slice_get o.segments) same) drafted.segments in
      let externals = externals_same o is d drafted in
      let relocs = segments_found 0 o.segments d.segments drafted.segments ∙ found_all o is in
      let threads = ap by_slot (threads_same o.threads d.threads is.threads is.whole drafted.threads) ∙ in_order o.threads (ascends_by (λ (t : Thread). t.slot) o.threads is.slots) in
      let spare = ap (λ (n : Option ℕ). unwrap_or n 0) drafted.spare in
      λ i. let x : Object = record { segments = segments i; externals = externals i; relocs = relocs i; threads = threads i; spare = spare i } in x
