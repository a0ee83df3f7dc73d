-- Lists that are read one element after the other.
use Rattle.std.proofs.Common.{◌≡◌, ℕ, suc, take, set, length, ◌+◌, ◌-◌, ◌/◌, ◌%◌, ◌<◌, Bool, List, [], ◌∷◌, ◌++◌, refl, sym}
use Rattle.std.proofs.{Common.{ap, ◌∙◌, arith, append_assoc}, lemmas.List.take_more_set}
use Rattle.std.specs.Prelude.{◌==◌}
use Rattle.mm_word.specs.{declared.word.{Word.Word}, Pointer.Pointer}
use Rattle.mm_model.specs.{declared.slot.{Pending.Pending, SlotState.SlotState}, Slot.Slot, Flags.flags}
use Rattle.mm_config.specs.Forms.{first_number, behind, word_from, words_from, register_flags, loads_from, few_loads}
use Rattle.mm_config.specs.Forms.{ip_of, state_at, slot_from}

one_left : (count k : ℕ) → k < count → count - k ≡ suc (count - (k + 1))
one_left count k lt = omega (arith, lt)

-- the load that is read next
abbrev next_load : List ℕ → Pending
next_load ns = record { reg = first_number ns % 256; word = (word_from (behind ns)).0 }

module _ (count k : ℕ) (lt : k < count) (ns later : List ℕ) (rest : later ≡ (word_from (behind ns)).1) where
  next_is : loads_from (count - k) ns ≡ (next_load ns ∷ (loads_from (count - (k + 1)) later).0, (loads_from (count - (k + 1)) later).1)
  next_is =
      ap (λ n. loads_from n ns) (one_left count k lt)
      ∙ ap (λ l. let r = loads_from (count - (k + 1)) l in let made : List Pending × List ℕ = (next_load ns ∷ r.0, r.1) in made) (sym rest)

  pub loads_more : (items more : List Pending) (p : Pending) → p.reg ≡ first_number ns % 256 → p.word ≡ (word_from (behind ns)).0 → more ≡ items ++ p ∷ []
      → more ++ (loads_from (count - (k + 1)) later).0 ≡ items ++ (loads_from (count - k) ns).0
  loads_more items more p reg word is =
      let tail = (loads_from (count - (k + 1)) later).0 in
      let same : p ≡ next_load ns = λ j. record { reg = reg j; word = word j } in
      ap (λ l. l ++ tail) is ∙ append_assoc items (p ∷ []) tail ∙ ap (λ q. items ++ q ∷ tail) same
      ∙ ap (λ (r : List Pending × List ℕ). items ++ r.0) (sym next_is)

  pub rest_more : (loads_from (count - (k + 1)) later).1 ≡ (loads_from (count - k) ns).1
  rest_more = ap (λ (r : List Pending × List ℕ). r.1) (sym next_is)

-- a list with another element at an index, up to that element
pub words_more : (xs : List Word) (at : ℕ) (w : Word) (rest : List Word) → at < length xs → take (at + 1) (set xs at w) ++ rest ≡ take at xs ++ w ∷ rest
words_more xs at w rest lt = ap (λ l. l ++ rest) (take_more_set xs at w lt) ∙ append_assoc (take at xs) (w ∷ []) rest

-- no word is read where none has changed
pub words_none : (base : List Word) (tagged : List Bool) (ns : List ℕ) → words_from (flags (length base) 0) tagged base ns ≡ (base, ns)
words_none [] tagged ns = refl
words_none (b ∷ base) [] ns = refl
words_none (b ∷ base) (t ∷ tagged) ns = ap (λ (r : List Word × List ℕ). (b ∷ r.0, r.1)) (words_none base tagged ns)

-- registers that are read from the first on
module _ (base old regs : List Word) (changed tagged : ℕ) (ns left : List ℕ) (long : length base ≡ 16) where
  pub registers_read : regs ≡ take 0 old ++ (words_from (flags (length base) changed) (flags (length base) tagged) base ns).0
      → regs ≡ (words_from (register_flags changed) (register_flags tagged) base ns).0
  unfolding register_flags
  registers_read e = e ∙ ap (λ n. (words_from (flags n changed) (flags n tagged) base ns).0) long

  pub registers_left : left ≡ (words_from (flags (length base) changed) (flags (length base) tagged) base ns).1
      → left ≡ (words_from (register_flags changed) (register_flags tagged) base ns).1
  unfolding register_flags
  registers_left e = e ∙ ap (λ n. (words_from (flags n changed) (flags n tagged) base ns).1) long

-- a slot, from what is read of it
module _ (base : Slot) where
  abbrev slot_of_parts : ℕ → List Word → Pointer → SlotState → List Pending → Slot
  slot_of_parts head regs ip state loads = record base {
    regs = regs;
    ip = ip;
    past = head / 32 % 2 == 1;
    turns = 0;
    state = state;
    empty = register_flags (head / 2048 % 65536);
    pending = loads;
  }

  abbrev read_words : ℕ → List ℕ → List Word × List ℕ
  read_words masks ns = words_from (register_flags (masks % 65536)) (register_flags (masks / 65536)) base.regs ns

  abbrev slot_of_numbers : ℕ → ℕ → ℕ → List ℕ → Slot
  slot_of_numbers head masks bits ns =
      slot_of_parts head (read_words masks ns).0 (ip_of base.ip bits) (state_at (head % 32)) (loads_from (few_loads (head / 64 % 32)) (read_words masks ns).1).0

  slot_opened : (ns : List ℕ) → slot_of_numbers (first_number ns) (first_number (behind ns)) (first_number (behind (behind ns))) (behind (behind (behind ns))) ≡ slot_from base ns
  unfolding slot_from
  slot_opened ns = refl

  pub slot_taken : (ns n1 n2 n3 n4 : List ℕ) (head masks bits count : ℕ) (regs : List Word) (ip : Pointer) (state : SlotState) (loads : List Pending)
      → head ≡ first_number ns → n1 ≡ behind ns → masks ≡ first_number n1 → n2 ≡ behind n1 → bits ≡ first_number n2 → n3 ≡ behind n2
      → regs ≡ (read_words masks n3).0 → n4 ≡ (read_words masks n3).1 → ip ≡ ip_of base.ip bits → state ≡ state_at (head % 32)
      → count ≡ few_loads (head / 64 % 32) → loads ≡ (loads_from count n4).0
      → slot_of_parts head regs ip state loads ≡ slot_from base ns
  slot_taken ns n1 n2 n3 n4 head masks bits count regs ip state loads h b1 m b2 i b3 words rest is_ip is_state few is_loads =
      let same_loads : loads ≡ (loads_from (few_loads (head / 64 % 32)) (read_words masks n3).1).0 = is_loads ∙ (λ j. (loads_from (few j) (rest j)).0) in
      let same_masks : masks ≡ first_number (behind ns) = m ∙ ap first_number b1 in
      let two : n2 ≡ behind (behind ns) = b2 ∙ ap behind b1 in
      let same_bits : bits ≡ first_number (behind (behind ns)) = i ∙ ap first_number two in
      let three : n3 ≡ behind (behind (behind ns)) = b3 ∙ ap behind two in
      (λ j. slot_of_parts head (words j) (is_ip j) (is_state j) (same_loads j))
      ∙ (λ j. slot_of_numbers (h j) (same_masks j) (same_bits j) (three j))
      ∙ slot_opened ns

-- a slot's numbers, appended part by part
pub slot_put : (out bits loads o1 o2 o3 o4 o5 : List ℕ) (head masks ip : ℕ) → o1 ≡ out ++ (head ∷ []) → o2 ≡ o1 ++ (masks ∷ []) → o3 ≡ o2 ++ (ip ∷ []) → o4 ≡ o3 ++ bits
    → o5 ≡ o4 ++ loads → o5 ≡ out ++ (head ∷ masks ∷ ip ∷ (bits ++ loads))
slot_put out bits loads o1 o2 o3 o4 o5 head masks ip e1 e2 e3 e4 e5 =
    let l1 : List ℕ = bits ++ loads in
    let l2 : List ℕ = ip ∷ l1 in
    let l3 : List ℕ = masks ∷ l2 in
    e5 ∙ ap (λ l. l ++ loads) e4 ∙ append_assoc o3 bits loads ∙ ap (λ l. l ++ l1) e3 ∙ append_assoc o2 (ip ∷ []) l1
    ∙ ap (λ l. l ++ l2) e2 ∙ append_assoc o1 (masks ∷ []) l2 ∙ ap (λ l. l ++ l3) e1 ∙ append_assoc out (head ∷ []) l3
