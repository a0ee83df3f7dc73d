-- The lines of a slot make the later slot.
use Rattle.std.proofs.Common.{◌≡◌, ◌≢◌, ℕ, zero, suc, ◌+◌, ◌<◌, ◌≤◌, inl, inr, Bool, true, false, ◌&&◌, nat_eq, nat_lt}
use Rattle.std.proofs.Common.{if◌then◌else◌, List, [], ◌∷◌, ◌++◌, length, drop, map, slice_set, slice_index_or, refl}
use Rattle.std.proofs.Common.{sym, ap, ◌∙◌, subst, arith, eq-eqb, append-nil, append_assoc, length-set, get_or-set_same}
use Rattle.std.proofs.Common.{get_or-set_other}
use Rattle.std.proofs.lemmas.{Bool.{cases_eq, lt-ltb, and_parts, Decides.nat_tests}, List.ext_get_or}
use Rattle.std.proofs.Math.{Seq.{drop-length, drop-append_seam}, ListN.drop_of_length-le}
use Rattle.std.specs.List.{AllByRecursion, flat_map, range_with_len}
use Rattle.mm_word.specs.{declared.word.Word.{Word, TheVariants.{Int, Ptr}}, Word.IsWord, Pointer.Pointer}
use Rattle.mm_model.specs.{declared.slot.{SlotState.SlotState, Pending.Pending}, Flags.one_if}
use Rattle.mm_model.specs.{Slot.{Slot, register, is_empty}, Effect.same_word, Report.same_bit}
use Rattle.mm_model.specs.Fits.{loads_for, IsSlot, LoadsMatch, SlotHoldsWords}
use Rattle.mm_model.proofs.{CoreRows.each_get, SlotSteps.empty_within, Sames.{words_same, pointers_same, bits_same}}
use Rattle.mm_log.specs.Lines.{Line, Line.{Points, Enters, Holds, Empties, Issues}}
use Rattle.mm_log.specs.Changes.{same_state, pointer_changes, state_changes, register_now, register_changes}
use Rattle.mm_log.specs.{Changes.{load_changes, slot_changes}, Replay.{without_load, holding, emptied}}
use Rattle.mm_log.proofs.Runs.{run_on, run_append, all_append, all_flat, all_map, all_unless}
use Rattle.mm_thread.proofs.Rows.{LoadsMove, SlotMove}
use Rattle.mm_log.proofs.{Sames.states_same, Carried.slot_line}

-- 1. Which lines these are.

pub slot_all : (P : Line → Type 0) (was now : Slot) → ((p : Pointer) (b : Bool) → P (Points now.number p b))
    → ((st : SlotState) → P (Enters now.number st)) → ((r : ℕ) (w : Word) → P (Holds now.number r w))
    → ((r : ℕ) → P (Empties now.number r))
    → ((load : Pending) → P (Issues now.number load)) → AllByRecursion P (slot_changes was now)
unfolding slot_changes
slot_all P was now points stands holds empties issues =
    all_append P (pointer_changes was now ++ state_changes was now ++ flat_map (register_changes was now) (range_with_len 0 16)) (load_changes was now)
    (all_append P (pointer_changes was now ++ state_changes was now) (flat_map (register_changes was now) (range_with_len 0 16))
    (all_append P (pointer_changes was now) (state_changes was now)
    (all_unless P (same_word (Ptr was.ip) (Ptr now.ip) && same_bit was.past now.past) (Points now.number now.ip now.past) (points now.ip now.past))
    (all_unless P (same_state was.state now.state) (Enters now.number now.state) (stands now.state)))
    (all_flat P (register_changes was now)
    (λ r. all_unless P (same_word (register was r) (register now r) && same_bit (is_empty was r) (is_empty now r))
    (register_now now r) (one r (is_empty now r))) (range_with_len 0 16)))
    (all_map P (Issues now.number) issues (drop (length was.pending) now.pending))
  where
    one : (r : ℕ) (b : Bool) → P (if b then Empties now.number r else Holds now.number r (register now r))
    one r true = empties r
    one r false = holds r (register now r)

-- 2. What becomes of the pending loads while the registers are told, from the first on.

pub record Pends (was now : Slot) : Type 0 where
  pub at : ℕ → List Pending
  pub begins : at 0 ≡ was.pending
  pub flips : (r : ℕ) → is_empty was r ≡ true → is_empty now r ≡ false → without_load r (at r) ≡ at (r + 1)
  pub keeps : (r : ℕ) → (is_empty was r ≡ true → is_empty now r ≡ false → ⊥) → at (r + 1) ≡ at r
  pub ends : at 16 ++ drop (length was.pending) now.pending ≡ now.pending

first_one : (r n : ℕ) (b : Bool) → n + 1 ≡ one_if b → b ≡ true
first_one r n true e = refl
first_one r n false e = absurd (omega arith)

pends : (was now : Slot) → LoadsMatch was → length was.empty ≡ 16 → LoadsMove was now → Pends was now
unfolding is_empty
pends was now match long (LoadsMove.stay flags loads) = record {
  at = λ r. was.pending;
  begins = refl;
  flips = λ r a b. cc (a, b, ap (λ (l : List Bool). slice_index_or l r false) flags);
  keeps = λ r no. refl;
  ends = ap (λ l. was.pending ++ drop (length was.pending) l) loads ∙ ap (λ l. was.pending ++ l) (drop-length was.pending) ∙ append-nil was.pending ∙ sym loads;
}
pends was now match long (LoadsMove.issue p flags loads) = record {
  at = λ r. was.pending;
  begins = refl;
  flips = λ r a b. absurd (elim (cases_eq r p.reg) [
    | inl same ↦
        let within = empty_within was r a in
        cc (ap (λ (l : List Bool). slice_index_or l r false) flags, ap (λ k. slice_index_or (slice_set was.empty k true) r false) (sym same), get_or-set_same was.empty r true false within, b)
    | inr ne ↦ cc (ap (λ (l : List Bool). slice_index_or l r false) flags, get_or-set_other was.empty p.reg r true false ne, a, b)
  ]);
  keeps = λ r no. refl;
  ends = ap (λ l. was.pending ++ drop (length was.pending) l) loads ∙ ap (λ l. was.pending ++ l) (drop-append_seam was.pending (p ∷ [])) ∙ sym loads;
}
pends was now match long (LoadsMove.deliver p rest is later flags) = record {
  at = at;
  begins = ap (λ c. if c then rest else p ∷ rest) (none_below p.reg) ∙ sym is;
  flips = λ r a b. elim (cases_eq r p.reg) [
    | inl same ↦
        ap (λ k. without_load k (at k)) same ∙ ap (without_load p.reg) before
        ∙ ap (λ c. if c then rest else p ∷ without_load p.reg rest) (eq-eqb p.reg p.reg refl)
        ∙ sym (ap (λ k. at (k + 1)) same ∙ behind (p.reg + 1) (omega arith))
    | inr ne ↦ absurd (cc (ap (λ (l : List Bool). slice_index_or l r false) flags, get_or-set_other was.empty p.reg r false false ne, a, b))
  ];
  keeps = λ r no. elim (cases_eq r p.reg) [
    | inl same ↦
        absurd (no (ap (λ k. slice_index_or was.empty k false) same ∙ waits)
        (ap (λ (l : List Bool). slice_index_or l r false) flags ∙ ap (λ k. slice_index_or (slice_set was.empty p.reg false) k false) same ∙ get_or-set_same was.empty p.reg false false within))
    | inr ne ↦ ap (λ c. if c then rest else p ∷ rest) (next r ne)
  ];
  ends =
      ap (λ l. l ++ drop (length was.pending) now.pending) (behind 16 (omega (arith, long, within)))
      ∙ ap (λ l. rest ++ drop (length l) now.pending) is
      ∙ ap (λ l. rest ++ drop (length (p ∷ rest)) l) later
      ∙ ap (λ l. rest ++ l) (drop_of_length-le rest {i = length (p ∷ rest)} (omega arith))
      ∙ append-nil rest ∙ sym later;
}
  where
    at : ℕ → List Pending
    at r = if nat_lt p.reg r then rest else p ∷ rest

    waits : is_empty was p.reg ≡ true
    waits =
        first_one p.reg (loads_for p.reg rest) (is_empty was p.reg)
        (sym (ap (λ b. if b then loads_for p.reg rest + 1 else loads_for p.reg rest) (eq-eqb p.reg p.reg refl)) ∙ sym (ap (loads_for p.reg) is) ∙ match.each p.reg)

    within : p.reg < length was.empty
    within = empty_within was p.reg waits

    none_below : (a : ℕ) → nat_lt a 0 ≡ false
    none_below a = grind (arith, nat_tests)

    lt_self : nat_lt p.reg p.reg ≡ false
    lt_self = grind (arith, nat_tests)

    before : at p.reg ≡ p ∷ rest
    before = ap (λ c. if c then rest else p ∷ rest) lt_self

    behind : (r : ℕ) → p.reg < r → at r ≡ rest
    behind r lt = ap (λ c. if c then rest else p ∷ rest) (lt-ltb p.reg r lt)

    next : (r : ℕ) → r ≢ p.reg → nat_lt p.reg (r + 1) ≡ nat_lt p.reg r
    next r ne = grind (arith, nat_tests)

-- 3. The registers that were told so far are the later ones, the others the earlier ones.

module _ (was now : Slot) (old : IsSlot was) (new : IsSlot now) (old_words : SlotHoldsWords was)
    (new_words : SlotHoldsWords now) (zeros : (r : ℕ) → is_empty now r ≡ true → register now r ≡ Int 0)
    (p : Pends was now) where
  abbrev pub n : ℕ
  n = now.number

  record Half (base : Slot) (r : ℕ) (x : Slot) : Type 0 where
    below : (q : ℕ) → q < r → (register x q ≡ register now q) × (is_empty x q ≡ is_empty now q)
    above : (q : ℕ) → r ≤ q → (register x q ≡ register was q) × (is_empty x q ≡ is_empty was q)
    regs : length x.regs ≡ 16
    flags : length x.empty ≡ 16
    pending : x.pending ≡ p.at r
    number : x.number ≡ base.number
    group : x.group ≡ base.group
    handler : x.handler ≡ base.handler
    ip : x.ip ≡ base.ip
    past : x.past ≡ base.past
    turns : x.turns ≡ base.turns
    state : x.state ≡ base.state

  -- the next register is set to what it is later
  half_set : (base : Slot) (r : ℕ) (x : Slot) (w : Word) (b : Bool) (loads : List Pending) → r < 16 → Half base r x → w ≡ register now r → b ≡ is_empty now r → loads ≡ p.at (r + 1)
      → Half base (r + 1) (record x { regs = slice_set x.regs r w; empty = slice_set x.empty r b; pending = loads })
  unfolding register is_empty
  half_set base r x w b loads lt h word bit is = record {
    below = λ q low. elim (cases_eq q r) [
      | inl same ↦ (
        ap (λ k. slice_index_or (slice_set x.regs r w) k (Int 0)) same ∙ get_or-set_same x.regs r w (Int 0) (omega (arith, h.regs)) ∙ word ∙ ap (λ k. slice_index_or now.regs k (Int 0)) (sym same),
        ap (λ k. slice_index_or (slice_set x.empty r b) k false) same ∙ get_or-set_same x.empty r b false (omega (arith, h.flags)) ∙ bit ∙ ap (λ k. slice_index_or now.empty k false) (sym same),
      )
      | inr ne ↦
          let less : q < r = omega arith in
          (get_or-set_other x.regs r q w (Int 0) ne ∙ (h.below q less).0, get_or-set_other x.empty r q b false ne ∙ (h.below q less).1)
    ];
    above = λ q high.
        let ne : q ≢ r = omega arith in
        let more : r ≤ q = omega arith in
        (get_or-set_other x.regs r q w (Int 0) ne ∙ (h.above q more).0, get_or-set_other x.empty r q b false ne ∙ (h.above q more).1);
    regs = length-set x.regs r w ∙ h.regs;
    flags = length-set x.empty r b ∙ h.flags;
    pending = is;
    number = h.number;
    group = h.group;
    handler = h.handler;
    ip = h.ip;
    past = h.past;
    turns = h.turns;
    state = h.state;
  }

  -- the next register is as it was
  half_same : (base : Slot) (r : ℕ) (x : Slot) → Half base r x → register was r ≡ register now r → is_empty was r ≡ is_empty now r → Half base (r + 1) x
  half_same base r x h word bit = record {
    below = λ q low. elim (cases_eq q r) [
      | inl same ↦ (
        ap (register x) same ∙ (h.above r (omega arith)).0 ∙ word ∙ ap (register now) (sym same),
        ap (is_empty x) same ∙ (h.above r (omega arith)).1 ∙ bit ∙ ap (is_empty now) (sym same),
      )
      | inr ne ↦ h.below q (omega arith)
    ];
    above = λ q high. h.above q (omega arith);
    regs = h.regs;
    flags = h.flags;
    pending = h.pending ∙ sym (p.keeps r (λ a b. cc (a, b, bit)));
    number = h.number;
    group = h.group;
    handler = h.handler;
    ip = h.ip;
    past = h.past;
    turns = h.turns;
    state = h.state;
  }

  own_line : (x y : Slot) → (if nat_eq n n then x else y) ≡ x
  own_line x y = ap (λ b. if b then x else y) (eq-eqb n n refl)

  register_told : (base : Slot) (r : ℕ) (x : Slot) → r < 16 → Half base r x → Half base (r + 1) (run_on (slot_line n) (register_changes was now r) x)
  unfolding register
  register_told base r x lt h = by (same_word (register was r) (register now r) && same_bit (is_empty was r) (is_empty now r)) refl
    where
      word : (s : Slot) → IsSlot s → SlotHoldsWords s → IsWord (register s r)
      word s k words = each_get IsWord s.regs r (Int 0) words.registers (omega (arith, k.registers))

      loads : (b : Bool) → is_empty was r ≡ b → is_empty now r ≡ false → (if b then without_load r x.pending else x.pending) ≡ p.at (r + 1)
      loads true a c = ap (without_load r) h.pending ∙ p.flips r a c
      loads false a c = h.pending ∙ sym (p.keeps r (λ d e. cc (a, d)))

      held : is_empty now r ≡ false → Half base (r + 1) (run_on (slot_line n) (Holds n r (register now r) ∷ []) x)
      held free =
          subst (Half base (r + 1)) (sym (own_line (holding r (register now r) x) x))
          (half_set base r x (register now r) false (if is_empty x r then without_load r x.pending else x.pending) lt h refl (sym free)
          (ap (λ b. if b then without_load r x.pending else x.pending) (h.above r (omega arith)).1 ∙ loads (is_empty was r) refl free))

      waiting : is_empty now r ≡ true → Half base (r + 1) (run_on (slot_line n) (Empties n r ∷ []) x)
      waiting waits =
          subst (Half base (r + 1)) (sym (own_line (emptied r x) x))
          (half_set base r x (Int 0) true x.pending lt h (sym (zeros r waits)) (sym waits) (h.pending ∙ sym (p.keeps r (λ a b. cc (waits, b)))))

      told_by : (d : Bool) → is_empty now r ≡ d → Half base (r + 1) (run_on (slot_line n) ((if d then Empties n r else Holds n r (register now r)) ∷ []) x)
      told_by true e = waiting e
      told_by false e = held e

      by : (b : Bool) → (same_word (register was r) (register now r) && same_bit (is_empty was r) (is_empty now r)) ≡ b
          → Half base (r + 1) (run_on (slot_line n) (if b then [] else register_now now r ∷ []) x)
      by true e =
          let two = and_parts (same_word (register was r) (register now r)) (same_bit (is_empty was r) (is_empty now r)) e in
          half_same base r x h (words_same (register was r) (register now r) (word was old old_words) (word now new new_words) two.0) (bits_same (is_empty was r) (is_empty now r) two.1)
      by false e = told_by (is_empty now r) refl

  registers_told : (base : Slot) (first count : ℕ) (x : Slot) → first + count ≡ 16 → Half base first x
      → Half base 16 (run_on (slot_line n) (flat_map (register_changes was now) (range_with_len first count)) x)
  registers_told base first zero x e h = let last : first ≡ 16 = omega arith in subst (λ k. Half base k x) last h
  registers_told base first (suc count) x e h =
      subst (Half base 16) (sym (run_append (slot_line n) (register_changes was now first) (flat_map (register_changes was now) (range_with_len (first + 1) count)) x))
      (registers_told base (first + 1) count (run_on (slot_line n) (register_changes was now first) x) (omega arith) (register_told base first x (omega arith) h))

  loads_told : (loads : List Pending) (x : Slot) → run_on (slot_line n) (map (Issues n) loads) x ≡ record x { pending = x.pending ++ loads }
  loads_told [] x = let same = append-nil x.pending in λ i. record x { pending = sym same i }
  loads_told (l ∷ loads) x =
      ap (run_on (slot_line n) (map (Issues n) loads)) (own_line (record x { pending = x.pending ++ l ∷ [] }) x)
      ∙ loads_told loads (record x { pending = x.pending ++ l ∷ [] })
      ∙ (let same = append_assoc x.pending (l ∷ []) loads in λ i. record x { pending = same i })

  pointer_told : (x : Slot) → x.ip ≡ was.ip → x.past ≡ was.past → run_on (slot_line n) (pointer_changes was now) x ≡ record x { ip = now.ip; past = now.past }
  pointer_told x ip past = by (same_word (Ptr was.ip) (Ptr now.ip) && same_bit was.past now.past) refl
    where
      by : (b : Bool) → (same_word (Ptr was.ip) (Ptr now.ip) && same_bit was.past now.past) ≡ b → run_on (slot_line n)
          (if b then [] else Points n now.ip now.past ∷ []) x ≡ record x { ip = now.ip; past = now.past }
      by true e =
          let two = and_parts (same_word (Ptr was.ip) (Ptr now.ip)) (same_bit was.past now.past) e in
          let one = ip ∙ pointers_same was.ip now.ip old_words.ip new_words.ip two.0 in
          let bit = past ∙ bits_same was.past now.past two.1 in
          λ i. record x { ip = one i; past = bit i }
      by false e = own_line (record x { ip = now.ip; past = now.past }) x

  state_told : (x : Slot) → x.state ≡ was.state → run_on (slot_line n) (state_changes was now) x ≡ record x { state = now.state }
  state_told x state = by (same_state was.state now.state) refl
    where
      by : (b : Bool) → same_state was.state now.state ≡ b → run_on (slot_line n) (if b then [] else Enters n now.state ∷ []) x ≡ record x { state = now.state }
      by true e = let one = state ∙ states_same was.state now.state e in λ i. record x { state = one i }
      by false e = own_line (record x { state = now.state }) x

  -- all lines of the slot
  pub slot_made : SlotMove was now → run_on (slot_line n) (slot_changes was now) (record was { turns = now.turns }) ≡ now
  unfolding slot_changes register is_empty
  slot_made move =
      let first : Slot = record was { turns = now.turns } in
      let base : Slot = record first { ip = now.ip; past = now.past; state = now.state } in
      let start : Half base 0 base = record {
        below = λ q lt. absurd (omega arith);
        above = λ q high. (refl, refl);
        regs = old.registers;
        flags = old.flags;
        pending = sym p.begins;
        number = refl;
        group = refl;
        handler = refl;
        ip = refl;
        past = refl;
        turns = refl;
        state = refl;
      } in
      let half = registers_told base 0 16 base refl start in
      let told : Slot = run_on (slot_line n) (flat_map (register_changes was now) (range_with_len 0 16)) base in
      let regs : told.regs ≡ now.regs = ext_get_or (Int 0) told.regs now.regs (half.regs ∙ sym new.registers) (λ q lt. (half.below q (omega (arith, half.regs))).0) in
      let flags : told.empty ≡ now.empty = ext_get_or false told.empty now.empty (half.flags ∙ sym new.flags) (λ q lt. (half.below q (omega (arith, half.flags))).1) in
      let loads : told.pending ++ drop (length was.pending) now.pending ≡ now.pending = ap (λ l. l ++ drop (length was.pending) now.pending) half.pending ∙ p.ends in
      let own = half.number ∙ sym move.number in
      let group = half.group ∙ sym move.group in
      let handler = half.handler ∙ sym move.handler in
      let ip = half.ip in
      let past = half.past in
      let turns = half.turns in
      let state = half.state in
      let all : record told { pending = told.pending ++ drop (length was.pending) now.pending } ≡ now = λ i. record {
        number = own i;
        group = group i;
        handler = handler i;
        regs = regs i;
        ip = ip i;
        past = past i;
        turns = turns i;
        state = state i;
        empty = flags i;
        pending = loads i;
      } in
      run_append (slot_line n) (pointer_changes was now ++ state_changes was now ++ flat_map (register_changes was now) (range_with_len 0 16)) (load_changes was now) first
      ∙ ap (run_on (slot_line n) (load_changes was now))
      (run_append (slot_line n) (pointer_changes was now ++ state_changes was now) (flat_map (register_changes was now) (range_with_len 0 16)) first
      ∙ ap (run_on (slot_line n) (flat_map (register_changes was now) (range_with_len 0 16)))
      (run_append (slot_line n) (pointer_changes was now) (state_changes was now) first
      ∙ ap (run_on (slot_line n) (state_changes was now)) (pointer_told first refl refl)
      ∙ state_told (record first { ip = now.ip; past = now.past }) refl))
      ∙ loads_told (drop (length was.pending) now.pending) told
      ∙ all

-- where its loads match and an empty register reads as integer 0
pub slot_replayed : (was now : Slot) → IsSlot was → IsSlot now → SlotHoldsWords was → SlotHoldsWords now
    → LoadsMatch was → ((r : ℕ) → is_empty now r ≡ true → register now r ≡ Int 0) → SlotMove was now
    → run_on (slot_line now.number) (slot_changes was now) (record was { turns = now.turns }) ≡ now
slot_replayed was now old new old_words new_words match zeros move = slot_made was now old new old_words new_words zeros (pends was now match old.flags move.loads) move
