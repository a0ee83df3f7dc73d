-- What a slot of a machine goes on to be: with another standing, with words written, with a load issued or delivered.
use Rattle.std.proofs.Common.{◌≡◌, ◌≢◌, ℕ, zero, suc, ◌+◌, ◌<◌, inl, inr, Bool, true, false, nat_eq, if◌then◌else◌}
use Rattle.std.proofs.Common.{List, [], ◌∷◌, ◌++◌, length, Some, refl, sym, ap, ◌∙◌, arith, eq-eqb, slice_set}
use Rattle.std.proofs.Common.{slice_index_or, length-set, get_or-set_same, get_or-set_other}
use Rattle.std.{proofs.lemmas.Bool.{cases_eq, ne_eqb}, specs.List.AllByRecursion}
use Rattle.mm_word.specs.{declared.word.Word.{Word, TheVariants.Int}, Perm.can_fetch, Pointer.Pointer}
use Rattle.mm_model.specs.{declared.slot.{SlotState.SlotState, Pending.Pending}, Flags.one_if}
use Rattle.mm_model.specs.{Slot.{Slot, register, is_empty}, Effect.{delivers, delivered}}
use Rattle.mm_model.specs.{Turn.{put_all, stood, with_issue}, Fits.{loads_for, IsSlot, LoadsMatch, LoadsAreConsistent}}

-- 1. Flags and pending loads.

-- a register that waits is one of the slot's
pub empty_within : (s : Slot) (r : ℕ) → is_empty s r ≡ true → r < length s.empty
unfolding is_empty
empty_within s r e = go s.empty r e
  where
    go : (flags : List Bool) (r : ℕ) → slice_index_or flags r false ≡ true → r < length flags
    go [] r e = cc
    go (b ∷ flags) zero e = omega arith
    go (b ∷ flags) (suc r) e = let rest = go flags r e in omega arith

one_for : (r : ℕ) (p : Pending) → p.reg ≡ r → (n : ℕ) → (if nat_eq p.reg r then n + 1 else n) ≡ n + 1
one_for r p e n = ap (λ b. if b then n + 1 else n) (eq-eqb p.reg r e)

none_for : (r : ℕ) (p : Pending) → p.reg ≢ r → (n : ℕ) → (if nat_eq p.reg r then n + 1 else n) ≡ n
none_for r p ne n = ap (λ b. if b then n + 1 else n) (ne_eqb p.reg r ne)

loads_for-push_same : (r : ℕ) (ps : List Pending) (p : Pending) → p.reg ≡ r → loads_for r (ps ++ p ∷ []) ≡ loads_for r ps + 1
loads_for-push_same r [] p e = one_for r p e 0
loads_for-push_same r (x ∷ ps) p e =
    let rest = loads_for-push_same r ps p e in
    elim (nat_eq x.reg r) as (λ b. (if b then loads_for r (ps ++ p ∷ []) + 1 else loads_for r (ps ++ p ∷ [])) ≡
    (if b then loads_for r ps + 1 else loads_for r ps) + 1) [ true ↦ omega arith | false ↦ rest ]

loads_for-push_other : (r : ℕ) (ps : List Pending) (p : Pending) → p.reg ≢ r → loads_for r (ps ++ p ∷ []) ≡ loads_for r ps
loads_for-push_other r [] p ne = none_for r p ne 0
loads_for-push_other r (x ∷ ps) p ne =
    let rest = loads_for-push_other r ps p ne in
    elim (nat_eq x.reg r) as (λ b. (if b then loads_for r (ps ++ p ∷ []) + 1 else loads_for r (ps ++ p ∷ [])) ≡
    (if b then loads_for r ps + 1 else loads_for r ps)) [ true ↦ omega arith | false ↦ rest ]

is_one : (b : Bool) (n : ℕ) → n + 1 ≡ one_if b → (b ≡ true) × (n ≡ 0)
is_one true n e = (refl, omega arith)
is_one false n e = absurd (omega arith)

-- where nothing is pending no register waits
none_waits : (s : Slot) → LoadsMatch s → s.pending ≡ [] → (r : ℕ) → is_empty s r ≡ false
none_waits s match none r = no (is_empty s r) (sym (ap (loads_for r) none) ∙ match.each r)
  where
    no : (b : Bool) → 0 ≡ one_if b → b ≡ false
    no true e = absurd (omega arith)
    no false e = refl

-- so a register that waits for no load in a split machine waits for none in any
waits_not : (split : Bool) (s : Slot) (r : ℕ) → (split ≡ true → is_empty s r ≡ false) → LoadsMatch s → LoadsAreConsistent split s → is_empty s r ≡ false
waits_not true s r free match kept = free refl
waits_not false s r free match kept = none_waits s match (kept.mode refl) r

-- 2. What a slot goes on to be: a slot, whose registers and loads match and are kept as before.

pub record GoesOn (split : Bool) (old new : Slot) : Type 0 where
  pub slot : IsSlot new
  pub loads : LoadsMatch old → LoadsMatch new
  pub kept : LoadsMatch old → LoadsAreConsistent split old → LoadsAreConsistent split new

module _ (split : Bool) where
  pub goes_then : (a b c : Slot) → GoesOn split a b → GoesOn split b c → GoesOn split a c
  goes_then a b c first second = record {
    slot = second.slot;
    loads = λ match. second.loads (first.loads match);
    kept = λ match kept. second.kept (first.loads match) (first.kept match kept);
  }

  -- with another instruction pointer, another state and other turns
  pub slot_stands : (s : Slot) (ip : Pointer) (past : Bool) (turns : ℕ) (state : SlotState) → IsSlot s
      → can_fetch ip.perm ≡ true → GoesOn split s (record s { ip = ip; past = past; turns = turns; state = state })
  unfolding register is_empty
  slot_stands s ip past turns state h runs = record {
    slot = record { number = h.number; executable = runs; registers = h.registers; flags = h.flags };
    loads = λ match. record { each = match.each };
    kept = λ match kept. record { zero = kept.zero; mode = kept.mode };
  }

  pub slot_stood : (s : Slot) (state : SlotState) → IsSlot s → GoesOn split s (stood s state)
  slot_stood s state h = slot_stands s s.ip s.past (s.turns + 1) state h h.executable

  -- 3. Words written.

  -- a word is written to a register, which waits for no load in a split machine
  pub slot_written : (s : Slot) (r : ℕ) (w : Word) → IsSlot s → (split ≡ true → is_empty s r ≡ false) → GoesOn split s (record s { regs = slice_set s.regs r w })
  unfolding register is_empty
  slot_written s r w h free = record {
    slot = record { number = h.number; executable = h.executable; registers = length-set s.regs r w ∙ h.registers; flags = h.flags };
    loads = λ match. record { each = match.each };
    kept = λ match kept. record {
      zero = λ q e.
          let ne : q ≢ r = λ same. cc (ap (λ k. slice_index_or s.empty k false) same, e, waits_not split s r free match kept) in
          get_or-set_other s.regs r q w (Int 0) ne ∙ kept.zero q e;
      mode = kept.mode;
    };
  }

  pub slot_put_all : (s : Slot) (ws : List (ℕ × Word)) → IsSlot s → AllByRecursion (λ w. split ≡ true → is_empty s w.0 ≡ false) ws → GoesOn split s (record s { regs = put_all s.regs ws })
  unfolding is_empty
  slot_put_all s [] h free = record { slot = h; loads = λ match. match; kept = λ match kept. kept }
  slot_put_all s (w ∷ ws) h free =
      let first = slot_written s w.0 w.1 h free.0 in
      let one : Slot = record s { regs = slice_set s.regs w.0 w.1 } in
      goes_then s one (record one { regs = put_all one.regs ws }) first (slot_put_all one ws first.slot free.1)

  -- 4. A load that is issued.

  pub slot_issued : (s : Slot) (p : Pending) → IsSlot s → split ≡ true → p.reg < 16 → is_empty s p.reg ≡ false → register s p.reg ≡ Int 0 → GoesOn split s (with_issue s (Some p))
  unfolding register is_empty
  slot_issued s p h on lt free nought = record {
    slot = record { number = h.number; executable = h.executable; registers = h.registers; flags = length-set s.empty p.reg true ∙ h.flags };
    loads = λ match. record {
      each = λ r. elim (cases_eq p.reg r) [
        | inl same ↦
            let was : loads_for r s.pending ≡ 0 = match.each r ∙ ap one_if (ap (λ k. slice_index_or s.empty k false) (sym same) ∙ free) in
            loads_for-push_same r s.pending p same
            ∙ ap (λ n. n + 1) was
            ∙ sym (ap one_if (ap (λ k. slice_index_or (slice_set s.empty p.reg true) k false) (sym same) ∙ get_or-set_same s.empty p.reg true false (omega (arith, h.flags))))
        | inr ne ↦
            loads_for-push_other r s.pending p ne
            ∙ match.each r
            ∙ sym (ap one_if (get_or-set_other s.empty p.reg r true false (λ e. ne (sym e))))
      ];
    };
    kept = λ match kept. record {
      zero = λ r e. elim (cases_eq r p.reg) [
        | inl same ↦ ap (λ k. slice_index_or s.regs k (Int 0)) same ∙ nought
        | inr ne ↦ kept.zero r (sym (get_or-set_other s.empty p.reg r true false ne) ∙ e)
      ];
      mode = λ off. absurd (cc (on, off));
    };
  }

  -- 5. A load that is delivered.

  -- its register waits for this one load
  first_waits : (s : Slot) (p : Pending) (rest : List Pending) → s.pending ≡ p ∷ rest → LoadsMatch s → (is_empty s p.reg ≡ true) × (loads_for p.reg rest ≡ 0)
  first_waits s p rest is match =
      is_one (is_empty s p.reg) (loads_for p.reg rest) (sym (one_for p.reg p refl (loads_for p.reg rest)) ∙ sym (ap (loads_for p.reg) is) ∙ match.each p.reg)

  deliver_first : (s : Slot) (p : Pending) (rest : List Pending) → s.pending ≡ p ∷ rest → IsSlot s → GoesOn split s (delivers s (p ∷ rest))
  unfolding register is_empty
  deliver_first s p rest is h = record {
    slot = record { number = h.number; executable = h.executable; registers = length-set s.regs p.reg p.word ∙ h.registers; flags = length-set s.empty p.reg false ∙ h.flags };
    loads = λ match.
        let first = first_waits s p rest is match in
        record {
          each = λ r. elim (cases_eq p.reg r) [
            | inl same ↦
                ap (λ k. loads_for k rest) (sym same) ∙ first.1
                ∙ sym (ap one_if (ap (λ k. slice_index_or (slice_set s.empty p.reg false) k false) (sym same) ∙ get_or-set_same s.empty p.reg false false (empty_within s p.reg first.0)))
            | inr ne ↦
                sym (none_for r p ne (loads_for r rest)) ∙ sym (ap (loads_for r) is) ∙ match.each r
                ∙ sym (ap one_if (get_or-set_other s.empty p.reg r false false (λ e. ne (sym e))))
          ];
        };
    kept = λ match kept.
        let first = first_waits s p rest is match in
        record {
          zero = λ r e. elim (cases_eq r p.reg) [
            | inl same ↦ cc (ap (λ k. slice_index_or (slice_set s.empty p.reg false) k false) same, get_or-set_same s.empty p.reg false false (empty_within s p.reg first.0), e)
            | inr ne ↦ get_or-set_other s.regs p.reg r p.word (Int 0) ne ∙ kept.zero r (sym (get_or-set_other s.empty p.reg r false false ne) ∙ e)
          ];
          mode = λ off. cc (kept.mode off, is);
        };
  }

  pub slot_delivered : (s : Slot) → IsSlot s → GoesOn split s (delivered s)
  unfolding delivered
  slot_delivered s h = by s.pending refl
    where
      by : (ps : List Pending) → s.pending ≡ ps → GoesOn split s (delivers s ps)
      by [] is = record { slot = h; loads = λ match. match; kept = λ match kept. kept }
      by (p ∷ rest) is = deliver_first s p rest is h

-- what a delivery leaves of the slot
pub record DeliveredFrom (s t : Slot) : Type 0 where
  pub number : t.number ≡ s.number
  pub group : t.group ≡ s.group
  pub handler : t.handler ≡ s.handler
  pub ip : t.ip ≡ s.ip
  pub past : t.past ≡ s.past
  pub turns : t.turns ≡ s.turns
  pub state : t.state ≡ s.state

pub delivered_from : (s : Slot) → DeliveredFrom s (delivered s)
unfolding delivered
delivered_from s = by s.pending
  where
    by : (ps : List Pending) → DeliveredFrom s (delivers s ps)
    by [] = record { number = refl; group = refl; handler = refl; ip = refl; past = refl; turns = refl; state = refl }
    by (p ∷ rest) = record { number = refl; group = refl; handler = refl; ip = refl; past = refl; turns = refl; state = refl }
