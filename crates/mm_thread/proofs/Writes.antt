-- Which registers a row of the table of instructions leaves as they are, of its slot and of another one.
use Rattle.std.proofs.Common.{◌≡◌, ◌≢◌, ℕ, ◌+◌, ◌%◌, ◌^◌, Bool, true, false, ◌&&◌, ◌==◌, if◌then◌else◌, List, [], ◌∷◌}
use Rattle.std.proofs.Common.{Option, Some, None, Result, Ok, Err, refl, subst, ◌∙◌, slice_index_or, slice_set, get_or-set_other}
use Rattle.std.specs.{Prelude.IfSome, List.AllByRecursion, Int.{w64, cast_unsigned, cast_signed}}
use Rattle.mm_word.specs.declared.{cause.Cause.Cause, word.{Post.Post, Word.{Word, TheVariants.{Int, Ptr}}}}
use Rattle.mm_word.specs.Word.{word_bits, is_pointer}
use Rattle.mm_word.specs.Pointer.{Pointer, lea_result, leab_result, restrict_result, subseg_result, setptr_result}
use Rattle.mm_word.specs.Pointer.{next_result, enter_result}
use Rattle.mm_isa.specs.declared.instr.{DivZero.DivZero, How.{How, TheVariants.{Retry, Skip, Kill}}}
use Rattle.mm_isa.specs.declared.instr.Instr.{Instr}
use Rattle.mm_isa.specs.declared.instr.Instr.TheVariants.{Halt, Nop, Ldi, Ldhi, Mov, Isptr, Eqw, Out, SelfSlot, Alu}
use Rattle.mm_isa.specs.declared.instr.Instr.TheVariants.{Addi, Lea, Leai, Leab, Restrict, Subseg, Setptr, Ld, St, Br}
use Rattle.mm_isa.specs.declared.instr.Instr.TheVariants.{Bz, Bnz, Jmp, Jal, Lip, Trap, Evt, Resume, Rreg, Wreg, Map}
use Rattle.mm_isa.specs.{declared.instr.Instr.TheVariants.Unmap, Alu.alu_result}
use Rattle.mm_model.specs.{declared.slot.Pending.Pending, Slot.{Slot, register, is_empty}, Operands.fields_d}
use Rattle.mm_model.specs.Ask.{is_privileged}
use Rattle.mm_model.specs.Effect.{Reply, Change, Effect, effect, plain, sets, sets_pointer, sets_number, if_pointer}
use Rattle.mm_model.specs.Effect.{test, same_word, high_and_low, puts_out, loaded, stored, at_distance, branches, jumps}
use Rattle.mm_model.specs.Effect.{links, takes, resumed_by, resumes, delivers, delivered, reads_of, writes_of, maps}
use Rattle.mm_model.specs.Effect.{unmaps}
use Rattle.mm_model.specs.Effect.Reply.{Fine, Refused, Got, Paged, Took, Served}
use Rattle.mm_model.specs.Effect.Effect.{Fault, Block, Deliver, Do}
use Rattle.mm_model.specs.Turn.{put_all, state_after, with_issue, slot_after}
use Rattle.mm_thread.specs.Told.{oldest, other_registers}
use Rattle.mm_word.specs.declared.cause.Cause.TheVariants as cause

-- 1. What stays.

-- a register that is none of these
abbrev pub Spares : List ℕ → ℕ → Type 0
Spares rs k = AllByRecursion (λ r. k ≢ r) rs

-- a register and its flag are as they were
pub record SameAt (k : ℕ) (was now : Slot) : Type 0 where
  pub word : register now k ≡ register was k
  pub flag : is_empty now k ≡ is_empty was k

pub same_at : (k : ℕ) (s : Slot) → SameAt k s s
same_at k s = record { word = refl; flag = refl }

-- a delivery leaves all registers but that of the oldest load
pub delivered_leaves : (s : Slot) (k : ℕ) → Spares (oldest s.pending) k → SameAt k s (delivered s)
unfolding delivered register is_empty
delivered_leaves s k = by s.pending
  where
    by : (ps : List Pending) → Spares (oldest ps) k → SameAt k s (delivers s ps)
    by [] h = record { word = refl; flag = refl }
    by (p ∷ rest) h = record {
      word = get_or-set_other s.regs p.reg k p.word (Int 0) h.0;
      flag = get_or-set_other s.empty p.reg k false false h.0;
    }

abbrev with_flag : List Bool → Option Pending → List Bool
with_flag flags None = flags
with_flag flags (Some p) = slice_set flags p.reg true

-- a change leaves a register and its flag as they were
pub record Leaves (k : ℕ) (c : Change) : Type 0 where
  pub word : (regs : List Word) → slice_index_or (put_all regs c.writes) k (Int 0) ≡ slice_index_or regs k (Int 0)
  pub flag : (flags : List Bool) → slice_index_or (with_flag flags c.issue) k false ≡ slice_index_or flags k false

-- the slot after a change that leaves a register
pub after_leaves : (s : Slot) (k : ℕ) (c : Change) → Leaves k c → SameAt k s (slot_after s c)
unfolding slot_after register is_empty
after_leaves s k c l = by c.issue l.flag
  where
    base : Slot
    base = record s { regs = put_all s.regs c.writes; ip = c.next; past = c.past; turns = s.turns + 1; state = state_after c.halts }

    by : (o : Option Pending) → ((flags : List Bool) → slice_index_or (with_flag flags o) k false ≡ slice_index_or flags k false) → SameAt k s (with_issue base o)
    by None flag = record { word = l.word s.regs; flag = refl }
    by (Some p) flag = record { word = l.word s.regs; flag = flag s.empty }

-- 2. The rows.

-- the slot leaves all registers but `rs` as they are, and another slot, which the reply names, all but `os`
module _ (rs : List ℕ) (os : Slot → List ℕ) where
  abbrev pub OtherKeeps : Reply → Slot → Type 0
  OtherKeeps (Served of) o = (k : ℕ) → Spares (os of) k → SameAt k of o
  OtherKeeps (Took e rest of) o = (k : ℕ) → Spares (os of) k → SameAt k of o
  OtherKeeps _ o = ⊥

  pub record ChangeKeeps (r : Reply) (c : Change) : Type 0 where
    pub own : (k : ℕ) → Spares rs k → Leaves k c
    pub other : IfSome c.other (OtherKeeps r)

  abbrev pub RowKeeps : Reply → Effect → Type 0
  RowKeeps r (Fault c) = Unit {0}
  RowKeeps r Block = Unit {0}
  RowKeeps r (Deliver o) = OtherKeeps r o
  RowKeeps r (Do c) = ChangeKeeps r c

module _ (s : Slot) (rs : List ℕ) (os : Slot → List ℕ) (r : Reply) where
  abbrev Keeps : Effect → Type 0
  Keeps e = RowKeeps rs os r e

  -- `rd` is one of the registers
  abbrev Names : ℕ → Type 0
  Names rd = (k : ℕ) → Spares rs k → k ≢ rd

  plain_keeps : Keeps (Do (plain s))
  unfolding plain
  plain_keeps = record { own = λ k h. record { word = λ regs. refl; flag = λ flags. refl }; other = tt }

  halt_keeps : Keeps (Do (record (plain s) { next = s.ip; past = s.past; halts = true }))
  unfolding plain
  halt_keeps = record { own = λ k h. record { word = λ regs. refl; flag = λ flags. refl }; other = tt }

  sets_keeps : (rd : ℕ) → Names rd → (w : Word) → Keeps (sets s rd w)
  unfolding plain
  sets_keeps rd ne w = record { own = λ k h. record { word = λ regs. get_or-set_other regs rd k w (Int 0) (ne k h); flag = λ flags. refl }; other = tt }

  pointer_keeps : (rd : ℕ) → Names rd → (x : Result Pointer Cause) → Keeps (sets_pointer s rd x)
  pointer_keeps rd ne (Ok p) = sets_keeps rd ne (Ptr p)
  pointer_keeps rd ne (Err c) = tt

  number_keeps : (rd : ℕ) → Names rd → (x : Result ℕ DivZero) → Keeps (sets_number s rd x)
  number_keeps rd ne (Ok n) = sets_keeps rd ne (Int n)
  number_keeps rd ne (Err e) = tt

  through_keeps : (w : Word) (f : Pointer → Effect) → ((p : Pointer) → Keeps (f p)) → Keeps (if_pointer w f)
  through_keeps (Int b) f h = tt
  through_keeps (Ptr p) f h = h p

  if_keeps : (b : Bool) (x y : Effect) → Keeps x → Keeps y → Keeps (if b then x else y)
  if_keeps true x y h l = h
  if_keeps false x y h l = l

  branch_keeps : (x : Result Pointer Cause) → Keeps (branches s x)
  unfolding plain
  branch_keeps (Ok p) = record { own = λ k h. record { word = λ regs. refl; flag = λ flags. refl }; other = tt }
  branch_keeps (Err c) = tt

  jump_keeps : (p : Pointer) (o : Option Pointer) → Keeps (jumps s p o)
  unfolding plain
  jump_keeps p None = tt
  jump_keeps p (Some to) = record { own = λ k h. record { word = λ regs. refl; flag = λ flags. refl }; other = tt }

  link_keeps : (rd : ℕ) → Names rd → (p : Pointer) (o back : Option Pointer) → Keeps (links s rd p o back)
  unfolding plain
  link_keeps rd ne p None back = tt
  link_keeps rd ne p (Some to) None = tt
  link_keeps rd ne p (Some to) (Some q) = record { own = λ k h. record { word = λ regs. get_or-set_other regs rd k (Ptr q) (Int 0) (ne k h); flag = λ flags. refl }; other = tt }

module _ (s : Slot) (rs : List ℕ) (os : Slot → List ℕ) where
  out_keeps : (byte : ℕ) (r : Reply) → RowKeeps rs os r (puts_out s byte r)
  unfolding plain
  out_keeps byte Fine = record { own = λ k h. record { word = λ regs. refl; flag = λ flags. refl }; other = tt }
  out_keeps byte (Refused c) = tt
  out_keeps byte _ = tt

  load_keeps : (split : Bool) (rd : ℕ) (post : Post) → ((k : ℕ) → Spares rs k → k ≢ rd) → (r : Reply) → RowKeeps rs os r (loaded split s rd post r)
  unfolding plain
  load_keeps true rd post ne (Got a c) = record {
    own = λ k h. record { word = λ regs. get_or-set_other regs rd k (Int 0) (Int 0) (ne k h); flag = λ flags. get_or-set_other flags rd k true false (ne k h) };
    other = tt;
  }
  load_keeps false rd post ne (Got a c) = record { own = λ k h. record { word = λ regs. get_or-set_other regs rd k c.word (Int 0) (ne k h); flag = λ flags. refl }; other = tt }
  load_keeps split rd post ne (Refused c) = tt
  load_keeps split rd post ne _ = tt

  store_keeps : (w : Word) (post : Post) (r : Reply) → RowKeeps rs os r (stored s w post r)
  unfolding plain
  store_keeps w post (Got a c) = record { own = λ k h. record { word = λ regs. refl; flag = λ flags. refl }; other = tt }
  store_keeps w post (Refused c) = tt
  store_keeps w post _ = tt

  map_keeps : (rd : ℕ) → ((k : ℕ) → Spares rs k → k ≢ rd) → (r : Reply) → RowKeeps rs os r (maps s rd r)
  unfolding plain
  map_keeps rd ne (Paged page true) = record { own = λ k h. record { word = λ regs. get_or-set_other regs rd k (Int 1) (Int 0) (ne k h); flag = λ flags. refl }; other = tt }
  map_keeps rd ne (Paged page false) = sets_keeps s rs os (Paged page false) rd ne (Int 0)
  map_keeps rd ne (Refused c) = tt
  map_keeps rd ne _ = tt

  unmap_keeps : (rd : ℕ) → ((k : ℕ) → Spares rs k → k ≢ rd) → (r : Reply) → RowKeeps rs os r (unmaps s rd r)
  unfolding plain
  unmap_keeps rd ne (Paged page true) = record { own = λ k h. record { word = λ regs. get_or-set_other regs rd k (Int 1) (Int 0) (ne k h); flag = λ flags. refl }; other = tt }
  unmap_keeps rd ne (Paged page false) = sets_keeps s rs os (Paged page false) rd ne (Int 0)
  unmap_keeps rd ne (Refused c) = tt
  unmap_keeps rd ne _ = tt

-- an event goes to four registers, and of its slot no register changes
take_keeps : (s : Slot) (rd : ℕ) (os : Slot → List ℕ) (r : Reply) → RowKeeps (rd ∷ (rd + 1) ∷ (rd + 2) ∷ (rd + 3) ∷ []) os r (takes s rd r)
unfolding plain register is_empty
take_keeps s rd os (Took e rest of) = record {
  own = λ k h. record {
    word = λ regs. get_or-set_other _ (rd + 3) k e.value_op (Int 0) h.1.1.1.0
        ∙ get_or-set_other _ (rd + 2) k e.addr_op (Int 0) h.1.1.0
        ∙ get_or-set_other _ (rd + 1) k (Ptr e.ip) (Int 0) h.1.0
        ∙ get_or-set_other regs rd k _ (Int 0) h.0;
    flag = λ flags. refl;
  };
  other = λ k h. record { word = refl; flag = refl };
}
take_keeps s rd os (Refused c) = tt
take_keeps s rd os _ = tt

-- a slot that is served

resume_keeps : (s : Slot) (rs : List ℕ) (os : Slot → List ℕ) (how : How) (r : Reply) → RowKeeps rs os r (resumes s how r)
unfolding plain register is_empty
resume_keeps s rs os how (Served of) = record { own = λ k h. record { word = λ regs. refl; flag = λ flags. refl }; other = by how }
  where
    by : (how : How) (k : ℕ) → Spares (os of) k → SameAt k of (resumed_by how of)
    by Retry k h = record { word = refl; flag = refl }
    by Skip k h = record { word = refl; flag = refl }
    by Kill k h = record { word = refl; flag = refl }
resume_keeps s rs os how (Refused c) = tt
resume_keeps s rs os how _ = tt

read_keeps : (s : Slot) (split : Bool) (rd reg : ℕ) (r : Reply) → RowKeeps (rd ∷ []) (λ of. oldest of.pending) r (reads_of split s rd reg r)
read_keeps s split rd reg (Served of) = if_keeps s (rd ∷ []) (λ x. oldest x.pending) (Served of) (split && is_empty of reg) (Deliver (delivered of)) (sets s rd (register of reg))
    (λ k h. delivered_leaves of k h) (sets_keeps s (rd ∷ []) (λ x. oldest x.pending) (Served of) rd (λ k h. h.0) (register of reg))
read_keeps s split rd reg (Refused c) = tt
read_keeps s split rd reg _ = tt

write_keeps : (s : Slot) (split : Bool) (reg : ℕ) (w : Word) (r : Reply)
    → RowKeeps [] (λ of. if split && is_empty of reg then oldest of.pending else reg ∷ []) r (writes_of split s reg w r)
unfolding plain register is_empty
write_keeps s split reg w (Served of) = by (split && is_empty of reg) refl
  where
    spared : (k : ℕ) (b : Bool) → (split && is_empty of reg) ≡ b → Spares (if split && is_empty of reg then oldest of.pending else reg ∷ []) k
        → Spares (if b then oldest of.pending else reg ∷ []) k
    spared k b is h = subst (λ t. Spares (if t then oldest of.pending else reg ∷ []) k) is h

    by : (b : Bool) → (split && is_empty of reg) ≡ b → RowKeeps [] (λ x. if split && is_empty x reg then oldest x.pending else reg ∷ []) (Served of)
        (if b then Deliver (delivered of) else Do (record (plain s) { other = Some (record of { regs = slice_set of.regs reg w }) }))
    by true is = λ k h. delivered_leaves of k (spared k true is h)
    by false is = record {
      own = λ k h. record { word = λ regs. refl; flag = λ flags. refl };
      other = λ k h. record { word = get_or-set_other of.regs reg k w (Int 0) (spared k false is h).0; flag = refl };
    }
write_keeps s split reg w (Refused c) = tt
write_keeps s split reg w _ = tt

-- 3. The table.

module _ (s : Slot) (split : Bool) where
  abbrev Row : Instr → Reply → Type 0
  Row i r = RowKeeps (fields_d i) (other_registers split i) r (effect split i s r)

  -- none but the registers that an instruction names for its result, and none of another slot but those of `other_registers`
  pub row_keeps : (i : Instr) (r : Reply) → Row i r
  unfolding effect
  row_keeps Halt r = halt_keeps s [] (λ of. []) r
  row_keeps Nop r = plain_keeps s [] (λ of. []) r
  row_keeps (Ldi rd imm) r = sets_keeps s (rd ∷ []) (λ of. []) r rd (λ k h. h.0) (Int (cast_unsigned w64 imm))
  row_keeps (Ldhi rd imm) r = sets_keeps s (rd ∷ []) (λ of. []) r rd (λ k h. h.0) (Int (high_and_low (word_bits (register s rd)) imm))
  row_keeps (Mov rd ra) r = sets_keeps s (rd ∷ []) (λ of. []) r rd (λ k h. h.0) (register s ra)
  row_keeps (Isptr rd ra) r = sets_keeps s (rd ∷ []) (λ of. []) r rd (λ k h. h.0) (Int (test (is_pointer (register s ra))))
  row_keeps (Eqw rd ra rb) r = sets_keeps s (rd ∷ []) (λ of. []) r rd (λ k h. h.0) (Int (test (same_word (register s ra) (register s rb))))
  row_keeps (Out ra) r = out_keeps s [] (λ of. []) (word_bits (register s ra) % 256) r
  row_keeps (SelfSlot rd) r = sets_keeps s (rd ∷ []) (λ of. []) r rd (λ k h. h.0) (Int s.number)
  row_keeps (Alu op rd ra rb) r = number_keeps s (rd ∷ []) (λ of. []) r rd (λ k h. h.0) (alu_result op (word_bits (register s ra)) (word_bits (register s rb)))
  row_keeps (Addi rd ra imm) r = sets_keeps s (rd ∷ []) (λ of. []) r rd (λ k h. h.0) (Int ((word_bits (register s ra) + cast_unsigned w64 imm) % 2 ^ 64))
  row_keeps (Lea rd ra rb) r = through_keeps s (rd ∷ []) (λ of. []) r (register s ra)
      (λ p. sets_pointer s rd (lea_result p (cast_signed w64 (word_bits (register s rb)))))
      (λ p. pointer_keeps s (rd ∷ []) (λ of. []) r rd (λ k h. h.0) (lea_result p (cast_signed w64 (word_bits (register s rb)))))
  row_keeps (Leai rd ra imm) r = through_keeps s (rd ∷ []) (λ of. []) r (register s ra) (λ p. sets_pointer s rd (lea_result p imm)) (λ p. pointer_keeps s (rd ∷ []) (λ of. []) r rd (λ k h. h.0) (lea_result p imm))
  row_keeps (Leab rd ra rb) r = through_keeps s (rd ∷ []) (λ of. []) r (register s ra)
      (λ p. sets_pointer s rd (leab_result p (cast_signed w64 (word_bits (register s rb)))))
      (λ p. pointer_keeps s (rd ∷ []) (λ of. []) r rd (λ k h. h.0) (leab_result p (cast_signed w64 (word_bits (register s rb)))))
  row_keeps (Restrict rd ra rb) r = through_keeps s (rd ∷ []) (λ of. []) r (register s ra)
      (λ p. sets_pointer s rd (restrict_result p (word_bits (register s rb))))
      (λ p. pointer_keeps s (rd ∷ []) (λ of. []) r rd (λ k h. h.0) (restrict_result p (word_bits (register s rb))))
  row_keeps (Subseg rd ra rb) r = through_keeps s (rd ∷ []) (λ of. []) r (register s ra)
      (λ p. sets_pointer s rd (subseg_result p (word_bits (register s rb))))
      (λ p. pointer_keeps s (rd ∷ []) (λ of. []) r rd (λ k h. h.0) (subseg_result p (word_bits (register s rb))))
  row_keeps (Setptr rd ra) r = if_keeps s (rd ∷ []) (λ of. []) r (is_privileged s.ip.perm)
      (sets_pointer s rd (setptr_result (word_bits (register s ra)))) (Fault cause.Priv)
      (pointer_keeps s (rd ∷ []) (λ of. []) r rd (λ k h. h.0) (setptr_result (word_bits (register s ra)))) tt
  row_keeps (Ld rd ra pre post imm) r = load_keeps s (rd ∷ []) (λ of. []) split rd post (λ k h. h.0) r
  row_keeps (St ra rb pre post imm) r = store_keeps s [] (λ of. []) (register s rb) post r
  row_keeps (Br imm) r = branch_keeps s [] (λ of. []) r (at_distance s imm)
  row_keeps (Bz ra imm) r = if_keeps s [] (λ of. []) r (word_bits (register s ra) == 0) (branches s (at_distance s imm)) (Do (plain s)) (branch_keeps s [] (λ of. []) r (at_distance s imm)) (plain_keeps s [] (λ of. []) r)
  row_keeps (Bnz ra imm) r = if_keeps s [] (λ of. []) r (word_bits (register s ra) == 0) (Do (plain s)) (branches s (at_distance s imm)) (plain_keeps s [] (λ of. []) r) (branch_keeps s [] (λ of. []) r (at_distance s imm))
  row_keeps (Jmp ra) r = through_keeps s [] (λ of. []) r (register s ra) (λ p. jumps s p (enter_result p)) (λ p. jump_keeps s [] (λ of. []) r p (enter_result p))
  row_keeps (Jal rd ra) r = through_keeps s (rd ∷ []) (λ of. []) r (register s ra) (λ p. links s rd p (enter_result p) (next_result s.ip)) (λ p. link_keeps s (rd ∷ []) (λ of. []) r rd (λ k h. h.0) p (enter_result p) (next_result s.ip))
  row_keeps (Lip rd imm) r = pointer_keeps s (rd ∷ []) (λ of. []) r rd (λ k h. h.0) (at_distance s imm)
  row_keeps (Trap imm) r = tt
  row_keeps (Evt rd) r = take_keeps s rd (λ of. []) r
  row_keeps (Resume ra how) r = resume_keeps s [] (λ of. []) how r
  row_keeps (Rreg rd ra reg) r = read_keeps s split rd reg r
  row_keeps (Wreg ra rb reg) r = write_keeps s split reg (register s rb) r
  row_keeps (Map rd ra) r = map_keeps s (rd ∷ []) (λ of. []) rd (λ k h. h.0) r
  row_keeps (Unmap rd ra) r = unmap_keeps s (rd ∷ []) (λ of. []) rd (λ k h. h.0) r
