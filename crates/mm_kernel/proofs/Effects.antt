-- What each instruction does is as it must be, where its outcomes have what follows from them.
use Rattle.std.proofs.Common.{◌≡◌, ℕ, ◌+◌, ◌%◌, ◌^◌, ◌<◌, Bool, true, false, ◌||◌, nat_lt, if◌then◌else◌, List, [], ◌∷◌}
use Rattle.std.proofs.{Common.{length, Option, Some, None, refl, arith}, lemmas.Bool.or_parts}
use Rattle.std.specs.{Prelude.IfSome, Int.{w64, cast_unsigned, cast_signed}, List.{AllByRecursion, flat_map, list_any}}
use Rattle.mm_word.specs.declared.perm.Perm.{Perm, TheVariants.{Ro, Rw, Xu, Xp, Eu, Ep, Key}}
use Rattle.mm_word.specs.declared.word.Word.TheVariants.{Int}
use Rattle.mm_word.specs.{Pointer.{lea_result, leab_result, subseg_result, setptr_result}, Word.word_bits}
use Rattle.mm_isa.specs.declared.instr.AluOp.TheVariants.{Add}
use Rattle.mm_isa.specs.declared.instr.Instr.{Instr}
use Rattle.mm_isa.specs.declared.instr.Instr.TheVariants.{Halt, Nop, Ldi, Ldhi, Mov, Isptr, Eqw, Out, SelfSlot, Alu}
use Rattle.mm_isa.specs.declared.instr.Instr.TheVariants.{Addi, Lea, Leai, Leab, Restrict, Subseg, Setptr, Ld, St, Br}
use Rattle.mm_isa.specs.declared.instr.Instr.TheVariants.{Bz, Bnz, Jmp, Jal, Lip, Trap, Evt, Resume, Rreg, Wreg, Map}
use Rattle.mm_isa.specs.declared.instr.Instr.TheVariants.{Unmap}
use Rattle.mm_isa.specs.declared.operand.Operand.{Operand, TheVariants.{Rd, EvtRd, Ra, Rb}}
use Rattle.mm_isa.specs.Table.{operation_of, IsInRange, IsInstr}
use Rattle.mm_model.specs.{Memory.Memory, Slot.{Slot, register, is_empty}, State.{Core, output_of}}
use Rattle.mm_model.specs.Image.{Image, output_limit}
use Rattle.mm_model.specs.Operands.{first, ra_in, rb_in, rd_in, field_a, field_b, fields_d, field_empty, lacks}
use Rattle.mm_model.specs.Ask.{ask, is_privileged, Ask.{Refuse, MapPage, UnmapPage}}
use Rattle.mm_model.specs.Effect.{Effect, effect, plain, puts_out, high_and_low, maps, unmaps, sets_pointer}
use Rattle.mm_model.specs.{Effect.{Reply.{Fine, Refused}, Effect.Fault}, Turn.{slot_after, reply}}
use Rattle.mm_model.proofs.CoreRows.{each_both, each_map}
use Rattle.mm_kernel.specs.Segments.{Segment, runs_privileged}
use Rattle.mm_kernel.specs.declared.{form.Form.TheVariants.{Number, Integer}, outcome.Outcome.Outcome}
use Rattle.mm_kernel.specs.{declared.thread.Thread.Thread, Forms.exact_bits, Threads.{form_in, stepped}}
use Rattle.mm_kernel.specs.{Operations.{alu_form, equal_form, high_form}, Derived.Keeps}
use Rattle.mm_kernel.proofs.{Owns.{Mode, World}, Values.{fits_number, fits_integer}, Ups.Follows, Slots.Held}
use Rattle.mm_kernel.proofs.Results.{exact_bits_is, high_fits, equal_fits, alu_fits, lea_moved, leab_moved}
use Rattle.mm_kernel.proofs.Results.{subseg_moved}
use Rattle.mm_kernel.proofs.Rows.{Machine, Acts, Ready, EffectOk, reg, word, steps_on, plain_ok, sets_ok, halts_ok}
use Rattle.mm_kernel.proofs.{Rows.{tests_ok, computes_ok, moves_ok}, Places.{restrict_ok, load_ok, store_ok}}
use Rattle.mm_kernel.proofs.Jumps.{branch_ok, branch_if_zero, branch_if_not, lip_ok, jmp_ok, jal_ok}
use Rattle.mm_kernel.proofs.Serves.{event_ok, resume_ok, read_ok, write_ok}
use Rattle.mm_word.specs.declared.cause.Cause.TheVariants as cause
use Rattle.mm_kernel.specs.declared.outcome.Outcome.TheVariants as outcome
use Rattle.mm_kernel.specs.declared.fact.Leak.TheVariants as leak
use Rattle.mm_kernel.specs.Turns as kernel

-- 1. The registers that an instruction names.

registers_small : (os : List Operand) → AllByRecursion IsInRange os → AllByRecursion (λ (r : ℕ). r < 16) (flat_map rd_in os)
registers_small [] h = tt
registers_small (Rd r ∷ os) h = (h.0, registers_small os h.1)
registers_small (EvtRd r ∷ os) h = (omega (arith, h.0), (omega (arith, h.0), (omega (arith, h.0), (omega (arith, h.0), registers_small os h.1))))
registers_small (_ ∷ os) h = registers_small os h.1

first_a : (os : List Operand) → AllByRecursion IsInRange os → IfSome (first ra_in os) (λ (r : ℕ). r < 16)
first_a [] h = tt
first_a (Ra r ∷ os) h = h.0
first_a (_ ∷ os) h = first_a os h.1

first_b : (os : List Operand) → AllByRecursion IsInRange os → IfSome (first rb_in os) (λ (r : ℕ). r < 16)
first_b [] h = tt
first_b (Rb r ∷ os) h = h.0
first_b (_ ∷ os) h = first_b os h.1

none_passes : (p : ℕ → Bool) (rs : List ℕ) → list_any p rs ≡ false → AllByRecursion (λ r. p r ≡ false) rs
none_passes p [] e = tt
none_passes p (r ∷ rs) e = let parts = or_parts (p r) (list_any p rs) e in (parts.0, none_passes p rs parts.1)

field_ready : (s : Slot) (o : Option ℕ) → IfSome o (λ (r : ℕ). r < 16) → field_empty s o ≡ false → IfSome o (Ready s)
field_ready s None h e = tt
field_ready s (Some r) h e = record { small = h; free = e }

pub record ReadyFor (s : Slot) (x : Instr) : Type 0 where
  pub d : AllByRecursion (Ready s) (fields_d x)
  pub a : IfSome (field_a x) (Ready s)
  pub b : IfSome (field_b x) (Ready s)

pub ready_for : (s : Slot) (x : Instr) → IsInstr x → lacks x s ≡ false → ReadyFor s x
unfolding lacks
ready_for s x h e =
    let one = or_parts (list_any (is_empty s) (fields_d x)) (field_empty s (field_a x) || field_empty s (field_b x)) e in
    let two = or_parts (field_empty s (field_a x)) (field_empty s (field_b x)) one.1 in
    record {
      d = each_both (λ (r : ℕ). r < 16) (λ (r : ℕ). is_empty s r ≡ false) (Ready s) (λ r small free. record { small = small; free = free }) (fields_d x)
          (registers_small (operation_of x).operands h.operands) (none_passes (is_empty s) (fields_d x) one.0);
      a = field_ready s (field_a x) (first_a (operation_of x).operands h.operands) two.0;
      b = field_ready s (field_b x) (first_b (operation_of x).operands h.operands) two.1;
    }

pub ready_all : (s : Slot) (x : Instr) → IsInstr x → ((r : ℕ) → is_empty s r ≡ false) → ReadyFor s x
ready_all s x h free = record {
  d = each_map (λ (r : ℕ). r < 16) (Ready s) (λ r small. record { small = small; free = free r }) (fields_d x) (registers_small (operation_of x).operands h.operands);
  a = one (field_a x) (first_a (operation_of x).operands h.operands);
  b = one (field_b x) (first_b (operation_of x).operands h.operands);
}
  where
    one : (o : Option ℕ) → IfSome o (λ (r : ℕ). r < 16) → IfSome o (Ready s)
    one None k = tt
    one (Some r) k = record { small = k; free = free r }

pub user_runs : (p : Perm) → runs_privileged p ≡ false → is_privileged p ≡ false
user_runs Ro e = refl
user_runs Rw e = refl
user_runs Xu e = refl
user_runs Xp e = cc
user_runs Eu e = refl
user_runs Ep e = refl
user_runs Key e = refl

-- 2. The rows.

module _ (i : Image) (kept : List Segment) (wd : World i kept) (md : Mode) (core : Core) (m : Memory) (k : Machine i kept wd core m) (s : Slot) (t : Thread) (a : Acts i kept wd md core s t) (ks : Keeps i kept) where
  abbrev Alls : List Outcome → Type 0
  Alls os = AllByRecursion (Follows i kept wd md t) os

  abbrev Eff : Instr → Effect → Type 0
  Eff x e = EffectOk i kept wd md core m k s t a x e

  out_ok : (x : Instr) (byte : ℕ) (b : Bool) → Alls (kernel.fault t x ∷ outcome.Goes (stepped t) ∷ []) → Eff x (puts_out s byte (if b then Fine else Refused cause.OutFull))
  unfolding plain slot_after
  out_ok x byte true all = record { own = steps_on i kept wd md core m k s t a all.1.0; cell = tt; pages = refl; queue = tt; other = tt }
  out_ok x byte false all = all.0

  user : is_privileged s.ip.perm ≡ false
  user = user_runs s.ip.perm a.matches.clean.user

  setptr_ok : (x : Instr) (rd bits : ℕ) (b : Bool) → b ≡ false → Follows i kept wd md t (kernel.fault t x) → Eff x (if b then sets_pointer s rd (setptr_result bits) else Fault cause.Priv)
  setptr_ok x rd bits false e f = f
  setptr_ok x rd bits true e f = cc

  map_ok : (x : Instr) (rd page : ℕ) (b : Bool) → b ≡ false → Follows i kept wd md t (kernel.fault t x)
      → Eff x (maps s rd (reply core m s.number (if b then (if nat_lt page (2 ^ 42) then MapPage page else Refuse cause.Bounds) else Refuse cause.Priv)))
  unfolding reply
  map_ok x rd page false e f = f
  map_ok x rd page true e f = cc

  unmap_ok : (x : Instr) (rd page : ℕ) (b : Bool) → b ≡ false → Follows i kept wd md t (kernel.fault t x)
      → Eff x (unmaps s rd (reply core m s.number (if b then (if nat_lt page (2 ^ 42) then UnmapPage page else Refuse cause.Bounds) else Refuse cause.Priv)))
  unfolding reply
  unmap_ok x rd page false e f = f
  unmap_ok x rd page true e f = cc

  pub effect_ok : (x : Instr) → IsInstr x → ReadyFor s x → Alls (kernel.outcomes_of i kept t x) → Eff x (effect core.split x s (reply core m s.number (ask x s)))
  unfolding kernel.outcomes_of effect ask reply
  effect_ok Halt h r all = halts_ok i kept wd md core m k s t a Halt
  effect_ok Nop h r all = plain_ok i kept wd md core m k s t a Nop all.0
  effect_ok (Ldi rd imm) h r all = sets_ok i kept wd md core m k s t a (Ldi rd imm) rd (Number (cast_unsigned w64 imm)) (Int (cast_unsigned w64 imm)) r.d.0 all.0 (fits_number i kept (Held i kept wd md t s) (cast_unsigned w64 imm))
  effect_ok (Ldhi rd imm) h r all =
      sets_ok i kept wd md core m k s t a (Ldhi rd imm) rd (high_form (form_in t rd) imm) (Int (high_and_low (word_bits (register s rd)) imm)) r.d.0 all.0
      (high_fits i kept (Held i kept wd md t s) (form_in t rd) (register s rd) imm (reg i kept wd md core m k s t a rd r.d.0).holds)
  effect_ok (Mov rd ra) h r all = sets_ok i kept wd md core m k s t a (Mov rd ra) rd (form_in t ra) (register s ra) r.d.0 all.0 (reg i kept wd md core m k s t a ra r.a)
  effect_ok (Isptr rd ra) h r all = tests_ok i kept wd md core m k s t a rd ra (form_in t ra) (register s ra) r.d.0 r.a refl (reg i kept wd md core m k s t a ra r.a) all
  effect_ok (Eqw rd ra rb) h r all =
      sets_ok i kept wd md core m k s t a (Eqw rd ra rb) rd (equal_form (form_in t ra) (form_in t rb)) _ r.d.0 all.0
      (equal_fits i kept (Held i kept wd md t s) (form_in t ra) (form_in t rb) (register s ra) (register s rb) (reg i kept wd md core m k s t a ra r.a).holds (reg i kept wd md core m k s t a rb r.b).holds)
  effect_ok (Out ra) h r all = out_ok (Out ra) (word_bits (register s ra) % 256) (nat_lt (length (output_of core s.group)) (output_limit core.version)) all
  effect_ok (SelfSlot rd) h r all = sets_ok i kept wd md core m k s t a (SelfSlot rd) rd Integer (Int s.number) r.d.0 all.0 (fits_integer i kept (Held i kept wd md t s) s.number)
  effect_ok (Alu op rd ra rb) h r all =
      computes_ok i kept wd md core m k s t a (Alu op rd ra rb) op rd (form_in t ra) (form_in t rb) (register s ra) (register s rb) r.d.0 (word i kept wd md core m k s t a ra)
      (reg i kept wd md core m k s t a ra r.a).holds (reg i kept wd md core m k s t a rb r.b).holds all
  effect_ok (Addi rd ra imm) h r all =
      sets_ok i kept wd md core m k s t a (Addi rd ra imm) rd (alu_form Add (form_in t ra) (Number (cast_unsigned w64 imm))) (Int ((word_bits (register s ra) + cast_unsigned w64 imm) % 2 ^ 64)) r.d.0 all.0
      (alu_fits i kept (Held i kept wd md t s) Add (form_in t ra) (Number (cast_unsigned w64 imm)) (register s ra) (Int (cast_unsigned w64 imm)) ((word_bits (register s ra) + cast_unsigned w64 imm) % 2 ^ 64)
      (word i kept wd md core m k s t a ra) (reg i kept wd md core m k s t a ra r.a).holds refl refl)
  effect_ok (Lea rd ra rb) h r all =
      moves_ok i kept wd md core m k s t a (Lea rd ra rb) rd ra (form_in t ra) (register s ra) (exact_bits (form_in t rb)) (word_bits (register s rb)) (λ p bits. lea_result p (cast_signed w64 bits)) r.d.0 r.a refl
      (reg i kept wd md core m k s t a ra r.a) (exact_bits_is i kept (form_in t rb) (register s rb) (reg i kept wd md core m k s t a rb r.b).holds)
      (λ p q e. lea_moved i kept p q (cast_signed w64 (word_bits (register s rb))) e) all
  effect_ok (Leai rd ra imm) h r all =
      moves_ok i kept wd md core m k s t a (Leai rd ra imm) rd ra (form_in t ra) (register s ra) (Some 0) 0 (λ p bits. lea_result p imm) r.d.0 r.a refl
      (reg i kept wd md core m k s t a ra r.a) (λ b e. cc) (λ p q e. lea_moved i kept p q imm e) all
  effect_ok (Leab rd ra rb) h r all =
      moves_ok i kept wd md core m k s t a (Leab rd ra rb) rd ra (form_in t ra) (register s ra) (exact_bits (form_in t rb)) (word_bits (register s rb)) (λ p bits. leab_result p (cast_signed w64 bits)) r.d.0 r.a refl
      (reg i kept wd md core m k s t a ra r.a) (exact_bits_is i kept (form_in t rb) (register s rb) (reg i kept wd md core m k s t a rb r.b).holds)
      (λ p q e. leab_moved i kept p q (cast_signed w64 (word_bits (register s rb))) e) all
  effect_ok (Restrict rd ra rb) h r all =
      restrict_ok i kept wd md core m k s t a (Restrict rd ra rb) rd (form_in t ra) (form_in t rb) (register s ra) (register s rb) r.d.0 (reg i kept wd md core m k s t a ra r.a)
      (reg i kept wd md core m k s t a rb r.b).holds all
  effect_ok (Subseg rd ra rb) h r all =
      moves_ok i kept wd md core m k s t a (Subseg rd ra rb) rd ra (form_in t ra) (register s ra) (exact_bits (form_in t rb)) (word_bits (register s rb)) subseg_result r.d.0 r.a refl
      (reg i kept wd md core m k s t a ra r.a) (exact_bits_is i kept (form_in t rb) (register s rb) (reg i kept wd md core m k s t a rb r.b).holds)
      (λ p q e. subseg_moved i kept p q (word_bits (register s rb)) e) all
  effect_ok (Setptr rd ra) h r all = setptr_ok (Setptr rd ra) rd (word_bits (register s ra)) (is_privileged s.ip.perm) user all.0
  effect_ok (Ld rd ra pre post imm) h r all =
      load_ok i kept wd md core m k s t a (Ld rd ra pre post imm) rd ra (form_in t ra) (register s ra) imm pre post r.d.0 r.a refl (a.whole ra) (word i kept wd md core m k s t a ra) (reg i kept wd md core m k s t a ra r.a) all
  effect_ok (St ra rb pre post imm) h r all =
      store_ok i kept wd md core m k s t a (St ra rb pre post imm) rb ra (form_in t ra) (register s rb) (register s ra) imm pre post r.b r.a refl (a.whole ra) (word i kept wd md core m k s t a ra)
      (reg i kept wd md core m k s t a ra r.a) (reg i kept wd md core m k s t a rb r.b) all
  effect_ok (Br imm) h r all = branch_ok i kept wd md core m k s t a ks (Br imm) imm all.0
  effect_ok (Bz ra imm) h r all = branch_if_zero i kept wd md core m k s t a ks (Bz ra imm) (form_in t ra) (register s ra) imm (reg i kept wd md core m k s t a ra r.a).holds all
  effect_ok (Bnz ra imm) h r all = branch_if_not i kept wd md core m k s t a ks (Bnz ra imm) (form_in t ra) (register s ra) imm (reg i kept wd md core m k s t a ra r.a).holds all
  effect_ok (Jmp ra) h r all = jmp_ok i kept wd md core m k s t a ks (Jmp ra) ra (form_in t ra) (register s ra) (reg i kept wd md core m k s t a ra r.a) all
  effect_ok (Jal rd ra) h r all = jal_ok i kept wd md core m k s t a ks (Jal rd ra) rd ra (form_in t ra) (register s ra) r.d.0 (reg i kept wd md core m k s t a ra r.a) refl all
  effect_ok (Lip rd imm) h r all = lip_ok i kept wd md core m k s t a ks (Lip rd imm) rd imm r.d.0 all
  effect_ok (Trap imm) h r all = all.0
  effect_ok (Evt rd) h r all = event_ok i kept wd md core m k s t a (Evt rd) rd r.d.0 r.d.1.0 r.d.1.1.0 r.d.1.1.1.0 all
  effect_ok (Resume ra how) h r all = resume_ok i kept wd md core m k s t a (Resume ra how) how (word_bits (register s ra)) all
  effect_ok (Rreg rd ra reg') h r all = read_ok i kept wd md core m k s t a (Rreg rd ra reg') rd reg' (word_bits (register s ra)) r.d.0 all
  effect_ok (Wreg ra rb reg') h r all =
      write_ok i kept wd md core m k s t a (Wreg ra rb reg') reg' (word_bits (register s ra)) rb (register s rb) h.operands.1.1.0 r.b (reg i kept wd md core m k s t a rb r.b)
      (leak.Give t.ip.addr rb (form_in t rb)) all
  effect_ok (Map rd ra) h r all = map_ok (Map rd ra) rd (word_bits (register s ra)) (is_privileged s.ip.perm) user all.0
  effect_ok (Unmap rd ra) h r all = unmap_ok (Unmap rd ra) rd (word_bits (register s ra)) (is_privileged s.ip.perm) user all.0
