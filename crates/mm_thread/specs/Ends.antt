-- What an instruction that concerns its slot alone leaves.
use Rattle.std.specs.Prelude.{◌≡◌, Bool, true, false, Option, None, Result, Ok, Err}
use Rattle.mm_word.specs.declared.cause.Cause.{Cause, TheVariants.NotPointer}
use Rattle.mm_word.specs.{declared.word.Word.{Word, TheVariants.{Int, Ptr}}, Pointer.Pointer}
use Rattle.mm_isa.specs.declared.instr.Instr.{Instr, TheVariants.{Out, Ld, St, Evt, Resume, Rreg, Wreg, Map, Unmap}}
use Rattle.mm_isa.specs.declared.instr.Instr.TheVariants.{Ldi, Mov, Alu, Addi, Lea, Leai, Br, Bz, Bnz}
use Rattle.mm_model.specs.{Slot.Slot, Effect.{Change, Effect, Pages.Keep, Effect.{Fault, Do}}, Turn.slot_after}
use Rattle.mm_model.specs.Effect.{sets, branches, at_distance, plain}
use Rattle.mm_thread.specs.declared.actions.Action.{Action}
use Rattle.mm_thread.specs.declared.actions.Action.TheVariants as actions

-- the instructions that concern their slot alone
abbrev pub is_alone : Instr → Bool
is_alone (Out ra) = false
is_alone (Ld rd ra pre post imm) = false
is_alone (St ra rb pre post imm) = false
is_alone (Evt rd) = false
is_alone (Resume ra how) = false
is_alone (Rreg rd ra reg) = false
is_alone (Wreg ra rb reg) = false
is_alone (Map rd ra) = false
is_alone (Unmap rd ra) = false
is_alone _ = true

-- those of them that most words spell: they plan an action
abbrev pub is_common : Instr → Bool
is_common (Ldi rd imm) = true
is_common (Mov rd ra) = true
is_common (Alu op rd ra rb) = true
is_common (Addi rd ra imm) = true
is_common (Lea rd ra rb) = true
is_common (Leai rd ra imm) = true
is_common (Br imm) = true
is_common (Bz ra imm) = true
is_common (Bnz ra imm) = true
is_common _ = false

-- the instructions that reach the outputs, the queue, another slot or the pages
abbrev pub reaches_out : Instr → Bool
reaches_out (Out ra) = true
reaches_out (Evt rd) = true
reaches_out (Resume ra how) = true
reaches_out (Rreg rd ra reg) = true
reaches_out (Wreg ra rb reg) = true
reaches_out (Map rd ra) = true
reaches_out (Unmap rd ra) = true
reaches_out _ = false

-- what a planned action does to its slot
abbrev pub effect_of : Slot → Result Action Cause → Effect
effect_of s (Ok (actions.Write rd w)) = sets s rd w
effect_of s (Ok (actions.Branch imm)) = branches s (at_distance s imm)
effect_of s (Ok actions.GoOn) = Do (plain s)
effect_of s (Err c) = Fault c

-- the part of a change that concerns its slot alone
abbrev pub alone : Change → Change
alone c = record c { out = None; cell = None; pages = Keep; queue = None; other = None }

-- the slot alone is changed, and perhaps a pointer is entered
pub record ChangesAlone (c : Change) (old new : Slot) (ending : Result (Option Pointer) Cause) : Type 0 where
  pub alone : alone c ≡ c
  pub slot : new ≡ slot_after old c
  pub ended : ending ≡ Ok c.entered

-- a fault leaves the slot as it was
pub record FaultsAlone (c : Cause) (old new : Slot) (ending : Result (Option Pointer) Cause) : Type 0 where
  pub slot : new ≡ old
  pub ended : ending ≡ Err c

-- an instruction that concerns its slot alone leaves what its effect says
abbrev pub EndsAlone : Effect → Slot → Slot → Result (Option Pointer) Cause → Type 0
EndsAlone (Do c) old new ended = ChangesAlone c old new ended
EndsAlone (Fault c) old new ended = FaultsAlone c old new ended
EndsAlone _ old new ended = ⊥

-- the pointer that a word is, or the fault that it is none
abbrev pub pointer_in : Word → Result Pointer Cause
pointer_in (Int bits) = Err NotPointer
pointer_in (Ptr p) = Ok p
