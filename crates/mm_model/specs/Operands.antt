-- Which registers and which number an instruction's operands name.
use Rattle.std.specs.Prelude.{ℕ, ◌+◌, Bool, false, ◌||◌, List, [], ◌∷◌, flat_map, Option, Some, None, unwrap_or, ℤ, pos}
use Rattle.std.specs.{List.list_any, Option.option_or, Int.{w64, cast_unsigned}}
use Rattle.mm_word.specs.declared.word.Word.{Word, TheVariants.Int}
use Rattle.mm_isa.specs.declared.instr.Instr.{Instr}
use Rattle.mm_isa.specs.declared.operand.Operand.{Operand}
use Rattle.mm_isa.specs.declared.operand.Operand.TheVariants.{Rd, EvtRd, Ra, Rb, Imm, Distance, RegisterNumber}
use Rattle.mm_isa.specs.Table.{operation_of}
use Rattle.mm_model.specs.Slot.{Slot, register, is_empty}

-- the first value that f gives for an operand of the list
abbrev pub first : {A : Type 0} → (Operand → Option A) → List Operand → Option A
first f [] = None
first f (o ∷ os) = option_or (f o) (first f os)

-- the register of ra, if the operand is ra
abbrev pub ra_in : Operand → Option ℕ
ra_in (Ra r) = Some r
ra_in _ = None

-- the register that an instruction names as ra
abbrev pub field_a : Instr → Option ℕ
field_a i = first ra_in (operation_of i).operands

-- the register of rb, if the operand is rb
abbrev pub rb_in : Operand → Option ℕ
rb_in (Rb r) = Some r
rb_in _ = None

-- the register that an instruction names as rb
abbrev pub field_b : Instr → Option ℕ
field_b i = first rb_in (operation_of i).operands

-- the number of imm, if the operand is in imm
abbrev pub imm_in : Operand → Option ℤ
imm_in (Imm n) = Some n
imm_in (Distance n) = Some n
imm_in (RegisterNumber r) = Some (pos r)
imm_in _ = None

-- the number of an instruction's imm, 0 if the operation has none
abbrev pub field_imm : Instr → ℤ
field_imm i = unwrap_or (first imm_in (operation_of i).operands) (pos 0)

-- the registers of rd, if the operand is rd: one, or four for `evt`
abbrev pub rd_in : Operand → List ℕ
rd_in (Rd r) = r ∷ []
rd_in (EvtRd r) = r ∷ (r + 1) ∷ (r + 2) ∷ (r + 3) ∷ []
rd_in _ = []

-- the registers that an instruction names as rd
abbrev pub fields_d : Instr → List ℕ
fields_d i = flat_map rd_in (operation_of i).operands

-- the address operand of an event: the word of ra, else integer 0
abbrev pub word_a : Slot → Option ℕ → Word
word_a s None = Int 0
word_a s (Some r) = register s r

-- the data operand of an event: the word of rb, else the number of imm
abbrev pub word_b : Slot → Option ℕ → ℤ → Word
word_b s None imm = Int (cast_unsigned w64 imm)
word_b s (Some r) imm = register s r

unfoldable pub addr_operand : Instr → Slot → Word
addr_operand i s = word_a s (field_a i)

unfoldable pub value_operand : Instr → Slot → Word
value_operand i s = word_b s (field_b i) (field_imm i)

abbrev pub field_empty : Slot → Option ℕ → Bool
field_empty s None = false
field_empty s (Some r) = is_empty s r

-- a register that the instruction names as rd, ra or rb waits for a pending load
unfoldable pub lacks : Instr → Slot → Bool
lacks i s = list_any (is_empty s) (fields_d i) || (field_empty s (field_a i) || field_empty s (field_b i))
