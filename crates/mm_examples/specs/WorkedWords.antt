-- Worked examples of words: pointers, accesses, instructions and arithmetic.
use Rattle.std.specs.Prelude.{◌≡◌, ℕ, ◌^◌, ◌-◌, ℤ, pos, negsuc, [], ◌∷◌, map, replicate, Some, None, option_map, Result}
use Rattle.std.specs.Prelude.{Ok, Err}
use Rattle.mm_word.specs.declared.{cause.Cause.Cause, perm.Kind.{Kind, TheVariants.{Fetch, Load, LoadSet, Store}}}
use Rattle.mm_word.specs.declared.word.Word.TheVariants.{Int, Ptr}
use Rattle.mm_word.specs.Pointer.{Pointer, pointer_of, bits_of, lea_result, leab_result, restrict_result, subseg_result}
use Rattle.mm_word.specs.{Pointer.{setptr_result, next_result, enter_result}, Access.first_fault}
use Rattle.mm_isa.specs.declared.instr.AluOp.{AluOp}
use Rattle.mm_isa.specs.declared.instr.AluOp.TheVariants.{Add, Sub, Mul, Divu, Remu, And, Or, Xor, Shl, Shr, Sar, Eq}
use Rattle.mm_isa.specs.declared.instr.{AluOp.TheVariants.{Ltu, Lts}, How.TheVariants.Kill}
use Rattle.mm_isa.specs.declared.instr.Instr.TheVariants.{Halt, Nop, Ldi, Ldhi, Mov, Isptr, Eqw, Out, SelfSlot, Alu}
use Rattle.mm_isa.specs.declared.instr.Instr.TheVariants.{Addi, Lea, Leai, Leab, Restrict, Subseg, Setptr, Ld, St, Br}
use Rattle.mm_isa.specs.declared.instr.Instr.TheVariants.{Bz, Bnz, Jmp, Jal, Lip, Trap, Evt, Resume, Rreg, Wreg, Map}
use Rattle.mm_isa.specs.{declared.instr.Instr.TheVariants.Unmap, Alu.{div_zero, alu_result}, Decode.instr_of}
use Rattle.mm_word.specs.declared.cause.Cause.TheVariants as cause
use Rattle.mm_word.specs.declared.word.Pre.TheVariants as pre
use Rattle.mm_word.specs.declared.word.Post.TheVariants as post

-- 1. Pointers.

-- read-write pointers to the 2^12 bytes from 0x10000 on, at the first byte and at the last
abbrev pub data_page : ℕ
data_page = 0x2300000000010000

abbrev pub data_end : ℕ
data_end = 0x2300000000010fff

-- a read-write pointer to the whole address space, at its last word
abbrev pub last_word : ℕ
last_word = 0x2dbffffffffffff8

-- the bits of a pointer that an operation gives
abbrev pub bits : Result Pointer Cause → Result ℕ Cause
bits (Ok p) = Ok (bits_of p)
bits (Err c) = Err c

-- a read-write pointer to four bytes
abbrev pub half_word : ℕ
half_word = 0x2080000000010000

-- an execute-user pointer to the 2^12 bytes from 0x100000 on
abbrev pub code_start : ℕ
code_start = 0x3300000000100000

-- bits that spell a pointer, and bits that do not: codes 0, 8 and 15, and segments of 2^55 and 2^63 bytes
abbrev pub MakesPointers : Type 0
MakesPointers =
    map (λ n. bits (setptr_result n)) (data_page ∷ last_word ∷ half_word ∷ 0x1000000000000000 ∷ 0x7dbfffffffffffff ∷ [])
    ≡ Ok data_page ∷ Ok last_word ∷ Ok half_word ∷ Ok 0x1000000000000000 ∷ Ok 0x7dbfffffffffffff ∷ []

abbrev pub MakesNone : Type 0
MakesNone =
    map (λ n. bits (setptr_result n)) (0x0300000000010000 ∷ 0x8300000000010000 ∷ 0xf300000000010000 ∷ 0x2dc0000000000000
    ∷ 0x7fffffffffffffff ∷ [])
    ≡ replicate 5 (Err cause.Malformed)

-- an enter-user pointer, and a key
abbrev pub door : ℕ
door = 0x5300000000020010

abbrev pub a_key : ℕ
a_key = 0x7300000000020010

-- pointers moved from their own addresses
abbrev pub Moves : Type 0
Moves =
    map (λ (x : ℕ × ℤ). bits (lea_result (pointer_of x.0) x.1))
    ((data_page, pos 0xfff) ∷ (data_page, pos 0x1000) ∷ (data_page, negsuc 0) ∷ (data_end, negsuc 0xffe)
    ∷ (last_word, pos 7) ∷ (last_word, pos 8)
    ∷ (last_word, negsuc 0x7fffffffffffffff) ∷ (door, pos 0) ∷ (a_key, pos 0) ∷ [])
    ≡ Ok data_end ∷ Err cause.Bounds ∷ Err cause.Bounds ∷ Ok data_page ∷ Ok 0x2dbfffffffffffff ∷ Err cause.Bounds
    ∷ Err cause.Bounds ∷ Err cause.Perm ∷ Err cause.Perm ∷ []

-- pointers moved from their segments' bases
abbrev pub MovesFromTheBase : Type 0
MovesFromTheBase =
    map (λ (x : ℕ × ℤ). bits (leab_result (pointer_of x.0) x.1))
    ((data_end, pos 8) ∷ (data_end, negsuc 0) ∷ (last_word, pos 8) ∷ (door, pos 0) ∷ [])
    ≡ Ok 0x2300000000010008 ∷ Err cause.Bounds ∷ Ok 0x2d80000000000008 ∷ Err cause.Perm ∷ []

-- pointers with another permission
abbrev pub Restricts : Type 0
Restricts =
    map (λ (x : ℕ × ℕ). bits (restrict_result (pointer_of x.0) x.1))
    ((data_page, 1) ∷ (data_page, 2) ∷ (data_page, 0) ∷ (data_page, 8) ∷ (half_word, 1) ∷ (door, 7) ∷ [])
    ≡ Ok 0x1300000000010000 ∷ Err cause.Perm ∷ Err cause.Malformed ∷ Err cause.Malformed ∷ Ok 0x1080000000010000
    ∷ Err cause.Perm ∷ []

-- pointers with a shorter segment
abbrev pub Shortens : Type 0
Shortens =
    map (λ (x : ℕ × ℕ). bits (subseg_result (pointer_of x.0) x.1))
    ((data_page, 12) ∷ (data_page, 3) ∷ (data_end, 2) ∷ (half_word, 0) ∷ (door, 3) ∷ [])
    ≡ Err cause.Bounds ∷ Ok 0x20c0000000010000 ∷ Ok 0x2080000000010fff ∷ Ok 0x2000000000010000 ∷ Err cause.Perm ∷ []

-- the pointer at the next word, and the instruction pointer after a jump
abbrev pub Advances : Type 0
Advances =
    map (λ n. option_map bits_of (next_result (pointer_of n)))
    (code_start ∷ 0x3300000000100ff8 ∷ 0x30c0000000100000 ∷ door ∷ data_page ∷ a_key ∷ [])
    ≡ Some 0x3300000000100008 ∷ None ∷ None ∷ None ∷ Some 0x2300000000010008 ∷ None ∷ []

abbrev pub JumpsTo : Type 0
JumpsTo =
    map (λ n. option_map bits_of (enter_result (pointer_of n)))
    (code_start ∷ door ∷ 0x6300000000020010 ∷ data_page ∷ a_key ∷ [])
    ≡ Some code_start ∷ Some 0x3300000000020010 ∷ Some 0x4300000000020010 ∷ None ∷ None ∷ []

-- 2. Accesses: the first fault, if there is one.

abbrev pub Accesses : Type 0
Accesses =
    map (λ (x : ℕ × ℤ × Kind). first_fault (Ptr (pointer_of x.0)) x.1 x.2)
    ((data_page, pos 0xff8, LoadSet) ∷ (code_start, pos 0, Fetch) ∷ (last_word, negsuc 7, Store)
    ∷ (data_page, pos 4, Store) ∷ (data_page, pos 0xffc, Store)
    ∷ (data_page, pos 0, Fetch) ∷ (code_start, pos 0, LoadSet) ∷ (half_word, pos 0, Load) ∷ (door, pos 0, Load)
    ∷ (a_key, pos 1, Load) ∷ [])
    ≡ None ∷ None ∷ None ∷ Some cause.Align ∷ Some cause.Bounds
    ∷ Some cause.Perm ∷ Some cause.Perm ∷ Some cause.Bounds ∷ Some cause.Perm ∷ Some cause.Perm ∷ []

-- an integer with the bits of a pointer is no pointer
abbrev pub IntegersAreNoPointers : Type 0
IntegersAreNoPointers = first_fault (Int data_page) (pos 0) Load ≡ Some cause.NotPointer

-- 3. Instructions: one word of each operation, and words that are no instruction.

abbrev pub ReadsWords : Type 0
ReadsWords =
    map instr_of
    (0x0000000000000000 ∷ 0x0100000000000000 ∷ 0x0210000000000041 ∷ 0x03100000fffffffe ∷ 0x0412000000000000
    ∷ 0x0512000000000000 ∷ 0x0612300000000000
    ∷ 0x0701000000000000 ∷ 0x0810000000000000 ∷ 0x1e32000000000001 ∷ 0x2012300000000000 ∷ 0x21120000fffffffe
    ∷ 0x2212300000000000 ∷ 0x2312300000000000
    ∷ 0x2412300000000000 ∷ 0x2512000000000000 ∷ 0x3021040000000000 ∷ 0x3101310000000000 ∷ 0x40000000ffffffff
    ∷ 0x41020000fffffffe ∷ 0x42020000fffffffe
    ∷ 0x4302000000000000 ∷ 0x4412000000000000 ∷ 0x45100000fffffffe ∷ 0x5000000000000005 ∷ 0x51c0000000000000
    ∷ 0x5203020000000000 ∷ 0x532100000000000f
    ∷ 0x5401200000000003 ∷ 0x6012000000000000 ∷ 0x6112000000000000 ∷ [])
    ≡ Some Halt ∷ Some Nop ∷ Some (Ldi 1 (pos 65)) ∷ Some (Ldhi 1 (negsuc 1)) ∷ Some (Mov 1 2) ∷ Some (Isptr 1 2)
    ∷ Some (Eqw 1 2 3)
    ∷ Some (Out 1) ∷ Some (SelfSlot 1) ∷ Some (Addi 3 2 (pos 1)) ∷ Some (Lea 1 2 3) ∷ Some (Leai 1 2 (negsuc 1))
    ∷ Some (Leab 1 2 3) ∷ Some (Restrict 1 2 3)
    ∷ Some (Subseg 1 2 3) ∷ Some (Setptr 1 2) ∷ Some (Ld 2 1 pre.Full post.Keep (pos 0))
    ∷ Some (St 1 3 pre.Any post.Full (pos 0)) ∷ Some (Br (negsuc 0)) ∷ Some (Bz 2 (negsuc 1))
    ∷ Some (Bnz 2 (negsuc 1))
    ∷ Some (Jmp 2) ∷ Some (Jal 1 2) ∷ Some (Lip 1 (negsuc 1)) ∷ Some (Trap (pos 5)) ∷ Some (Evt 12)
    ∷ Some (Resume 3 Kill) ∷ Some (Rreg 2 1 15)
    ∷ Some (Wreg 1 2 3) ∷ Some (Map 1 2) ∷ Some (Unmap 1 2) ∷ []

-- the integer operations, by their numbers
abbrev pub ReadsArithmetic : Type 0
ReadsArithmetic =
    map instr_of
    (0x1012300000000000 ∷ 0x1112300000000000 ∷ 0x1212300000000000 ∷ 0x1312300000000000 ∷ 0x1412300000000000
    ∷ 0x1512300000000000 ∷ 0x1612300000000000
    ∷ 0x1712300000000000 ∷ 0x1812300000000000 ∷ 0x1912300000000000 ∷ 0x1a12300000000000 ∷ 0x1b12300000000000
    ∷ 0x1c12300000000000 ∷ 0x1d12300000000000 ∷ [])
    ≡ map (λ op. Some (Alu op 1 2 3))
    (Add ∷ Sub ∷ Mul ∷ Divu ∷ Remu ∷ And ∷ Or ∷ Xor ∷ Shl ∷ Shr ∷ Sar ∷ Eq ∷ Ltu ∷ Lts ∷ [])

-- words that are no instruction: no such operation, a field that is not used, bits 39 to 32, a condition and a way that
-- do not exist, registers past the last one
abbrev pub ReadsNone : Type 0
ReadsNone =
    map instr_of
    (0x0900000000000000 ∷ 0x1f00000000000000 ∷ 0x2600000000000000 ∷ 0x6200000000000000 ∷ 0xff00000000000000
    ∷ 0x0000000000000001 ∷ 0x0701000000000001
    ∷ 0x0711000000000000 ∷ 0x0210000100000041 ∷ 0x0210008000000041 ∷ 0x3021030000000000 ∷ 0x3021070000000000
    ∷ 0x30210b0000000000 ∷ 0x5203030000000000
    ∷ 0x51d0000000000000 ∷ 0x5321000000000010 ∷ [])
    ≡ replicate 16 None

-- 4. Arithmetic.

abbrev pub Calculates : Type 0
Calculates =
    map (λ (x : AluOp × ℕ × ℕ). alu_result x.0 x.1 x.2)
    ((Add, 2 ^ 64 - 1, 2) ∷ (Sub, 1, 3) ∷ (Mul, 2 ^ 64 - 1, 2) ∷ (Divu, 7, 2) ∷ (Divu, 7, 0) ∷ (Remu, 7, 2)
    ∷ (Remu, 7, 0) ∷ (And, 0xc, 0xa) ∷ (Or, 0xc, 0xa)
    ∷ (Xor, 0xc, 0xa) ∷ (Shl, 3, 63) ∷ (Shl, 3, 64) ∷ (Shr, 2 ^ 63, 63) ∷ (Shr, 5, 64) ∷ (Sar, 2 ^ 64 - 2, 1)
    ∷ (Sar, 2 ^ 63, 63) ∷ (Sar, 6, 1) ∷ (Eq, 5, 5)
    ∷ (Eq, 5, 6) ∷ (Ltu, 2 ^ 64 - 2, 1) ∷ (Lts, 2 ^ 64 - 2, 1) ∷ (Lts, 1, 1) ∷ [])
    ≡ Ok 1 ∷ Ok (2 ^ 64 - 2) ∷ Ok (2 ^ 64 - 2) ∷ Ok 3 ∷ Err div_zero ∷ Ok 1 ∷ Err div_zero ∷ Ok 0x8 ∷ Ok 0xe
    ∷ Ok 0x6 ∷ Ok (2 ^ 63) ∷ Ok 3 ∷ Ok 1 ∷ Ok 5 ∷ Ok (2 ^ 64 - 1) ∷ Ok (2 ^ 64 - 1) ∷ Ok 3 ∷ Ok 1
    ∷ Ok 0 ∷ Ok 0 ∷ Ok 1 ∷ Ok 0 ∷ []
