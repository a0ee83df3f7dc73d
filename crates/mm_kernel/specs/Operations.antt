-- What an instruction makes of the forms of its operands.
use Rattle.std.specs.Prelude.{ℕ, ◌%◌, Bool, true, false, ◌&&◌, ◌==◌, nat_lt, if◌then◌else◌, ℤ, List, [], ◌∷◌, Option}
use Rattle.std.specs.{Prelude.{Some, None, Result, Ok, Err}, List.filter}
use Rattle.mm_word.specs.declared.{perm.Perm.{Perm, TheVariants.{Ro, Rw, Xu, Xp, Eu, Ep, Key}}, word.Word.Word}
use Rattle.mm_word.specs.{Perm.{code_of, can_become}, Pointer.{Pointer as PointerValue, bits_of}}
use Rattle.mm_isa.specs.{declared.instr.{AluOp.{AluOp, TheVariants.Shr}, DivZero.DivZero}, Alu.alu_result}
use Rattle.mm_model.specs.Effect.{same_word, test, high_and_low}
use Rattle.mm_kernel.specs.declared.form.Form.{Form, TheVariants.{Number, Pointer, Integer, Open, Inside}}
use Rattle.mm_kernel.specs.Forms.{exact, exact_bits}

-- 1. Integers.

-- a result is kept as it is if it is below 64: an offset or the code of a permission, and no count that grows
abbrev pub small : ℕ → Form
small n = if nat_lt n 64 then Number n else Integer

abbrev pub small_result : Result ℕ DivZero → Form
small_result (Ok n) = small n
small_result (Err e) = Integer

-- the bits that are shifted out leave a pointer's permission
abbrev pub leaves_code : AluOp → (bits : ℕ) → Bool
leaves_code Shr bits = bits % 64 == 60
leaves_code _ bits = false

-- the result of an operation on a form and known bits
abbrev pub alu_by : AluOp → Form → ℕ → Form
alu_by op (Number a) bits = small_result (alu_result op a bits)
alu_by op (Pointer p) bits = small_result (alu_result op (bits_of p) bits)
alu_by op (Open perm) bits = if leaves_code op bits then Number (code_of perm) else Integer
alu_by op (Inside p) bits = if leaves_code op bits then Number (code_of p.perm) else Integer
alu_by op _ bits = Integer

abbrev pub alu_if_exact : AluOp → Form → Option ℕ → Form
alu_if_exact op a None = Integer
alu_if_exact op a (Some bits) = alu_by op a bits

-- the result of an operation on two forms
unfoldable pub alu_form : AluOp → Form → Form → Form
alu_form op a b = alu_if_exact op a (exact_bits b)

-- a divisor may be 0; it is 0
abbrev pub may_be_zero : Option ℕ → Bool
may_be_zero None = true
may_be_zero (Some bits) = bits == 0

abbrev pub is_zero : Option ℕ → Bool
is_zero None = false
is_zero (Some bits) = bits == 0

abbrev pub equal_if_exact : Option Word → Option Word → Form
equal_if_exact (Some v) (Some w) = Number (test (same_word v w))
equal_if_exact _ _ = Integer

-- whether two words are equal in tag and bits
unfoldable pub equal_form : Form → Form → Form
equal_form a b = equal_if_exact (exact a) (exact b)

abbrev pub high_if_exact : Option ℕ → ℤ → Form
high_if_exact None imm = Integer
high_if_exact (Some bits) imm = Number (high_and_low bits imm)

unfoldable pub high_form : Form → ℤ → Form
high_form f imm = high_if_exact (exact_bits f) imm

-- 2. Permissions.

abbrev pub permissions : List Perm
permissions = Ro ∷ Rw ∷ Xu ∷ Xp ∷ Eu ∷ Ep ∷ Key ∷ []

-- the operand may name the permission: it does, or its bits are not known
abbrev pub may_name : Option ℕ → Perm → Bool
may_name None perm = true
may_name (Some bits) perm = bits == code_of perm

-- the permissions that one may become by an operand
unfoldable pub choices : Perm → Form → List Perm
choices from b = filter (λ to. can_become from to && may_name (exact_bits b) to) permissions

abbrev pub inside_as : PointerValue → Perm → Form
inside_as p Key = Open Key
inside_as p to = Inside (record p { perm = to })

-- a form with another permission
unfoldable pub with_permission : Form → Perm → Form
with_permission (Pointer p) to = Pointer (record p { perm = to })
with_permission (Inside p) to = inside_as p to
with_permission form to = Open to

-- the permission of a form that stands for pointers of one permission
abbrev pub permission_of : Form → Option Perm
permission_of (Pointer p) = Some p.perm
permission_of (Open perm) = Some perm
permission_of (Inside p) = Some p.perm
permission_of _ = None
