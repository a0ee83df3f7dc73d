-- What a turn of a thread can come to, instruction by instruction.
use Rattle.std.specs.Prelude.{ℕ, ◌+◌, Bool, true, false, ◌==◌, is_some, if◌then◌else◌, ℤ, pos, ◌+ℤ◌, ◌*ℤ◌, List, []}
use Rattle.std.specs.Prelude.{◌∷◌, ◌++◌, map, Option, Some, None, Result, Ok, Err}
use Rattle.std.specs.Int.{w64, cast_unsigned, cast_signed}
use Rattle.mm_word.specs.declared.perm.Perm.{Perm, TheVariants.{Ro, Rw, Xu, Eu, Key}}
use Rattle.mm_word.specs.declared.{perm.Kind.{Kind, TheVariants.{Fetch, Store}}, cause.Cause.Cause}
use Rattle.mm_word.specs.{declared.word.{Pre.Pre, Word.TheVariants.Ptr, Cell.Cell}, Access.{AccessValue, check_result}}
use Rattle.mm_word.specs.Perm.{can_move, allows, execute_form}
use Rattle.mm_word.specs.Pointer.{Pointer as PointerValue, moved_to, lea_result, leab_result, subseg_result}
use Rattle.mm_word.specs.Pointer.{next_result, enter_result}
use Rattle.mm_isa.specs.{declared.instr.{AluOp.TheVariants.Add, Instr.Instr}, Alu.divides}
use Rattle.mm_model.specs.{Memory.cell_at, Image.Image, Operands.{field_a, field_b, field_imm}, Ask.load_kind}
use Rattle.mm_model.specs.Turn.{instr_in}
use Rattle.mm_kernel.specs.Segments.{Segment, is_kept, is_fixed}
use Rattle.mm_kernel.specs.declared.form.Form.{Form, TheVariants.{Number, Pointer, Integer, Open, Any, Inside}}
use Rattle.mm_kernel.specs.declared.outcome.Outcome.{Outcome}
use Rattle.mm_kernel.specs.declared.outcome.Outcome.TheVariants.{Goes, Loads, Stores, HandsOut, Leaves, Leaks, Faults}
use Rattle.mm_kernel.specs.declared.outcome.Outcome.TheVariants.{TakesEvent, Resumes, ReadsServed, WritesServed}
use Rattle.mm_kernel.specs.{declared.thread.Thread.Thread, Forms.{exactly, exact_bits, zero_form, stored_form, around}}
use Rattle.mm_kernel.specs.Threads.{form_in, with_form, stepped, going_to}
use Rattle.mm_kernel.specs.Operations.{alu_form, may_be_zero, is_zero, equal_form, high_form, choices, with_permission}
use Rattle.mm_kernel.specs.Operations.{permission_of}
use Rattle.mm_word.specs.declared.word.Pre.TheVariants as pres
use Rattle.mm_isa.specs.declared.instr.Instr.TheVariants as instr
use Rattle.mm_kernel.specs.declared.fact.Leak.TheVariants as leak

-- 1. Operands.

abbrev pub operand_a : Thread → Option ℕ → Form
operand_a t None = zero_form
operand_a t (Some r) = form_in t r

abbrev pub operand_b : Thread → Option ℕ → ℤ → Form
operand_b t None imm = Number (cast_unsigned w64 imm)
operand_b t (Some r) imm = form_in t r

-- the turn faults at its instruction
unfoldable pub fault : Thread → Instr → Outcome
fault t i = Faults (operand_a t (field_a i)) (operand_b t (field_b i) (field_imm i))

-- the turn faults before it has an instruction
abbrev pub early_fault : Outcome
early_fault = Faults zero_form zero_form

-- register rd gets a form, and the thread goes on
unfoldable pub sets : Thread → ℕ → Form → Outcome
sets t rd f = Goes (with_form (stepped t) rd f)

-- 2. Pointers.

abbrev pub moved : Thread → Instr → ℕ → Result PointerValue Cause → List Outcome
moved t i rd (Ok p) = sets t rd (Pointer p) ∷ []
moved t i rd (Err c) = fault t i ∷ []

-- a pointer of a known permission is moved or narrowed by an operand that is not known
abbrev pub moved_somewhere : Thread → Instr → ℕ → Perm → Form → List Outcome
moved_somewhere t i rd perm f = if can_move perm then fault t i ∷ sets t rd f ∷ [] else fault t i ∷ []

abbrev pub pointer_moved : List Segment → Thread → Instr → ℕ → PointerValue → Option ℕ
    → (PointerValue → ℕ → Result PointerValue Cause)
    → List Outcome
pointer_moved kept t i rd p None by = moved_somewhere t i rd p.perm (around kept p)
pointer_moved kept t i rd p (Some bits) by = moved t i rd (by p bits)

-- a form is moved or narrowed by the bits of another
unfoldable pub moves : List Segment → Thread → Instr → ℕ → Form → Option ℕ
    → (PointerValue → ℕ → Result PointerValue Cause)
    → List Outcome
moves kept t i rd (Number n) bits by = fault t i ∷ []
moves kept t i rd (Pointer p) bits by = pointer_moved kept t i rd p bits by
moves kept t i rd Integer bits by = fault t i ∷ []
moves kept t i rd (Open perm) bits by = moved_somewhere t i rd perm (Open perm)
moves kept t i rd Any bits by = fault t i ∷ sets t rd Any ∷ []
moves kept t i rd (Inside p) bits by = moved_somewhere t i rd p.perm (Inside p)

-- no permission that may be named is one that this may become, or the operand may name none
abbrev pub may_refuse : Option ℕ → List Perm → Bool
may_refuse None choices = true
may_refuse (Some bits) [] = true
may_refuse (Some bits) (to ∷ more) = false

abbrev pub restricted : Thread → Instr → ℕ → Form → Form → List Perm → List Outcome
restricted t i rd a b to =
    map (λ perm. sets t rd (with_permission a perm)) to
    ++ (if may_refuse (exact_bits b) to then fault t i ∷ [] else [])

abbrev pub restricts_as : Thread → Instr → ℕ → Form → Form → Option Perm → List Outcome
restricts_as t i rd a b None = fault t i ∷ []
restricts_as t i rd a b (Some perm) = restricted t i rd a b (choices perm b)

unfoldable pub restricts : Thread → Instr → ℕ → Form → Form → List Outcome
restricts t i rd Any b = fault t i ∷ sets t rd Any ∷ []
restricts t i rd a b = restricts_as t i rd a b (permission_of a)

-- 3. Memory.

-- an access that asks for the synchronisation bit can fault too
abbrev pub waits : Thread → Instr → Pre → List Outcome
waits t i pres.Any = []
waits t i _ = fault t i ∷ []

abbrev pub word_loaded : Image → List Segment → Thread → ℕ → ℕ → Cell → Outcome
word_loaded i kept t rd w c =
    if is_kept kept w then Loads (w, 3) rd (stepped t)
    else if is_fixed i w then sets t rd (exactly c.word) else sets t rd Any

abbrev pub loaded_at : Image → List Segment → Thread → Instr → ℕ → Pre → ℕ → Option Cell → List Outcome
loaded_at image kept t i rd pre w None = fault t i ∷ []
loaded_at image kept t i rd pre w (Some c) = word_loaded image kept t rd w c ∷ waits t i pre

abbrev pub loaded_by : Image → List Segment → Thread → Instr → ℕ → Pre → Result AccessValue Cause → List Outcome
loaded_by image kept t i rd pre (Err c) = fault t i ∷ []
loaded_by image kept t i rd pre (Ok a) = loaded_at image kept t i rd pre a.addr (cell_at image.memory a.addr)

unfoldable pub loads : Image → List Segment → Thread → Instr → ℕ → Form → ℤ → Pre → Kind → List Outcome
loads image kept t i rd (Number n) imm pre kind = fault t i ∷ []
loads image kept t i rd (Pointer p) imm pre kind = loaded_by image kept t i rd pre (check_result (Ptr p) imm kind)
loads image kept t i rd Integer imm pre kind = fault t i ∷ []
loads image kept t i rd (Open perm) imm pre kind =
    if allows perm kind then fault t i ∷ sets t rd Any ∷ [] else fault t i ∷ []
loads image kept t i rd Any imm pre kind = fault t i ∷ sets t rd Any ∷ []
loads image kept t i rd (Inside p) imm pre kind =
    if allows p.perm kind then fault t i ∷ Loads (p.addr, p.log) rd (stepped t) ∷ [] else fault t i ∷ []

-- a store outside of the kept words hands its word out
abbrev pub stores_outside : Thread → ℕ → Outcome
stores_outside t rb = HandsOut (form_in t rb) (leak.Store t.ip.addr rb (form_in t rb))

abbrev pub word_stored : List Segment → Thread → ℕ → ℕ → Outcome
word_stored kept t rb w = if is_kept kept w then Stores (w, 3) (stored_form (form_in t rb)) else stores_outside t rb

abbrev pub stored_at : List Segment → Thread → Instr → ℕ → Pre → ℕ → Option Cell → List Outcome
stored_at kept t i rb pre w None = fault t i ∷ []
stored_at kept t i rb pre w (Some c) = word_stored kept t rb w ∷ Goes (stepped t) ∷ waits t i pre

abbrev pub stored_by : Image → List Segment → Thread → Instr → ℕ → Pre → Result AccessValue Cause → List Outcome
stored_by image kept t i rb pre (Err c) = fault t i ∷ []
stored_by image kept t i rb pre (Ok a) = stored_at kept t i rb pre a.addr (cell_at image.memory a.addr)

unfoldable pub stores : Image → List Segment → Thread → Instr → Form → ℕ → ℤ → Pre → List Outcome
stores image kept t i (Number n) rb imm pre = fault t i ∷ []
stores image kept t i (Pointer p) rb imm pre = stored_by image kept t i rb pre (check_result (Ptr p) imm Store)
stores image kept t i Integer rb imm pre = fault t i ∷ []
stores image kept t i (Open perm) rb imm pre =
    if allows perm Store then fault t i ∷ stores_outside t rb ∷ Goes (stepped t) ∷ [] else fault t i ∷ []
stores image kept t i Any rb imm pre = fault t i ∷ stores_outside t rb ∷ Goes (stepped t) ∷ []
stores image kept t i (Inside p) rb imm pre =
    if allows p.perm Store
    then fault t i ∷ Stores (p.addr, p.log) (stored_form (form_in t rb)) ∷ Goes (stepped t) ∷ []
    else fault t i ∷ []

-- 4. Jumps.

abbrev pub branched : Thread → Instr → Result PointerValue Cause → Outcome
branched t i (Ok p) = Goes (going_to t p)
branched t i (Err c) = fault t i

-- the address at a distance in words from the instruction
abbrev pub at_distance : Thread → ℤ → Result PointerValue Cause
at_distance t imm = moved_to t.ip (pos t.ip.addr +ℤ (pos 8 *ℤ imm))

unfoldable pub branches : Thread → Instr → ℤ → Outcome
branches t i imm = branched t i (at_distance t imm)

-- the branch is taken if the form is that of 0 alone, or if it is not; else both can be
abbrev pub branches_if : (if_zero : Bool) → Thread → Instr → Option ℕ → ℤ → List Outcome
branches_if if_zero t i None imm = branches t i imm ∷ Goes (stepped t) ∷ []
branches_if true t i (Some bits) imm = (if bits == 0 then branches t i imm else Goes (stepped t)) ∷ []
branches_if false t i (Some bits) imm = (if bits == 0 then Goes (stepped t) else branches t i imm) ∷ []

abbrev pub jumped : Thread → Thread → Instr → Option PointerValue → List Outcome
jumped t linked i None = fault t i ∷ []
jumped t linked i (Some to) = Goes (going_to linked to) ∷ []

-- a jump through a form; the thread goes on, or leaves, with its link
unfoldable pub jumps : Thread → Thread → Instr → ℕ → Form → List Outcome
jumps t linked i ra (Number n) = fault t i ∷ []
jumps t linked i ra (Pointer p) = jumped t linked i (enter_result p)
jumps t linked i ra Integer = fault t i ∷ []
jumps t linked i ra (Open perm) = if is_some (execute_form perm) then Leaves linked ∷ [] else fault t i ∷ []
jumps t linked i ra Any = fault t i ∷ Leaves linked ∷ []
jumps t linked i ra (Inside p) =
    if is_some (execute_form p.perm)
    then Leaks (leak.Enter t.ip.addr ra (Inside p)) ∷ []
    else fault t i ∷ []

abbrev pub links : Thread → Instr → ℕ → ℕ → Option PointerValue → List Outcome
links t i rd ra None = fault t i ∷ []
links t i rd ra (Some back) = jumps t (with_form t rd (Pointer back)) i ra (form_in t ra)

-- 5. The tag of a form that is not known is looked at: each kind of pointer goes on by itself.

abbrev pub seen_as : Thread → ℕ → ℕ → Form → ℕ → Outcome
seen_as t rd ra f tag = Goes (with_form (with_form (stepped t) ra f) rd (Number tag))

abbrev pub open_permissions : List Perm
open_permissions = Ro ∷ Rw ∷ Xu ∷ Eu ∷ Key ∷ []

unfoldable pub tests_tag : Thread → ℕ → ℕ → Form → List Outcome
tests_tag t rd ra (Number bits) = sets t rd (Number 0) ∷ []
tests_tag t rd ra Integer = sets t rd (Number 0) ∷ []
tests_tag t rd ra Any = seen_as t rd ra Integer 0 ∷ map (λ perm. seen_as t rd ra (Open perm) 1) open_permissions
tests_tag t rd ra _ = sets t rd (Number 1) ∷ []

-- 6. The table of instructions: what a turn of each can come to.

-- a division can fault if its divisor may be 0, and has a result unless that is 0
abbrev pub computes : Thread → Instr → Bool → ℕ → Form → Option ℕ → List Outcome
computes t i false rd f divisor = sets t rd f ∷ []
computes t i true rd f divisor =
    (if may_be_zero divisor then fault t i ∷ [] else []) ++ (if is_zero divisor then [] else sets t rd f ∷ [])

-- four registers with the words of an event, of which only the first is known to be an integer
abbrev pub with_event : Thread → ℕ → Form → Form → Form → Thread
with_event t rd ip address value =
    with_form (with_form (with_form (with_form t rd Integer) (rd + 1) ip) (rd + 2) address) (rd + 3) value

unfoldable pub outcomes_of : Image → List Segment → Thread → Instr → List Outcome
outcomes_of image kept t instr.Halt = []
outcomes_of image kept t instr.Nop = Goes (stepped t) ∷ []
outcomes_of image kept t (instr.Ldi rd imm) = sets t rd (Number (cast_unsigned w64 imm)) ∷ []
outcomes_of image kept t (instr.Ldhi rd imm) = sets t rd (high_form (form_in t rd) imm) ∷ []
outcomes_of image kept t (instr.Mov rd ra) = sets t rd (form_in t ra) ∷ []
outcomes_of image kept t (instr.Isptr rd ra) = tests_tag t rd ra (form_in t ra)
outcomes_of image kept t (instr.Eqw rd ra rb) = sets t rd (equal_form (form_in t ra) (form_in t rb)) ∷ []
outcomes_of image kept t (instr.Out ra) = fault t (instr.Out ra) ∷ Goes (stepped t) ∷ []
outcomes_of image kept t (instr.SelfSlot rd) = sets t rd Integer ∷ []
outcomes_of image kept t (instr.Alu op rd ra rb) =
    computes t (instr.Alu op rd ra rb) (divides op) rd (alu_form op (form_in t ra) (form_in t rb))
    (exact_bits (form_in t rb))
outcomes_of image kept t (instr.Addi rd ra imm) =
    sets t rd (alu_form Add (form_in t ra) (Number (cast_unsigned w64 imm))) ∷ []
outcomes_of image kept t (instr.Lea rd ra rb) =
    moves kept t (instr.Lea rd ra rb) rd (form_in t ra) (exact_bits (form_in t rb))
    (λ p bits. lea_result p (cast_signed w64 bits))
outcomes_of image kept t (instr.Leai rd ra imm) =
    moves kept t (instr.Leai rd ra imm) rd (form_in t ra) (Some 0) (λ p bits. lea_result p imm)
outcomes_of image kept t (instr.Leab rd ra rb) =
    moves kept t (instr.Leab rd ra rb) rd (form_in t ra) (exact_bits (form_in t rb))
    (λ p bits. leab_result p (cast_signed w64 bits))
outcomes_of image kept t (instr.Restrict rd ra rb) =
    restricts t (instr.Restrict rd ra rb) rd (form_in t ra) (form_in t rb)
outcomes_of image kept t (instr.Subseg rd ra rb) =
    moves kept t (instr.Subseg rd ra rb) rd (form_in t ra) (exact_bits (form_in t rb)) subseg_result
outcomes_of image kept t (instr.Ld rd ra pre post imm) =
    loads image kept t (instr.Ld rd ra pre post imm) rd (form_in t ra) imm pre (load_kind post)
outcomes_of image kept t (instr.St ra rb pre post imm) =
    stores image kept t (instr.St ra rb pre post imm) (form_in t ra) rb imm pre
outcomes_of image kept t (instr.Br imm) = branches t (instr.Br imm) imm ∷ []
outcomes_of image kept t (instr.Bz ra imm) = branches_if true t (instr.Bz ra imm) (exact_bits (form_in t ra)) imm
outcomes_of image kept t (instr.Bnz ra imm) = branches_if false t (instr.Bnz ra imm) (exact_bits (form_in t ra)) imm
outcomes_of image kept t (instr.Jmp ra) = jumps t t (instr.Jmp ra) ra (form_in t ra)
outcomes_of image kept t (instr.Jal rd ra) = links t (instr.Jal rd ra) rd ra (next_result t.ip)
outcomes_of image kept t (instr.Lip rd imm) = moved t (instr.Lip rd imm) rd (at_distance t imm)
outcomes_of image kept t (instr.Evt rd) =
    Goes (with_event (stepped t) rd Any Any Any) ∷ TakesEvent rd (stepped t) ∷ []
outcomes_of image kept t (instr.Resume ra how) =
    fault t (instr.Resume ra how) ∷ Goes (stepped t) ∷ Resumes how ∷ []
outcomes_of image kept t (instr.Rreg rd ra reg) =
    fault t (instr.Rreg rd ra reg) ∷ sets t rd Any ∷ ReadsServed rd reg (stepped t) ∷ []
outcomes_of image kept t (instr.Wreg ra rb reg) =
    fault t (instr.Wreg ra rb reg) ∷ Goes (stepped t) ∷ HandsOut (form_in t rb) (leak.Give t.ip.addr rb (form_in t rb))
    ∷ WritesServed reg (form_in t rb) ∷ []
-- what is for privileged code, and a trap
outcomes_of image kept t i = fault t i ∷ []

-- 7. The turn.

abbrev pub decoded : Image → List Segment → Thread → Option Instr → List Outcome
decoded image kept t None = early_fault ∷ []
decoded image kept t (Some i) = outcomes_of image kept t i

-- code that a caller may be able to change is a leak
abbrev pub fetched : Image → List Segment → Thread → ℕ → Option Cell → List Outcome
fetched image kept t w None = early_fault ∷ []
fetched image kept t w (Some c) =
    if is_fixed image w then decoded image kept t (instr_in c.word) else Leaks (leak.Code w) ∷ []

abbrev pub aimed : Image → List Segment → Thread → Result AccessValue Cause → List Outcome
aimed image kept t (Err c) = early_fault ∷ []
aimed image kept t (Ok a) = fetched image kept t a.addr (cell_at image.memory a.addr)

-- what the turn of a thread can come to
unfoldable pub outcomes : Image → List Segment → Thread → List Outcome
outcomes image kept t =
    if t.past then early_fault ∷ [] else aimed image kept t (check_result (Ptr t.ip) (pos 0) Fetch)
