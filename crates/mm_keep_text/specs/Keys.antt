-- In which order forms, cells and leaks are told: that of their keys.
use Rattle.std.specs.Prelude.{◌≡◌, ℕ, ◌+◌, ◌-◌, true, ◌==◌, if◌then◌else◌, unwrap_or, List, [], ◌∷◌}
use Rattle.std.specs.{Ordering.{is_lt, nat_cmp}, Cmp.Lexicographic.slice_cmp}
use Rattle.mm_word.specs.{declared.perm.Perm.TheVariants.Key, Perm.{code_of, perm_of}}
use Rattle.mm_word.specs.Pointer.{Pointer as PointerValue, bits_of, pointer_of}
use Rattle.mm_kernel.specs.declared.form.Form.{Form, TheVariants.{Number, Pointer, Integer, Open, Any, Inside}}
use Rattle.mm_kernel.specs.declared.fact.Leak.{Leak}
use Rattle.mm_kernel.specs.declared.fact.Leak.TheVariants as leak
use Rattle.mm_span.specs.Pairs.{EachPair}

-- 1. Keys. All keys of a kind have as many numbers; those that nothing needs are 0.

-- forms that stand for one word, integers before pointers and by their bits; then the others
abbrev pub form_key : Form → List ℕ
form_key (Number bits) = 0 ∷ bits ∷ 0 ∷ 0 ∷ []
form_key (Pointer p) = 1 ∷ bits_of p ∷ 0 ∷ 0 ∷ []
form_key Integer = 2 ∷ 0 ∷ 0 ∷ 0 ∷ []
form_key (Open perm) = 3 ∷ code_of perm ∷ 0 ∷ 0 ∷ []
form_key Any = 4 ∷ 0 ∷ 0 ∷ 0 ∷ []
form_key (Inside p) = 5 ∷ code_of p.perm ∷ p.addr ∷ p.log ∷ []

abbrev pub pointer_key : PointerValue → List ℕ
pointer_key p = bits_of p ∷ []

-- by word, then by form
abbrev pub cell_key : ℕ × Form → List ℕ
cell_key cell = cell.0 ∷ form_key cell.1

-- the kind of a leak, its address and its register; an instruction pointer comes before the registers
abbrev pub leak_place : Leak → ℕ × ℕ × ℕ
leak_place (leak.Across p) = (0, bits_of p, 0)
leak_place (leak.Cell word form) = (1, word, 0)
leak_place (leak.Code word) = (2, word, 0)
leak_place (leak.Jump at reg form) = (3, at, reg)
leak_place (leak.Enter at reg form) = (4, at, reg)
leak_place (leak.Store at reg form) = (5, at, reg)
leak_place (leak.Give at reg form) = (6, at, reg)
leak_place (leak.FaultPointer at) = (7, at, 0)
leak_place (leak.Fault at reg form) = (7, at, reg + 1)
leak_place (leak.Loose slot) = (8, slot, 0)

-- the form of a leak; that of 0, if it has none
abbrev pub leak_form : Leak → Form
leak_form (leak.Cell word form) = form
leak_form (leak.Jump at reg form) = form
leak_form (leak.Enter at reg form) = form
leak_form (leak.Store at reg form) = form
leak_form (leak.Give at reg form) = form
leak_form (leak.Fault at reg form) = form
leak_form _ = Number 0

-- by the kind of the leak; then by address, register and form
abbrev pub leak_key : Leak → List ℕ
leak_key l = (leak_place l).0 ∷ (leak_place l).1 ∷ (leak_place l).2 ∷ form_key (leak_form l)

-- the keys ascend: each is less than all that follow it
abbrev pub Ascend : {A : Type 0} → (A → List ℕ) → List A → Type 0
Ascend key = EachPair (λ a b. is_lt (slice_cmp nat_cmp (key a) (key b)) ≡ true)

-- 2. What keys are of.

abbrev pub form_by : ℕ → ℕ → ℕ → ℕ → Form
form_by kind a b c =
    if kind == 0 then Number a
    else if kind == 1 then Pointer (pointer_of a)
    else if kind == 2 then Integer
    else if kind == 3 then Open (unwrap_or (perm_of a) Key)
    else if kind == 4 then Any
    else Inside (record { perm = unwrap_or (perm_of a) Key; log = c; addr = b })

abbrev pub form_from : List ℕ → Form
form_from (kind ∷ a ∷ b ∷ c ∷ []) = form_by kind a b c
form_from _ = Any

abbrev pub pointer_from : List ℕ → PointerValue
pointer_from (bits ∷ []) = pointer_of bits
pointer_from _ = pointer_of 0

abbrev pub cell_from : List ℕ → ℕ × Form
cell_from (word ∷ form) = (word, form_from form)
cell_from _ = (0, Any)

abbrev pub leak_by : ℕ → ℕ → ℕ → Form → Leak
leak_by kind at reg form =
    if kind == 0 then leak.Across (pointer_of at)
    else if kind == 1 then leak.Cell at form
    else if kind == 2 then leak.Code at
    else if kind == 3 then leak.Jump at reg form
    else if kind == 4 then leak.Enter at reg form
    else if kind == 5 then leak.Store at reg form
    else if kind == 6 then leak.Give at reg form
    else if kind == 7 then (if reg == 0 then leak.FaultPointer at else leak.Fault at (reg - 1) form)
    else leak.Loose at

abbrev pub leak_from : List ℕ → Leak
leak_from (kind ∷ at ∷ reg ∷ form) = leak_by kind at reg (form_from form)
leak_from _ = leak.Code 0
