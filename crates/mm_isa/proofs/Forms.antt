-- Operations are found by their names and by their numbers.
use Rattle.std.proofs.Common.{◌≡◌, ◌≢◌, ℕ, ◌<◌, nat_lt, nat_eq, if◌then◌else◌, Bool, true, false, List, [], ◌∷◌, ◌++◌}
use Rattle.std.proofs.Common.{length, map, fold, Option, Some, None, IfSome, refl, ap, sym, ◌∙◌}
use Rattle.std.proofs.lemmas.Cmp.{nat_eq_equiv, nat_list_eq_equiv}
use Rattle.std.proofs.lemmas.{Map.Made.{AllPairs-from_IsDistinct, IsDistinct-from_count}, Slice.Eq.bytes_eq-Decides}
use Rattle.std.specs.{Bool.Decides, Cmp.unsigned_Decides, List.{find, AllPairs}, Option.option_map, Str.bytes_eq}
use Rattle.mm_isa.specs.declared.fields.Fields.{Fields}
use Rattle.mm_isa.specs.declared.instr.{AluOp.{AluOp, TheVariants.Add}, Instr.{Instr, TheVariants.{Halt, Alu}}}
use Rattle.mm_isa.specs.{declared.operand.Operand.Operand, Table.{operation_of, kind_of, unused, fields_of, IsInstr}}
use Rattle.mm_isa.specs.Decode.{Form, form_of, rows, row_of, forms, operation_named}
use Rattle.mm_isa.proofs.{Operands.code_small, Rows.row_of-fields_of}

integer_named : (op : AluOp) (rd ra rb : ℕ) → operation_named (operation_of (Alu op rd ra rb)).name ≡ Some (form_of (Alu op rd ra rb))
unfolding operation_named forms rows
integer_named Add rd ra rb = refl
integer_named _ rd ra rb = refl

-- each instruction's name is that of its form
pub operation_named-name : (i : Instr) → operation_named (operation_of i).name ≡ Some (form_of i)
unfolding operation_named forms rows
operation_named-name (Alu op rd ra rb) = integer_named op rd ra rb
operation_named-name Halt = refl
operation_named-name _ = refl

integer_coded : (op : AluOp) (rd ra rb : ℕ) → option_map form_of (row_of (unused (operation_of (Alu op rd ra rb)).code)) ≡ Some (form_of (Alu op rd ra rb))
unfolding row_of rows
integer_coded Add rd ra rb = refl
integer_coded _ rd ra rb = refl

-- each instruction's number is that of its form
pub row_of-code : (i : Instr) → option_map form_of (row_of (unused (operation_of i).code)) ≡ Some (form_of i)
unfolding row_of rows
row_of-code (Alu op rd ra rb) = integer_coded op rd ra rb
row_of-code Halt = refl
row_of-code _ = refl

-- the row with this number, where there is one, has another name
abbrev pub NamesOther : List ℕ → Option Instr → Type 0
NamesOther name o = IfSome o (λ i. (operation_of i).name ≢ name)

taken : {A : Type 0} {x y : A} → Some x ≡ Some y → x ≡ y
taken e = cc

other : (name : List ℕ) (o : Option Instr) (i : Instr) → NamesOther name o → option_map form_of o ≡ Some (form_of i) → (operation_of i).name ≢ name
other name None i h e = cc
other name (Some j) i h e = λ same.
    let there : (operation_of j).name ≡ (operation_of i).name = ap (λ (form : Form). form.name) (taken e) in
    h (there ∙ same)

-- where no row has this name, no instruction has it
pub no_instr_named : (name : List ℕ) → ((code : ℕ) → code < 0x62 → NamesOther name (row_of (unused code))) → (i : Instr) → (operation_of i).name ≢ name
no_instr_named name none i =
    let c : ℕ = (operation_of i).code in
    other name (row_of (unused c)) i (none c (code_small i)) (row_of-code i)

skipped : (name : List ℕ) (is : List Instr) → ((i : Instr) → bytes_eq (operation_of i).name name ≡ false) → find (λ (form : Form). bytes_eq form.name name) (map form_of is) ≡ None
skipped name [] h = refl
skipped name (i ∷ is) h = rw (h i) (skipped name is h)

-- and no operation is found
pub operation_named-none : (name : List ℕ) → ((i : Instr) → (operation_of i).name ≢ name) → operation_named name ≡ None
unfolding operation_named forms
operation_named-none name none = skipped name (rows (unused 0)) (λ i. by (bytes_eq (operation_of i).name name) (bytes_eq-Decides (operation_of i).name name) (none i))
  where
    by : (b : Bool) {P : Type 0} → Decides b P → (P → ⊥) → b ≡ false
    by true d h = absurd (h (d.0 refl))
    by false d h = refl

-- the test of a name
pub name_read : (name : List ℕ) (i : Instr) → bytes_eq (operation_of i).name name ≡ true → (operation_of i).name ≡ name
name_read name i same = (bytes_eq-Decides (operation_of i).name name).0 same

pub name_not_read : (name : List ℕ) (i : Instr) → bytes_eq (operation_of i).name name ≡ false → (operation_of i).name ≢ name
name_not_read name i differ = λ same.
    let is : bytes_eq (operation_of i).name name ≡ true = (bytes_eq-Decides (operation_of i).name name).1 same in
    cc

-- a form is full with the kinds of its row
pub form_made : (i : Instr) →
    fold (λ (form : Form) (o : Operand). if nat_lt (length form.kinds) 5 then record form { kinds = form.kinds ++ kind_of o ∷ [] } else form)
    (record { name = (operation_of i).name; code = (operation_of i).code; kinds = [] })
    (operation_of i).operands
    ≡ form_of i
form_made Halt = refl
form_made _ = refl

-- the rows of any fields have the same forms
pub forms-rows : (f : Fields) → map form_of (rows f) ≡ forms
unfolding forms rows
forms-rows f = refl

pub names_apart : AllPairs (λ x y. x ≢ y) (map (λ (form : Form). form.name) forms)
unfolding forms rows
names_apart =
    let names : List (List ℕ) = map (λ (form : Form). form.name) forms in
    AllPairs-from_IsDistinct {eq = bytes_eq} bytes_eq-Decides names (IsDistinct-from_count nat_list_eq_equiv names refl)

pub numbers_apart : AllPairs (λ x y. x ≢ y) (map (λ (form : Form). form.code) forms)
unfolding forms rows
numbers_apart =
    let numbers : List ℕ = map (λ (form : Form). form.code) forms in
    AllPairs-from_IsDistinct {eq = nat_eq} unsigned_Decides numbers (IsDistinct-from_count nat_eq_equiv numbers refl)

-- the name gives the number, so the name and the operands give the fields
pub instr_from_operands : (i j : Instr) → IsInstr i → IsInstr j → (operation_of i).name ≡ (operation_of j).name → (operation_of i).operands ≡ (operation_of j).operands → i ≡ j
instr_from_operands i j hi hj name operands =
    let form : form_of i ≡ form_of j = taken (sym (operation_named-name i) ∙ ap operation_named name ∙ operation_named-name j) in
    let number : (operation_of i).code ≡ (operation_of j).code = ap (λ (x : Form). x.code) form in
    let fields : fields_of i ≡ fields_of j = cc in
    taken (sym (row_of-fields_of i hi) ∙ ap row_of fields ∙ row_of-fields_of j hj)
