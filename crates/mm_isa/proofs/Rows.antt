-- Each row of the table is found by its fields, and each row that is found is an instruction.
use Rattle.std.proofs.Common.{◌≡◌, ℕ, ◌%◌, ◌<◌, min, Bool, true, false, cond, FitsSigned, List, [], ◌∷◌, Option, Some}
use Rattle.std.{proofs.Common.{map, arith, refl, ap, sym, subst}, specs.{Int.w32, List.{find, AllByRecursion}}}
use Rattle.mm_isa.specs.declared.fields.Fields.{Fields}
use Rattle.mm_isa.specs.declared.instr.{AluOp.{AluOp, TheVariants.Add}, How.TheVariants.{Retry, Skip, Kill}}
use Rattle.mm_isa.specs.declared.instr.Instr.{Instr, TheVariants.{Halt, Alu, Ld, St, Evt, Resume, Rreg, Wreg}}
use Rattle.mm_isa.specs.declared.operand.Operand.{Operand}
use Rattle.mm_isa.specs.declared.operand.Operand.TheVariants.{Rd, EvtRd, Ra, Rb, Imm, Distance, RegisterNumber}
use Rattle.mm_isa.specs.declared.operand.OperandKind.{OperandKind}
use Rattle.mm_isa.specs.Table.{operation_of, kinds_of, fields_of, IsInRange, IsInstr}
use Rattle.mm_isa.specs.Decode.{rows, row_of, pre_in, post_in, how_in, register_in}
use Rattle.mm_word.specs.declared.word.Pre.TheVariants as pre
use Rattle.mm_word.specs.declared.word.Post.TheVariants as post
use Rattle.mm_isa.specs.declared.operand.Operand.TheVariants as operand
use Rattle.mm_isa.specs.declared.operand.OperandKind.TheVariants as kind

-- each integer operation is found by its fields
row_of-integer : (op : AluOp) (rd ra rb : ℕ) → row_of (fields_of (Alu op rd ra rb)) ≡ Some (Alu op rd ra rb)
unfolding row_of rows
row_of-integer Add rd ra rb = refl
row_of-integer _ rd ra rb = refl

-- a row is found by its fields
pub row_of-fields_of : (i : Instr) → IsInstr i → row_of (fields_of i) ≡ Some i
unfolding row_of rows
row_of-fields_of Halt h = refl
row_of-fields_of (Alu op rd ra rb) h = row_of-integer op rd ra rb
row_of-fields_of (Ld rd ra pre.Any post.Keep imm) h = refl
row_of-fields_of (Ld rd ra pre.Any post.Full imm) h = refl
row_of-fields_of (Ld rd ra pre.Any post.Empty imm) h = refl
row_of-fields_of (Ld rd ra pre.Full post.Keep imm) h = refl
row_of-fields_of (Ld rd ra pre.Full post.Full imm) h = refl
row_of-fields_of (Ld rd ra pre.Full post.Empty imm) h = refl
row_of-fields_of (Ld rd ra pre.Empty post.Keep imm) h = refl
row_of-fields_of (Ld rd ra pre.Empty post.Full imm) h = refl
row_of-fields_of (Ld rd ra pre.Empty post.Empty imm) h = refl
row_of-fields_of (St ra rb pre.Any post.Keep imm) h = refl
row_of-fields_of (St ra rb pre.Any post.Full imm) h = refl
row_of-fields_of (St ra rb pre.Any post.Empty imm) h = refl
row_of-fields_of (St ra rb pre.Full post.Keep imm) h = refl
row_of-fields_of (St ra rb pre.Full post.Full imm) h = refl
row_of-fields_of (St ra rb pre.Full post.Empty imm) h = refl
row_of-fields_of (St ra rb pre.Empty post.Keep imm) h = refl
row_of-fields_of (St ra rb pre.Empty post.Full imm) h = refl
row_of-fields_of (St ra rb pre.Empty post.Empty imm) h = refl
row_of-fields_of (Evt rd) h =
    let same : min rd 12 ≡ rd = omega (arith, h.operands.0) in
    ap (λ n. Some (Evt n)) same
row_of-fields_of (Resume ra Retry) h = refl
row_of-fields_of (Resume ra Skip) h = refl
row_of-fields_of (Resume ra Kill) h = refl
row_of-fields_of (Rreg rd ra reg) h =
    let same : reg % 16 ≡ reg = omega (arith, h.operands.1.1.0) in
    ap (λ n. Some (Rreg rd ra n)) same
row_of-fields_of (Wreg ra rb reg) h =
    let same : reg % 16 ≡ reg = omega (arith, h.operands.1.1.0) in
    ap (λ n. Some (Wreg ra rb n)) same
row_of-fields_of _ h = refl

-- the one that is found is the first, or is found among the rest
chosen : {X : Type 0} (P : X → Type 0) (b : Bool) (y x : X) (rest : Option X) → P y → (rest ≡ Some x → P x) → cond b (Some y) rest ≡ Some x → P x
chosen P true y x rest here there e =
    let same : y ≡ x = cc in
    subst P same here
chosen P false y x rest here there e = there e

-- what holds of each element holds of the one that is found
found : {X : Type 0} (P : X → Type 0) (test : X → Bool) (xs : List X) (x : X) → AllByRecursion P xs → find test xs ≡ Some x → P x
found P test [] x h e = cc
found P test (y ∷ ys) x h e = chosen P (test y) y x (find test ys) h.0 (found P test ys x h.1) e

-- read fields that are in range
pub record ReadInRange (f : Fields) : Type 0 where
  pub rd : f.rd < 16
  pub ra : f.ra < 16
  pub rb : f.rb < 16
  pub imm : FitsSigned w32 f.imm

-- the operand of a kind that fields hold, read as a value in its range
abbrev pub operand_in : Fields → OperandKind → Operand
operand_in f kind.Rd = Rd f.rd
operand_in f kind.EvtRd = EvtRd (min f.rd 12)
operand_in f kind.Ra = Ra f.ra
operand_in f kind.Rb = Rb f.rb
operand_in f kind.Imm = Imm f.imm
operand_in f kind.Distance = Distance f.imm
operand_in f kind.RegisterNumber = RegisterNumber (register_in f.imm)
operand_in f kind.Pre = operand.Pre (pre_in f.c)
operand_in f kind.Post = operand.Post (post_in f.c)
operand_in f kind.How = operand.How (how_in f.c)

-- the rows of these fields have the operands that they hold
rows_hold : (f : Fields) → map (λ i. (operation_of i).operands) (rows f) ≡ map (λ i. map (operand_in f) (kinds_of i)) (rows f)
unfolding rows
rows_hold f = refl

held_in_range : (f : Fields) → ReadInRange f → (k : OperandKind) → IsInRange (operand_in f k)
held_in_range f h kind.Rd = h.rd
held_in_range f h kind.EvtRd = omega arith
held_in_range f h kind.Ra = h.ra
held_in_range f h kind.Rb = h.rb
held_in_range f h kind.Imm = h.imm
held_in_range f h kind.Distance = h.imm
held_in_range f h kind.RegisterNumber = omega arith
held_in_range f h kind.Pre = tt
held_in_range f h kind.Post = tt
held_in_range f h kind.How = tt

all_in_range : (f : Fields) → ReadInRange f → (ks : List OperandKind) → AllByRecursion IsInRange (map (operand_in f) ks)
all_in_range f h [] = tt
all_in_range f h (k ∷ ks) = (held_in_range f h k, all_in_range f h ks)

legal : (f : Fields) → ReadInRange f → (is : List Instr) → map (λ i. (operation_of i).operands) is ≡ map (λ i. map (operand_in f) (kinds_of i)) is → AllByRecursion IsInstr is
legal f h [] e = tt
legal f h (i ∷ is) e =
    let here : (operation_of i).operands ≡ map (operand_in f) (kinds_of i) = cc in
    let there : map (λ j. (operation_of j).operands) is ≡ map (λ j. map (operand_in f) (kinds_of j)) is = cc in
    (record { operands = subst (AllByRecursion IsInRange) (sym here) (all_in_range f h (kinds_of i)) }, legal f h is there)

-- the row of fields in range is an instruction
pub IsInstr-row_of : (f : Fields) (i : Instr) → ReadInRange f → row_of f ≡ Some i → IsInstr i
unfolding row_of
IsInstr-row_of f i h e = found IsInstr _ (rows f) i (legal f h (rows f) (rows_hold f)) e
