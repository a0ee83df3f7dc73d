-- Operands in their range, of the kinds of a row, are those of an instruction.
use Rattle.std.proofs.Common.{◌≡◌, ℕ, ◌+◌, ◌*◌, ◌/◌, ◌%◌, ◌<◌, ◌==◌, min, Bool, true, not, ◌&&◌, if◌then◌else◌, List}
use Rattle.std.proofs.Common.{[], ◌∷◌, map, fold, Option, Some, None, arith, refl, ap, sym, ◌∙◌, subst}
use Rattle.std.{proofs.lemmas.Bool.and_parts, specs.{List.{AllByRecursion, list_any, list_all}, Option.option_map}}
use Rattle.mm_word.specs.declared.word.{Pre.Pre, Post.Post}
use Rattle.mm_isa.specs.declared.fields.Fields.{Fields}
use Rattle.mm_isa.specs.declared.instr.{AluOp.{AluOp, TheVariants.Add}, How.{How, TheVariants.{Retry, Skip, Kill}}}
use Rattle.mm_isa.specs.declared.instr.Instr.{Instr, TheVariants.{Halt, Alu}}
use Rattle.mm_isa.specs.declared.operand.Operand.{Operand}
use Rattle.mm_isa.specs.declared.operand.Operand.TheVariants.{Rd, EvtRd, Ra, Rb, Imm, Distance, RegisterNumber}
use Rattle.mm_isa.specs.declared.operand.OperandKind.{OperandKind}
use Rattle.mm_isa.specs.Table.{Operation, operation_of, kind_of, kinds_of, unused, put, pre_code, post_code, how_code}
use Rattle.mm_isa.specs.{Table.{fields_of, packed, IsInRange, IsInstr}, Decode.{rows, row_of, instr_of, how_in}}
use Rattle.mm_isa.proofs.{Operands.post_small, Rows.operand_in, Spelling.instr_of-spelling}
use Rattle.mm_word.specs.declared.word.Pre.TheVariants as pre
use Rattle.mm_word.specs.declared.word.Post.TheVariants as post
use Rattle.mm_isa.specs.declared.operand.Operand.TheVariants as operand
use Rattle.mm_isa.specs.declared.operand.OperandKind.TheVariants as kind

-- the parts of a word that an operand of this kind fills
abbrev places : OperandKind → List ℕ
places kind.Rd = 0 ∷ []
places kind.EvtRd = 0 ∷ []
places kind.Ra = 1 ∷ []
places kind.Rb = 2 ∷ []
places kind.Imm = 3 ∷ []
places kind.Distance = 3 ∷ []
places kind.RegisterNumber = 3 ∷ []
places kind.Pre = 4 ∷ []
places kind.Post = 5 ∷ []
places kind.How = 4 ∷ 5 ∷ []

abbrev apart : OperandKind → OperandKind → Bool
apart k l = not (list_any (λ x. list_any (λ y. x == y) (places l)) (places k))

abbrev all_apart : List OperandKind → Bool
all_apart [] = true
all_apart (k ∷ ks) = list_all (λ l. apart l k) ks && all_apart ks

row_apart : (i : Instr) → all_apart (kinds_of i) ≡ true
row_apart Halt = refl
row_apart _ = refl

quotient_put : (n x : ℕ) → (n * 4 + x % 4) / 4 ≡ n
quotient_put n x = omega arith

remainder_kept : (n x : ℕ) → (n * 4 + x % 4) % 4 ≡ x % 4
remainder_kept n x = omega arith

remainder_put : (x n : ℕ) → n < 4 → (x / 4 * 4 + n) % 4 ≡ n
remainder_put x n h = omega arith

quotient_kept : (x n : ℕ) → n < 4 → (x / 4 * 4 + n) / 4 ≡ x / 4
quotient_kept x n h = omega arith

abbrev pre_numbered : ℕ → Pre
pre_numbered n = if n == 0 then pre.Any else (if n == 1 then pre.Full else pre.Empty)

abbrev post_numbered : ℕ → Post
post_numbered n = if n == 0 then post.Keep else (if n == 1 then post.Full else post.Empty)

pre_again : (p : Pre) → pre_numbered (pre_code p) ≡ p
pre_again pre.Any = refl
pre_again pre.Full = refl
pre_again pre.Empty = refl

post_again : (p : Post) → post_numbered (post_code p) ≡ p
post_again post.Keep = refl
post_again post.Full = refl
post_again post.Empty = refl

how_again : (h : How) → how_in (how_code h) ≡ h
how_again Retry = refl
how_again Skip = refl
how_again Kill = refl

-- an operand in its place is read again
held : (f : Fields) (o : Operand) → IsInRange o → operand_in (put f o) (kind_of o) ≡ o
held f (Rd r) h = refl
held f (EvtRd r) h = let same : min r 12 ≡ r = omega arith in ap EvtRd same
held f (Ra r) h = refl
held f (Rb r) h = refl
held f (Imm n) h = refl
held f (Distance n) h = refl
held f (RegisterNumber r) h = let same : r % 16 ≡ r = omega arith in ap RegisterNumber same
held f (operand.Pre p) h = ap operand.Pre (ap pre_numbered (quotient_put (pre_code p) f.c) ∙ pre_again p)
held f (operand.Post p) h = ap operand.Post (ap post_numbered (remainder_put f.c (post_code p) (omega (arith, post_small p))) ∙ post_again p)
held f (operand.How w) h = ap operand.How (how_again w)

-- and another leaves it there
left : (f : Fields) (o : Operand) (k : OperandKind) → apart (kind_of o) k ≡ true → operand_in (put f o) k ≡ operand_in f k
left f (Rd r) kind.Rd e = cc
left f (Rd r) kind.EvtRd e = cc
left f (Rd r) _ e = refl
left f (EvtRd r) kind.Rd e = cc
left f (EvtRd r) kind.EvtRd e = cc
left f (EvtRd r) _ e = refl
left f (Ra r) kind.Ra e = cc
left f (Ra r) _ e = refl
left f (Rb r) kind.Rb e = cc
left f (Rb r) _ e = refl
left f (Imm n) kind.Imm e = cc
left f (Imm n) kind.Distance e = cc
left f (Imm n) kind.RegisterNumber e = cc
left f (Imm n) _ e = refl
left f (Distance n) kind.Imm e = cc
left f (Distance n) kind.Distance e = cc
left f (Distance n) kind.RegisterNumber e = cc
left f (Distance n) _ e = refl
left f (RegisterNumber r) kind.Imm e = cc
left f (RegisterNumber r) kind.Distance e = cc
left f (RegisterNumber r) kind.RegisterNumber e = cc
left f (RegisterNumber r) _ e = refl
left f (operand.Pre p) kind.Pre e = cc
left f (operand.Pre p) kind.How e = cc
left f (operand.Pre p) kind.Post e = ap operand.Post (ap post_numbered (remainder_kept (pre_code p) f.c))
left f (operand.Pre p) _ e = refl
left f (operand.Post p) kind.Post e = cc
left f (operand.Post p) kind.How e = cc
left f (operand.Post p) kind.Pre e = ap operand.Pre (ap pre_numbered (quotient_kept f.c (post_code p) (omega (arith, post_small p))))
left f (operand.Post p) _ e = refl
left f (operand.How w) kind.Pre e = cc
left f (operand.How w) kind.Post e = cc
left f (operand.How w) kind.How e = cc
left f (operand.How w) _ e = refl

all_left : (os : List Operand) (f : Fields) (k : OperandKind) → list_all (λ l. apart l k) (map kind_of os) ≡ true → operand_in (fold put f os) k ≡ operand_in f k
all_left [] f k e = refl
all_left (o ∷ os) f k e =
    let two = and_parts (apart (kind_of o) k) (list_all (λ l. apart l k) (map kind_of os)) e in
    all_left os (put f o) k two.1 ∙ left f o k two.0

-- operands at places that are apart are read again
all_held : (os : List Operand) (f : Fields) → all_apart (map kind_of os) ≡ true → AllByRecursion IsInRange os → map (operand_in (fold put f os)) (map kind_of os) ≡ os
all_held [] f e h = refl
all_held (o ∷ os) f e h =
    let two = and_parts (list_all (λ l. apart l (kind_of o)) (map kind_of os)) (all_apart (map kind_of os)) e in
    let here : operand_in (fold put (put f o) os) (kind_of o) ≡ o = all_left os (put f o) (kind_of o) two.0 ∙ held f o h.0 in
    let there : map (operand_in (fold put (put f o) os)) (map kind_of os) ≡ os = all_held os (put f o) two.1 h.1 in
    cc

operation_kept : (os : List Operand) (f : Fields) → (fold put f os).operation ≡ f.operation
operation_kept [] f = refl
operation_kept (o ∷ os) f = operation_kept os (put f o) ∙ by o
  where
    by : (x : Operand) → (put f x).operation ≡ f.operation
    by (Rd r) = refl
    by _ = refl

-- the row of an instruction's number, with these fields
abbrev RowIs : Instr → Fields → Type 0
RowIs i f = option_map operation_of (row_of (record f { operation = (operation_of i).code })) ≡ Some (record (operation_of i) { operands = map (operand_in f) (kinds_of i) })

integer_row : (op : AluOp) (rd ra rb : ℕ) (f : Fields) → RowIs (Alu op rd ra rb) f
unfolding row_of rows
integer_row Add rd ra rb f = refl
integer_row _ rd ra rb f = refl

row_is : (i : Instr) (f : Fields) → RowIs i f
unfolding row_of rows
row_is (Alu op rd ra rb) f = integer_row op rd ra rb f
row_is Halt f = refl
row_is _ f = refl

found : {A B : Type 0} (f : A → B) (o : Option A) (y : B) → option_map f o ≡ Some y → (x : A) × (o ≡ Some x) × (f x ≡ y)
found f None y e = cc
found f (Some x) y e = (x, refl, cc)

-- operands of a row's kinds, in their range, make a word that is read as the instruction with them
pub assembled : (i : Instr) (os : List Operand) → map kind_of os ≡ kinds_of i → AllByRecursion IsInRange os →
    (j : Instr) × (instr_of (packed (fold put (unused (operation_of i).code) os)) ≡ Some j) × (operation_of j ≡ record (operation_of i) { operands = os })
assembled i os kinds h =
    let f : Fields = fold put (unused (operation_of i).code) os in
    let number : f.operation ≡ (operation_of i).code = operation_kept os (unused (operation_of i).code) in
    let same : record f { operation = (operation_of i).code } ≡ f = ap (λ n. record f { operation = n }) (sym number) in
    let again : map (operand_in f) (kinds_of i) ≡ os = ap (map (operand_in f)) (sym kinds) ∙ all_held os (unused (operation_of i).code) (ap all_apart kinds ∙ row_apart i) h in
    let row = found operation_of (row_of f) _ (ap (λ g. option_map operation_of (row_of g)) (sym same) ∙ row_is i f ∙ ap (λ xs. Some (record (operation_of i) { operands = xs })) again) in
    let fields : fields_of row.0 ≡ f = ap (λ (x : Operation). fold put (unused x.code) x.operands) row.2 in
    let legal : IsInstr row.0 = record { operands = subst (AllByRecursion IsInRange) (sym (ap (λ (x : Operation). x.operands) row.2)) h } in
    (row.0, ap (λ g. instr_of (packed g)) (sym fields) ∙ instr_of-spelling row.0 legal, row.2)
