-- The operands of an operation are in their ranges, and make an instruction.
use Rattle.std.proofs.Common.{◌≡◌, ℕ, ◌<◌, ◌≤◌, Bool, true, false, nat_le, if◌then◌else◌, List, [], ◌∷◌, length, map}
use Rattle.std.proofs.Common.{fold, find, Option, Some, Result, Ok, Err, refl, sym, ap, ◌∙◌, subst, arith, pos}
use Rattle.std.{proofs.{Common.FitsSigned, lemmas.Bool.leb-true}, specs.{List.AllByRecursion, Str.bytes_eq, Int.w32}}
use Rattle.mm_isa.specs.declared.{instr.Instr.Instr, operand.{Operand.Operand, OperandKind.OperandKind}}
use Rattle.mm_isa.specs.Table.{Operation, kind_of, kinds_of, unused, put, fields_of, IsInRange}
use Rattle.mm_isa.specs.Decode.{Form, form_of, forms, rows, operation_named}
use Rattle.mm_isa.proofs.{Assembled.assembled, Spelling.instr_of-spelled}
use Rattle.mm_line.specs.declared.{fault.Problem.Problem, name.Mark.Mark, statement.Code.Code}
use Rattle.mm_line.specs.{declared.token.Token.{Token, TheVariants.Comma}, Tokens.{Next, next_token}}
use Rattle.mm_line.specs.Words.{look_up, pres, posts, hows}
use Rattle.mm_line.specs.Reading.{◌>>=◌, at, wrong, name_of, word_of, register_of, number_of, immediate_of}
use Rattle.mm_line.specs.Operands.{event_register_of, operand_of, is_goal, with_operand, operand_at, comma_of, more_at}
use Rattle.mm_line.specs.{Operands.{operands_at, bare, code_at}, Ranges.{IsMark, IsGoal, IsCode, Reads}}
use Rattle.mm_line.proofs.{Choices.either, TokenPlaces.{Found, found}}
use Rattle.mm_line.proofs.TokenRanges.{reads_ok, reads_err, reads_then, reads_weaker, is_wrong, range_fault, name_reads}
use Rattle.mm_line.proofs.TokenRanges.{known_reads, number_reads, immediate_reads, register_reads}
use Rattle.mm_isa.specs.declared.operand.Operand.TheVariants as operand
use Rattle.mm_isa.specs.declared.operand.OperandKind.TheVariants as kind
use Rattle.mm_line.specs.declared.fault.Fault.TheVariants as faults

-- a value of a kind, in its range
pub record IsOperand (k : OperandKind) (o : Operand) : Type 0 where
  pub kind : kind_of o ≡ k
  pub range : IsInRange o

-- the code with such a value in its place
pub record Holds (most : ℕ) (k : OperandKind) (old new : Code) : Type 0 where
  pub operand : Operand
  pub legal : IsOperand k operand
  pub fields : new.fields ≡ put old.fields operand
  pub goal : IsGoal most new.goal

-- the code with values of these kinds in their places
pub record HoldsAll (most : ℕ) (kinds : List OperandKind) (old new : Code) : Type 0 where
  pub operands : List Operand
  pub alike : map kind_of operands ≡ kinds
  pub range : AllByRecursion IsInRange operands
  pub fields : new.fields ≡ fold put old.fields operands
  pub goal : IsGoal most new.goal

-- what is read, with a line behind it that is no longer
abbrev pub Behind : {A : Type 0} (most : ℕ) (P : A → Type 0) → A × List ℕ → Type 0
Behind most P x = P x.0 × (length x.1 ≤ most)

module _ (most : ℕ) where
  -- what a reader read, made into an operand
  operand_by : {A : Type 0} (k : OperandKind) (P : A → Type 0) (make : A → Operand) (r : Result A Problem)
      → Reads most P r → ((x : A) → P x → IsOperand k (make x)) → Reads most (IsOperand k) (r >>= λ x. Ok (make x))
  operand_by k P make r h legal = reads_then most P (IsOperand k) r (λ x. Ok (make x)) h (λ x p. reads_ok most (IsOperand k) (make x) (legal x p))

  event_reads : (n : Next) → Found most n → Reads most (λ r. r ≤ 12) (event_register_of n)
  event_reads n f = reads_then most (λ r. r < 16) (λ r. r ≤ 12) (register_of n) _ (register_reads most n f) (λ r _.
      either (Reads most (λ x. x ≤ 12)) (nat_le r 12) (Ok r) (Err (at faults.Range n))
      (λ small. reads_ok most (λ x. x ≤ 12) r (leb-true r 12 small))
      (λ _. reads_err most (λ x. x ≤ 12) _ (range_fault most n f)))

  operand_reads : (k : OperandKind) (n : Next) → Found most n → Reads most (IsOperand k) (operand_of k n)
  operand_reads kind.Rd n f = operand_by kind.Rd (λ r. r < 16) operand.Rd (register_of n) (register_reads most n f) (λ r h. record { kind = refl; range = h })
  operand_reads kind.EvtRd n f = operand_by kind.EvtRd (λ r. r ≤ 12) operand.EvtRd (event_register_of n) (event_reads n f) (λ r h. record { kind = refl; range = h })
  operand_reads kind.Ra n f = operand_by kind.Ra (λ r. r < 16) operand.Ra (register_of n) (register_reads most n f) (λ r h. record { kind = refl; range = h })
  operand_reads kind.Rb n f = operand_by kind.Rb (λ r. r < 16) operand.Rb (register_of n) (register_reads most n f) (λ r h. record { kind = refl; range = h })
  operand_reads kind.Imm n f = operand_by kind.Imm (FitsSigned w32) operand.Imm (immediate_of n) (immediate_reads most n f) (λ i h. record { kind = refl; range = h })
  operand_reads kind.Distance n f = operand_by kind.Distance (FitsSigned w32) operand.Distance (immediate_of n) (immediate_reads most n f) (λ i h. record { kind = refl; range = h })
  operand_reads kind.RegisterNumber n f = operand_by kind.RegisterNumber (λ x. (0 ≤ x) × (x ≤ 15))
      operand.RegisterNumber (number_of 0 15 n) (number_reads most 0 15 n f)
      (λ r h. record { kind = refl; range = omega (arith, h.1) })
  operand_reads kind.Pre n f = operand_by kind.Pre (λ _. Unit {0}) operand.Pre (word_of pres n)
      (known_reads most (λ _. Unit {0}) (look_up pres n.text) n (λ _ _. tt) f)
      (λ _ _. record { kind = refl; range = tt })
  operand_reads kind.Post n f = operand_by kind.Post (λ _. Unit {0}) operand.Post (word_of posts n)
      (known_reads most (λ _. Unit {0}) (look_up posts n.text) n (λ _ _. tt) f)
      (λ _ _. record { kind = refl; range = tt })
  operand_reads kind.How n f = operand_by kind.How (λ _. Unit {0}) operand.How (word_of hows n)
      (known_reads most (λ _. Unit {0}) (look_up hows n.text) n (λ _ _. tt) f)
      (λ _ _. record { kind = refl; range = tt })

  goal_kind : (k : OperandKind) (t : Token) → is_goal k t ≡ true → kind.Distance ≡ k
  goal_kind kind.Distance t e = refl
  goal_kind _ t e = cc

  with_operand_reads : (k : OperandKind) (code : Code) (n : Next) → Found most n → IsGoal most code.goal → Reads most (Holds most k code) (with_operand k code n)
  with_operand_reads k code n f goal = either (Reads most (Holds most k code)) (is_goal k n.token) (name_of n >>= to_label) (operand_of k n >>= to_value)
      (λ distance. reads_then most (IsMark most) (Holds most k code) (name_of n) to_label (name_reads most n f) (λ mark h. reads_ok most (Holds most k code) _ (record {
        operand = operand.Distance (pos 0);
        legal = record { kind = goal_kind k n.token distance; range = search arith };
        fields = refl;
        goal = h;
      })))
      (λ _. reads_then most (IsOperand k) (Holds most k code) (operand_of k n) to_value (operand_reads k n f) (λ o h. reads_ok most (Holds most k code) _ (record {
        operand = o;
        legal = h;
        fields = refl;
        goal = goal;
      })))
    where
      to_label : Mark → Result Code Problem
      to_label mark = Ok (record { fields = put code.fields (operand.Distance (pos 0)); goal = Some mark })

      to_value : Operand → Result Code Problem
      to_value o = Ok (record code { fields = put code.fields o })

  operand_at_reads : (k : OperandKind) (code : Code) (line : List ℕ) → length line ≤ most → IsGoal most code.goal → Reads most (Behind most (Holds most k code)) (operand_at k code line)
  unfolding operand_at
  operand_at_reads k code line le goal =
      let n = next_token line in
      let f = found most line le in
      reads_then most (Holds most k code) (Behind most (Holds most k code)) (with_operand k code n) _
      (with_operand_reads k code n f goal) (λ new h. reads_ok most (Behind most (Holds most k code)) (new, n.rest)
      (h, f.rest))

  comma_reads : (n : Next) → Found most n → Reads most (λ rest. length rest ≤ most) (comma_of n)
  comma_reads n f = of n.token
    where
      of : (t : Token) → Reads most (λ rest. length rest ≤ most) (elim t [ Comma ↦ Ok n.rest | _ ↦ Err (wrong n) ])
      of Comma = reads_ok most (λ rest. length rest ≤ most) n.rest f.rest
      of _ = reads_err most (λ rest. length rest ≤ most) _ (is_wrong most n f)

  none_more : (old : Code) → IsGoal most old.goal → HoldsAll most [] old old
  none_more old goal = record { operands = []; alike = refl; range = tt; fields = refl; goal = goal }

  one_more : (k : OperandKind) (ks : List OperandKind) (old mid new : Code) → Holds most k old mid → HoldsAll most ks mid new → HoldsAll most (k ∷ ks) old new
  one_more k ks old mid new first rest = record {
    operands = first.operand ∷ rest.operands;
    alike = let a = first.legal.kind in let b = rest.alike in cc;
    range = (first.legal.range, rest.range);
    fields = rest.fields ∙ ap (λ f. fold put f rest.operands) first.fields;
    goal = rest.goal;
  }

  behind_first : (k : OperandKind) (ks : List OperandKind) (old mid : Code) (r : Result (Code × List ℕ) Problem)
      → Holds most k old mid → Reads most (Behind most (HoldsAll most ks mid)) r
      → Reads most (Behind most (HoldsAll most (k ∷ ks) old)) r
  behind_first k ks old mid r first rest = reads_weaker most (Behind most (HoldsAll most ks mid)) (Behind most (HoldsAll most (k ∷ ks) old)) r rest (λ x h. (one_more k ks old mid x.0 first h.0, h.1))

  more_reads : (ks : List OperandKind) (code : Code) (line : List ℕ) → length line ≤ most → IsGoal most code.goal → Reads most (Behind most (HoldsAll most ks code)) (more_at ks code line)
  unfolding more_at
  more_reads [] code line le goal = reads_ok most (Behind most (HoldsAll most [] code)) (code, line) (none_more code goal, le)
  more_reads (k ∷ ks) code line le goal =
      reads_then most (λ rest. length rest ≤ most) (Behind most (HoldsAll most (k ∷ ks) code)) (comma_of (next_token line)) _ (comma_reads (next_token line) (found most line le)) (λ rest short.
      reads_then most (Behind most (Holds most k code)) (Behind most (HoldsAll most (k ∷ ks) code)) (operand_at k code rest) _ (operand_at_reads k code rest short goal) (λ first h.
      behind_first k ks code first.0 (more_at ks first.0 first.1) h.0 (more_reads ks first.0 first.1 h.1 h.0.goal)))

  operands_reads : (ks : List OperandKind) (code : Code) (line : List ℕ) → length line ≤ most → IsGoal most code.goal → Reads most (Behind most (HoldsAll most ks code)) (operands_at ks code line)
  unfolding operands_at
  operands_reads [] code line le goal = reads_ok most (Behind most (HoldsAll most [] code)) (code, line) (none_more code goal, le)
  operands_reads (k ∷ ks) code line le goal =
      reads_then most (Behind most (Holds most k code)) (Behind most (HoldsAll most (k ∷ ks) code)) (operand_at k code line) _ (operand_at_reads k code line le goal) (λ first h.
      behind_first k ks code first.0 (more_at ks first.0 first.1) h.0 (more_reads ks first.0 first.1 h.1 h.0.goal))

chosen : {A B : Type 0} (f : A → B) (b : Bool) (x : A) (o : Option B) (y : B) → ((o ≡ Some y) → (z : A) × (f z ≡ y)) → (if b then Some (f x) else o) ≡ Some y → (z : A) × (f z ≡ y)
chosen f true x o y h e = (x, cc)
chosen f false x o y h e = h e

-- what is found among images is one
find_image : {A B : Type 0} (f : A → B) (p : B → Bool) (xs : List A) (y : B) → find p (map f xs) ≡ Some y → (x : A) × (f x ≡ y)
find_image f p [] y e = cc
find_image f p (x ∷ xs) y e = chosen f (p (f x)) x (find p (map f xs)) y (find_image f p xs y) e

form_found : (name : List ℕ) (form : Form) → operation_named name ≡ Some form → (i : Instr) × (form_of i ≡ form)
unfolding operation_named forms
form_found name form e = find_image form_of (λ g. bytes_eq g.name name) (rows (unused 0)) form e

-- operands of a row's kinds, in their ranges, make the fields of an instruction
pub code_is : (most : ℕ) (i : Instr) (code : Code) → HoldsAll most (kinds_of i) (bare (form_of i)) code → IsCode most code
code_is most i code h =
    let j = assembled i h.operands h.alike h.range in
    let fields : fields_of j.0 ≡ code.fields = ap (λ (x : Operation). fold put (unused x.code) x.operands) j.2 ∙ sym h.fields in
    record { fields = (j.0, (instr_of-spelled _ j.0 j.1).0, fields); goal = h.goal }

pub code_reads : (most : ℕ) (name : List ℕ) (form : Form) (line : List ℕ) → operation_named name ≡ Some form → length line ≤ most → Reads most (Behind most (IsCode most)) (code_at form line)
unfolding code_at
code_reads most name form line e le =
    let i = form_found name form e in
    let read = reads_weaker most (Behind most (HoldsAll most (kinds_of i.0) (bare (form_of i.0))))
    (Behind most (IsCode most)) _ (operands_reads most (kinds_of i.0) (bare (form_of i.0)) line le tt)
    (λ x h. (code_is most i.0 x.0 h.0, h.1)) in
    subst (λ (g : Form). Reads most (Behind most (IsCode most)) (operands_at g.kinds (bare g) line)) i.1 read
