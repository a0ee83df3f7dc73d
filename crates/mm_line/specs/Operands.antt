-- The operands of an operation are read from left to right, by their kinds in its row of the table.
use Rattle.std.specs.Prelude.{ℕ, Bool, true, false, nat_le, if◌then◌else◌, List, [], ◌∷◌, Some, None, Result, Ok, Err}
use Rattle.std.specs.Prelude.{pos}
use Rattle.mm_isa.specs.{declared.operand.{Operand.Operand, OperandKind.OperandKind}, Table.{put, unused}, Decode.Form}
use Rattle.mm_line.specs.declared.{fault.Problem.Problem, statement.Code.Code}
use Rattle.mm_line.specs.{declared.token.Token.{Token, TheVariants.{Name, Comma}}, Tokens.{Next, next_token}}
use Rattle.mm_line.specs.Words.{pres, posts, hows}
use Rattle.mm_line.specs.Reading.{◌>>=◌, at, wrong, name_of, word_of, register_of, number_of, immediate_of}
use Rattle.mm_isa.specs.declared.operand.Operand.TheVariants as operand
use Rattle.mm_isa.specs.declared.operand.OperandKind.TheVariants as kind
use Rattle.mm_line.specs.declared.fault.Fault.TheVariants as faults

-- the first of the four registers of an event: one that three more follow
abbrev pub event_register_of : Next → Result ℕ Problem
event_register_of n = register_of n >>= λ r. if nat_le r 12 then Ok r else Err (at faults.Range n)

-- the value of an operand of this kind
abbrev pub operand_of : OperandKind → Next → Result Operand Problem
operand_of kind.Rd n = register_of n >>= λ r. Ok (operand.Rd r)
operand_of kind.EvtRd n = event_register_of n >>= λ r. Ok (operand.EvtRd r)
operand_of kind.Ra n = register_of n >>= λ r. Ok (operand.Ra r)
operand_of kind.Rb n = register_of n >>= λ r. Ok (operand.Rb r)
operand_of kind.Imm n = immediate_of n >>= λ i. Ok (operand.Imm i)
operand_of kind.Distance n = immediate_of n >>= λ i. Ok (operand.Distance i)
operand_of kind.RegisterNumber n = number_of 0 15 n >>= λ r. Ok (operand.RegisterNumber r)
operand_of kind.Pre n = word_of pres n >>= λ p. Ok (operand.Pre p)
operand_of kind.Post n = word_of posts n >>= λ p. Ok (operand.Post p)
operand_of kind.How n = word_of hows n >>= λ h. Ok (operand.How h)

-- a name in place of a distance is a label, whose distance is 0 until it is known
abbrev pub is_goal : OperandKind → Token → Bool
is_goal kind.Distance Name = true
is_goal _ _ = false

-- the code with an operand of this kind in its place
abbrev pub with_operand : OperandKind → Code → Next → Result Code Problem
with_operand kind code n =
    if is_goal kind n.token
    then (name_of n >>= λ mark. Ok (record { fields = put code.fields (operand.Distance (pos 0)); goal = Some mark }))
    else (operand_of kind n >>= λ operand. Ok (record code { fields = put code.fields operand }))

-- an operand, and the line after it
unfoldable pub operand_at : OperandKind → Code → List ℕ → Result (Code × List ℕ) Problem
operand_at kind code line = do
  code ← with_operand kind code (next_token line)
  Ok (code, (next_token line).rest)

abbrev pub comma_of : Next → Result (List ℕ) Problem
comma_of n = elim n.token [ Comma ↦ Ok n.rest | _ ↦ Err (wrong n) ]

-- further operands, each after a comma
unfoldable pub more_at : List OperandKind → Code → List ℕ → Result (Code × List ℕ) Problem
more_at [] code line = Ok (code, line)
more_at (kind ∷ kinds) code line = do
  rest ← comma_of (next_token line)
  first ← operand_at kind code rest
  more_at kinds first.0 first.1

-- operands of these kinds, with commas between
unfoldable pub operands_at : List OperandKind → Code → List ℕ → Result (Code × List ℕ) Problem
operands_at [] code line = Ok (code, line)
operands_at (kind ∷ kinds) code line = do
  first ← operand_at kind code line
  more_at kinds first.0 first.1

-- an operation of this form without its operands
abbrev pub bare : Form → Code
bare form = record { fields = unused form.code; goal = None }

-- the operation of a form with its operands, and the line after them
unfoldable pub code_at : Form → List ℕ → Result (Code × List ℕ) Problem
code_at form line = operands_at form.kinds (bare form) line
