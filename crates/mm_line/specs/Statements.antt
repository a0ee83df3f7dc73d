-- A line is an optional label and an optional statement, which is read from left to right up to its first fault.
use Rattle.std.specs.Prelude.{ℕ, ◌-◌, ◌^◌, Bool, true, false, if◌then◌else◌, List, codes, Option, Some, None}
use Rattle.std.specs.{Prelude.{option_map, Result, Ok, Err}, Str.bytes_eq, Result.result_ok}
use Rattle.mm_isa.specs.Decode.{Form, operation_named}
use Rattle.mm_line.specs.declared.fault.{Fault.Fault, Problem.Problem}
use Rattle.mm_line.specs.declared.statement.{Target.Target, Constant.{Constant, TheVariants.{Integer, Pointer}}}
use Rattle.mm_line.specs.declared.statement.Content.{Content}
use Rattle.mm_line.specs.declared.statement.Statement.{Statement}
use Rattle.mm_line.specs.declared.statement.Statement.TheVariants.{Spare, Begin, Fill, Word, Thread, Register}
use Rattle.mm_line.specs.declared.{line.{Claim.Claim, Body.Body, Line.Line}, token.Token.Token}
use Rattle.mm_line.specs.{declared.words.Directive.Directive, Tokens.{Next, next_token}}
use Rattle.mm_line.specs.Words.{look_up, directives, perms, ip_perms}
use Rattle.mm_line.specs.Reading.{◌>>=◌, at, wrong, name_of, word_of, number_of, integer_of, handler_of}
use Rattle.mm_line.specs.Operands.{code_at}
use Rattle.mm_line.specs.declared.fault.Fault.TheVariants as faults
use Rattle.mm_line.specs.declared.statement.Content.TheVariants as content
use Rattle.mm_line.specs.declared.line.Claim.TheVariants as claims
use Rattle.mm_line.specs.declared.token.Token.TheVariants as tokens
use Rattle.mm_line.specs.declared.words.Directive.TheVariants as directive

-- the addend of a target and the line after it: 0 and the whole line, or the number after `+`
unfoldable pub addend_at : List ℕ → Result (ℕ × List ℕ) Problem
addend_at line =
    let plus = next_token line in
    let number = next_token plus.rest in
    elim plus.token [
      | tokens.Plus ↦ number_of 0 (2 ^ 20 - 1) number >>= λ addend. Ok (addend, number.rest)
      | _ ↦ Ok (0, line)
    ]

unfoldable pub target_at : List ℕ → Result (Target × List ℕ) Problem
target_at line = do
  mark ← name_of (next_token line)
  addend ← addend_at (next_token line).rest
  Ok (record { mark = mark; addend = addend.0 }, addend.1)

unfoldable pub integer_at : List ℕ → Result (Constant × List ℕ) Problem
integer_at line = do
  n ← integer_of (next_token line)
  Ok (Integer n, (next_token line).rest)

unfoldable pub pointer_at : List ℕ → Result (Constant × List ℕ) Problem
pointer_at line = do
  perm ← word_of perms (next_token line)
  target ← target_at (next_token line).rest
  Ok (Pointer perm target.0, target.1)

-- a constant after the word that says its kind, and the line after it
unfoldable pub constant_at : List ℕ → Result (Constant × List ℕ) Problem
constant_at line =
    let kind = next_token line in
    if bytes_eq kind.text (codes "int") then integer_at kind.rest
    else if bytes_eq kind.text (codes "ptr") then pointer_at kind.rest
    else Err (wrong kind)

-- the content of a word that begins with this directive. A directive that begins none is the given fault
unfoldable pub content_by_directive : Fault → Option Directive → Next → Result (Content × List ℕ) Problem
content_by_directive fault (Some directive.Int) n = integer_at n.rest >>= λ x. Ok (content.Constant x.0, x.1)
content_by_directive fault (Some directive.Ptr) n = pointer_at n.rest >>= λ x. Ok (content.Constant x.0, x.1)
content_by_directive fault _ n = Err (at fault n)

-- the content of a word that is this operation, if it is known
unfoldable pub content_by_operation : Option Form → Next → Result (Content × List ℕ) Problem
content_by_operation (Some form) n = code_at form n.rest >>= λ x. Ok (content.Code x.0, x.1)
content_by_operation None n = Err (at faults.Name n)

-- the content of a word, which begins with this token
unfoldable pub content_of : Fault → Next → Result (Content × List ℕ) Problem
content_of fault n = elim n.token [
  | tokens.Name ↦ content_by_operation (operation_named n.text) n
  | tokens.Directive ↦ content_by_directive fault (look_up directives n.text) n
  | _ ↦ Err (wrong n)
]

-- a word in a full or an empty cell
abbrev pub word : Bool → Result (Content × List ℕ) Problem → Result (Statement × List ℕ) Problem
word full content = content >>= λ x. Ok (Word full x.0, x.1)

unfoldable pub spare_at : List ℕ → Result (Statement × List ℕ) Problem
spare_at line = do
  frames ← number_of 0 256 (next_token line)
  Ok (Spare frames, (next_token line).rest)

unfoldable pub segment_at : List ℕ → Result (Statement × List ℕ) Problem
segment_at line = do
  let name = next_token line
  mark ← name_of name
  let size = next_token name.rest
  log ← number_of 3 20 size
  Ok (Begin mark log, size.rest)

unfoldable pub fill_at : List ℕ → Result (Statement × List ℕ) Problem
fill_at line = do
  words ← number_of 0 131_072 (next_token line)
  Ok (Fill words, (next_token line).rest)

unfoldable pub thread_at : List ℕ → Result (Statement × List ℕ) Problem
thread_at line = do
  let first = next_token line
  slot ← number_of 0 15 first
  let second = next_token first.rest
  group ← number_of 0 15 second
  let third = next_token second.rest
  handler ← handler_of slot third
  let fourth = next_token third.rest
  perm ← word_of ip_perms fourth
  target ← target_at fourth.rest
  Ok (Thread slot group handler perm target.0, target.1)

unfoldable pub register_at : List ℕ → Result (Statement × List ℕ) Problem
register_at line = do
  number ← number_of 0 15 (next_token line)
  value ← constant_at (next_token line).rest
  Ok (Register number value.0, value.1)

-- the statement that begins with this token, of this directive or of a word, and the line after it
unfoldable pub front_by : Option Directive → Next → Result (Statement × List ℕ) Problem
front_by (Some directive.Spare) n = spare_at n.rest
front_by (Some directive.Segment) n = segment_at n.rest
front_by (Some directive.Fill) n = fill_at n.rest
front_by (Some directive.Empty) n = word false (content_of faults.Token (next_token n.rest))
front_by (Some directive.Thread) n = thread_at n.rest
front_by (Some directive.Reg) n = register_at n.rest
front_by _ n = word true (content_of faults.Name n)

-- the line ends at this token
abbrev pub end_of : Next → Result (Unit {0}) Problem
end_of n = elim n.token [ tokens.End ↦ Ok tt | _ ↦ Err (wrong n) ]

-- the statement that begins with this token, with nothing after it in the line
unfoldable pub statement_of : Next → Result Statement Problem
statement_of n = do
  front ← front_by (look_up directives n.text) n
  end ← end_of (next_token front.1)
  Ok front.0

-- what the statement of this directive names that may be there already, if its own token is good
abbrev pub claim_by : Option Directive → Next → Next → Option Claim
claim_by (Some directive.Spare) first second = Some (claims.Spare first.left)
claim_by (Some directive.Segment) first second = option_map claims.Segment (result_ok (name_of second))
claim_by (Some directive.Thread) first second =
    option_map (λ slot. claims.Slot slot second.left) (result_ok (number_of 0 15 second))
claim_by (Some directive.Reg) first second =
    option_map (λ number. claims.Register number second.left) (result_ok (number_of 0 15 second))
claim_by _ first second = None

-- what the statement that begins with this token claims
unfoldable pub claim_of : Next → Option Claim
claim_of n = claim_by (look_up directives n.text) n (next_token n.rest)

-- the statement that begins with this token, if one is there
unfoldable pub body_of : Next → Option Body
body_of n = elim n.token [
  | tokens.End ↦ None
  | _ ↦ Some (record { left = n.left; claim = claim_of n; reading = statement_of n })
]

-- a name and a colon are a label
abbrev pub is_label : Token → Token → Bool
is_label tokens.Name tokens.Colon = true
is_label _ _ = false

-- what a line says
unfoldable pub line_of : List ℕ → Line
line_of bytes =
    let first = next_token bytes in
    let second = next_token first.rest in
    if is_label first.token second.token
    then record { label = Some (name_of first); body = body_of (next_token second.rest) }
    else record { label = None; body = body_of first }
