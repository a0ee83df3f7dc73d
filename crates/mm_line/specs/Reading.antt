-- What a token says in its place, or its fault there.
use Rattle.std.specs.Prelude.{ℕ, ◌-◌, ◌%◌, ◌^◌, Bool, true, false, ◌&&◌, ◌||◌, not, ◌==◌, nat_le, if◌then◌else◌, length}
use Rattle.std.specs.{Prelude.{codes, Option, Some, None, ok_or, Result, Ok, Err, ℤ}, Str.bytes_eq}
use Rattle.std.specs.Int.{w32, cast_signed}
use Rattle.mm_line.specs.declared.{fault.{Fault.Fault, Problem.Problem}, name.Mark.Mark}
use Rattle.mm_line.specs.declared.token.Token.{Token, TheVariants.{Name, Number, Wide, Bad}}
use Rattle.mm_line.specs.{Tokens.Next, Words.{Table, look_up, register_named}}
use Rattle.mm_line.specs.declared.fault.Fault.TheVariants as faults

infixl 10 ◌>>=◌
-- what is read next, if no fault came before
abbrev pub ◌>>=◌ : {A B : Type 0} → Result A Problem → (A → Result B Problem) → Result B Problem
(Ok x) >>= f = f x
(Err e) >>= f = Err e

-- a fault at a token
abbrev pub at : Fault → Next → Problem
at fault n = record { fault = fault; left = n.left }

abbrev pub wrong_token : Token → Fault
wrong_token Bad = faults.Byte
wrong_token _ = faults.Token

-- a token of the wrong kind for its place, or a missing one
abbrev pub wrong : Next → Problem
wrong n = at (wrong_token n.token) n

-- a name, of at most 31 bytes
abbrev pub name_of : Next → Result Mark Problem
name_of n = elim n.token [
  | Name ↦ if nat_le (length n.text) 31 then Ok (record { name = n.text; left = n.left })
      else Err (at faults.Name n)
  | _ ↦ Err (wrong n)
]

-- what a name says, if it is known
abbrev pub known : {A : Type 0} → Option A → Next → Result A Problem
known value n = elim n.token [ Name ↦ ok_or value (at faults.Name n) | _ ↦ Err (wrong n) ]

-- what a word of a table says
abbrev pub word_of : {A : Type 0} → Table A → Next → Result A Problem
word_of table n = known (look_up table n.text) n

-- a register; only a name can be one
abbrev pub register_of : Next → Result ℕ Problem
register_of n = ok_or (register_named n.text) (wrong n)

-- a number, by its sign and its size, in the range in which the rule gives a value
abbrev pub ranged : {A : Type 0} → (Bool → ℕ → Option A) → Next → Result A Problem
ranged rule n = elim n.token [
  | Number negative m ↦ ok_or (rule negative m) (at faults.Range n)
  | Wide ↦ Err (at faults.Range n)
  | _ ↦ Err
      (wrong n)
]

-- a number from low to high
abbrev pub between : ℕ → ℕ → Bool → ℕ → Option ℕ
between low high negative m = if nat_le low m && nat_le m high && (not negative || m == 0) then Some m else None

abbrev pub number_of : ℕ → ℕ → Next → Result ℕ Problem
number_of low high n = ranged (between low high) n

-- m or, if it is negative, -m, modulo a number that is not below m
abbrev pub modulo : ℕ → Bool → ℕ → ℕ
modulo n true m = (n - m) % n
modulo n false m = m % n

-- a number modulo 2^64
abbrev pub integer_of : Next → Result ℕ Problem
integer_of n = ranged (λ negative m. Some (modulo (2 ^ 64) negative m)) n

-- a number from -2^31 to 2^32 - 1, modulo 2^32, as the signed number with these 32 bits
abbrev pub immediate : Bool → ℕ → Option ℤ
immediate negative m = if nat_le m (if negative then 2 ^ 31 else 2 ^ 32 - 1)
    then Some (cast_signed w32 (modulo (2 ^ 32) negative m)) else None

abbrev pub immediate_of : Next → Result ℤ Problem
immediate_of n = ranged immediate n

-- a handler: `none`, or the number of a slot that is not this one
abbrev pub handler_of : ℕ → Next → Result (Option ℕ) Problem
handler_of slot n =
    if bytes_eq n.text (codes "none") then Ok None
    else number_of 0 15 n >>= λ handler. if handler == slot then Err (at faults.Range n) else Ok (Some handler)
