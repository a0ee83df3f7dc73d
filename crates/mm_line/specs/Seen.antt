-- The values of the specification for values of the code.
use Rattle.std.specs.Prelude.{◌≡◌, ℕ, ◌^◌, nat_lt, if◌then◌else◌, Option, Some, None, Result, Ok, Err}
use Rattle.mm_line.specs.declared.{fault.Problem.Problem, token.Next.Next}
use Rattle.mm_line.specs.Tokens as spec

-- a token, with its bytes and the line after it as lists of bytes
abbrev pub seen : Next → spec.Next
seen n = record { token = n.token; text = n.text.now; left = n.left; rest = n.rest.now }

-- what a function returned, in this view, is what is read
abbrev pub IsReadAs : {X Y : Type 0} → (X → Y) → Result X Problem → Result Y Problem → Type 0
IsReadAs view (Ok x) read = read ≡ Ok (view x)
IsReadAs view (Err e) read = read ≡ Err e

-- the number, if 64 bits hold it
abbrev pub limited : ℕ → Option ℕ
limited n = if nat_lt n (2 ^ 64) then Some n else None
