-- The lines of an input, and the command of a line.
use Rattle.std.specs.Prelude.{ℕ, ◌+◌, ◌*◌, ◌%◌, ◌^◌, Bool, true, false, not, ◌&&◌, ◌||◌, ◌==◌, nat_lt, nat_le}
use Rattle.std.specs.{Prelude.{if◌then◌else◌, List, [], ◌∷◌, codes, Option, Some, None}, Str.bytes_eq}
use Prim.Native.Char.{code}
use Rattle.mm_model.specs.Limits.{cycle_limit}
use Rattle.mm_line.specs.{declared.token.Token.{Token, TheVariants.Number}, Tokens.next_token}
use Rattle.mm_debug.specs.declared.command.Command.{Command}
use Rattle.mm_debug.specs.declared.command.Command.TheVariants.{Nothing, Step, Run, Break, Watch, Regs, Mem, Quit, Bad}

-- 1. Lines and their tokens.

-- a byte before the first of some pieces, or as a piece by itself
abbrev pub led_by : ℕ → List (List ℕ) → List (List ℕ)
led_by b [] = (b ∷ []) ∷ []
led_by b (piece ∷ pieces) = (b ∷ piece) ∷ pieces

-- the lines of an input, which is cut at newlines; a last part without a newline is a line if it is not empty
abbrev pub lines_of : List ℕ → List (List ℕ)
lines_of [] = []
lines_of (b ∷ bytes) = if b == code "\n" then [] ∷ lines_of bytes else led_by b (lines_of bytes)

-- a blank: space, tab or carriage return
abbrev pub is_blank : ℕ → Bool
is_blank b = b == code " " || b == code "\t" || b == code "\r"

-- a line goes on with a byte of a token
abbrev pub goes_on : List ℕ → Bool
goes_on [] = false
goes_on (b ∷ bytes) = not (is_blank b)

-- the tokens of a line: the longest runs of bytes that are not blank
unfoldable pub tokens : List ℕ → List (List ℕ)
tokens [] = []
tokens (b ∷ bytes) =
    if is_blank b then tokens bytes
    else if goes_on bytes then led_by b (tokens bytes)
    else (b ∷ []) ∷ tokens bytes

-- a token before others, if it is not empty
abbrev pub with_token : List ℕ → List (List ℕ) → List (List ℕ)
with_token [] tokens = tokens
with_token (b ∷ bytes) tokens = (b ∷ bytes) ∷ tokens

-- 2. Numbers.

-- an unsigned number after which nothing is left
abbrev pub unsigned : Token → (rest : List ℕ) → Option ℕ
unsigned (Number false n) [] = Some n
unsigned _ _ = None

-- the number that a token is, as in a source: decimal digits, or `0x` and hexadecimal digits, below 2^64
abbrev pub number_of : List ℕ → Option ℕ
number_of token = unsigned (next_token token).token (next_token token).rest

-- 3. What a line asks for.

abbrev pub if_in_range : Bool → Command → Command
if_in_range true command = command
if_in_range false command = Bad

-- a count of cycles that a `step` may have: 1 to 1,000,000
abbrev pub is_count : ℕ → Bool
is_count n = nat_le 1 n && nat_le n cycle_limit

-- a number that a slot may have: 0 to 63
abbrev pub is_slot : ℕ → Bool
is_slot n = nat_lt n 64

abbrev pub is_address : ℕ → Bool
is_address a = nat_lt a (2 ^ 54)

-- the address of a word: a multiple of 8
abbrev pub is_word : ℕ → Bool
is_word a = is_address a && (a % 8 == 0)

-- 1 to 64 words from this address on, none of them past the address space
abbrev pub are_words : ℕ → ℕ → Bool
are_words a n = is_word a && nat_le 1 n && nat_le n 64 && nat_le (a + 8 * n) (2 ^ 54)

-- the command of one token
abbrev pub alone : List ℕ → Command
alone word =
    if bytes_eq word (codes "run") then Run
    else if bytes_eq word (codes "quit") then Quit
    else Bad

-- the command of a word and a number after it
abbrev pub with_one : List ℕ → Option ℕ → Command
with_one word None = Bad
with_one word (Some n) =
    if bytes_eq word (codes "step") then if_in_range (is_count n) (Step n)
    else if bytes_eq word (codes "watch") then if_in_range (is_word n) (Watch n)
    else if bytes_eq word (codes "regs") then if_in_range (is_slot n) (Regs n)
    else Bad

-- the command of a word and two numbers after it
abbrev pub with_two : List ℕ → Option ℕ → Option ℕ → Command
with_two word (Some n) (Some m) =
    if bytes_eq word (codes "break") then if_in_range (is_slot n && is_address m) (Break n m)
    else if bytes_eq word (codes "mem") then if_in_range (are_words n m) (Mem n m)
    else Bad
with_two word _ _ = Bad

abbrev pub by_tokens : List (List ℕ) → Command
by_tokens [] = Nothing
by_tokens (word ∷ []) = alone word
by_tokens (word ∷ first ∷ []) = with_one word (number_of first)
by_tokens (word ∷ first ∷ second ∷ []) = with_two word (number_of first) (number_of second)
by_tokens _ = Bad

-- the command of a line
unfoldable pub command_of : List ℕ → Command
command_of line = by_tokens (tokens line)
