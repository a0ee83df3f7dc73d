-- The tokens of a line: each is the longest one that begins at its place.
use Rattle.std.specs.Prelude.{ℕ, ◌+◌, ◌^◌, Bool, true, false, ◌&&◌, ◌||◌, ◌==◌, nat_lt, nat_le, if◌then◌else◌, List, []}
use Rattle.std.specs.{Prelude.{◌∷◌, length, take, drop}, List.prefix_len, Char.{is_digit, is_ascii_alphabetic}}
use Rattle.std.specs.Str.Parse.{digits_value}
use Prim.Native.Char.{code}
use Rattle.mm_line.specs.declared.class.Class.{Class, TheVariants.{Blank, Letter, NameByte, Decimal, Hexadecimal}}
use Rattle.mm_line.specs.declared.token.Token.{Token}
use Rattle.mm_line.specs.declared.token.Token.TheVariants.{Name, Directive, Number, Wide, Comma, Colon, Plus, Bad, End}

-- a byte is of this kind
abbrev pub is_in : Class → ℕ → Bool
is_in Blank b = b == code " " || b == code "\t" || b == code "\r"
is_in Letter b = is_ascii_alphabetic b || b == code "_"
is_in NameByte b = is_ascii_alphabetic b || b == code "_" || is_digit b 10
is_in Decimal b = is_digit b 10
is_in Hexadecimal b = is_digit b 16

-- the count of bytes of this kind at the front
abbrev pub run : Class → List ℕ → ℕ
run c bytes = prefix_len (is_in c) bytes

-- the byte at the front is of this kind
abbrev pub starts : Class → List ℕ → Bool
starts c [] = false
starts c (b ∷ bytes) = is_in c b

-- the first of the bytes is this one, and what follows it passes a test
abbrev pub behind : ℕ → (List ℕ → Bool) → List ℕ → Bool
behind byte test [] = false
behind byte test (b ∷ bytes) = b == byte && test bytes

-- `0x` and a hexadecimal digit come first
abbrev pub starts_hexadecimal : List ℕ → Bool
starts_hexadecimal bytes = behind (code "0") (behind (code "x") (starts Hexadecimal)) bytes

-- a number of this sign and size, from -2^63 to 2^64 - 1
abbrev pub number : Bool → ℕ → Token
number true n = if nat_le n (2 ^ 63) then Number true n else Wide
number false n = if nat_lt n (2 ^ 64) then Number false n else Wide

-- the number of this sign whose decimal digits begin the bytes
abbrev pub decimal : Bool → List ℕ → Token
decimal negative bytes = number negative (digits_value 10 (take (run Decimal bytes) bytes))

-- the number whose hexadecimal digits begin the bytes
abbrev pub hexadecimal : List ℕ → Token
hexadecimal bytes = number false (digits_value 16 (take (run Hexadecimal bytes) bytes))

-- a token, its bytes, its place, which is the count of bytes of the line from the token on, and the line after it
pub record Next : Type 0 where
  pub token : Token
  pub text : List ℕ
  pub left : ℕ
  pub rest : List ℕ

-- a token of `size` bytes at the front of what is left of a line
abbrev pub front : Token → ℕ → List ℕ → Next
front token size at = record { token = token; text = take size at; left = length at; rest = drop size at }

-- no token is left. A missing token has its place at the line's end
abbrev pub end : Next
end = record { token = End; text = []; left = 0; rest = [] }

-- the token that begins with the first byte; `;` ends the line
unfoldable pub token_at : List ℕ → Next
token_at [] = end
token_at (b ∷ bytes) =
    let at = b ∷ bytes in
    if b == code ";" then end
    else if b == code "," then front Comma 1 at
    else if b == code ":" then front Colon 1 at
    else if b == code "+" then front Plus 1 at
    else if is_in Letter b then front Name (run NameByte at) at
    else if behind (code ".") (starts Letter) at then front Directive (1 + run NameByte bytes) at
    else if behind (code "-") (starts Decimal) at then front (decimal true bytes) (1 + run Decimal bytes) at
    else if starts_hexadecimal at then front (hexadecimal (drop 2 at)) (2 + run Hexadecimal (drop 2 at)) at
    else if is_in Decimal b then front (decimal false at) (run Decimal at) at
    else front Bad 1 at

-- the next token of a line, after any blanks
unfoldable pub next_token : List ℕ → Next
next_token line = token_at (drop (run Blank line) line)
