-- The forms of tokens.
use Rattle.std.specs.Prelude.{◌≡◌, ◌≢◌, ℕ, ◌<◌, ◌≤◌, Bool, true, false, ◌&&◌, ◌||◌, List, [], ◌∷◌, ◌++◌, length, take}
use Rattle.std.specs.List.{list_all}
use Prim.Native.Char.{code}
use Rattle.mm_line.specs.declared.class.Class.{Class, TheVariants.{Letter, NameByte, Decimal, Hexadecimal}}
use Rattle.mm_line.specs.declared.token.Token.{Token}
use Rattle.mm_line.specs.declared.token.Token.TheVariants.{Name, Directive, Number, Wide, Comma, Colon, Plus, Bad, End}
use Rattle.mm_line.specs.Tokens.{Next, is_in, starts, behind}

-- a letter or `_`, then letters, digits or `_`
abbrev pub is_name : List ℕ → Bool
is_name bytes = starts Letter bytes && list_all (is_in NameByte) bytes

-- a `.` and a name
abbrev pub is_directive : List ℕ → Bool
is_directive bytes = behind (code ".") is_name bytes

-- one digit or more
abbrev pub is_digits : Class → List ℕ → Bool
is_digits c bytes = starts c bytes && list_all (is_in c) bytes

-- decimal digits, perhaps with a `-` before them, or `0x` and hexadecimal digits
abbrev pub is_number : List ℕ → Bool
is_number bytes =
    is_digits Decimal bytes || behind (code "-") (is_digits Decimal) bytes
    || behind (code "0") (behind (code "x") (is_digits Hexadecimal)) bytes

abbrev pub is_empty : List ℕ → Bool
is_empty [] = true
is_empty (b ∷ bytes) = false

-- bytes that are this byte alone
abbrev pub is_sign : ℕ → List ℕ → Bool
is_sign byte bytes = behind byte is_empty bytes

-- bytes that have the form of a token
abbrev pub is_token : List ℕ → Bool
is_token bytes =
    is_name bytes || is_directive bytes || is_number bytes || is_sign (code ",") bytes || is_sign (code ":") bytes
    || is_sign (code "+") bytes

-- bytes that have the form of this token
abbrev pub has_form : Token → List ℕ → Bool
has_form Name bytes = is_name bytes
has_form Directive bytes = is_directive bytes
has_form (Number negative m) bytes = is_number bytes
has_form Wide bytes = is_number bytes
has_form Comma bytes = is_sign (code ",") bytes
has_form Colon bytes = is_sign (code ":") bytes
has_form Plus bytes = is_sign (code "+") bytes
has_form Bad bytes = true
has_form End bytes = true

-- a token has its form, and none that begins at its place is longer; none begins at a bad byte
pub record IsLongest (n : Next) : Type 0 where
  pub form : has_form n.token n.text ≡ true
  pub longest : n.token ≢ End → (k : ℕ) → length n.text < k → k ≤ length (n.text ++ n.rest)
      → is_token (take k (n.text ++ n.rest)) ≡ false
  pub none : n.token ≡ Bad → (k : ℕ) → is_token (take k (n.text ++ n.rest)) ≡ false
