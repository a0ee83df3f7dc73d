-- The place of a token in its line.
use Rattle.std.specs.{Prelude.{◌≡◌, ◌≢◌, ℕ, ◌-◌, ◌<◌, ◌≤◌, true, List, ◌++◌, length, take, drop}, List.list_all}
use Rattle.mm_line.specs.declared.{class.Class.TheVariants.Blank, token.Token.{Token, TheVariants.End}}
use Rattle.mm_line.specs.Tokens.{Next, is_in}

-- a token at the front of a line, with these bytes and this line after it
abbrev pub written : Token → List ℕ → List ℕ → Next
written token text rest = record { token = token; text = text; left = length (text ++ rest); rest = rest }

-- a token and the line after it are what is left of the line at its place, and only blanks are before it
pub record StandsIn (line : List ℕ) (n : Next) : Type 0 where
  pub place : n.left ≤ length line
  pub bytes : n.text ++ n.rest ≡ drop (length line - n.left) line
  pub blanks : n.token ≢ End → list_all (is_in Blank) (take (length line - n.left) line) ≡ true
  pub some : n.token ≢ End → length n.rest < n.left
  pub end : n.token ≡ End → n.left ≡ 0
