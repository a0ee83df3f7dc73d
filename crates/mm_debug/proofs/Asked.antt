-- What a line asks for, by the tokens that are taken from its front.
use Rattle.std.proofs.Common.{◌≡◌, ℕ, Bool, true, false, ◌==◌, List, [], ◌∷◌, length, refl, sym, ap, ◌∙◌, arith}
use Rattle.std.proofs.lemmas.Bool.{eqb-true}
use Rattle.mm_debug.specs.Commands.{tokens, with_token, by_tokens, command_of}

-- A token was taken from a line, an empty one where there is none, and left the rest.
pub record Taken (line token rest : List ℕ) : Type 0 where
  pub tokens_are : tokens line ≡ with_token token (tokens rest)
  pub end : token ≡ [] → rest ≡ []

-- it was empty
pub none : (line token rest : List ℕ) (is_empty : Bool) → Taken line token rest → is_empty ≡ (length token == 0) → is_empty ≡ true → tokens line ≡ []
unfolding tokens
none line [] rest is_empty taken is so = taken.tokens_are ∙ ap tokens (taken.end refl)
none line (b ∷ bytes) rest is_empty taken is so = absurd (omega (arith, eqb-true (length (b ∷ bytes)) 0 (sym is ∙ so)))

-- it was not, and stands before the others
pub some : (line token rest : List ℕ) (is_empty : Bool) (others : List (List ℕ)) → Taken line token rest → is_empty ≡ (length token == 0) → is_empty ≡ false
    → tokens rest ≡ others → tokens line ≡ token ∷ others
some line [] rest is_empty others taken is so left = cc
some line (b ∷ bytes) rest is_empty others taken is so left = taken.tokens_are ∙ ap (λ (found : List (List ℕ)). (b ∷ bytes) ∷ found) left

pub asks : (line : List ℕ) (found : List (List ℕ)) → tokens line ≡ found → by_tokens found ≡ command_of line
unfolding command_of
asks line found e = ap by_tokens (sym e)
