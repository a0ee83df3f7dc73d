-- The numbers that bytes spell.
use Rattle.std.proofs.Common.{◌≡◌, ℕ, ◌+◌, ◌*◌, ◌<◌, List, [], ◌∷◌, length, get_or, take, refl, ap, ◌∙◌, arith}
use Rattle.std.{proofs.lemmas.List.drop_more, specs.{List.fold, Int.{w16, w32, w64, from_be_bytes}}}
use Rattle.mm_model.specs.Bytes.{number_at}

-- 1. Lists of known length.

pub two : (xs : List ℕ) → length xs ≡ 2 → xs ≡ get_or xs 0 0 ∷ get_or xs 1 0 ∷ []
two (a ∷ b ∷ []) len = refl
two _ len = absurd (omega arith)

pub four : (xs : List ℕ) → length xs ≡ 4 → xs ≡ get_or xs 0 0 ∷ get_or xs 1 0 ∷ get_or xs 2 0 ∷ get_or xs 3 0 ∷ []
four (a ∷ b ∷ c ∷ d ∷ []) len = refl
four _ len = absurd (omega arith)

pub eight : (xs : List ℕ) → length xs ≡ 8 → xs ≡ get_or xs 0 0 ∷ get_or xs 1 0 ∷ get_or xs 2 0 ∷ get_or xs 3 0 ∷ get_or xs 4 0 ∷ get_or xs 5 0 ∷ get_or xs 6 0 ∷ get_or xs 7 0 ∷ []
eight (a ∷ b ∷ c ∷ d ∷ e ∷ f ∷ g ∷ h ∷ []) len = refl
eight _ len = absurd (omega arith)

-- 2. Their numbers.

abbrev number : List ℕ → ℕ
number xs = fold (λ n b. n * 256 + b) 0 xs

number_2 : (a b : ℕ) → number (a ∷ b ∷ []) ≡ from_be_bytes w16 (a ∷ b ∷ [])
number_2 a b = omega arith

number_4 : (a b c d : ℕ) → number (a ∷ b ∷ c ∷ d ∷ []) ≡ from_be_bytes w32 (a ∷ b ∷ c ∷ d ∷ [])
number_4 a b c d = omega arith

number_8 : (a b c d e f g h : ℕ) → number (a ∷ b ∷ c ∷ d ∷ e ∷ f ∷ g ∷ h ∷ []) ≡ from_be_bytes w64 (a ∷ b ∷ c ∷ d ∷ e ∷ f ∷ g ∷ h ∷ [])
number_8 a b c d e f g h = omega arith

pub number_is_2 : (xs : List ℕ) → length xs ≡ 2 → number xs ≡ from_be_bytes w16 (get_or xs 0 0 ∷ get_or xs 1 0 ∷ [])
number_is_2 xs len = ap number (two xs len) ∙ number_2 (get_or xs 0 0) (get_or xs 1 0)

pub number_is_4 : (xs : List ℕ) → length xs ≡ 4 → number xs ≡ from_be_bytes w32 (get_or xs 0 0 ∷ get_or xs 1 0 ∷ get_or xs 2 0 ∷ get_or xs 3 0 ∷ [])
number_is_4 xs len = ap number (four xs len) ∙ number_4 (get_or xs 0 0) (get_or xs 1 0) (get_or xs 2 0) (get_or xs 3 0)

pub number_is_8 : (xs : List ℕ) → length xs ≡ 8
    → number xs ≡ from_be_bytes w64 (get_or xs 0 0 ∷ get_or xs 1 0 ∷ get_or xs 2 0 ∷ get_or xs 3 0 ∷ get_or xs 4 0 ∷ get_or xs 5 0 ∷ get_or xs 6 0 ∷ get_or xs 7 0 ∷ [])
number_is_8 xs len =
    ap number (eight xs len) ∙ number_8 (get_or xs 0 0) (get_or xs 1 0) (get_or xs 2 0) (get_or xs 3 0) (get_or xs 4 0) (get_or xs 5 0) (get_or xs 6 0) (get_or xs 7 0)

-- 3. A field of one byte.

pub field_1 : (bytes : List ℕ) (at : ℕ) → at < length bytes → number_at bytes at 1 ≡ get_or bytes at 0
unfolding number_at
field_1 bytes at lt = ap (λ (xs : List ℕ). number (take 1 xs)) (drop_more bytes at 0 lt) ∙ omega arith
