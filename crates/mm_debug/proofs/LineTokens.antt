-- The tokens of a line, taken one after another from its front.
use Rattle.std.proofs.Common.{◌≡◌, ℕ, suc, ◌-◌, Bool, true, false, not, List, [], ◌∷◌, length, take, drop, refl, sym}
use Rattle.std.proofs.{Common.{ap, ◌∙◌, one-add}, lemmas.{List.take_rest, Bool.{cond-true, cond-false, not-true}}}
use Rattle.std.specs.List.{prefix_len}
use Rattle.mm_debug.specs.Commands.{is_blank, goes_on, led_by, tokens, with_token}

-- how many blanks, and how many bytes of a token, a line begins with
abbrev pub blanks_of : List ℕ → ℕ
blanks_of line = prefix_len (λ b. is_blank b) line

abbrev pub letters_of : List ℕ → ℕ
letters_of line = prefix_len (λ b. not (is_blank b)) line

-- 1. A byte at the front.

blank_first : (b : ℕ) (bytes : List ℕ) → is_blank b ≡ true → tokens (b ∷ bytes) ≡ tokens bytes
unfolding tokens
blank_first b bytes e = cond-true (is_blank b) _ _ e

letter_goes_on : (b : ℕ) (bytes : List ℕ) → is_blank b ≡ false → goes_on bytes ≡ true → tokens (b ∷ bytes) ≡ led_by b (tokens bytes)
unfolding tokens
letter_goes_on b bytes e g = cond-false (is_blank b) _ _ e ∙ cond-true (goes_on bytes) _ _ g

letter_ends : (b : ℕ) (bytes : List ℕ) → is_blank b ≡ false → goes_on bytes ≡ false → tokens (b ∷ bytes) ≡ (b ∷ []) ∷ tokens bytes
unfolding tokens
letter_ends b bytes e g = cond-false (is_blank b) _ _ e ∙ cond-false (goes_on bytes) _ _ g

blanks_more : (b : ℕ) (bytes : List ℕ) → is_blank b ≡ true → drop (blanks_of (b ∷ bytes)) (b ∷ bytes) ≡ drop (blanks_of bytes) bytes
blanks_more b bytes e = ap (λ (k : ℕ). drop k (b ∷ bytes)) (cond-true (is_blank b) _ _ e ∙ one-add (blanks_of bytes))

blanks_none : (b : ℕ) (bytes : List ℕ) → is_blank b ≡ false → drop (blanks_of (b ∷ bytes)) (b ∷ bytes) ≡ b ∷ bytes
blanks_none b bytes e = ap (λ (k : ℕ). drop k (b ∷ bytes)) (cond-false (is_blank b) _ _ e)

letters_more : (b : ℕ) (bytes : List ℕ) → is_blank b ≡ false → letters_of (b ∷ bytes) ≡ suc (letters_of bytes)
letters_more b bytes e = cond-true (not (is_blank b)) _ _ (ap not e) ∙ one-add (letters_of bytes)

letters_none : (bytes : List ℕ) → goes_on bytes ≡ false → letters_of bytes ≡ 0
letters_none [] g = refl
letters_none (b ∷ bytes) g = cond-false (not (is_blank b)) _ _ g

taken_more : (b : ℕ) (bytes : List ℕ) → is_blank b ≡ false → take (letters_of (b ∷ bytes)) (b ∷ bytes) ≡ b ∷ take (letters_of bytes) bytes
taken_more b bytes e = ap (λ (k : ℕ). take k (b ∷ bytes)) (letters_more b bytes e)

dropped_more : (b : ℕ) (bytes : List ℕ) → is_blank b ≡ false → drop (letters_of (b ∷ bytes)) (b ∷ bytes) ≡ drop (letters_of bytes) bytes
dropped_more b bytes e = ap (λ (k : ℕ). drop k (b ∷ bytes)) (letters_more b bytes e)

-- 2. Blanks in front of a line change no token.

after_blanks : (line : List ℕ) → tokens (drop (blanks_of line) line) ≡ tokens line
after_blanks [] = refl
after_blanks (b ∷ bytes) = by (is_blank b) refl (after_blanks bytes)
  where
    by : (t : Bool) → is_blank b ≡ t → tokens (drop (blanks_of bytes) bytes) ≡ tokens bytes → tokens (drop (blanks_of (b ∷ bytes)) (b ∷ bytes)) ≡ tokens (b ∷ bytes)
    by true e later = ap tokens (blanks_more b bytes e) ∙ later ∙ sym (blank_first b bytes e)
    by false e later = ap tokens (blanks_none b bytes e)

-- 3. The longest run of other bytes is the first token, where it is one.

abbrev split_off : List ℕ → List (List ℕ)
split_off line = with_token (take (letters_of line) line) (tokens (drop (letters_of line) line))

led : (b : ℕ) (bytes : List ℕ) (others : List (List ℕ)) → goes_on bytes ≡ true
    → led_by b (with_token (take (letters_of bytes) bytes) others) ≡ with_token (b ∷ take (letters_of bytes) bytes) others
led b [] others g = cc
led b (d ∷ bytes) others g =
    let e = taken_more d bytes (not-true (is_blank d) g) in
    ap (λ (token : List ℕ). led_by b (with_token token others)) e ∙ sym (ap (λ (token : List ℕ). with_token (b ∷ token) others) e)

split_more : (b : ℕ) (bytes : List ℕ) → is_blank b ≡ false → split_off (b ∷ bytes) ≡ with_token (b ∷ take (letters_of bytes) bytes) (tokens (drop (letters_of bytes) bytes))
split_more b bytes e = ap (λ (token : List ℕ). with_token token (tokens (drop (letters_of (b ∷ bytes)) (b ∷ bytes)))) (taken_more b bytes e)
    ∙ ap (λ (rest : List ℕ). with_token (b ∷ take (letters_of bytes) bytes) (tokens rest)) (dropped_more b bytes e)

first_token : (line : List ℕ) → tokens line ≡ split_off line
first_token [] = refl
first_token (b ∷ bytes) = by (is_blank b) refl (goes_on bytes) refl (first_token bytes)
  where
    by : (t : Bool) → is_blank b ≡ t → (g : Bool) → goes_on bytes ≡ g → tokens bytes ≡ split_off bytes → tokens (b ∷ bytes) ≡ split_off (b ∷ bytes)
    by true e g goes later = sym (ap (λ (k : ℕ). with_token (take k (b ∷ bytes)) (tokens (drop k (b ∷ bytes)))) (letters_none (b ∷ bytes) (ap not e)))
    by false e true goes later = letter_goes_on b bytes e goes ∙ ap (led_by b) later ∙ led b bytes (tokens (drop (letters_of bytes) bytes)) goes ∙ sym (split_more b bytes e)
    by false e false goes later = letter_ends b bytes e goes
        ∙ sym (ap (λ (k : ℕ). with_token (b ∷ take k bytes) (tokens (drop k bytes))) (letters_none bytes goes))
        ∙ sym (split_more b bytes e)

token_and_rest : (line : List ℕ) → let at = drop (blanks_of line) line in tokens line ≡ with_token (take (letters_of at) at) (tokens (drop (letters_of at) at))
token_and_rest line = sym (after_blanks line) ∙ first_token (drop (blanks_of line) line)

-- where there is no token after the blanks, nothing is
no_token_left : (line : List ℕ) → let at = drop (blanks_of line) line in take (letters_of at) at ≡ [] → drop (letters_of at) at ≡ []
no_token_left [] none = refl
no_token_left (b ∷ bytes) none = by (is_blank b) refl (no_token_left bytes)
  where
    by : (t : Bool) → is_blank b ≡ t
        → (take (letters_of (drop (blanks_of bytes) bytes)) (drop (blanks_of bytes) bytes) ≡ []
        → drop (letters_of (drop (blanks_of bytes) bytes)) (drop (blanks_of bytes) bytes) ≡ [])
        → drop (letters_of (drop (blanks_of (b ∷ bytes)) (b ∷ bytes))) (drop (blanks_of (b ∷ bytes)) (b ∷ bytes)) ≡ []
    by true e later =
        let same = blanks_more b bytes e in
        ap (λ (at : List ℕ). drop (letters_of at) at) same ∙ later (sym (ap (λ (at : List ℕ). take (letters_of at) at) same) ∙ none)
    by false e later =
        let some : b ∷ take (letters_of bytes) bytes ≡ [] = sym (taken_more b bytes e) ∙ sym (ap (λ (at : List ℕ). take (letters_of at) at) (blanks_none b bytes e)) ∙ none in
        cc

-- 4. What is cut off a line after its blanks.

pub after_start : (line : List ℕ) (start : ℕ) → start ≡ blanks_of line → take (length line - start) (drop start line) ≡ drop (blanks_of line) line
after_start line start is = take_rest line start ∙ ap (λ (k : ℕ). drop k line) is

pub token_cut : (line at token rest : List ℕ) (size : ℕ) → at ≡ drop (blanks_of line) line → size ≡ letters_of at → token ≡ take size at → rest ≡ drop size at
    → tokens line ≡ with_token token (tokens rest)
token_cut line at token rest size behind is front back = let whole = token_and_rest line in cc

pub end_cut : (line at token rest : List ℕ) (size : ℕ) → at ≡ drop (blanks_of line) line → size ≡ letters_of at → token ≡ take size at → rest ≡ drop size at
    → token ≡ [] → rest ≡ []
end_cut line at token rest size behind is front back none =
    let taken : take (letters_of (drop (blanks_of line) line)) (drop (blanks_of line) line) ≡ [] = cc in
    let left = no_token_left line taken in
    cc
