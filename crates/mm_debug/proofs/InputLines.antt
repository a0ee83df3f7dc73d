-- The first line of an input.
use Rattle.std.proofs.Common.{◌≡◌, ℕ, suc, ◌+◌, ◌-◌, ◌≤◌, ◌<◌, Bool, true, false, not, ◌==◌, cond, ltb, List, [], ◌∷◌}
use Rattle.std.proofs.Common.{length, take, drop, Option, Some, None, refl, sym, ap, subst, ◌∙◌, arith}
use Rattle.std.proofs.lemmas.{Bool.{ltb-true, ltb-false, cond-true, cond-false}, List.take_rest}
use Rattle.std.specs.List.{position_or_len}
use Prim.Native.Char.{code}
use Rattle.mm_debug.specs.Commands.{led_by, lines_of}

-- the place of the first newline, or the length where there is none
abbrev pub line_end : List ℕ → ℕ
line_end input = position_or_len (λ b. b == code "\n") input

at_newline : (b : ℕ) (bytes : List ℕ) → (b == code "\n") ≡ true → line_end (b ∷ bytes) ≡ 0
at_newline b bytes e = cond-false (not (b == code "\n")) (1 + line_end bytes) 0 (ap not e)

no_newline : (b : ℕ) (bytes : List ℕ) → (b == code "\n") ≡ false → line_end (b ∷ bytes) ≡ suc (line_end bytes)
no_newline b bytes e =
    let more : line_end (b ∷ bytes) ≡ 1 + line_end bytes = cond-true (not (b == code "\n")) (1 + line_end bytes) 0 (ap not e) in
    omega arith

-- bytes with no newline are one line, or none where there is none
one_line : (input : List ℕ) → length input ≤ line_end input → 0 < length input → lines_of input ≡ input ∷ []
one_line [] all some = absurd (omega arith)
one_line (b ∷ []) all some = by (b == code "\n") refl
  where
    by : (t : Bool) → (b == code "\n") ≡ t → lines_of (b ∷ []) ≡ (b ∷ []) ∷ []
    by true e = absurd (omega (arith, at_newline b [] e))
    by false e = rw e refl
one_line (b ∷ x ∷ bytes) all some = by (b == code "\n") refl (λ fits. one_line (x ∷ bytes) fits (omega arith))
  where
    by : (t : Bool) → (b == code "\n") ≡ t → (length (x ∷ bytes) ≤ line_end (x ∷ bytes) → lines_of (x ∷ bytes) ≡ (x ∷ bytes) ∷ []) → lines_of (b ∷ x ∷ bytes) ≡ (b ∷ x ∷ bytes) ∷ []
    by true e later = absurd (omega (arith, at_newline b (x ∷ bytes) e))
    by false e later = rw e (ap (led_by b) (later (omega (arith, no_newline b (x ∷ bytes) e))))

-- a line goes up to the first newline
first : (input : List ℕ) → line_end input < length input → lines_of input ≡ take (line_end input) input ∷ lines_of (drop (suc (line_end input)) input)
first [] within = absurd (omega arith)
first (b ∷ bytes) within = by (b == code "\n") refl (first bytes)
  where
    Goes : ℕ → Type 0
    Goes end = lines_of (b ∷ bytes) ≡ take end (b ∷ bytes) ∷ lines_of (drop (suc end) (b ∷ bytes))

    by : (t : Bool) → (b == code "\n") ≡ t → (line_end bytes < length bytes → lines_of bytes ≡ take (line_end bytes) bytes ∷ lines_of (drop (suc (line_end bytes)) bytes)) → Goes (line_end (b ∷ bytes))
    by true e later = subst Goes (sym (at_newline b bytes e)) (rw e refl)
    by false e later = subst Goes (sym (no_newline b bytes e)) (rw e (ap (led_by b) (later (omega (arith, no_newline b bytes e)))))

pub none_found : (input : List ℕ) (found : Option ℕ) → 0 < length input → found ≡ cond (ltb (line_end input) (length input)) (Some (line_end input)) None
    → found ≡ None → lines_of input ≡ input ∷ []
none_found input found some is none = by (ltb (line_end input) (length input)) refl (sym none ∙ is)
  where
    by : (t : Bool) → ltb (line_end input) (length input) ≡ t → None ≡ cond t (Some (line_end input)) None → lines_of input ≡ input ∷ []
    by true e same = cc
    by false e same = one_line input (ltb-false (line_end input) (length input) e) some

pub found_at : (input : List ℕ) (found : Option ℕ) (end : ℕ) → found ≡ cond (ltb (line_end input) (length input)) (Some (line_end input)) None
    → found ≡ Some end → lines_of input ≡ take end input ∷ lines_of (take (length input - (end + 1)) (drop (end + 1) input))
found_at input found end is some = by (ltb (line_end input) (length input)) refl (sym some ∙ is)
  where
    by : (t : Bool) → ltb (line_end input) (length input) ≡ t → Some end ≡ cond t (Some (line_end input)) None
        → lines_of input ≡ take end input ∷ lines_of (take (length input - (end + 1)) (drop (end + 1) input))
    by true e same =
        let at : line_end input ≡ end = cc in
        first input (ltb-true (line_end input) (length input) e)
        ∙ ap (λ (k : ℕ). take k input ∷ lines_of (drop (suc k) input)) at
        ∙ (let next : suc end ≡ end + 1 = omega arith in ap (λ (k : ℕ). take end input ∷ lines_of (drop k input)) next)
        ∙ sym (ap (λ (rest : List ℕ). take end input ∷ lines_of rest) (take_rest input (end + 1)))
    by false e same = cc

pub no_lines : (input : List ℕ) → length input ≡ 0 → lines_of input ≡ []
no_lines [] none = refl
no_lines (b ∷ bytes) none = absurd (omega arith)
