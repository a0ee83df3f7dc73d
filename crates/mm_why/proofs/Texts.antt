-- The texts of lines that are written one after the other.
use Rattle.std.proofs.Common.{◌≡◌, ℕ, ◌+◌, ◌<◌, List, [], ◌∷◌, ◌++◌, length, take, get_or, Option, refl, sym, ap, ◌∙◌}
use Rattle.std.proofs.Common.{append_assoc, append-nil, arith, codes, decimal}
use Rattle.std.{proofs.lemmas.List.{take_more, length-take-le}, specs.Fmt.digits}
use Rattle.mm_text.{specs.Appends.{Buffered, Appends}, proofs.Appending.{appends_then, appends_same}}
use Rattle.mm_why.specs.{declared.line.Line.Line, Text.{line_text, lines_text}}

-- 1. What is gathered after a text.

module _ {S : Type 0} {taken : S → Option (List ℕ)} {faults : S → ℕ} {a b c : S} {f g h : Buffered} where
  -- a word and what it tells
  pub appends_word : (first word told : List ℕ) → Appends taken faults a b f g first → Appends taken faults b c g h (word ++ told)
      → Appends taken faults a c f h (first ++ word ++ told)
  appends_word first word told x y = appends_same (appends_then x y) (sym (append_assoc first word told))

  -- a word, what it tells, and the word after it
  pub appends_words : (first word told next : List ℕ) → Appends taken faults a b f g first → Appends taken faults b c g h (word ++ told ++ next)
      → Appends taken faults a c f h (first ++ word ++ told ++ next)
  appends_words first word told next x y =
      appends_same (appends_then x y)
      (sym (append_assoc first (word ++ told) next) ∙ ap (λ (text : List ℕ). text ++ next) (sym (append_assoc first word told)))

-- 2. The texts of lines.

pub last_number : codes "18446744073709551616" ≡ decimal 18446744073709551616
unfolding digits
last_number = refl

no_lines : lines_text 0 [] ≡ []
unfolding lines_text
no_lines = refl

pub appends_none : {S : Type 0} {taken : S → Option (List ℕ)} {faults : S → ℕ} {a b : S} {f g : Buffered} → Appends taken faults a b f g []
    → Appends taken faults a b f g (lines_text 0 [])
appends_none x = appends_same x (sym no_lines)

lines_text-append : (k : ℕ) (a b : List Line) → lines_text k (a ++ b) ≡ lines_text k a ++ lines_text (k + length a) b
unfolding lines_text
lines_text-append k [] b = ap (λ (n : ℕ). lines_text n b) (omega arith)
lines_text-append k (x ∷ a) b =
    ap (λ (text : List ℕ). line_text k x ++ text)
    (lines_text-append (k + 1) a b ∙ ap (λ (n : ℕ). lines_text (k + 1) a ++ lines_text n b) (omega arith))
    ∙ sym (append_assoc (line_text k x) (lines_text (k + 1) a) (lines_text (k + length (x ∷ a)) b))

one : (k : ℕ) (line : Line) → lines_text k (line ∷ []) ≡ line_text k line
unfolding lines_text
one k line = append-nil (line_text k line)

-- the lines before one, and it
pub lines_text-more : (lines : List Line) (k : ℕ) (line : Line) → k < length lines → line ≡ get_or lines k line
    → lines_text 0 (take (k + 1) lines) ≡ lines_text 0 (take k lines) ++ line_text k line
lines_text-more lines k line inside is =
    let before : List Line = take k lines in
    let count : 0 + length before ≡ k = omega (arith, length-take-le k lines (omega (arith, inside))) in
    ap (lines_text 0) (take_more lines k line inside)
    ∙ lines_text-append 0 before (get_or lines k line ∷ [])
    ∙ ap (λ (n : ℕ). lines_text 0 before ++ lines_text n (get_or lines k line ∷ [])) count
    ∙ ap (λ (text : List ℕ). lines_text 0 before ++ text) (one k (get_or lines k line) ∙ ap (line_text k) (sym is))
