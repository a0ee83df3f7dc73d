-- How the runs of a text begin and end.
use Rattle.std.proofs.Common.{◌≡◌, ℕ, zero, suc, ◌+◌, ◌-◌, ◌<◌, ◌≤◌, ◌⊎◌, inl, inr, Bool, true, false, not, cond, ◌&&◌}
use Rattle.std.proofs.Common.{◌||◌, ◌==◌, List, [], ◌∷◌, length, drop, slice_index_or, slice_range, refl, sym, ap, ◌∙◌}
use Rattle.std.proofs.{Common.{subst, arith}, lemmas.{List.drop_more, Bool.Decides.nat_tests}}
use Rattle.std.proofs.Math.ListN.{drop_of_length-le}
use Rattle.mm_sched.{proofs.Numbers.below_or, specs.Places.{runs_in, is_word_byte}}
use Rattle.mm_model.specs.Words.{is_blank, uncommented, joined, runs_from}

pub record WordByte (b : ℕ) : Type 0 where
  pub no_newline : (b == 10) ≡ false
  pub no_comment : (b == 35) ≡ false
  pub no_blank : is_blank b ≡ false

word_of : (a b c d e : Bool) → (not (a || b || c || d) && not e) ≡ true → (b ≡ false) × (e ≡ false) × ((a || b || c || d) ≡ false)
word_of true b c d e h = absurd (cc)
word_of false true c d e h = absurd (cc)
word_of false false true d e h = absurd (cc)
word_of false false false true e h = absurd (cc)
word_of false false false false true h = absurd (cc)
word_of false false false false false h = (refl, refl, refl)

pub word_byte : (b : ℕ) → is_word_byte b ≡ true → WordByte b
word_byte b h = let f = word_of (b == 9) (b == 10) (b == 13) (b == 32) (b == 35) h in record { no_newline = f.0; no_comment = f.1; no_blank = f.2 }

-- the first run begins at a place or behind it
abbrev FirstFrom : ℕ → List (ℕ × List ℕ) → Type 0
FirstFrom at [] = Unit {0}
FirstFrom at (run ∷ runs) = at ≤ run.0

weaker : (at : ℕ) (runs : List (ℕ × List ℕ)) → FirstFrom (at + 1) runs → FirstFrom at runs
weaker at [] h = tt
weaker at (run ∷ runs) h = omega arith

joined_first : (at b : ℕ) (runs : List (ℕ × List ℕ)) → FirstFrom at (joined at b runs)
joined_first at b [] = omega arith
joined_first at b (run ∷ runs) = elim (run.0 == at + 1) as (λ t. FirstFrom at (cond t ((at, b ∷ run.1) ∷ runs) ((at, b ∷ []) ∷ run ∷ runs))) [ true ↦ omega arith | false ↦ omega arith ]

places : (at : ℕ) (bytes : List ℕ) → FirstFrom at (runs_from at bytes)
places at [] = tt
places at (b ∷ bytes) = elim (is_blank b) as (λ t. FirstFrom at (cond t (runs_from (at + 1) bytes) (joined at b (runs_from (at + 1) bytes))))
    [ true ↦ weaker at (runs_from (at + 1) bytes) (places (at + 1) bytes) | false ↦ joined_first at b (runs_from (at + 1) bytes) ]

-- a byte that no run joins is a run of its own
alone : (at b : ℕ) (runs : List (ℕ × List ℕ)) → FirstFrom (at + 2) runs → joined at b runs ≡ (at, b ∷ []) ∷ runs
alone at b [] h = refl
alone at b (run ∷ runs) h = let e : (run.0 == at + 1) ≡ false = grind (arith, nat_tests) in rw e refl

joins : (at b : ℕ) (word : List ℕ) (runs : List (ℕ × List ℕ)) → joined at b ((at + 1, word) ∷ runs) ≡ (at, b ∷ word) ∷ runs
joins at b word runs = let e : (at + 1 == at + 1) ≡ true = grind (arith, nat_tests) in rw e refl

-- one byte on

word_from : (at b : ℕ) (bytes : List ℕ) → WordByte b → runs_from at (uncommented false (b ∷ bytes)) ≡ joined at b (runs_from (at + 1) (uncommented false bytes))
word_from at b bytes w = rw (w.no_newline, w.no_comment, w.no_blank) refl

text_step : (text : List ℕ) (at : ℕ) (c : Bool) → at < length text → runs_in c text at ≡ runs_from at (uncommented c (slice_index_or text at 0 ∷ drop (at + 1) text))
text_step text at c h = ap (λ rest. runs_from at (uncommented c rest)) (drop_more text at 0 h)

newline_from : (at b : ℕ) (c : Bool) (rest : List ℕ) → b ≡ 10 → runs_from at (uncommented c (b ∷ rest)) ≡ runs_from (at + 1) (uncommented false rest)
newline_from at b c rest h = rw h refl

comment_from : (at b : ℕ) (c : Bool) (rest : List ℕ) → (b ≡ 10 → ⊥) → (c || b == 35) ≡ true → runs_from at (uncommented c (b ∷ rest)) ≡ runs_from (at + 1) (uncommented true rest)
comment_from at b c rest n h = let e : (b == 10) ≡ false = grind (arith, nat_tests) in rw (e, h) refl

blank_from : (at b : ℕ) (rest : List ℕ) → (b ≡ 10 → ⊥) → (b ≡ 35 → ⊥) → is_blank b ≡ true → runs_from at (uncommented false (b ∷ rest)) ≡ runs_from (at + 1) (uncommented false rest)
blank_from at b rest n m h =
    let e : (b == 10) ≡ false = grind (arith, nat_tests) in
    let f : (b == 35) ≡ false = grind (arith, nat_tests) in
    rw (e, f, h) refl

pub newline_step : (text : List ℕ) (at : ℕ) (c : Bool) → at < length text → slice_index_or text at 0 ≡ 10 → runs_in false text (at + 1) ≡ runs_in c text at
newline_step text at c h e = sym (text_step text at c h ∙ newline_from at (slice_index_or text at 0) c (drop (at + 1) text) e)

pub comment_step : (text : List ℕ) (at : ℕ) (c : Bool) → at < length text → (slice_index_or text at 0 ≡ 10 → ⊥) → (c || slice_index_or text at 0 == 35) ≡ true
    → runs_in true text (at + 1) ≡ runs_in c text at
comment_step text at c h n e = sym (text_step text at c h ∙ comment_from at (slice_index_or text at 0) c (drop (at + 1) text) n e)

pub blank_step : (text : List ℕ) (at : ℕ) → at < length text → (slice_index_or text at 0 ≡ 10 → ⊥) → (slice_index_or text at 0 ≡ 35 → ⊥) → is_blank (slice_index_or text at 0) ≡ true
    → runs_in false text (at + 1) ≡ runs_in false text at
blank_step text at h n m e = sym (text_step text at false h ∙ blank_from at (slice_index_or text at 0) (drop (at + 1) text) n m e)

-- a run of so many bytes and one more

pub record AllWord (text : List ℕ) (from end : ℕ) : Type 0 where
  pub each : (k : ℕ) → from ≤ k → k < end → is_word_byte (slice_index_or text k 0) ≡ true

-- the text ends here, or a byte stands here that is no word's
abbrev pub Ends : List ℕ → ℕ → Type 0
Ends text at = (at ≡ length text) ⊎ ((at < length text) × (is_word_byte (slice_index_or text at 0) ≡ false))

-- a byte that no word has: a newline, `#` or another blank
not_word_byte : (b : ℕ) → is_word_byte b ≡ false → (b ≡ 10) ⊎ ((b ≡ 10 → ⊥) × (b ≡ 35)) ⊎ ((b ≡ 10 → ⊥) × (b ≡ 35 → ⊥) × (is_blank b ≡ true))
not_word_byte b h = grind (arith, nat_tests)

ends_first : (text : List ℕ) (at : ℕ) → Ends text at → FirstFrom (at + 1) (runs_in false text at)
ends_first text at (inl e) = let z : drop at text ≡ [] = drop_of_length-le text (omega arith) in rw z tt
ends_first text at (inr e) =
    let P : List (ℕ × List ℕ) → Type 0 = λ runs. FirstFrom (at + 1) runs in
    elim (not_word_byte (slice_index_or text at 0) e.1) [
      | inl n ↦ subst P (newline_step text at false e.0 n) (places (at + 1) (uncommented false (drop (at + 1) text)))
      | inr f ↦ elim f [
        | inl g ↦ subst P (comment_step text at false e.0 g.0 (grind (arith, nat_tests))) (places (at + 1) (uncommented true (drop (at + 1) text)))
        | inr g ↦ subst P (blank_step text at e.0 g.0 g.1 g.2) (places (at + 1) (uncommented false (drop (at + 1) text)))
      ]
    ]

one_word : (text : List ℕ) (at : ℕ) → at < length text → is_word_byte (slice_index_or text at 0) ≡ true
    → runs_in false text at ≡ joined at (slice_index_or text at 0) (runs_in false text (at + 1))
one_word text at h w = text_step text at false h ∙ word_from at (slice_index_or text at 0) (drop (at + 1) text) (word_byte (slice_index_or text at 0) w)

slice_more : (text : List ℕ) (n from end : ℕ) → end - from ≡ suc n → end - (from + 1) ≡ n → from < length text
    → slice_range text from end ≡ slice_index_or text from 0 ∷ slice_range text (from + 1) end
slice_more text n from end e f h = rw (e, f, drop_more text from 0 h) refl

-- a run of n bytes and one more
run_of : (text : List ℕ) (n from end : ℕ) → from + (n + 1) ≡ end → end ≤ length text → AllWord text from end → Ends text end
    → runs_in false text from ≡ (from, slice_range text from end) ∷ runs_in false text end
run_of text zero from end e le all ends =
    let b : ℕ = slice_index_or text from 0 in
    let next : from + 1 ≡ end = omega arith in
    let P : ℕ → Type 0 = λ at. joined from b (runs_in false text at) ≡ (from, b ∷ []) ∷ runs_in false text at in
    let Q : ℕ → Type 0 = λ at. FirstFrom at (runs_in false text end) in
    let first : FirstFrom (from + 2) (runs_in false text end) = subst Q (omega arith) (ends_first text end ends) in
    let behind : slice_range text (from + 1) end ≡ [] = rw (let z : end - (from + 1) ≡ 0 = omega arith in z) refl in
    let slice : slice_range text from end ≡ b ∷ [] = slice_more text zero from end (omega arith) (omega arith) (omega arith) ∙ ap (λ xs. b ∷ xs) behind in
    one_word text from (omega arith) (all.each from (omega arith) (omega arith))
    ∙ ap (λ at. joined from b (runs_in false text at)) next
    ∙ alone from b (runs_in false text end) first
    ∙ ap (λ word. (from, word) ∷ runs_in false text end) (sym slice)
run_of text (suc n) from end e le all ends =
    let b : ℕ = slice_index_or text from 0 in
    let rest : runs_in false text (from + 1) ≡ (from + 1, slice_range text (from + 1) end) ∷ runs_in false text end =
    run_of text n (from + 1) end (omega arith) le (record { each = λ k low high. all.each k (omega arith) high }) ends in
    one_word text from (omega arith) (all.each from (omega arith) (omega arith))
    ∙ ap (λ runs. joined from b runs) rest
    ∙ joins from b (slice_range text (from + 1) end) (runs_in false text end)
    ∙ ap (λ word. (from, word) ∷ runs_in false text end) (sym (slice_more text (end - (from + 1)) from end (omega arith) refl (omega arith)))

pub run_between : (text : List ℕ) (from end : ℕ) → from < end → end ≤ length text → AllWord text from end → Ends text end
    → runs_in false text from ≡ (from, slice_range text from end) ∷ runs_in false text end
run_between text from end lt le all ends = run_of text (end - from - 1) from end (omega arith) le all ends

pub all_none : (text : List ℕ) (from : ℕ) → is_word_byte (slice_index_or text from 0) ≡ true → AllWord text from (from + 1)
all_none text from h = record { each = λ k low high. let e : from ≡ k = omega arith in let P : ℕ → Type 0 = λ i. is_word_byte (slice_index_or text i 0) ≡ true in subst P e h }

pub all_more : (text : List ℕ) (from end : ℕ) → AllWord text from end → is_word_byte (slice_index_or text end 0) ≡ true → AllWord text from (end + 1)
all_more text from end all h = record {
  each = λ k low high. elim (below_or k end (omega arith)) [
    | inl lt ↦ all.each k low lt
    | inr e ↦ let P : ℕ → Type 0 = λ i. is_word_byte (slice_index_or text i 0) ≡ true in subst P e h
  ];
}

pub is_word : (b : ℕ) → is_blank b ≡ false → (b ≡ 35 → ⊥) → is_word_byte b ≡ true
is_word b h n = grind (arith, nat_tests)

pub no_word : (b : ℕ) → (is_blank b ≡ true) ⊎ (b ≡ 35) → is_word_byte b ≡ false
no_word b h = grind (arith, nat_tests)
