-- Texts of words: the meaning and the fault of a text, given what one word says and the rules that items keep.
use Rattle.std.specs.Prelude.{◌≡◌, ℕ, ◌+◌, Bool, true, false, ◌||◌, ◌==◌, if◌then◌else◌, List, [], ◌∷◌, ◌++◌}

-- 1. The words of a text.

-- tab, newline, carriage return and space
abbrev pub is_blank : ℕ → Bool
is_blank b = b == 9 || b == 10 || b == 13 || b == 32

-- the text with blanks in place of comments, which go from `#` to the end of the line
abbrev pub uncommented : (in_comment : Bool) → List ℕ → List ℕ
uncommented in_comment [] = []
uncommented in_comment (b ∷ bytes) =
    if b == 10 then 10 ∷ uncommented false bytes
    else if in_comment || b == 35 then 32 ∷ uncommented true bytes
    else b ∷ uncommented false bytes

-- a byte at a place joins the run that begins right after it, or is a run of its own
abbrev pub joined : ℕ → ℕ → List (ℕ × List ℕ) → List (ℕ × List ℕ)
joined at b [] = (at, b ∷ []) ∷ []
joined at b (run ∷ runs) = if run.0 == at + 1 then (at, b ∷ run.1) ∷ runs else (at, b ∷ []) ∷ run ∷ runs

-- the maximal runs of bytes that are not blank, each with the place of its first byte
abbrev pub runs_from : ℕ → List ℕ → List (ℕ × List ℕ)
runs_from at [] = []
runs_from at (b ∷ bytes) = if is_blank b then runs_from (at + 1) bytes else joined at b (runs_from (at + 1) bytes)

unfoldable pub runs_of : List ℕ → List (ℕ × List ℕ)
runs_of text = runs_from 0 (uncommented false text)

-- 2. What they say.

-- the words say the items, in order
pub data Lists {A : Type 0} (Says : List ℕ → List A → Type 0) : List (ℕ × List ℕ) → List A → Type 0 where
  no_word : Lists Says [] []
  word : {at : ℕ} {word : List ℕ} {words : List (ℕ × List ℕ)} {said items : List A}
      → Says word said → Lists Says words items → Lists Says ((at, word) ∷ words) (said ++ items)

-- the words of the text say the items, and these keep the rules
pub record TextMeans {A : Type 0} (Says : List ℕ → List A → Type 0) (Keeps : List A → Type 0) (text : List ℕ)
    (items : List A) : Type 0 where
  pub lists : Lists Says (runs_of text) items
  pub rules : Keeps items

-- The fault of the text is at a place: the first word that says nothing, or whose items break a rule, begins there.
pub record TextFaultsAt {A : Type 0} (Says : List ℕ → List A → Type 0) (Keeps : List A → Type 0) (text : List ℕ)
    (offset : ℕ) : Type 0 where
  pub before : List (ℕ × List ℕ)
  pub word : List ℕ
  pub behind : List (ℕ × List ℕ)
  pub split : runs_of text ≡ before ++ (offset, word) ∷ behind
  pub items : List A
  pub lists : Lists Says before items
  pub rules : Keeps items
  pub fault : (said : List A) → Says word said → Keeps (items ++ said) → ⊥

-- 3. Reading them.

-- a word says one thing; the empty list keeps the rules, and so does each front of a list that keeps them
pub record IsGrammar {A : Type 0} (Says : List ℕ → List A → Type 0) (Keeps : List A → Type 0) : Type 0 where
  pub one : (w : List ℕ) (xs ys : List A) → Says w xs → Says w ys → xs ≡ ys
  pub front : (xs ys : List A) → Keeps (xs ++ ys) → Keeps xs
  pub none : Keeps []

-- The items of a word were added, and all keep the rules; or the word says none, or these break a rule.
abbrev pub AddsWord : {A : Type 0} → (Says : List ℕ → List A → Type 0) → (Keeps : List A → Type 0) → (word : List ℕ)
    → (old new : List A) → (added : Bool) → Type 0
AddsWord {A = A} Says Keeps w old new true = (said : List A) × Says w said × (new ≡ old ++ said) × Keeps new
AddsWord {A = A} Says Keeps w old new false = (said : List A) → Says w said → Keeps (old ++ said) → ⊥
