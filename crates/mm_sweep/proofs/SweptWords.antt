-- What stands in a swept image stood in the image before.
use Rattle.std.proofs.Common.{◌≡◌, ℕ, zero, suc, ◌+◌, ◌%◌, ◌<◌, ◌≤◌, Bool, true, false, cond, is_eq, ◌==◌}
use Rattle.std.proofs.Common.{if◌then◌else◌, List, [], ◌∷◌, length, map, get_or, slice_set, Option, Some, None, refl}
use Rattle.std.proofs.{Common.{sym, ap, ◌∙◌, subst, arith}, lemmas.Option.slice_get-map}
use Rattle.std.specs.{Prelude.Contains, Option.option_map, Ordering.nat_cmp, FinMap.find}
use Rattle.mm_word.specs.{declared.word.{Word.{Word, TheVariants.{Int, Ptr}}, Cell.Cell}, Pointer.Pointer}
use Rattle.mm_model.specs.Memory.{Memory, cell_at, cell_in, page_at, page_of, place_of}
use Rattle.mm_sweep.specs.Swept.{meets, swept_word, swept_cell, swept_page, swept_memory}

-- 1. Elements of mapped lists.

-- an element that a function maps to another
pub record From {A B : Type 0} (f : A → B) (xs : List A) (y : B) : Type 0 where
  pub element : A
  pub stands : Contains xs element
  pub gives : f element ≡ y

pub from_map : {A B : Type 0} (f : A → B) (xs : List A) (y : B) → Contains (map f xs) y → From f xs y
from_map f [] y m = absurd (omega (arith, m.1))
from_map {A} {B} f (x ∷ xs) y m = at (from_map f xs y) m.0 m.1 m.2
  where
    at : (Contains (map f xs) y → From f xs y) → (k : ℕ) → k < length (map f (x ∷ xs)) → get_or (map f (x ∷ xs)) k y ≡ y → From f (x ∷ xs) y
    at rest zero lt e = record { element = x; stands = (0, omega arith, refl); gives = e }
    at rest (suc k) lt e =
        let later = rest (k, omega arith, e) in
        record { element = later.element; stands = (suc later.stands.0, (let less = later.stands.1 in omega arith), later.stands.2); gives = later.gives }

pub into_map : {A B : Type 0} (f : A → B) (xs : List A) (x : A) → Contains xs x → Contains (map f xs) (f x)
into_map f [] x m = absurd (omega (arith, m.1))
into_map f (y ∷ xs) x m = at (into_map f xs x) m.0 m.1 m.2
  where
    at : (Contains xs x → Contains (map f xs) (f x)) → (k : ℕ) → k < length (y ∷ xs) → get_or (y ∷ xs) k x ≡ x → Contains (map f (y ∷ xs)) (f x)
    at rest zero lt e = (0, omega arith, ap f e)
    at rest (suc k) lt e =
        let later = rest (k, omega arith, e) in
        (suc later.0, (let less = later.1 in omega arith), later.2)

module _ (range : ℕ × ℕ) where
  -- 2. Words.

  -- a pointer in the place of a swept word is that word, and does not meet the range
  pub record Kept (x : Word) (q : Pointer) : Type 0 where
    pub was : x ≡ Ptr q
    pub free : meets range q ≡ false

  pub kept_word : (x : Word) (q : Pointer) → swept_word range x ≡ Ptr q → Kept x q
  kept_word (Int bits) q e = cc
  kept_word (Ptr p) q e = by (meets range p) refl e
    where
      by : (b : Bool) → meets range p ≡ b → ◌≡◌ {A = Word} (if b then Int 0 else Ptr p) (Ptr q) → Kept (Ptr p) q
      by true t is = cc
      by false f is =
          let same : p ≡ q = cc in
          record { was = is; free = subst (λ v. meets range v ≡ false) same f }

  -- the words of a list, the first of them swept
  abbrev pub swept_upto : ℕ → List Word → List Word
  swept_upto zero words = words
  swept_upto (suc n) [] = []
  swept_upto (suc n) (word ∷ words) = swept_word range word ∷ swept_upto n words

  set_next : (words : List Word) (n : ℕ) (word : Word) → n < length words → word ≡ get_or words n word → slice_set (swept_upto n words) n (swept_word range word) ≡ swept_upto (suc n) words
  set_next [] n word lt is = absurd (omega arith)
  set_next (first ∷ words) zero word lt is = ap (λ v. swept_word range v ∷ words) is
  set_next (first ∷ words) (suc n) word lt is = ap (λ v. swept_word range first ∷ v) (set_next words n word (omega arith) is)

  pub one_more : (words : List Word) (n : ℕ) (word : Word) → n < length words → word ≡ get_or words n word → slice_set (swept_upto n words) n (swept_word range word) ≡ swept_upto (n + 1) words
  one_more words n word lt is = set_next words n word lt is ∙ ap (λ k. swept_upto k words) (let same : suc n ≡ n + 1 = omega arith in same)

  pub all_swept : (words : List Word) (n : ℕ) → length words ≤ n → swept_upto n words ≡ map (swept_word range) words
  all_swept [] zero le = refl
  all_swept [] (suc n) le = refl
  all_swept (word ∷ words) zero le = absurd (omega arith)
  all_swept (word ∷ words) (suc n) le = ap (λ v. swept_word range word ∷ v) (all_swept words n (omega arith))

  -- 3. Cells.

  find_swept : (pages : List (ℕ × List Cell)) (number : ℕ) → find nat_cmp number (map (swept_page range) pages) ≡ option_map (map (swept_cell range)) (find nat_cmp number pages)
  find_swept [] number = refl
  find_swept (page ∷ pages) number = by (is_eq (nat_cmp number page.0)) (find_swept pages number)
    where
      by : (b : Bool) → find nat_cmp number (map (swept_page range) pages) ≡ option_map (map (swept_cell range)) (find nat_cmp number pages)
          → cond b (Some (map (swept_cell range) page.1)) (find nat_cmp number (map (swept_page range) pages)) ≡ option_map (map (swept_cell range)) (cond b (Some page.1) (find nat_cmp number pages))
      by true later = refl
      by false later = later

  cell_swept : (cells : Option (List Cell)) (place : ℕ) → cell_in (option_map (map (swept_cell range)) cells) place ≡ option_map (swept_cell range) (cell_in cells place)
  cell_swept None place = refl
  cell_swept (Some cells) place = slice_get-map (swept_cell range) cells place

  pub cell_at-swept : (m : Memory) (w : ℕ) → cell_at (swept_memory range m) w ≡ option_map (swept_cell range) (cell_at m w)
  unfolding cell_at
  cell_at-swept m w =
      ap (λ (o : Option (List Cell)). if w % 8 == 0 then cell_in o (place_of w) else None) (find_swept m.pages (page_of w))
      ∙ by (w % 8 == 0)
    where
      by : (b : Bool) → (if b then cell_in (option_map (map (swept_cell range)) (page_at m (page_of w))) (place_of w)
          else None) ≡ option_map (swept_cell range) (if b then cell_in (page_at m (page_of w)) (place_of w) else None)
      by true = cell_swept (page_at m (page_of w)) (place_of w)
      by false = refl

  -- the cell that a swept cell was
  pub record Was (m : Memory) (w : ℕ) (cell : Cell) : Type 0 where
    pub before : Cell
    pub stood : cell_at m w ≡ Some before
    pub gives : swept_cell range before ≡ cell

  pub cell_was : (m : Memory) (w : ℕ) (cell : Cell) → cell_at (swept_memory range m) w ≡ Some cell → Was m w cell
  cell_was m w cell e = by (cell_at m w) refl (sym (cell_at-swept m w) ∙ e)
    where
      by : (o : Option Cell) → cell_at m w ≡ o → option_map (swept_cell range) o ≡ Some cell → Was m w cell
      by None is h = cc
      by (Some before) is h = record { before = before; stood = is; gives = cc }
