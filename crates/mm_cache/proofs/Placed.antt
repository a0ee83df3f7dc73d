-- Lines in their places, after a change of one line and while the blocks of a page go.
use Rattle.std.proofs.Common.{◌≡◌, ◌≢◌, ℕ, zero, suc, ◌<◌, List, [], ◌∷◌, length, length-set, Option, None, Some}
use Rattle.std.proofs.{Common.{replicate, refl, sym, ap, arith, ◌∙◌, ◌⊎◌, inl, inr}, lemmas.Bool.cases_eq}
use Rattle.std.specs.Prelude.{slice_set, ◌==◌, Bool, true, false, if◌then◌else◌}
use Rattle.mm_word.specs.declared.word.Cell.{Cell}
use Rattle.mm_model.{specs.Counted.{block_of, line_of}, proofs.Memories.get_set_other}
use Rattle.mm_cache.specs.declared.line.CacheLine.{CacheLine}
use Rattle.mm_cache.specs.Lines.{flat_line, line_in, line_with, place_in_block, AreLines}

-- lines by their index

-- no line is both empty and there
pub empty_or_there : (o : Option CacheLine) (l : CacheLine) → o ≡ None → o ≡ Some l → ⊥
empty_or_there o l a b = cc

pub line_empty : (n i : ℕ) → line_in (replicate n None) i ≡ None
line_empty zero i = refl
line_empty (suc n) zero = refl
line_empty (suc n) (suc i) = line_empty n i

length_empty : (n : ℕ) → let empty : List (Option CacheLine) = replicate n None in length empty ≡ n
length_empty zero = refl
length_empty (suc n) = ap suc (length_empty n)

-- another line than the one that is set
pub line_set_other : (ls : List (Option CacheLine)) (i j : ℕ) (o : Option CacheLine) → (j ≡ i → ⊥) → line_in (slice_set ls i o) j ≡ line_in ls j
line_set_other ls i j o other = ap flat_line (get_set_other ls i j o other)

-- the line that is set
pub line_set_same : (ls : List (Option CacheLine)) (i : ℕ) (o : Option CacheLine) → i < length ls → line_in (slice_set ls i o) i ≡ o
line_set_same [] i o lt = absurd (omega (arith, lt))
line_set_same (x ∷ xs) zero o lt = refl
line_set_same (x ∷ xs) (suc i) o lt = line_set_same xs i o (omega (arith, lt))

-- a line that is emptied
pub line_emptied : (ls : List (Option CacheLine)) (i : ℕ) → line_in (slice_set ls i None) i ≡ None
line_emptied [] i = refl
line_emptied (x ∷ xs) zero = refl
line_emptied (x ∷ xs) (suc i) = line_emptied xs i

-- what a line is after another was set: the one that was set, or the old one
pub line_cases : (ls : List (Option CacheLine)) (i j : ℕ) (o : Option CacheLine) (l : CacheLine) → line_in (slice_set ls i o) j ≡ Some l
    → ((j ≡ i) × (o ≡ Some l)) ⊎ ((j ≢ i) × (line_in ls j ≡ Some l))
line_cases ls i j o l is = elim (cases_eq j i) [
  | inl same ↦ inl (same, here (line_set_here ls i o) (ap (λ (k : ℕ). line_in (slice_set ls i o) k) (sym same) ∙ is))
  | inr other ↦ inr (other, sym (line_set_other ls i j o other) ∙ is)
]
  where
    line_set_here : (xs : List (Option CacheLine)) (i : ℕ) (o : Option CacheLine) → (line_in (slice_set xs i o) i ≡ o) ⊎ (line_in (slice_set xs i o) i ≡ None)
    line_set_here [] i o = inr refl
    line_set_here (x ∷ xs) zero o = inl refl
    line_set_here (x ∷ xs) (suc i) o = line_set_here xs i o

    here : (line_in (slice_set ls i o) i ≡ o) ⊎ (line_in (slice_set ls i o) i ≡ None) → line_in (slice_set ls i o) i ≡ Some l → o ≡ Some l
    here (inl set_) at = sym set_ ∙ at
    here (inr gone) at = cc

-- lines in their places

pub lines_empty : AreLines (replicate 64 None)
lines_empty = record {
  many = length_empty 64;
  placed = λ i l is. absurd (empty_or_there (line_in (replicate 64 None) i) l (line_empty 64 i) is);
  whole = λ i l is. absurd (empty_or_there (line_in (replicate 64 None) i) l (line_empty 64 i) is);
}

-- a line that is set to what fits there
pub lines_set : (ls : List (Option CacheLine)) (i : ℕ) (o : Option CacheLine) → AreLines ls → ((l : CacheLine) → o ≡ Some l → line_of l.block ≡ i) → ((l : CacheLine) → o ≡ Some l → length l.cells ≡ 8)
    → AreLines (slice_set ls i o)
lines_set ls i o old fits full = record {
  many = length-set ls i o ∙ old.many;
  placed = λ j l is. elim (line_cases ls i j o l is) [ inl new ↦ fits l new.1 ∙ sym new.0 | inr kept ↦ old.placed j l kept.1 ];
  whole = λ j l is. elim (line_cases ls i j o l is) [ inl new ↦ full l new.1 | inr kept ↦ old.whole j l kept.1 ];
}

pub lines_emptied : (ls : List (Option CacheLine)) (i : ℕ) → AreLines ls → AreLines (slice_set ls i None)
lines_emptied ls i old = lines_set ls i None old (λ l is. cc) (λ l is. cc)

-- lines in which the cell of a word is written in its line
pub lines_written : (ls : List (Option CacheLine)) (word : ℕ) (c : Cell) (o : Option CacheLine) → AreLines ls → line_in ls (line_of (block_of word)) ≡ o
    → AreLines (slice_set ls (line_of (block_of word)) (line_with o word c))
lines_written ls word c None are found = lines_emptied ls (line_of (block_of word)) are
lines_written ls word c (Some l) are found = go (l.block == block_of word)
  where
    whole : length (slice_set l.cells (place_in_block word) c) ≡ 8
    whole = length-set l.cells (place_in_block word) c ∙ are.whole (line_of (block_of word)) l found

    go : (b : Bool) → AreLines (slice_set ls (line_of (block_of word)) (if b then Some (record { block = l.block; dirty = true; cells = slice_set l.cells (place_in_block word) c }) else Some l))
    go true = lines_set ls (line_of (block_of word)) (Some (record { block = l.block; dirty = true; cells = slice_set l.cells (place_in_block word) c })) are
        (λ k e. let block : l.block ≡ k.block = cc in ap line_of (sym block) ∙ are.placed (line_of (block_of word)) l found)
        (λ k e. let same : slice_set l.cells (place_in_block word) c ≡ k.cells = cc in ap length (sym same) ∙ whole)
    go false = lines_set ls (line_of (block_of word)) (Some l) are (λ k e. are.placed (line_of (block_of word)) k (found ∙ e)) (λ k e. are.whole (line_of (block_of word)) k (found ∙ e))
