-- Lines while the blocks of a page go, from the first line on.
use Rattle.std.proofs.Common.{◌≡◌, ℕ, zero, suc, ◌+◌, ◌<◌, List, [], ◌∷◌, ◌++◌, length, get_or, set, take, drop, Option}
use Rattle.std.{proofs.Common.{None, slice_get, refl, sym, ap, subst, arith, ◌∙◌}, specs.Prelude.slice_set}
use Rattle.mm_cache.specs.declared.line.CacheLine.{CacheLine}
use Rattle.mm_cache.specs.Lines.{flat_line, line_in, AreLines, line_without, without_page}
use Rattle.mm_cache.proofs.Placed.{lines_emptied}

-- the first n lines without the blocks of the page
abbrev pub cleared : ℕ → ℕ → List (Option CacheLine) → List (Option CacheLine)
cleared n page ls = without_page page (take n ls) ++ drop n ls

cleared_at : (i page : ℕ) (ls : List (Option CacheLine)) → slice_get (cleared i page ls) i ≡ slice_get ls i
cleared_at zero page ls = refl
cleared_at (suc i) page [] = refl
cleared_at (suc i) page (x ∷ xs) = cleared_at i page xs

-- one more line that goes
cleared_gone : (i page : ℕ) (ls : List (Option CacheLine)) → line_without page (line_in ls i) ≡ None → set (cleared i page ls) i None ≡ cleared (suc i) page ls
cleared_gone zero page [] is = refl
cleared_gone zero page (x ∷ xs) is = ap (λ (o : Option CacheLine). o ∷ xs) (sym is)
cleared_gone (suc i) page [] is = refl
cleared_gone (suc i) page (x ∷ xs) is = ap (λ (ys : List (Option CacheLine)). line_without page x ∷ ys) (cleared_gone i page xs is)

-- one more that stays
cleared_kept : (i page : ℕ) (ls : List (Option CacheLine)) → line_without page (line_in ls i) ≡ line_in ls i → cleared i page ls ≡ cleared (suc i) page ls
cleared_kept zero page [] is = refl
cleared_kept zero page (x ∷ xs) is = ap (λ (o : Option CacheLine). o ∷ xs) (sym is)
cleared_kept (suc i) page [] is = refl
cleared_kept (suc i) page (x ∷ xs) is = ap (λ (ys : List (Option CacheLine)). line_without page x ∷ ys) (cleared_kept i page xs is)

pub record Cleared (i page : ℕ) (lines ls : List (Option CacheLine)) : Type 0 where
  pub so_far : lines ≡ cleared i page ls
  pub lines_ok : AreLines lines

line_at_start : (i page : ℕ) (lines ls : List (Option CacheLine)) → lines ≡ cleared i page ls → line_in lines i ≡ line_in ls i
line_at_start i page lines ls is = ap (λ (xs : List (Option CacheLine)). line_in xs i) is ∙ ap flat_line (cleared_at i page ls)

next_index : (i : ℕ) → suc i ≡ i + 1
next_index i = omega arith

pub step_gone : (i page : ℕ) (lines new ls : List (Option CacheLine)) (x : Option CacheLine) → line_in lines i ≡ x → line_without page x ≡ None → new ≡ slice_set lines i None → Cleared i page lines ls
    → Cleared (i + 1) page new ls
step_gone i page lines new ls x at gone new_is old = record {
  so_far = new_is ∙ ap (λ (xs : List (Option CacheLine)). set xs i None) old.so_far
      ∙ cleared_gone i page ls (ap (line_without page) (sym (line_at_start i page lines ls old.so_far) ∙ at) ∙ gone)
      ∙ ap (λ (n : ℕ). cleared n page ls) (next_index i);
  lines_ok = subst (λ (xs : List (Option CacheLine)). AreLines xs) (sym new_is) (lines_emptied lines i old.lines_ok);
}

pub step_kept : (i page : ℕ) (lines new ls : List (Option CacheLine)) (x : Option CacheLine) → line_in lines i ≡ x → line_without page x ≡ x → new ≡ lines → Cleared i page lines ls
    → Cleared (i + 1) page new ls
step_kept i page lines new ls x at kept new_is old = record {
  so_far = new_is ∙ old.so_far
      ∙ cleared_kept i page ls (ap (line_without page) (sym (line_at_start i page lines ls old.so_far) ∙ at) ∙ kept ∙ sym (sym (line_at_start i page lines ls old.so_far) ∙ at))
      ∙ ap (λ (n : ℕ). cleared n page ls) (next_index i);
  lines_ok = subst (λ (xs : List (Option CacheLine)). AreLines xs) (sym new_is) old.lines_ok;
}

-- a line by its index, as the code reads it
pub index_in : (ls : List (Option CacheLine)) (i : ℕ) (x : Option CacheLine) → i < length ls → line_in ls i ≡ get_or ls i x
index_in [] i x lt = absurd (omega (arith, lt))
index_in (y ∷ ys) zero x lt = refl
index_in (y ∷ ys) (suc i) x lt = index_in ys i x (omega (arith, lt))
