-- The lines of places one after the other.
use Rattle.std.proofs.Common.{◌≡◌, ℕ, suc, ◌+◌, ◌*◌, ◌<◌, true, List, [], ◌∷◌, ◌++◌, length, take, get_or, codes}
use Rattle.std.proofs.Common.{if◌then◌else◌, sym, ap, ◌∙◌, arith, append_assoc}
use Rattle.std.{proofs.lemmas.List.{append-nil, take_more, length-take}, specs.List.flat_map}
use Rattle.mm_word.specs.declared.word.{Word.Word, Cell.Cell}
use Rattle.mm_model.specs.{Slot.Slot, Lines.{word_text, newline}}
use Rattle.mm_sweep.specs.Swept.{word_meets}
use Rattle.mm_sweep.specs.Holders.{holder_line, register_place, cell_place, register_holders, cell_holders}
use Rattle.mm_sweep.specs.Holders.{slot_holders, page_holders}

-- a line of its pieces
pub whole_line : (range : ℕ × ℕ) (place : List ℕ) (word : Word) → word_meets range word ≡ true → place ++ codes " " ++ word_text word ++ newline ≡ holder_line range place word
whole_line range place word t = sym (ap (λ b. if b then place ++ codes " " ++ word_text word ++ newline else []) t)

front_length : {A : Type 0} (xs : List A) (n : ℕ) → n < length xs → length (take n xs) ≡ n
front_length xs n lt = omega (arith, length-take n xs)

module _ (range : ℕ × ℕ) where
  registers_last : (slot r : ℕ) (words : List Word) (word : Word) → register_holders range slot r (words ++ word ∷ []) ≡
      register_holders range slot r words ++ holder_line range (register_place slot (r + length words)) word
  registers_last slot r [] word =
      append-nil (holder_line range (register_place slot r) word) ∙ ap (λ n. holder_line range (register_place slot n) word) (let same : r ≡ r + 0 = omega arith in same)
  registers_last slot r (first ∷ words) word =
      let line = holder_line range (register_place slot r) first in
      let rest = register_holders range slot (r + 1) words in
      ap (λ text. line ++ text) (registers_last slot (r + 1) words word)
      ∙ sym (append_assoc line rest (holder_line range (register_place slot (r + 1 + length words)) word))
      ∙ ap (λ n. line ++ rest ++ holder_line range (register_place slot n) word) (let same : r + 1 + length words ≡ r + suc (length words) = omega arith in same)

  pub registers_more : (slot n : ℕ) (words : List Word) (word : Word) → n < length words → word ≡ get_or words n word
      → register_holders range slot 0 (take n words) ++ holder_line range (register_place slot n) word ≡ register_holders range slot 0 (take (n + 1) words)
  registers_more slot n words word lt is =
      let front = take n words in
      let more : take (n + 1) words ≡ front ++ word ∷ [] = take_more words n word lt ∙ ap (λ v. front ++ v ∷ []) (sym is) in
      let place : 0 + length front ≡ n = omega (arith, front_length words n lt) in
      sym (ap (register_holders range slot 0) more ∙ registers_last slot 0 front word ∙ ap (λ k. register_holders range slot 0 front ++ holder_line range (register_place slot k) word) place)

  cells_last : (address : ℕ) (cells : List Cell) (cell : Cell) → cell_holders range address (cells ++ cell ∷ []) ≡
      cell_holders range address cells ++ holder_line range (cell_place (address + 8 * length cells)) cell.word
  cells_last address [] cell =
      append-nil (holder_line range (cell_place address) cell.word) ∙ ap (λ n. holder_line range (cell_place n) cell.word) (let same : address ≡ address + 8 * 0 = omega arith in same)
  cells_last address (first ∷ cells) cell =
      let line = holder_line range (cell_place address) first.word in
      let rest = cell_holders range (address + 8) cells in
      ap (λ text. line ++ text) (cells_last (address + 8) cells cell)
      ∙ sym (append_assoc line rest (holder_line range (cell_place (address + 8 + 8 * length cells)) cell.word))
      ∙ ap (λ n. line ++ rest ++ holder_line range (cell_place n) cell.word) (let same : address + 8 + 8 * length cells ≡ address + 8 * suc (length cells) = omega arith in same)

  pub cells_more : (address n : ℕ) (cells : List Cell) (cell : Cell) → n < length cells → cell ≡ get_or cells n cell
      → cell_holders range address (take n cells) ++ holder_line range (cell_place (address + 8 * n)) cell.word ≡ cell_holders range address (take (n + 1) cells)
  cells_more address n cells cell lt is =
      let front = take n cells in
      let more : take (n + 1) cells ≡ front ++ cell ∷ [] = take_more cells n cell lt ∙ ap (λ v. front ++ v ∷ []) (sym is) in
      sym (ap (cell_holders range address) more ∙ cells_last address front cell
      ∙ ap (λ k. cell_holders range address front ++ holder_line range (cell_place (address + 8 * k)) cell.word) (front_length cells n lt))

-- the lines of equal parts
pub same_holders : {range range' : ℕ × ℕ} {slots slots' : List Slot} {pages pages' : List (ℕ × List Cell)} → range ≡ range' → slots ≡ slots' → pages ≡ pages'
    → flat_map (slot_holders range) slots ++ flat_map (page_holders range) pages ≡ flat_map (slot_holders range') slots' ++ flat_map (page_holders range') pages'
same_holders a b c j = flat_map (slot_holders (a j)) (b j) ++ flat_map (page_holders (a j)) (c j)
