-- The lines of registers, by what they hold.
use Rattle.std.proofs.Common.{◌≡◌, ℕ, true, false, ◌++◌, codes, decimal, refl}
use Rattle.mm_word.specs.declared.word.Word.{Word}
use Rattle.mm_model.specs.{Slot.{Slot, is_empty}, Lines.{register_line, word_line, word_text, is_zero, newline}}

-- the line of a register that waits for a load, in pieces
pub empty_line : (s : Slot) (r : ℕ) → is_empty s r ≡ true → codes "r " ++ decimal r ++ codes " empty\n" ≡ register_line s r
empty_line s r e = rw e refl

-- the line of a register that holds a word, in pieces
pub some_line : (r : ℕ) (w : Word) → is_zero w ≡ false → codes "r " ++ decimal r ++ codes " " ++ word_text w ++ newline ≡ word_line r w
some_line r w z = rw z refl
