-- Words, bits and cells that are tested to be the same are the same.
use Rattle.std.proofs.Common.{◌≡◌, Bool, true, false, ◌&&◌, refl, sym, ap, eqb-true, eq-eqb}
use Rattle.std.proofs.lemmas.Bool.{and_parts, and_from}
use Rattle.mm_word.specs.declared.word.{Word.{Word, TheVariants.{Int, Ptr}}, Cell.Cell}
use Rattle.mm_word.{specs.{Pointer.{Pointer, IsWellFormed, bits_of}, Word.IsWord}, proofs.Packing.bits_of-injective}
use Rattle.mm_model.specs.{Effect.same_word, Report.{same_bit, same_cell}}

pub words_same : (a b : Word) → IsWord a → IsWord b → same_word a b ≡ true → a ≡ b
words_same (Int a) (Int b) h k e = ap Int (eqb-true a b e)
words_same (Int a) (Ptr q) h k e = cc
words_same (Ptr p) (Int b) h k e = cc
words_same (Ptr p) (Ptr q) h k e = ap Ptr (bits_of-injective p q h k (eqb-true (bits_of p) (bits_of q) e))

pub pointers_same : (p q : Pointer) → IsWellFormed p → IsWellFormed q → same_word (Ptr p) (Ptr q) ≡ true → p ≡ q
pointers_same p q h k e = bits_of-injective p q h k (eqb-true (bits_of p) (bits_of q) e)

pub word_self : (a : Word) → same_word a a ≡ true
word_self (Int a) = eq-eqb a a refl
word_self (Ptr p) = eq-eqb (bits_of p) (bits_of p) refl

pub bits_same : (a b : Bool) → same_bit a b ≡ true → a ≡ b
bits_same true b e = sym e
bits_same false true e = cc
bits_same false false e = refl

pub bit_self : (a : Bool) → same_bit a a ≡ true
bit_self true = refl
bit_self false = refl

pub cell_self : (c : Cell) → same_cell c c ≡ true
cell_self c = and_from (same_word c.word c.word) (same_bit c.full c.full) (word_self c.word) (bit_self c.full)

pub cells_same : (c d : Cell) → IsWord c.word → IsWord d.word → same_cell c d ≡ true → c ≡ d
cells_same c d h k e =
    let two = and_parts (same_word c.word d.word) (same_bit c.full d.full) e in
    let word = words_same c.word d.word h k two.0 in
    let full = bits_same c.full d.full two.1 in
    λ i. record { word = word i; full = full i }

pub pair_self : (w : Word) (b : Bool) → (same_word w w && same_bit b b) ≡ true
pair_self w b = and_from (same_word w w) (same_bit b b) (word_self w) (bit_self b)
