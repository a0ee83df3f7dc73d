-- Bits that spell a pointer, by their test; and small numbers of flags.
use Rattle.std.proofs.Common.{◌≡◌, inl, inr, ℕ, ◌/◌, ◌%◌, ◌^◌, true, false, ◌&&◌, ap, ◌∙◌}
use Rattle.std.{proofs.lemmas.Bool.{cases_Bool, le-leb}, specs.Prelude.nat_le}
use Rattle.mm_model.proofs.Bytes.{SpelledRecords.known_codes, CleanWords.spells}
use Rattle.mm_word.specs.Pointer.{SpellsPointer, spells_pointer}

pub spells_test : (bits : ℕ) → SpellsPointer bits → spells_pointer bits ≡ true
spells_test bits h =
    ap (λ b. b && nat_le (bits / 2 ^ 54 % 64) 54) (known_codes (bits / 2 ^ 60) h.some_code h.known_code) ∙ le-leb (bits / 2 ^ 54 % 64) 54 h.log_in_range

pub spells_not : (bits : ℕ) → (SpellsPointer bits → ⊥) → spells_pointer bits ≡ false
spells_not bits never = elim (cases_Bool (spells_pointer bits)) [
  | inl t ↦ absurd (never (spells bits t))
  | inr f ↦ f
]
