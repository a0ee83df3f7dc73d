-- Pointers that bits spell.
use Rattle.std.proofs.Common.{◌≡◌, ℕ, ◌/◌, ◌^◌, ◌≤◌, true, arith}
use Rattle.std.{proofs.lemmas.Bool.{leb-true, and_parts, Decides.nat_tests}, specs.Prelude.is_some}
use Rattle.mm_word.specs.{Perm.perm_of, Pointer.{IsWellFormed, SpellsPointer, spells_pointer, pointer_of, bits_of}}
use Rattle.mm_word.specs.PointerBits.{bits_of-pointer_of}

codes_known : (code : ℕ) → is_some (perm_of code) ≡ true → (1 ≤ code) × (code ≤ 7)
codes_known code h = (grind (arith, nat_tests), grind (arith, nat_tests))

pub spells : (bits : ℕ) → spells_pointer bits ≡ true → SpellsPointer bits
spells bits h =
    let tests = and_parts _ _ h in
    let code = codes_known (bits / 2 ^ 60) tests.0 in
    record { some_code = code.0; known_code = code.1; log_in_range = leb-true _ _ tests.1 }

pub well_formed : (bits : ℕ) → spells_pointer bits ≡ true → IsWellFormed (pointer_of bits)
well_formed bits h = record { log_in_range = (spells bits h).log_in_range; addr_in_range = omega arith }

pub bits_again : (bits : ℕ) → spells_pointer bits ≡ true → bits_of (pointer_of bits) ≡ bits
bits_again bits h = bits_of-pointer_of bits (spells bits h)
