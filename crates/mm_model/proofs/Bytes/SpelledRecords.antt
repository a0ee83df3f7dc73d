-- Tests that hold, and pointers whose bits spell them.
use Rattle.std.proofs.Common.{◌≡◌, ℕ, ◌/◌, ◌^◌, ◌<◌, ◌≤◌, true, false, arith}
use Rattle.std.{proofs.lemmas.Bool.{le-leb, and_from, Decides.nat_tests}, specs.Prelude.{nat_le, is_some}}
use Rattle.mm_word.specs.{Perm.perm_of, Pointer.{Pointer, IsWellFormed, spells_pointer, bits_of}}
use Rattle.mm_word.proofs.Packing.{SpellsPointer-bits_of}
-- names by which crates above know them
pub use Rattle.std.proofs.lemmas.Bool.{le-ltb as not_lt}

pub not_le : (n m : ℕ) → n < m → nat_le m n ≡ false
not_le n m lt = grind (arith, nat_tests)

pub known_codes : (code : ℕ) → 1 ≤ code → code ≤ 7 → is_some (perm_of code) ≡ true
known_codes code low high = grind (arith, nat_tests)

pub is_spelled : (p : Pointer) → IsWellFormed p → spells_pointer (bits_of p) ≡ true
is_spelled p h =
    let s = SpellsPointer-bits_of p h in
    and_from _ _ (known_codes (bits_of p / 2 ^ 60) s.some_code s.known_code) (le-leb _ _ s.log_in_range)
