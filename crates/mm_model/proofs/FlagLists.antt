-- The flags of a number.
use Rattle.std.proofs.Common.{◌≡◌, ℕ, zero, suc, ◌+◌, ◌/◌, ◌%◌, ◌^◌, ◌<◌, false, bit_and, sym, ◌∙◌, ap, arith}
use Rattle.std.{proofs.lemmas.Nat.{shr-shr, and_mask}, specs.Prelude.{◌==◌, slice_index_or}}
use Rattle.mm_model.specs.Flags.{flags}

one_on : (r : ℕ) → 1 + r ≡ suc r
one_on r = omega arith

-- flag r of the k lowest bits of n is bit r of n
pub flags-get : (k n r : ℕ) → r < k → slice_index_or (flags k n) r false ≡ (n / 2 ^ r % 2 == 1)
flags-get zero n r below = absurd (omega arith)
flags-get (suc k) n zero below =
    let whole : n / 2 ^ 0 ≡ n = omega arith in
    ap (λ m. m % 2 == 1) (sym whole)
flags-get (suc k) n (suc r) below =
    flags-get k (n / 2) r (omega arith) ∙ ap (λ m. m % 2 == 1) (shr-shr n 1 r) ∙ ap (λ j. n / 2 ^ j % 2 == 1) (one_on r)

-- the test that code makes of a bit
pub flag_test : (n r : ℕ) → r < 16 → (bit_and (n / 2 ^ r) 1 == 1) ≡ slice_index_or (flags 16 n) r false
flag_test n r below = ap (λ m. m == 1) (and_mask (n / 2 ^ r) 1) ∙ sym (flags-get 16 n r below)
