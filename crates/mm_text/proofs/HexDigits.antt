-- Digits that are written from the last one on.
use Rattle.std.proofs.Common.{◌≡◌, ℕ, ◌+◌, ◌-◌, ◌<◌, ◌/◌, ◌%◌, suc, zero, List, [], ◌∷◌, length, drop, set, ◌++◌}
use Rattle.std.proofs.{Common.{append_assoc, refl, arith, length-append, codes, false}, lemmas.List.drop-set}
use Rattle.std.specs.Fmt.{digit_glyph}
use Rattle.mm_model.specs.Digits.{hex}

pub length-hex : (k n : ℕ) → length (hex k n) ≡ k
unfolding hex
length-hex zero n = refl
length-hex (suc k) n = omega (arith, length-append (hex k (n / 16)) (digit_glyph false (n % 16) ∷ []), length-hex k (n / 16))

-- one more digit, where k digits are missing and less = k - 1
pub hex_step : (k less n at : ℕ) (buf : List ℕ) (v : ℕ) → k ≡ less + 1 → 0 < at → at - 1 < length buf → v ≡ digit_glyph false (n % 16)
    → hex less (n / 16) ++ drop (at - 1) (set buf (at - 1) v) ≡ hex k n ++ drop at buf
unfolding hex
hex_step zero less n at buf v more room inside glyph = absurd (omega arith)
hex_step (suc k) less n at buf v more room inside glyph =
    let same : less ≡ k = omega arith in
    let back : at - 1 + 1 ≡ at = omega arith in
    rw (same, drop-set buf (at - 1) v inside, back, glyph, append_assoc) refl

-- where no digit is missing
pub hex_done : (k n : ℕ) {text all : List ℕ} → k ≡ 0 → hex k n ++ text ≡ all → text ≡ all
unfolding hex
hex_done zero n none same = same
hex_done (suc k) n none same = absurd (omega arith)

-- digits of known numbers
shown : hex 2 65 ≡ codes "41"
unfolding hex
shown = refl
