-- A byte of a bitmap.
use Rattle.std.proofs.Common.{◌≡◌, ℕ, ◌+◌, ◌<◌, List, length, get_or, sym, ap, ◌∙◌, arith}
use Rattle.mm_model.{specs.Bytes.number_at, proofs.Bytes.Numbers.field_1}

pub byte_at : (bytes : List ℕ) (k : ℕ) → k < length bytes → get_or bytes k 0 ≡ number_at bytes (0 + k) 1
byte_at bytes k lt =
    let here : k ≡ 0 + k = omega arith in sym (field_1 bytes k (omega arith)) ∙ ap (λ n. number_at bytes n 1) here
