-- Parts of bytes: so many from a place on.
use Rattle.std.proofs.Common.{[], ◌≡◌, ℕ, ◌+◌, ◌^◌, ◌<◌, ◌≤◌, List, ◌∷◌, ◌++◌, length, take, drop, sym, ap, ◌∙◌, arith}
use Rattle.std.proofs.{Common.{inl, inr}, Math.Seq.take-add}
use Rattle.std.proofs.lemmas.Bool.{cases_lt}
use Rattle.std.proofs.lemmas.List.{drop-drop, drop_more, length-take, length-drop, get_or-take, get_or-drop}
use Rattle.std.proofs.lemmas.{List.get_or_past, Nat.{be_bytes_2, be_bytes_4, be_bytes_8}}
use Rattle.std.specs.Int.{w16, w32, w64, to_be_bytes}
use Rattle.mm_model.{specs.Bytes.number_at, proofs.Bytes.Numbers.{number_is_2, number_is_4, number_is_8, field_1}}
pub use Rattle.mm_model.specs.Bytes.{IsBytes}

abbrev pub part : List ℕ → ℕ → ℕ → List ℕ
part bytes at size = take size (drop at bytes)

pub length-part : (bytes : List ℕ) (at size : ℕ) → at + size ≤ length bytes → length (part bytes at size) ≡ size
length-part bytes at size le = omega (arith, length-take size (drop at bytes), length-drop at bytes)

pub IsBytes-part : (bytes : List ℕ) (at size : ℕ) → IsBytes bytes → IsBytes (part bytes at size)
IsBytes-part bytes at size fits i =
    elim (cases_lt i size) [
      | inl lt ↦ rw (get_or-take size (drop at bytes) i 0 lt, get_or-drop at bytes i 0) (fits (at + i))
      | inr le ↦ rw (get_or_past (part bytes at size) i 0 (omega (arith, length-take size (drop at bytes)))) (omega arith)
    ]

-- 1. Parts of parts.

-- a part, and the part behind it
pub join : (bytes : List ℕ) (at a b : ℕ) → part bytes at a ++ part bytes (at + a) b ≡ part bytes at (a + b)
join bytes at a b = ap (λ (t : List ℕ). part bytes at a ++ take b t) (sym (drop-drop a at bytes)) ∙ sym (take-add a b (drop at bytes))

-- the same, where the two places are given
pub join_at : (bytes : List ℕ) (at next a b n : ℕ) (x y : List ℕ) → x ≡ part bytes at a → y ≡ part bytes next b → at + a ≡ next → a + b ≡ n → x ++ y ≡ part bytes at n
join_at bytes at next a b n x y p q place size =
    ap (λ (t : List ℕ). t ++ y) p ∙ ap (λ (t : List ℕ). part bytes at a ++ t) q ∙ ap (λ (k : ℕ). part bytes at a ++ part bytes k b) (sym place) ∙ join bytes at a b ∙ ap (part bytes at) size

-- 2. What fields say of their parts.

pub one_byte : (bytes : List ℕ) (at : ℕ) → at + 1 ≤ length bytes → number_at bytes at 1 ∷ [] ≡ part bytes at 1
one_byte bytes at le = ap (λ (n : ℕ). n ∷ []) (field_1 bytes at (omega arith)) ∙ sym (ap (take 1) (drop_more bytes at 0 (omega arith)))

pub two_bytes : (bytes : List ℕ) (at : ℕ) → IsBytes bytes → at + 2 ≤ length bytes → to_be_bytes w16 (number_at bytes at 2) ≡ part bytes at 2
unfolding number_at
two_bytes bytes at fits le =
    let long = length-part bytes at 2 le in
    be_bytes_2 (part bytes at 2) (number_at bytes at 2) long (IsBytes-part bytes at 2 fits) (number_is_2 (part bytes at 2) long)

pub four_bytes : (bytes : List ℕ) (at : ℕ) → IsBytes bytes → at + 4 ≤ length bytes → to_be_bytes w32 (number_at bytes at 4) ≡ part bytes at 4
unfolding number_at
four_bytes bytes at fits le =
    let long = length-part bytes at 4 le in
    be_bytes_4 (part bytes at 4) (number_at bytes at 4) long (IsBytes-part bytes at 4 fits) (number_is_4 (part bytes at 4) long)

pub eight_bytes : (bytes : List ℕ) (at : ℕ) → IsBytes bytes → at + 8 ≤ length bytes → to_be_bytes w64 (number_at bytes at 8) ≡ part bytes at 8
unfolding number_at
eight_bytes bytes at fits le =
    let long = length-part bytes at 8 le in
    be_bytes_8 (part bytes at 8) (number_at bytes at 8) long (IsBytes-part bytes at 8 fits) (number_is_8 (part bytes at 8) long)

pub below_8 : (bytes : List ℕ) (at : ℕ) → IsBytes bytes → at + 1 ≤ length bytes → number_at bytes at 1 < 256
below_8 bytes at fits le = rw (field_1 bytes at (omega arith)) (fits at)

pub below_16 : (bytes : List ℕ) (at : ℕ) → IsBytes bytes → at + 2 ≤ length bytes → number_at bytes at 2 < 2 ^ 16
unfolding number_at
below_16 bytes at fits le =
    let f = IsBytes-part bytes at 2 fits in
    rw (number_is_2 (part bytes at 2) (length-part bytes at 2 le)) (omega (arith, f 0, f 1))

pub below_64 : (bytes : List ℕ) (at : ℕ) → IsBytes bytes → at + 8 ≤ length bytes → number_at bytes at 8 < 2 ^ 64
unfolding number_at
below_64 bytes at fits le =
    let f = IsBytes-part bytes at 8 fits in
    rw (number_is_8 (part bytes at 8) (length-part bytes at 8 le)) (omega (arith, f 0, f 1, f 2, f 3, f 4, f 5, f 6, f 7))
