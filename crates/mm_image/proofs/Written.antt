-- Texts that are written one behind the other.
use Rattle.std.proofs.Common.{◌≡◌, ℕ, zero, suc, ◌+◌, ◌*◌, Bool, List, [], ◌∷◌, ◌++◌, take, drop, map, refl, sym, ap}
use Rattle.std.proofs.{Common.{◌∙◌, append_assoc, arith}, lemmas.List.{take-map, drop-map, drop-drop}}
use Rattle.mm_model.specs.{Flags.number_of_flags, Spelling.bitmap}

-- two texts
pub both_written : (old mid new a b : List ℕ) → mid ≡ old ++ a → new ≡ mid ++ b → new ≡ old ++ (a ++ b)
both_written old mid new a b p q = q ∙ ap (λ (t : List ℕ). t ++ b) p ∙ append_assoc old a b

-- one byte more of a bitmap
pub bitmap_more : (k : ℕ) (fs : List Bool) → bitmap (k + 1) fs ≡ bitmap k fs ++ number_of_flags (take 8 (drop (8 * k) fs)) ∷ []
bitmap_more zero fs = refl
bitmap_more (suc k) fs =
    let count : suc k + 1 ≡ suc (k + 1) = omega arith in
    let place : 8 + 8 * k ≡ 8 * suc k = omega arith in
    ap (λ n. bitmap n fs) count ∙ ap (λ (t : List ℕ). number_of_flags (take 8 fs) ∷ t) (bitmap_more k (drop 8 fs))
    ∙ ap (λ (xs : List Bool). number_of_flags (take 8 fs) ∷ bitmap k (drop 8 fs) ++ number_of_flags (take 8 xs) ∷ []) (drop-drop (8 * k) 8 fs ∙ ap (λ n. drop n fs) place)

-- the flags of a part of the cells
pub flags_of_part : {A : Type 0} (test : A → Bool) (cells : List A) (k n : ℕ) → n ≡ 8 → map test (take n (drop k cells)) ≡ take 8 (drop k (map test cells))
flags_of_part test cells k n e = ap (λ m. map test (take m (drop k cells))) e ∙ sym (take-map test 8 (drop k cells)) ∙ ap (take 8) (sym (drop-map test k cells))
