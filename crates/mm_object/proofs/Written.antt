-- Texts that are written one behind the other.
use Rattle.std.proofs.Common.{◌≡◌, ℕ, zero, suc, ◌+◌, ◌*◌, ◌<◌, ◌≤◌, Bool, List, [], ◌∷◌, ◌++◌, length, take, drop, map}
use Rattle.std.proofs.Common.{refl, sym, ap, ◌∙◌, append_assoc, arith, inl, inr}
use Rattle.std.proofs.lemmas.{Bool.cases_lt, List.{take-map, drop-map, drop-drop, take_all, length-drop}}
use Rattle.mm_model.specs.{Flags.number_of_flags, Spelling.bitmap}

-- two texts
pub both_written : (old mid new a b : List ℕ) → mid ≡ old ++ a → new ≡ mid ++ b → new ≡ old ++ (a ++ b)
both_written old mid new a b p q = q ∙ ap (λ (t : List ℕ). t ++ b) p ∙ append_assoc old a b

-- one byte more of a bitmap
pub bitmap_more : (k : ℕ) (fs : List Bool) → bitmap (k + 1) fs ≡ bitmap k fs ++ number_of_flags (take 8 (drop (8 * k) fs)) ∷ []
bitmap_more zero fs = refl
bitmap_more (suc k) fs =
    let count : suc k + 1 ≡ suc (k + 1) = omega arith in
    let place : 8 + 8 * k ≡ 8 * suc k = omega arith in
    ap (λ n. bitmap n fs) count ∙ ap (λ (t : List ℕ). number_of_flags (take 8 fs) ∷ t) (bitmap_more k (drop 8 fs))
    ∙ ap (λ (xs : List Bool). number_of_flags (take 8 fs) ∷ bitmap k (drop 8 fs) ++ number_of_flags (take 8 xs) ∷ []) (drop-drop (8 * k) 8 fs ∙ ap (λ n. drop n fs) place)

-- as many as there are, of those that are left
take_left : {A : Type 0} (xs : List A) (n m : ℕ) → n ≤ m → (n < m → length xs ≤ n) → take n xs ≡ take m xs
take_left xs n m le end =
    elim (cases_lt n m) [
      | inl less ↦ take_all n xs (end less) ∙ sym (take_all m xs (let few = end less in omega arith))
      | inr same ↦ let e : n ≡ m = omega arith in ap (λ k. take k xs) e
    ]

-- the flags of a part of the words
pub flags_of_part : {A : Type 0} (test : A → Bool) (words : List A) (k n : ℕ) → n ≤ 8 → (n < 8 → length words ≤ k + n) → map test (take n (drop k words)) ≡ take 8 (drop k (map test words))
flags_of_part test words k n le end =
    ap (map test) (take_left (drop k words) n 8 le (λ less. let few = end less in omega (arith, length-drop k words)))
    ∙ sym (take-map test 8 (drop k words)) ∙ ap (take 8) (sym (drop-map test k words))
