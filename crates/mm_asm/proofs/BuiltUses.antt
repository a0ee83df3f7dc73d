-- The end of a merge of two lists of uses.
use Rattle.std.proofs.Common.{◌≡◌, ◌⊎◌, ℕ, ◌≤◌, List, [], ◌∷◌, ◌++◌, length, take, drop, ◌-◌, refl, sym, ap, ◌∙◌, inl}
use Rattle.std.proofs.{Common.{inr, append-nil, arith}, lemmas.List.{drop_all, take_all, length-drop}}
use Rattle.mm_asm.specs.Names.{Use, merge}

merge_none : (xs : List Use) → merge xs [] ≡ xs
merge_none [] = refl
merge_none (x ∷ xs) = ap (λ us. x ∷ us) (merge_none xs)

rest_of : {A : Type 0} (xs : List A) (i : ℕ) → take (length xs - i) (drop i xs) ≡ drop i xs
rest_of xs i = take_all (length xs - i) (drop i xs) (omega (arith, length-drop i xs))

pub merged_rest : (m xs ys : List Use) (i j : ℕ) → (length xs ≤ i) ⊎ (length ys ≤ j) → m ++ take (length xs - i) (drop i xs) ++ take (length ys - j) (drop j ys) ≡ m ++ merge (drop i xs) (drop j ys)
merged_rest m xs ys i j end = ap (λ us. m ++ us ++ take (length ys - j) (drop j ys)) (rest_of xs i) ∙ ap (λ us. m ++ drop i xs ++ us) (rest_of ys j) ∙ by end
  where
    by : (length xs ≤ i) ⊎ (length ys ≤ j) → m ++ drop i xs ++ drop j ys ≡ m ++ merge (drop i xs) (drop j ys)
    by (inl le) = rw (drop_all i xs le) (ap (λ us. us ++ drop j ys) (append-nil m))
    by (inr le) = rw (drop_all j ys le) (append-nil (m ++ drop i xs) ∙ ap (λ us. m ++ us) (sym (merge_none (drop i xs))))
