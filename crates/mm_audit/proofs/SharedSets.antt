-- Groups with the same segments share a set.
use Rattle.std.proofs.Common.{◌≡◌, ℕ, suc, ◌<◌, List, [], ◌∷◌, ◌++◌, inl, inr, length, map, get_or, slice_index_or}
use Rattle.std.proofs.Common.{refl, sym, ap, ◌∙◌, subst, arith}
use Rattle.std.proofs.lemmas.List.{get_or_append_left, get_or_push, get_or_read, get_or-map, length_push, length-map}
use Rattle.std.proofs.lemmas.List.{map-append}
use Rattle.mm_seg.proofs.Searches.{same_or_below}
use Rattle.mm_audit.specs.Audits.{set_of}

-- one set more changes no set that is there
grown : (sets : List (List (ℕ × ℕ))) (set : List (ℕ × ℕ)) (places : List ℕ)
    → ((g : ℕ) → g < length places → slice_index_or places g 0 < length sets) → map (set_of (sets ++ set ∷ [])) places ≡
    map (set_of sets) places
grown sets set [] h = refl
grown sets set (k ∷ ks) h =
    ap (λ v. v ∷ map (set_of (sets ++ set ∷ [])) ks) (get_or_append_left sets (set ∷ []) [] k (h 0 (omega arith)))
    ∙ ap (λ v. set_of sets k ∷ v) (grown sets set ks (λ g lt. h (suc g) (omega arith)))

pub new_set : (sets : List (List (ℕ × ℕ))) (set : List (ℕ × ℕ)) (places : List ℕ) (k : ℕ) → length sets ≡ k → ((g : ℕ) → g < length places → slice_index_or places g 0 < length sets)
    → map (set_of (sets ++ set ∷ [])) (places ++ k ∷ []) ≡ map (set_of sets) places ++ set ∷ []
new_set sets set places k e h =
    map-append (set_of (sets ++ set ∷ [])) places (k ∷ [])
    ∙ ap (λ v. v ++ set_of (sets ++ set ∷ []) k ∷ []) (grown sets set places h)
    ∙ ap (λ v. map (set_of sets) places ++ v ∷ []) (get_or_push sets set [] k e)

-- a group gets the set of another
module _ (sets : List (List (ℕ × ℕ))) (places : List ℕ) (view : List (List (ℕ × ℕ))) (is : map (set_of sets) places ≡ view) (group place : ℕ)
    (small : group < length view) (read : place ≡ get_or places group place) (next : List ℕ) (pushed : next ≡ places ++ place ∷ []) where
  there : group < length places
  there = subst (λ n. group < n) (ap length (sym is) ∙ length-map places (set_of sets)) small

  at_zero : place ≡ slice_index_or places group 0
  at_zero = get_or_read places group place there read 0

  pub same_set : map (set_of sets) next ≡ view ++ set_of view group ∷ []
  same_set =
      let taken : set_of sets place ≡ set_of view group =
      ap (set_of sets) at_zero ∙ sym (get_or-map (set_of sets) places group 0 [] there) ∙ ap (λ v. set_of v group) is in
      ap (map (set_of sets)) pushed ∙ map-append (set_of sets) places (place ∷ [])
      ∙ ap (λ v. map (set_of sets) places ++ v ∷ []) taken ∙ ap (λ v. v ++ set_of view group ∷ []) is

  pub all_there : ((g : ℕ) → g < length places → slice_index_or places g 0 < length sets) → (g : ℕ) → g < length next → slice_index_or next g 0 < length sets
  all_there h g lt = elim (same_or_below g (length places) (subst (λ n. g < n) (ap length pushed ∙ length_push places place) lt)) [
    | inl less ↦ subst (λ n. n < length sets) (sym (ap (λ v. slice_index_or v g 0) pushed ∙ get_or_append_left places (place ∷ []) 0 g less)) (h g less)
    | inr e ↦ subst (λ n. n < length sets) (sym (ap (λ v. slice_index_or v g 0) pushed ∙ get_or_push places place 0 g (sym e) ∙ at_zero)) (h group there)
  ]
