-- Lists that are found by their hash, and lists with one name each.
use Rattle.std.proofs.Common.{◌≡◌, ◌≢◌, ◌⊎◌, inl, inr, ℕ, zero, suc, ◌≤◌, Bool, true, false, cond, nat_eq, List, [], ◌∷◌, ◌++◌, length, Option, None, Some, refl, sym, ap, ◌∙◌, arith}
use Rattle.std.proofs.lemmas.{Bool.cases_eq, List.{get_or_append_left, length-append}, Option.{slice_get-get_or, get_or_from_slice_get}}
use Rattle.std.specs.Map.{lookup}
use lib.Pointwise.{pointwise}
use Rattle.mm_pairs.specs.{Named.{named, HaveOneName}, Found.{IsAbsent, AreFound}}
use Rattle.mm_pairs.proofs.Founds.{got_last}
use Rattle.mm_config.proofs.ListForms.{list_is, same_list}

-- 1. One more, with a name of its own.

module _ {A : Type 0} (none : A) (kept : List A) (x : A) where
  front_named : (a : ℕ) → a ≤ length kept → named none (kept ++ x ∷ []) a ≡ named none kept a
  front_named zero le = refl
  front_named (suc at) le = get_or_append_left kept (x ∷ []) none at (omega (arith, le))

  last_named : named none (kept ++ x ∷ []) (suc (length kept)) ≡ x
  last_named = get_or_from_slice_get (kept ++ x ∷ []) (length kept) x none (got_last kept x)

  module _ (absent : IsAbsent kept x) (some : x ≡ none → ⊥) where
    not_named : (a : ℕ) → a ≤ length kept → named none kept a ≡ x → ⊥
    not_named zero le e = some (sym e)
    not_named (suc at) le e = absent at (slice_get-get_or kept at none (omega (arith, le)) ∙ ap Some e)

    -- a name is of one that was kept, or of the last
    either : (a : ℕ) → a ≤ length (kept ++ x ∷ []) → (a ≤ length kept) ⊎ (a ≡ suc (length kept))
    either a le = elim (cases_eq a (suc (length kept))) [
      | inl last ↦ inr last
      | inr front ↦ let long = length-append kept (x ∷ []) in inl (omega (arith, le, long, front))
    ]

    last_other : (a b : ℕ) → a ≤ length kept → b ≡ suc (length kept) → named none (kept ++ x ∷ []) a ≡ named none (kept ++ x ∷ []) b → ⊥
    last_other a b le last e =
        not_named a le (sym (front_named a le) ∙ e ∙ ap (named none (kept ++ x ∷ [])) last ∙ last_named)

    pub one_more : HaveOneName none kept → HaveOneName none (kept ++ x ∷ [])
    one_more apart a b la lb e = elim (either a la) [
      | inl fa ↦ elim (either b lb) [
        | inl fb ↦ apart a b fa fb (sym (front_named a fa) ∙ e ∙ front_named b fb)
        | inr last ↦ absurd (last_other a b fa last e)
      ]
      | inr here ↦ elim (either b lb) [
        | inl fb ↦ absurd (last_other b a fb here (sym e))
        | inr last ↦ here ∙ sym last
      ]
    ]

pub none_kept : {A : Type 0} (none : A) → HaveOneName none []
none_kept none a b la lb e = omega (arith, la, lb)

-- 2. Lists by their test.

pub equal_lists : (a b : List ℕ) → (a ≡ b) ⊎ (a ≡ b → ⊥)
equal_lists a b = by (pointwise nat_eq a b) refl
  where
    by : (t : Bool) → pointwise nat_eq a b ≡ t → (a ≡ b) ⊎ (a ≡ b → ⊥)
    by true e = inl (list_is a b e)
    by false e = inr (λ same. let yes = same_list a b same in cc)

pub other_list : (a b : List ℕ) → a ≢ b → pointwise nat_eq a b ≡ false
other_list a b ne = by (pointwise nat_eq a b) refl
  where
    by : (t : Bool) → pointwise nat_eq a b ≡ t → pointwise nat_eq a b ≡ false
    by true e = absurd (ne (list_is a b e))
    by false e = e

-- 3. Entries with one more at their end.

module _ {K V : Type 0} (test : K → Bool) (k : K) (v : V) where
  pub looked_last : (es : List (K × V)) → lookup test es ≡ None → test k ≡ true → lookup test (es ++ (k, v) ∷ []) ≡ Some v
  looked_last [] none passes = ap (λ b. cond b (Some v) None) passes
  looked_last (e ∷ es) none passes = by (test e.0) refl (λ left. looked_last es left passes)
    where
      by : (t : Bool) → test e.0 ≡ t → (lookup test es ≡ None → lookup test (es ++ (k, v) ∷ []) ≡ Some v)
          → cond (test e.0) (Some e.1) (lookup test (es ++ (k, v) ∷ [])) ≡ Some v
      by true is rest = let found : cond (test e.0) (Some e.1) (lookup test es) ≡ Some e.1 = ap (λ b. cond b (Some e.1) (lookup test es)) is in cc
      by false is rest =
          let left : cond (test e.0) (Some e.1) (lookup test es) ≡ lookup test es = ap (λ b. cond b (Some e.1) (lookup test es)) is in
          ap (λ b. cond b (Some e.1) (lookup test (es ++ (k, v) ∷ []))) is ∙ rest (sym left ∙ none)

  pub looked_front : (es : List (K × V)) → test k ≡ false → lookup test (es ++ (k, v) ∷ []) ≡ lookup test es
  looked_front [] fails = ap (λ b. cond b (Some v) None) fails
  looked_front (e ∷ es) fails = ap (cond (test e.0) (Some e.1)) (looked_front es fails)

-- 4. What is not kept is not noted.

pub none_absent : {A : Type 0} (number : A → ℕ) (kept : List A) (first : ℕ → ℕ) (rest : A → Option ℕ) → AreFound number kept first rest
    → (x : A) → IsAbsent kept x → rest x ≡ None
none_absent number kept first rest h x absent = by (rest x) refl
  where
    by : (o : Option ℕ) → rest x ≡ o → rest x ≡ None
    by None e = e
    by (Some at) e = absurd (absent at (h.later x at e).0)
