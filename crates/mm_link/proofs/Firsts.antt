-- The first of several faults.
use Rattle.std.proofs.Common.{◌≡◌, ℕ, ◌+◌, ◌<◌, Bool, true, false, cond, List, [], ◌∷◌, ◌++◌, length, get_or, drop}
use Rattle.std.{proofs.Common.{Option, Some, None, refl, sym, ap, ◌∙◌, subst}, specs.{Prelude.find, Option.option_map}}
use Rattle.mm_link.specs.{declared.fault.{LinkFault.LinkFault, LinkError.LinkError}, Answers.Fails}
use Rattle.mm_link.{specs.Faults.{first, first_of}, proofs.Lists.at_item}
use Rattle.mm_link.specs.declared.fault.LinkError.TheVariants as errors

module _ {A : Type 0} where
  -- the first of two, if there is one
  abbrev pub sooner : Option A → Option A → Option A
  sooner None q = q
  sooner (Some x) q = Some x

  pub sooner_none : (p q : Option A) → p ≡ None → sooner p q ≡ q
  sooner_none p q none = ap (λ o. sooner o q) none

  pub first-append : (xs ys : List A) → first (xs ++ ys) ≡ sooner (first xs) (first ys)
  first-append [] ys = refl
  first-append (x ∷ xs) ys = refl

  pub find-append : (p : A → Bool) (xs ys : List A) → find p (xs ++ ys) ≡ sooner (find p xs) (find p ys)
  find-append p [] ys = refl
  find-append p (x ∷ xs) ys = by (p x) (find-append p xs ys)
    where
      by : (b : Bool) → find p (xs ++ ys) ≡ sooner (find p xs) (find p ys) → cond b (Some x) (find p (xs ++ ys)) ≡ sooner (cond b (Some x) (find p xs)) (find p ys)
      by true rest = refl
      by false rest = rest

  pub first_of-append : (ps qs : List (Option A)) → first_of (ps ++ qs) ≡ sooner (first_of ps) (first_of qs)
  first_of-append [] qs = refl
  first_of-append (None ∷ ps) qs = first_of-append ps qs
  first_of-append (Some x ∷ ps) qs = refl

pub map-sooner : {A B : Type 0} (f : A → B) (p q : Option A) → option_map f (sooner p q) ≡ sooner (option_map f p) (option_map f q)
map-sooner f None q = refl
map-sooner f (Some x) q = refl

-- what fails at once fails on the whole
pub fails_sooner : (p q : Option LinkFault) (e : LinkError) → Fails p e → Fails (sooner p q) e
fails_sooner p q (errors.Fault f) h = ap (λ o. sooner o q) h
fails_sooner p q errors.NoMemory h = tt

-- what fails behind nothing, too
pub fails_later : (p q : Option LinkFault) (e : LinkError) → p ≡ None → Fails q e → Fails (sooner p q) e
fails_later p q e none h = subst (λ o. Fails o e) (sym (sooner_none p q none)) h

-- a test of each item of a list
module _ {A : Type 0} (F : List A → Option LinkFault) (G : A → Option LinkFault) (step : (x : A) (xs : List A) → F (x ∷ xs) ≡ sooner (G x) (F xs)) (xs : List A) (i : ℕ)
    (so_far : F (drop i xs) ≡ F xs) where
  pub onward : (x : A) → i < length xs → x ≡ get_or xs i x → G x ≡ None → F (drop (i + 1) xs) ≡ F xs
  onward x lt is none = sym (sooner_none (G x) (F (drop (i + 1) xs)) none) ∙ sym (step x (drop (i + 1) xs)) ∙ at_item F (F xs) xs i x lt is so_far

  pub failing : (x : A) (e : LinkError) → i < length xs → x ≡ get_or xs i x → Fails (G x) e → Fails (F xs) e
  failing x e lt is h = subst (λ o. Fails o e) (sym (step x (drop (i + 1) xs)) ∙ at_item F (F xs) xs i x lt is so_far) (fails_sooner (G x) (F (drop (i + 1) xs)) e h)
