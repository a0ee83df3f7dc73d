-- Places of pages.
use Rattle.std.proofs.Common.{◌≡◌, ◌⊎◌, inl, inr, ℕ, zero, suc, ◌+◌, ◌<◌, ◌≤◌, Bool, true, false, not, nat_eq, cond, List, [], ◌∷◌, ◌++◌, length, slice_index_or, if◌then◌else◌, drop, position, nat_lt, Some, None}
use Rattle.std.proofs.Common.{refl, sym, ap, ◌∙◌, arith, eq-eqb, eqb-true, subst}
use Rattle.std.proofs.lemmas.{List.{take-append-drop, Folds.position_or_len_push, Sums.prefix_len-le-length}, Bool.ltb-false}
use Rattle.std.specs.List.{IsDistinct, AllByRecursion, list_any}
use Rattle.indexmap.specs.IndexSet.{insert_key}
use Rattle.mm_pairs.specs.Named.{HasGrown}
use Rattle.mm_config.specs.Places.{page_place, HaveOnePlace}

-- the place of a page that was just placed is the one that it had, or the last
pub place_now : (pages now : List ℕ) (number : ℕ) → now ≡ insert_key nat_eq pages number → page_place now number ≡ page_place pages number
place_now pages now number is = ap (λ l. page_place l number) is ∙ by (list_any (nat_eq number) pages)
  where
    at : ℕ
    at = page_place pages number

    last : (b : Bool) → nat_eq at (length pages) ≡ b → cond b (length pages + cond (nat_eq number number) 0 1) at ≡ at
    last true e = let same = eqb-true at (length pages) e in ap (λ b. length pages + cond b 0 1) (eq-eqb number number refl) ∙ omega (arith, same)
    last false e = refl

    by : (b : Bool) → page_place (if b then pages else pages ++ number ∷ []) number ≡ at
    by true = refl
    by false = position_or_len_push (nat_eq number) pages number ∙ last (nat_eq at (length pages)) refl

flip : (a b : ℕ) → nat_eq a b ≡ false → nat_eq b a ≡ false
flip a b e = by (nat_eq b a) refl
  where
    by : (t : Bool) → nat_eq b a ≡ t → t ≡ false
    by true is = let same = eq-eqb a b (sym (eqb-true b a is)) in cc
    by false is = refl

behind_it : (p : ℕ) (pages : List ℕ) (at : ℕ) → AllByRecursion (λ q. nat_eq p q ≡ false) pages → at < length pages → nat_eq (slice_index_or pages at 0) p ≡ false
behind_it p [] at apart lt = absurd (omega (arith, lt))
behind_it p (q ∷ pages) zero apart lt = flip p q apart.0
behind_it p (q ∷ pages) (suc at) apart lt = behind_it p pages at apart.1 (omega (arith, lt))

-- each page has one place
pub one_place : (pages : List ℕ) → IsDistinct nat_eq pages → HaveOnePlace pages
unfolding IsDistinct
one_place [] apart at lt = absurd (omega (arith, lt))
one_place (p ∷ pages) apart zero lt = ap (λ b. cond (not b) (1 + page_place pages p) 0) (eq-eqb p p refl)
one_place (p ∷ pages) apart (suc at) lt =
    let number = slice_index_or pages at 0 in
    let other : nat_eq number p ≡ false = behind_it p pages at apart.0 (omega (arith, lt)) in
    ap (λ b. cond (not b) (1 + page_place pages number) 0) other ∙ ap (λ n. 1 + n) (one_place pages apart.1 at (omega (arith, lt))) ∙ omega arith

-- a page that has a place is there
at_place : (pages : List ℕ) (number : ℕ) → page_place pages number < length pages → slice_index_or pages (page_place pages number) 0 ≡ number
at_place [] number lt = absurd (omega (arith, lt))
at_place (p ∷ pages) number lt = by (nat_eq number p) refl lt (at_place pages number)
  where
    by : (b : Bool) → nat_eq number p ≡ b → cond (not b) (1 + page_place pages number) 0 < suc (length pages)
        → (page_place pages number < length pages → slice_index_or pages (page_place pages number) 0 ≡ number)
        → slice_index_or (p ∷ pages) (cond (not b) (1 + page_place pages number) 0) 0 ≡ number
    by true e lt rest = sym (eqb-true number p e)
    by false e lt rest =
        let next : 1 + page_place pages number ≡ suc (page_place pages number) = omega arith in
        ap (λ n. slice_index_or (p ∷ pages) n 0) next ∙ rest (omega (arith, lt))

-- so pages of one place are one
pub place_tells : (pages : List ℕ) (a b : ℕ) → page_place pages a < length pages → page_place pages b ≡ page_place pages a → b ≡ a
place_tells pages a b lt e =
    let within : page_place pages b < length pages = omega (arith, lt, e) in
    sym (at_place pages b within) ∙ ap (λ n. slice_index_or pages n 0) e ∙ at_place pages a lt

more : (old rest : List ℕ) (number : ℕ)
    → (page_place (old ++ rest) number ≡ page_place old number) ⊎ ((page_place old number ≡ length old) × (length old ≤ page_place (old ++ rest) number))
more [] rest number = inr (refl, omega arith)
more (p ∷ old) rest number = by (nat_eq number p) (more old rest number)
  where
    by : (b : Bool)
        → (page_place (old ++ rest) number ≡ page_place old number) ⊎ ((page_place old number ≡ length old) × (length old ≤ page_place (old ++ rest) number))
        → (cond (not b) (1 + page_place (old ++ rest) number) 0 ≡ cond (not b) (1 + page_place old number) 0)
        ⊎ ((cond (not b) (1 + page_place old number) 0 ≡ length (p ∷ old)) × (length (p ∷ old) ≤ cond (not b) (1 + page_place (old ++ rest) number) 0))
    by true h = inl refl
    by false (inl e) = inl (ap (λ n. 1 + n) e)
    by false (inr h) = let a = h.0 in let b = h.1 in inr (omega (arith, a), omega (arith, b))

-- a page keeps its place, or had none and gets one of the new ones at most
pub place_stays : (old new : List ℕ) (number : ℕ) → HasGrown old new
    → (page_place new number ≡ page_place old number) ⊎ ((page_place old number ≡ length old) × (length old ≤ page_place new number))
place_stays old new number grown =
    let all : old ++ drop (length old) new ≡ new = ap (λ l. l ++ drop (length old) new) (sym grown) ∙ take-append-drop (length old) new in
    subst (λ l. (page_place l number ≡ page_place old number) ⊎ ((page_place old number ≡ length old) × (length old ≤ page_place l number))) all (more old (drop (length old) new) number)

-- a page that is not found has no place
pub no_place : (pages : List ℕ) (number : ℕ) → position (nat_eq number) pages ≡ None → page_place pages number ≡ length pages
no_place pages number none = by (nat_lt (page_place pages number) (length pages)) refl none
  where
    by : (b : Bool) → nat_lt (page_place pages number) (length pages) ≡ b → cond b (Some (page_place pages number)) None ≡ None → page_place pages number ≡ length pages
    by true e none = cc
    by false e none = let high = ltb-false (page_place pages number) (length pages) e in let low = prefix_len-le-length (λ p. not (nat_eq number p)) pages in omega (arith, high, low)
