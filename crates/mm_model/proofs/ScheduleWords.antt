-- A word of a schedule says one item, so that schedules are texts of a grammar.
use Rattle.std.proofs.Common.{◌≡◌, ◌≢◌, ℕ, ◌+◌, ◌<◌, ◌≤◌, ◌^◌, ◌⊎◌, inl, inr, List, [], ◌∷◌, ◌++◌, replicate, decimal}
use Rattle.std.proofs.Common.{refl, sym, ap, ◌∙◌, subst, arith}
use Rattle.std.proofs.lemmas.{Fmt.{decimal_by_steps, decimal_injective}, List.length-append}
use Rattle.std.specs.List.{AllByRecursion}
use Rattle.mm_model.{specs.{Words.IsGrammar, Schedule.{IsItem, SaysItems, FitsLimit}}, proofs.CoreRows.each_push}

abbrev NoStar : List ℕ → Type 0
NoStar bytes = AllByRecursion (λ b. b ≢ 42) bytes

no_star : (n : ℕ) → n < 2 ^ 64 → NoStar (decimal n)
no_star n lt = decimal_by_steps (λ k ds. NoStar ds) (λ k few. ((λ e. omega arith), tt))
    (λ k ds big none. each_push (λ b. b ≢ 42) ds (48 + Rattle.std.proofs.Common.◌%◌ k 10) none (λ e. omega arith)) n lt

star_inside : (a b t : List ℕ) → NoStar a → a ≡ b ++ 42 ∷ t → ⊥
star_inside [] [] t none e = cc
star_inside [] (y ∷ b) t none e = cc
star_inside (x ∷ a) [] t none e = let same : x ≡ 42 = cc in none.0 same
star_inside (x ∷ a) (y ∷ b) t none e = let rest : a ≡ b ++ 42 ∷ t = cc in star_inside a b t none.1 rest

-- two texts are the same where they are split at their first stars
at_star : (a b s t : List ℕ) → NoStar a → NoStar b → a ++ 42 ∷ s ≡ b ++ 42 ∷ t → (a ≡ b) × (s ≡ t)
at_star [] [] s t p q e = (refl, cc)
at_star [] (y ∷ b) s t p q e = let same : y ≡ 42 = cc in absurd (q.0 same)
at_star (x ∷ a) [] s t p q e = let same : x ≡ 42 = cc in absurd (p.0 same)
at_star (x ∷ a) (y ∷ b) s t p q e =
    let first : x ≡ y = cc in
    let rest : a ++ 42 ∷ s ≡ b ++ 42 ∷ t = cc in
    let both = at_star a b s t p.1 q.1 rest in
    let tails : a ≡ b = both.0 in
    (cc, both.1)

small : (n : ℕ) → n ≤ 1000000 → n < 2 ^ 64
small n le = omega arith

pub item_unique : (w : List ℕ) (n k m j : ℕ) → IsItem w n k → IsItem w m j → (n ≡ m) × (k ≡ j)
item_unique w n k m j a b = by a.spelled b.spelled
  where
    fits_n : n < 2 ^ 64
    fits_n = let le = a.number_limit in omega arith

    fits_m : m < 2 ^ 64
    fits_m = let le = b.number_limit in omega arith

    by : ((w ≡ decimal n) × (k ≡ 1)) ⊎ (w ≡ decimal n ++ 42 ∷ decimal k) → ((w ≡ decimal m) × (j ≡ 1)) ⊎ (w ≡ decimal m ++ 42 ∷ decimal j) → (n ≡ m) × (k ≡ j)
    by (inl p) (inl q) = (decimal_injective n m fits_n fits_m (sym p.0 ∙ q.0), p.1 ∙ sym q.1)
    by (inl p) (inr q) = absurd (star_inside (decimal n) (decimal m) (decimal j) (no_star n fits_n) (sym p.0 ∙ q))
    by (inr p) (inl q) = absurd (star_inside (decimal m) (decimal n) (decimal k) (no_star m fits_m) (sym q.0 ∙ p))
    by (inr p) (inr q) =
        let both = at_star (decimal n) (decimal m) (decimal k) (decimal j) (no_star n fits_n) (no_star m fits_m) (sym p ∙ q) in
        (decimal_injective n m fits_n fits_m both.0, decimal_injective k j (small k a.count_limit) (small j b.count_limit) both.1)

-- the word of an item says its copies
pub says_copies : (w : List ℕ) (n k : ℕ) → IsItem w n k → SaysItems w (replicate k n)
says_copies w n k item = record { number = n; count = k; item = item; repeated = refl }

says_unique : (w xs ys : List ℕ) → SaysItems w xs → SaysItems w ys → xs ≡ ys
says_unique w xs ys a b =
    let same = item_unique w a.number a.count b.number b.count a.item b.item in
    a.repeated ∙ ap (λ (n : ℕ). replicate a.count n) same.0 ∙ ap (λ (k : ℕ). replicate k b.number) same.1 ∙ sym b.repeated

pub schedule_grammar : IsGrammar SaysItems FitsLimit
schedule_grammar = record { one = says_unique; front = λ xs ys few. omega (arith, few, length-append xs ys); none = omega arith }

-- a word whose copies are too many says none that fit
pub too_many : (w items : List ℕ) (n k : ℕ) → IsItem w n k → ¬ FitsLimit (items ++ replicate k n)
    → (said : List ℕ) → SaysItems w said → ¬ FitsLimit (items ++ said)
too_many w items n k item many said says few =
    many (subst (λ (more : List ℕ). FitsLimit (items ++ more)) (says_unique w said (replicate k n) says (says_copies w n k item)) few)
