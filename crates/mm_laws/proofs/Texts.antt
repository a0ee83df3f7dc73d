-- A schedule's text always means a list or has a first fault.
use Rattle.std.proofs.Common.{◌≡◌, ℕ, zero, suc, ◌+◌, ◌<◌, ◌≤◌, ◌⊎◌, inl, inr, List, [], ◌∷◌, ◌++◌, length, replicate}
use Rattle.std.proofs.Common.{refl, sym, ap, ◌∙◌, subst, arith, append_assoc, append-nil}
use Rattle.std.{proofs.lemmas.Bool.{cases_eq, cases_lt}, specs.Prelude.decimal}
use Rattle.mm_model.specs.Words.{runs_of, Lists, Lists.no_word}
use Rattle.mm_model.specs.Schedule.{item_limit, IsItem, SaysItems, FitsLimit, Means, FaultsAt}
use Rattle.mm_model.proofs.{WordTexts.{Runs, lists_more}, ScheduleWords.{says_copies, too_many}}

-- 1. What a word says.

-- what is decided for each number is decided for some number below a bound
below_or_none : (P : ℕ → Type 0) → ((n : ℕ) → P n ⊎ (P n → ⊥)) → (k : ℕ) → ((n : ℕ) × (n < k) × P n) ⊎ ((n : ℕ) → n < k → P n → ⊥)
below_or_none P dec zero = inr (λ n lt h. omega arith)
below_or_none P dec (suc k) = elim (dec k) [
  | inl yes_here ↦ inl (k, omega arith, yes_here)
  | inr no_here ↦ elim (below_or_none P dec k) [
    | inl found ↦ inl (found.0, omega (arith, found.1), found.2)
    | inr none ↦ inr (λ n lt h. elim (cases_eq n k) [ inl e ↦ no_here (subst P e h) | inr ne ↦ none n (omega arith) h ])
  ]
]

same_text : (a b : List ℕ) → (a ≡ b) ⊎ (a ≡ b → ⊥)
same_text [] [] = inl refl
same_text [] (y ∷ b) = inr (λ e. cc)
same_text (x ∷ a) [] = inr (λ e. cc)
same_text (x ∷ a) (y ∷ b) = elim (cases_eq x y) [
  | inl e ↦ elim (same_text a b) [ inl f ↦ inl cc | inr no_rest ↦ inr (λ g. no_rest cc) ]
  | inr ne ↦ inr (λ g. ne cc)
]

-- a word says an item, or none
abbrev Says : List ℕ → Type 0
Says w = (n : ℕ) × (k : ℕ) × IsItem w n k

-- a word that says so many items of this number
says_number : (limit : ℕ) → limit ≡ item_limit → (w : List ℕ) (n : ℕ) → n ≤ 255 → ((k : ℕ) × IsItem w n k) ⊎ ((k : ℕ) → IsItem w n k → ⊥)
says_number limit is w n le = elim (same_text w (decimal n)) [
  | inl alone ↦ inl (1, record { number_limit = le; some = omega arith; count_limit = omega arith; spelled = inl (alone, refl) })
  | inr not_alone ↦ elim (below_or_none (λ k. w ≡ decimal n ++ 42 ∷ decimal (k + 1)) (λ k. same_text w (decimal n ++ 42 ∷ decimal (k + 1))) limit) [
    | inl found ↦ inl (found.0 + 1, record { number_limit = le; some = omega arith; count_limit = let lt = found.1 in omega arith; spelled = inr found.2 })
    | inr none ↦ inr (λ k item. refuses k item not_alone none)
  ]
]
  where
    refuses : (k : ℕ) → IsItem w n k → (w ≡ decimal n → ⊥) → ((j : ℕ) → j < limit → w ≡ decimal n ++ 42 ∷ decimal (j + 1) → ⊥) → ⊥
    refuses k item not_alone none = by item.spelled
      where
        by : ((w ≡ decimal n) × (k ≡ 1)) ⊎ (w ≡ decimal n ++ 42 ∷ decimal k) → ⊥
        by (inl p) = not_alone p.0
        by (inr p) = before k p item.some item.count_limit
          where
            before : (k : ℕ) → w ≡ decimal n ++ 42 ∷ decimal k → 1 ≤ k → k ≤ item_limit → ⊥
            before zero p some few = omega arith
            before (suc j) p some few = let next : suc j ≡ j + 1 = omega arith in none j (omega arith) (p ∙ ap (λ (x : ℕ). decimal n ++ 42 ∷ decimal x) next)

says_any : (w : List ℕ) → Says w ⊎ ((n k : ℕ) → IsItem w n k → ⊥)
says_any w = elim (below_or_none (λ n. (n ≤ 255) × Says_of n) by 256) [
  | inl found ↦ let k = found.2.1 in inl (found.0, k.0, k.1)
  | inr none ↦ inr (λ n k item. let le = item.number_limit in none n (omega arith) (item.number_limit, (k, item)))
]
  where
    Says_of : ℕ → Type 0
    Says_of n = (k : ℕ) × IsItem w n k

    by : (n : ℕ) → ((n ≤ 255) × Says_of n) ⊎ ((n ≤ 255) × Says_of n → ⊥)
    by n = elim (cases_lt n 256) [
      | inl lt ↦ elim (says_number item_limit refl w n (omega arith)) [ inl found ↦ inl (omega arith, found) | inr none ↦ inr (λ h. none h.1.0 h.1.1) ]
      | inr ge ↦ inr (λ h. let le = h.0 in omega arith)
    ]

-- 2. What a text says.

abbrev Outcome : List ℕ → Type 0
Outcome text = ((items : List ℕ) × Means text items) ⊎ ((p : ℕ) × FaultsAt text p)

-- the items of one word more, or why there are none
adds : (w items : List ℕ) → ((said : List ℕ) × SaysItems w said × FitsLimit (items ++ said)) ⊎ ((said : List ℕ) → SaysItems w said → ¬ FitsLimit (items ++ said))
adds w items = elim (says_any w) [
  | inr none ↦ inr (λ said says few. none says.number says.count says.item)
  | inl says ↦ elim (cases_lt item_limit (length (items ++ replicate says.1 says.0))) [
    | inl over ↦ inr (too_many w items says.0 says.1 says.2 (λ few. omega arith))
    | inr within ↦ inl (replicate says.1 says.0, says_copies w says.0 says.1 says.2, omega arith)
  ]
]

-- read on from a word on, behind words that say a list within the limit
read_on : (text : List ℕ) (ws before : Runs) (items : List ℕ) → runs_of text ≡ before ++ ws → Lists SaysItems before items → FitsLimit items → Outcome text
read_on text [] before items is l few = inl (items, record { lists = subst (λ (all : Runs). Lists SaysItems all items) (sym (is ∙ append-nil before)) l; rules = few })
read_on text (w ∷ ws) before items is l few = elim (adds w.1 items) [
  | inr none ↦ inr (w.0, record { before = before; word = w.1; behind = ws; split = is; items = items; lists = l; rules = few; fault = none })
  | inl more ↦ read_on text ws (before ++ w ∷ []) (items ++ more.0) (is ∙ sym (append_assoc before (w ∷ []) ws)) (lists_more w.0 w.1 more.0 l more.1) more.2
]

pub always_one : (text : List ℕ) → ((items : List ℕ) × Means text items) ⊎ ((p : ℕ) × FaultsAt text p)
always_one text = read_on text (runs_of text) [] [] refl no_word (omega arith)
