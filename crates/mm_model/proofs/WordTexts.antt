-- A text of words means one list at most, has a fault at one place at most, and never both.
use Rattle.std.proofs.Common.{◌≡◌, ℕ, ◌⊎◌, inl, inr, List, [], ◌∷◌, ◌++◌, refl, sym, ap, ◌∙◌, subst, append_assoc}
use Rattle.std.proofs.Common.{append-nil}
use Rattle.mm_model.specs.Words.{runs_of, Lists, TextMeans, TextFaultsAt, IsGrammar, Lists.{no_word, word}}

abbrev pub Runs : Type 0
Runs = List (ℕ × List ℕ)

-- 1. Words list one thing.

-- what a first word and the words behind it say
record FirstSays {A : Type 0} (Says : List ℕ → List A → Type 0) (w : List ℕ) (runs : Runs) (items : List A) : Type 0 where
  said : List A
  rest : List A
  says : Says w said
  lists : Lists Says runs rest
  both : items ≡ said ++ rest

abbrev Inverted : {A : Type 0} → (List ℕ → List A → Type 0) → Runs → List A → Type 0
Inverted Says [] items = items ≡ []
Inverted Says (run ∷ runs) items = FirstSays Says run.1 runs items

invert : {A : Type 0} {Says : List ℕ → List A → Type 0} {runs : Runs} {items : List A} → Lists Says runs items → Inverted Says runs items
invert no_word = refl
invert (word {said = said} {items = rest} says lists) = record { said = said; rest = rest; says = says; lists = lists; both = refl }

lists_unique : {A : Type 0} {Says : List ℕ → List A → Type 0} {Keeps : List A → Type 0} → IsGrammar Says Keeps → (runs : Runs) (xs ys : List A)
    → Lists Says runs xs → Lists Says runs ys → xs ≡ ys
lists_unique g [] xs ys a b = invert a ∙ sym (invert b)
lists_unique {A = A} g (run ∷ runs) xs ys a b =
    let f = invert a in
    let h = invert b in
    let same : f.said ≡ h.said = g.one run.1 f.said h.said f.says h.says in
    let rest : f.rest ≡ h.rest = lists_unique g runs f.rest h.rest f.lists h.lists in
    f.both ∙ ap (λ (zs : List A). zs ++ f.rest) same ∙ ap (λ (zs : List A). h.said ++ zs) rest ∙ sym h.both

-- one word more at the end
pub lists_more : {A : Type 0} {Says : List ℕ → List A → Type 0} {runs : Runs} {items : List A} (at : ℕ) (w : List ℕ) (said : List A)
    → Lists Says runs items → Says w said → Lists Says (runs ++ (at, w) ∷ []) (items ++ said)
lists_more {A = A} {Says = Says} at w said no_word says = subst (λ (xs : List A). Lists Says ((at, w) ∷ []) xs) (append-nil said) (word says no_word)
lists_more {A = A} {Says = Says} at w said (word {at = offset} {word = v} {words = words} {said = first} {items = rest} says lists) more =
    let P : List A → Type 0 = λ xs. Lists Says ((offset, v) ∷ (words ++ (at, w) ∷ [])) xs in
    subst P (sym (append_assoc first rest said)) (word says (lists_more at w said lists more))

-- the words before a place list the front of the items
record Front {A : Type 0} (Says : List ℕ → List A → Type 0) (before behind : Runs) (items : List A) : Type 0 where
  front : List A
  back : List A
  lists : Lists Says before front
  rest : Lists Says behind back
  both : items ≡ front ++ back

front_of : {A : Type 0} {Says : List ℕ → List A → Type 0} (before behind : Runs) (items : List A) → Lists Says (before ++ behind) items
    → Front Says before behind items
front_of [] behind items lists = record { front = []; back = items; lists = no_word; rest = lists; both = refl }
front_of {A = A} (run ∷ before) behind items lists =
    let f = invert lists in
    let g = front_of before behind f.rest f.lists in
    record {
      front = f.said ++ g.front;
      back = g.back;
      lists = word f.says g.lists;
      rest = g.rest;
      both = f.both ∙ ap (λ (zs : List A). f.said ++ zs) g.both ∙ sym (append_assoc f.said g.front g.back);
    }

-- 2. A text means items or faults at a place, never both, and each once.

pub means_unique : {A : Type 0} {Says : List ℕ → List A → Type 0} {Keeps : List A → Type 0} → IsGrammar Says Keeps → (text : List ℕ) (xs ys : List A)
    → TextMeans Says Keeps text xs → TextMeans Says Keeps text ys → xs ≡ ys
means_unique g text xs ys a b = lists_unique g (runs_of text) xs ys a.lists b.lists

-- no fault stands in words that list what keeps the rules
no_fault : {A : Type 0} {Says : List ℕ → List A → Type 0} {Keeps : List A → Type 0} → IsGrammar Says Keeps → (text : List ℕ) (offset : ℕ)
    (f : TextFaultsAt Says Keeps text offset) (runs behind : Runs) (items : List A) → runs ≡ f.before ++ (offset, f.word) ∷ behind → Lists Says runs items → Keeps items → ⊥
no_fault {A = A} {Says = Says} {Keeps = Keeps} g text offset f runs behind items is lists rules =
    let parts = front_of f.before ((offset, f.word) ∷ behind) items (subst (λ (ws : Runs). Lists Says ws items) is lists) in
    let h = invert parts.rest in
    let same : parts.front ≡ f.items = lists_unique g f.before parts.front f.items parts.lists f.lists in
    let all : items ≡ (f.items ++ h.said) ++ h.rest =
    parts.both ∙ ap (λ (zs : List A). zs ++ parts.back) same ∙ ap (λ (zs : List A). f.items ++ zs) h.both ∙ sym (append_assoc f.items h.said h.rest) in
    f.fault h.said h.says (g.front (f.items ++ h.said) h.rest (subst Keeps all rules))

pub never_both : {A : Type 0} {Says : List ℕ → List A → Type 0} {Keeps : List A → Type 0} → IsGrammar Says Keeps → (text : List ℕ) (items : List A) (offset : ℕ)
    → TextMeans Says Keeps text items → ¬ TextFaultsAt Says Keeps text offset
never_both g text items offset means fault = no_fault g text offset fault (runs_of text) fault.behind items fault.split means.lists means.rules

-- two ways to split a list: at one place, or one behind the other
record Behind (before other : Runs) (w : ℕ × List ℕ) : Type 0 where
  between : Runs
  split : other ≡ before ++ w ∷ between

two_splits : (a b : Runs) (w v : ℕ × List ℕ) (c d : Runs) → a ++ w ∷ c ≡ b ++ v ∷ d → (w ≡ v) ⊎ Behind a b w ⊎ Behind b a v
two_splits [] [] w v c d e = inl (cc)
two_splits [] (x ∷ b) w v c d e = inr (inl (record { between = b; split = let h : x ≡ w = cc in ap (λ (y : ℕ × List ℕ). y ∷ b) h }))
two_splits (x ∷ a) [] w v c d e = inr (inr (record { between = a; split = let h : x ≡ v = cc in ap (λ (y : ℕ × List ℕ). y ∷ a) h }))
two_splits (x ∷ a) (y ∷ b) w v c d e =
    let head : x ≡ y = cc in
    let tail : a ++ w ∷ c ≡ b ++ v ∷ d = cc in
    elim (two_splits a b w v c d tail) [
      | inl same ↦ inl same
      | inr f ↦ elim f [
        | inl g ↦ inr (inl (record { between = g.between; split = ap (λ (xs : Runs). y ∷ xs) g.split ∙ ap (λ (z : ℕ × List ℕ). z ∷ (a ++ w ∷ g.between)) (sym head) }))
        | inr g ↦ inr (inr (record { between = g.between; split = ap (λ (xs : Runs). x ∷ xs) g.split ∙ ap (λ (z : ℕ × List ℕ). z ∷ (b ++ v ∷ g.between)) head }))
      ]
    ]

pub fault_unique : {A : Type 0} {Says : List ℕ → List A → Type 0} {Keeps : List A → Type 0} → IsGrammar Says Keeps → (text : List ℕ) (p q : ℕ)
    → TextFaultsAt Says Keeps text p → TextFaultsAt Says Keeps text q → p ≡ q
fault_unique g text p q f h = elim (two_splits f.before h.before (p, f.word) (q, h.word) f.behind h.behind (sym f.split ∙ h.split)) [
  | inl same ↦ ap (λ (x : ℕ × List ℕ). x.0) same
  | inr either ↦ elim either [
    | inl b ↦ absurd (no_fault g text p f h.before b.between h.items b.split h.lists h.rules)
    | inr b ↦ absurd (no_fault g text q h f.before b.between f.items b.split f.lists f.rules)
  ]
]
