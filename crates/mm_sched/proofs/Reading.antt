-- A text of words that is read to a place.
use Rattle.std.proofs.Common.{◌≡◌, ℕ, ◌≤◌, false, List, [], ◌∷◌, ◌++◌, length, refl, sym, ap, ◌∙◌, subst, append_assoc}
use Rattle.std.proofs.{Common.append-nil, Math.ListN.drop_of_length-le}
use Rattle.mm_model.specs.Words.{runs_of, Lists, TextMeans, TextFaultsAt, Lists.no_word}
use Rattle.mm_model.proofs.WordTexts.{Runs, lists_more}
use Rattle.mm_sched.specs.Places.{runs_in}

pub record IsRead {A : Type 0} (Says : List ℕ → List A → Type 0) (Keeps : List A → Type 0) (text : List ℕ) (at : ℕ) (items : List A) : Type 0 where
  pub before : Runs
  pub split : runs_of text ≡ before ++ runs_in false text at
  pub lists : Lists Says before items
  pub rules : Keeps items

pub read_none : {A : Type 0} {Says : List ℕ → List A → Type 0} {Keeps : List A → Type 0} → Keeps [] → (text : List ℕ) (at : ℕ)
    → runs_in false text at ≡ runs_in false text 0 → IsRead Says Keeps text at []
unfolding runs_of
read_none none text at e = record { before = []; split = sym e; lists = no_word; rules = none }

-- one word more
pub read_more : {A : Type 0} {Says : List ℕ → List A → Type 0} {Keeps : List A → Type 0} (text : List ℕ) (at end next : ℕ) (w : List ℕ) (items said : List A)
    → IsRead Says Keeps text at items → runs_in false text at ≡ (at, w) ∷ runs_in false text end → runs_in false text next ≡ runs_in false text end
    → Says w said → Keeps (items ++ said) → IsRead Says Keeps text next (items ++ said)
read_more text at end next w items said r word_there skipped says rules = record {
  before = r.before ++ (at, w) ∷ [];
  split = r.split ∙ ap (λ (runs : Runs). r.before ++ runs) (word_there ∙ ap (λ (runs : Runs). (at, w) ∷ runs) (sym skipped)) ∙ sym (append_assoc r.before ((at, w) ∷ []) (runs_in false text next));
  lists = lists_more at w said r.lists says;
  rules = rules;
}

pub read_fault : {A : Type 0} {Says : List ℕ → List A → Type 0} {Keeps : List A → Type 0} (text : List ℕ) (at end : ℕ) (w : List ℕ) (items : List A)
    → IsRead Says Keeps text at items → runs_in false text at ≡ (at, w) ∷ runs_in false text end
    → ((said : List A) → Says w said → Keeps (items ++ said) → ⊥) → TextFaultsAt Says Keeps text at
read_fault text at end w items r word_there fault = record {
  before = r.before;
  word = w;
  behind = runs_in false text end;
  split = r.split ∙ ap (λ (runs : Runs). r.before ++ runs) word_there;
  items = items;
  lists = r.lists;
  rules = r.rules;
  fault = fault;
}

pub read_all : {A : Type 0} {Says : List ℕ → List A → Type 0} {Keeps : List A → Type 0} (text : List ℕ) (at : ℕ) (items : List A) → length text ≤ at
    → IsRead Says Keeps text at items → TextMeans Says Keeps text items
read_all {Says = Says} text at items h r =
    let none : runs_in false text at ≡ [] = rw (drop_of_length-le text h) refl in
    let P : Runs → Type 0 = λ runs. Lists Says runs items in
    record { lists = subst P (sym (r.split ∙ ap (λ (runs : Runs). r.before ++ runs) none ∙ append-nil r.before)) r.lists; rules = r.rules }
