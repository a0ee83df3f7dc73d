-- Lists of what is found, with one cell or word more.
use Rattle.std.proofs.Common.{◌≡◌, ℕ, ◌+◌, ◌*◌, ◌<◌, List, [], ◌∷◌, ◌++◌, length, take, get_or, append_assoc}
use Rattle.std.proofs.{Common.{append-nil, refl, sym, ap, ◌∙◌, arith}, lemmas.List.{take_more, length-take-le}}
use Rattle.mm_word.specs.declared.word.{Word.Word, Cell.Cell}
use Rattle.mm_graph.specs.{Key.word_key, Found.{found_at, cell_keys, seed_at, word_seeds}}

pub cell_keys-append : (w : ℕ) (xs ys : List Cell) → cell_keys w (xs ++ ys) ≡ cell_keys w xs ++ cell_keys (w + 8 * length xs) ys
cell_keys-append w [] ys = ap (λ v. cell_keys v ys) (let e : w ≡ w + 8 * 0 = omega arith in e)
cell_keys-append w (x ∷ xs) ys =
    ap (λ v. found_at w (word_key x.word) ++ v) (cell_keys-append (w + 8) xs ys
    ∙ ap (λ v. cell_keys (w + 8) xs ++ cell_keys v ys) (let e : w + 8 + 8 * length xs ≡ w + 8 * length (x ∷ xs) =
    omega arith in e))
    ∙ sym (append_assoc (found_at w (word_key x.word)) (cell_keys (w + 8) xs) (cell_keys (w + 8 * length (x ∷ xs)) ys))

pub cell_keys-more : (w k : ℕ) (cells : List Cell) (d : Cell) → k < length cells → cell_keys w (take (k + 1) cells) ≡
    cell_keys w (take k cells) ++ found_at (w + 8 * k) (word_key (get_or cells k d).word)
cell_keys-more w k cells d lt =
    let len = length-take-le k cells (omega arith) in
    ap (cell_keys w) (take_more cells k d lt) ∙ cell_keys-append w (take k cells) (get_or cells k d ∷ [])
    ∙ ap (λ v. cell_keys w (take k cells) ++ v)
    (append-nil (found_at (w + 8 * length (take k cells)) (word_key (get_or cells k d).word))
    ∙ ap (λ v. found_at (w + 8 * v) (word_key (get_or cells k d).word)) len)

pub word_seeds-append : (g : ℕ) (xs ys : List Word) → word_seeds g (xs ++ ys) ≡ word_seeds g xs ++ word_seeds g ys
word_seeds-append g [] ys = refl
word_seeds-append g (x ∷ xs) ys = ap (λ v. seed_at g (word_key x) ++ v) (word_seeds-append g xs ys) ∙ sym (append_assoc (seed_at g (word_key x)) (word_seeds g xs) (word_seeds g ys))

pub word_seeds-more : (g k : ℕ) (words : List Word) (d : Word) → k < length words → word_seeds g (take (k + 1) words) ≡ word_seeds g (take k words) ++ seed_at g (word_key (get_or words k d))
word_seeds-more g k words d lt =
    ap (word_seeds g) (take_more words k d lt) ∙ word_seeds-append g (take k words) (get_or words k d ∷ [])
    ∙ ap (λ v. word_seeds g (take k words) ++ v) (append-nil (seed_at g (word_key (get_or words k d))))

-- what was added to what was added
pub grown : {A : Type 0} (start mid new a b c : List A) → mid ≡ start ++ a → new ≡ mid ++ b → c ≡ a ++ b → new ≡ start ++ c
grown start mid new a b c e f g = f ∙ ap (λ v. v ++ b) e ∙ append_assoc start a b ∙ ap (λ v. start ++ v) (sym g)
