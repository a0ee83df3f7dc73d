-- A slot more, in a list of the parts that slots give.
use Rattle.std.proofs.Common.{◌≡◌, ℕ, ◌+◌, ◌<◌, List, [], ◌∷◌, ◌++◌, length, get_or, take, sym, ap, ◌∙◌}
use Rattle.std.{proofs.lemmas.List.{flat_map_more, take_more}, specs.List.flat_map}

-- the part of the item at `i` comes behind those of the items before it
pub part_more : {A B : Type 0} (f : A → List B) (xs : List A) (i : ℕ) (x : A) → i < length xs → x ≡ get_or xs i x → (start now next : List B)
    → now ≡ start ++ flat_map f (take i xs) → next ≡ now ++ f x → next ≡ start ++ flat_map f (take (i + 1) xs)
part_more f xs i x lt read start now next is pushed =
    pushed ∙ ap (λ v. v ++ f x) is ∙ flat_map_more f start (take i xs) x
    ∙ ap (λ v. start ++ flat_map f v) (ap (λ v. take i xs ++ v ∷ []) read ∙ sym (take_more xs i x lt))
