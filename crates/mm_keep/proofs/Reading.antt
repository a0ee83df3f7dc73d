-- What is read at a place of a table.
use Rattle.std.proofs.Common.{◌≡◌, ℕ, ◌<◌, List, [], ◌∷◌, map, length, get_or, Some, sym, ap, ◌∙◌, subst, arith}
use Rattle.std.proofs.lemmas.{List.length-map, Option.{slice_get-map, slice_get-get_or}}
use Rattle.std.specs.Prelude.{slice_get, option_map}

pub reads : {K X : Type 0} (f : K → X) (keys rows : List K) (xs : List X) → rows ≡ keys → map f keys ≡ xs → (k : ℕ) → k < length xs → (d : K) (x : X)
    → f (get_or rows k d) ≡ x → slice_get xs k ≡ Some x
reads f keys rows xs same view k lt d x is =
    let all : map f rows ≡ xs = ap (map f) same ∙ view in
    let long = sym (length-map rows f) ∙ ap length all in
    let within : k < length rows = omega (arith, lt, long) in
    subst (λ l. slice_get l k ≡ Some x) all (slice_get-map f rows k ∙ ap (option_map f) (slice_get-get_or rows k d within) ∙ ap Some is)

-- how much there is in a table
pub sized : {K X : Type 0} (f : K → X) (keys : List K) (n : ℕ) → n ≡ length keys → n ≡ length (map f keys)
sized f keys n is = is ∙ sym (length-map keys f)

pub all_eight : (a b c d e f g h p q r s t u v w : ℕ) → a ≡ p → b ≡ q → c ≡ r → d ≡ s → e ≡ t → f ≡ u → g ≡ v → h ≡ w
    → a ∷ b ∷ c ∷ d ∷ e ∷ f ∷ g ∷ h ∷ [] ≡ p ∷ q ∷ r ∷ s ∷ t ∷ u ∷ v ∷ w ∷ []
all_eight a b c d e f g h p q r s t u v w i j k l m n o x = cc
