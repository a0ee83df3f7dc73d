-- Names of which each is another one.
use Rattle.std.proofs.Common.{◌≡◌, ℕ, true, false, not, List, [], ◌∷◌, ◌++◌, refl, sym, ap, ◌∙◌, bytes_eq}
use Rattle.std.proofs.lemmas.{List.Folds.list_any-append, Slice.Eq.bytes_eq-Decides}
use Rattle.std.proofs.lemmas.Bool.{or_parts, and_parts, and_from, not-true, false_from_ne_true, or_from}
use Rattle.mm_object.specs.Objects.{Segment, is_among, are_apart, names_of}

pub turn : (a b : List ℕ) → bytes_eq a b ≡ false → bytes_eq b a ≡ false
turn a b other = false_from_ne_true (bytes_eq b a) (λ same.
    let e = (bytes_eq-Decides b a).0 same in
    let here : bytes_eq a b ≡ true = (bytes_eq-Decides a b).1 (sym e) in
    absurd (cc (here, other)))

-- one name more
pub apart-push : (names : List (List ℕ)) (name : List ℕ) → are_apart names ≡ true → is_among name names ≡ false → are_apart (names ++ name ∷ []) ≡ true
apart-push [] name apart other = refl
apart-push (x ∷ names) name apart other =
    let rest = and_parts _ _ apart in
    let first = or_parts _ _ other in
    let out : is_among x (names ++ name ∷ []) ≡ false =
    list_any-append (bytes_eq x) names (name ∷ []) ∙ or_from _ _ (not-true (is_among x names) rest.0) (or_from _ false (turn name x first.0) refl) in
    and_from _ _ (ap not out) (apart-push names name rest.1 first.1)

-- no name is among those before it
pub apart-before : (before : List Segment) (s : Segment) (segments : List Segment)
    → are_apart (names_of (before ++ s ∷ segments)) ≡ true → is_among s.name (names_of before) ≡ false
apart-before [] s segments apart = refl
apart-before (x ∷ before) s segments apart =
    let p = and_parts _ _ apart in
    or_from _ _ (turn x.name s.name (later before (not-true _ p.0))) (apart-before before s segments p.1)
  where
    later : (before : List Segment) → is_among x.name (names_of (before ++ s ∷ segments)) ≡ false
        → bytes_eq x.name s.name ≡ false
    later [] none = (or_parts _ _ none).0
    later (y ∷ before) none = later before (or_parts _ _ none).1

pub names-push : (segments : List Segment) (s : Segment) → names_of (segments ++ s ∷ []) ≡ names_of segments ++ s.name ∷ []
names-push [] s = refl
names-push (x ∷ segments) s = ap (λ names. x.name ∷ names) (names-push segments s)
