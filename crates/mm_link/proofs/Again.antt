-- Names that are there twice.
use Rattle.std.proofs.Common.{◌≡◌, ℕ, ◌+◌, ◌<◌, Bool, true, false, not, if◌then◌else◌, List, [], ◌∷◌, ◌++◌, length}
use Rattle.std.proofs.Common.{get_or, drop, reverse, Some, None, refl, sym, ap, ◌∙◌, true≢false}
use Rattle.std.proofs.lemmas.Bool.{or_parts, not-false, not-true, Decides.same_from_decides}
use Rattle.std.proofs.lemmas.Slice.Eq.{bytes_eq-Decides}
use Rattle.std.proofs.lemmas.List.{reverse-append, Sorted.{IsPermutation-reverse, list_any-IsPermutation}}
use Rattle.std.proofs.lemmas.Map.Keys.{IsDistinct-IsPermutation}
use Rattle.std.specs.{Prelude.◌||◌, List.{list_any, AllByRecursion, IsDistinct, Sorted.IsPermutation}, Str.bytes_eq}
use Rattle.indexmap.specs.IndexSet.{insert_key}
use denote.Ref.{Bor}
use Rattle.mm_object.specs.{Objects.is_among, Steps.key_names}
use Rattle.mm_link.{specs.{Placing.Part, Faults.first_again, Steps.{part_names, same_part}}, proofs.Lists.at_item}

pub same_turned : (a b : List ℕ) → bytes_eq a b ≡ bytes_eq b a
same_turned a b = same_from_decides (bytes_eq a b) (bytes_eq b a) (bytes_eq-Decides a b) ((λ h. sym ((bytes_eq-Decides b a).0 h)), (λ e. (bytes_eq-Decides b a).1 (sym e)))

abbrev pub same_key : Bor (List ℕ) → Bor (List ℕ) → Bool
same_key x y = bytes_eq x.now y.now

pub among_keys : (keys : List (Bor (List ℕ))) (k : Bor (List ℕ)) → list_any (same_key k) keys ≡ is_among k.now (key_names keys)
among_keys [] k = refl
among_keys (x ∷ keys) k = ap (λ b. bytes_eq k.now x.now || b) (among_keys keys k)

-- the names before, the last one first
abbrev pub before_of : List (Bor (List ℕ)) → List (List ℕ)
before_of keys = reverse (key_names keys)

pub among_before : (keys : List (Bor (List ℕ))) (k : Bor (List ℕ)) → is_among k.now (before_of keys) ≡ list_any (same_key k) keys
among_before keys k = sym (list_any-IsPermutation (bytes_eq k.now) (key_names keys) (before_of keys) (IsPermutation-reverse (key_names keys))) ∙ sym (among_keys keys k)

pub before_more : (keys : List (Bor (List ℕ))) (k : Bor (List ℕ)) → list_any (same_key k) keys ≡ false → before_of (insert_key same_key keys k) ≡ k.now ∷ before_of keys
before_more keys k new = ap (λ b. before_of (if b then keys else keys ++ k ∷ [])) new ∙ ap reverse (pushed keys) ∙ reverse-append (key_names keys) (k.now ∷ [])
  where
    pushed : (keys : List (Bor (List ℕ))) → key_names (keys ++ k ∷ []) ≡ key_names keys ++ k.now ∷ []
    pushed [] = refl
    pushed (x ∷ keys) = ap (λ names. x.now ∷ names) (pushed keys)

-- a name is new
pub again_next : (before names : List (List ℕ)) (name : List ℕ) → is_among name before ≡ false → first_again before (name ∷ names) ≡ first_again (name ∷ before) names
again_next before names name new = ap (λ b. if b then Some name else first_again (name ∷ before) names) new

-- a name is there again
pub again_here : (before names : List (List ℕ)) (name : List ℕ) → is_among name before ≡ true → first_again before (name ∷ names) ≡ Some name
again_here before names name old = ap (λ b. if b then Some name else first_again (name ∷ before) names) old

module _ (p : Part) (before : List (List ℕ)) where
  old : (parts : List Part) → AllByRecursion (λ (q : Part). is_among q.segment.name (p.segment.name ∷ before) ≡ false) parts
      → AllByRecursion (λ (q : Part). is_among q.segment.name before ≡ false) parts
  old [] h = tt
  old (q ∷ parts) h = ((or_parts (bytes_eq q.segment.name p.segment.name) (is_among q.segment.name before) h.0).1, old parts h.1)

  other : (parts : List Part) → AllByRecursion (λ (q : Part). is_among q.segment.name (p.segment.name ∷ before) ≡ false) parts
      → AllByRecursion (λ (q : Part). same_part p q ≡ false) parts
  other [] h = tt
  other (q ∷ parts) h = (same_turned p.segment.name q.segment.name ∙ (or_parts (bytes_eq q.segment.name p.segment.name) (is_among q.segment.name before) h.0).0, other parts h.1)

-- where no name is there again, segments are told apart by their names
pub distinct : (before : List (List ℕ)) (parts : List Part) → first_again before (part_names parts) ≡ None
    → AllByRecursion (λ (p : Part). is_among p.segment.name before ≡ false) parts × IsDistinct same_part parts
unfolding IsDistinct
distinct before [] none = (tt, tt)
distinct before (p ∷ parts) none = by (is_among p.segment.name before) refl none (distinct (p.segment.name ∷ before) parts)
  where
    by : (b : Bool) → is_among p.segment.name before ≡ b → (if b then Some p.segment.name else first_again (p.segment.name ∷ before) (part_names parts)) ≡ None
        → (first_again (p.segment.name ∷ before) (part_names parts) ≡ None → AllByRecursion (λ (q : Part). is_among q.segment.name (p.segment.name ∷ before) ≡ false) parts ×
        IsDistinct same_part parts)
        → AllByRecursion (λ (q : Part). is_among q.segment.name before ≡ false) (p ∷ parts) × IsDistinct same_part (p ∷ parts)
    by true e h rest = absurd (let impossible : Some p.segment.name ≡ None = h in cc)
    by false e h rest = let r = rest h in ((e, old p before parts r.0), (other p before parts r.0, r.1))

-- in whatever order
pub distinct_placed : (parts placed : List Part) → IsPermutation parts placed → first_again [] (part_names parts) ≡ None → IsDistinct same_part placed
distinct_placed parts placed moved none = IsDistinct-IsPermutation same_part (λ p q. same_turned p.segment.name q.segment.name) parts placed moved (distinct [] parts none).1

-- A name more, as a set of names takes it.
module _ (keys : List (Bor (List ℕ))) (parts : List Part) (i : ℕ) (p : Part) (k : Bor (List ℕ))
    (so_far : first_again (before_of keys) (part_names (drop i parts)) ≡ first_again [] (part_names parts)) (lt : i < length parts) (at : p ≡ get_or parts i p)
    (name : k.now ≡ p.segment.name) where
  front : first_again (before_of keys) (k.now ∷ part_names (drop (i + 1) parts)) ≡ first_again [] (part_names parts)
  front = ap (λ n. first_again (before_of keys) (n ∷ part_names (drop (i + 1) parts))) name
      ∙ at_item (λ ps. first_again (before_of keys) (part_names ps)) (first_again [] (part_names parts)) parts i p lt at so_far

  pub name_here : (r : Bool) → r ≡ not (list_any (same_key k) keys) → r ≡ false → first_again [] (part_names parts) ≡ Some p.segment.name
  name_here r added old =
      let there : list_any (same_key k) keys ≡ true = not-false (list_any (same_key k) keys) (sym added ∙ old) in
      sym front ∙ again_here (before_of keys) (part_names (drop (i + 1) parts)) k.now (among_before keys k ∙ there) ∙ ap Some name

  pub name_next : (r : Bool) (new : List (Bor (List ℕ))) → r ≡ not (list_any (same_key k) keys) → r ≡ true → new ≡ insert_key same_key keys k
      → first_again (before_of new) (part_names (drop (i + 1) parts)) ≡ first_again [] (part_names parts)
  name_next r new added fresh now =
      let absent : list_any (same_key k) keys ≡ false = not-true (list_any (same_key k) keys) (sym added ∙ fresh) in
      ap (λ ks. first_again (before_of ks) (part_names (drop (i + 1) parts))) now ∙ ap (λ names. first_again names (part_names (drop (i + 1) parts))) (before_more keys k absent)
      ∙ sym (again_next (before_of keys) (part_names (drop (i + 1) parts)) k.now (among_before keys k ∙ absent)) ∙ front
