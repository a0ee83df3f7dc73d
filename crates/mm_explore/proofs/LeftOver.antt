-- Results so far, and of what is left.
use Rattle.std.proofs.Common.{◌≡◌, ℕ, ◌+◌, ◌-◌, ◌<◌, ◌≤◌, get_or, take, length, arith, List, [], ◌∷◌, ◌++◌, map, sym, ap}
use Rattle.std.proofs.Common.{◌∙◌, subst, append_assoc, append-nil}
use Rattle.std.proofs.lemmas.List.{take_more, FromFn.{get_or-range_with_len, length-range_with_len}}
use Rattle.std.{proofs.lemmas.Grind.flat_map-append, specs.List.{AllZip, flat_map, range_with_len}}
use Rattle.mm_word.specs.Cause.{cause_numbers}

-- each of a list stands in a relation to one of another list, results are made of the first of them, and the rest is left
pub record LeftOver {A B O : Type 0} (R : A → B → Type 0) (made : A → O) (all : List A) (begin out : List O) (rest : List B) : Type 0 where
  pub left : List A
  pub stand : AllZip R left rest
  pub same : out ++ map made left ≡ begin ++ map made all

module _ {A B O : Type 0} (R : A → B → Type 0) (made : A → O) (all : List A) where
  -- what is known of the next
  pub record Next (b : B) : Type 0 where
    pub a : A
    pub stands : R a b

  next_of : (left : List A) (b : B) (rest : List B) → AllZip R left (b ∷ rest) → Next b
  next_of [] b rest h = absurd h
  next_of (a ∷ left) b rest h = record { a = a; stands = h.0 }

  pub left_next : (begin out : List O) (now rest : List B) (b : B) → now ≡ b ∷ rest → LeftOver R made all begin out now → Next b
  left_next begin out now rest b is h = next_of h.left b rest (subst (AllZip R h.left) is h.stand)

  more_of : (begin out more : List O) (o : O) (b : B) (rest : List B) → more ≡ out ++ o ∷ [] → ((a : A) → R a b → o ≡ made a) → (left : List A) → AllZip R left (b ∷ rest)
      → out ++ map made left ≡ begin ++ map made all → LeftOver R made all begin more rest
  more_of begin out more o b rest pushed one [] h same = absurd h
  more_of begin out more o b rest pushed one (a ∷ left) h same = record {
    left = left;
    stand = h.1;
    same =
        ap (λ l. l ++ map made left) pushed
        ∙ append_assoc out (o ∷ []) (map made left)
        ∙ ap (λ x. out ++ x ∷ map made left) (one a h.0)
        ∙ same;
  }

  pub left_more : (begin out more : List O) (o : O) (b : B) (now rest : List B) → now ≡ b ∷ rest → more ≡ out ++ o ∷ [] → ((a : A) → R a b → o ≡ made a)
      → LeftOver R made all begin out now → LeftOver R made all begin more rest
  left_more begin out more o b now rest is pushed one h = more_of begin out more o b rest pushed one h.left (subst (AllZip R h.left) is h.stand) h.same

  end_of : (begin out : List O) (left : List A) → AllZip R left [] → out ++ map made left ≡ begin ++ map made all → out ≡ begin ++ map made all
  end_of begin out [] h same = sym (append-nil out) ∙ same
  end_of begin out (a ∷ left) h same = absurd h

  pub left_none : (begin out : List O) (now : List B) → now ≡ [] → LeftOver R made all begin out now → out ≡ begin ++ map made all
  left_none begin out now none h = end_of begin out h.left (subst (AllZip R h.left) none h.stand) h.same

-- what comes of one number more
pub range_more : {Y : Type 0} (f : ℕ → List Y) (k : ℕ) → 1 ≤ k → k < 14 → flat_map f (take ((k + 1) - 1) cause_numbers) ≡ flat_map f (take (k - 1) cause_numbers) ++ f k
range_more f k low high =
    let items : List ℕ = range_with_len 1 13 in
    let next : (k + 1) - 1 ≡ (k - 1) + 1 = omega arith in
    let inside : k - 1 < 13 = omega arith in
    let back : 1 + (k - 1) ≡ k = omega arith in
    ap (λ n. flat_map f (take n items)) next
    ∙ ap (flat_map f) (take_more items (k - 1) 0 (let long : length items ≡ 13 = length-range_with_len 1 13 in omega (arith, long, inside)))
    ∙ flat_map-append f (take (k - 1) items) (get_or items (k - 1) 0 ∷ [])
    ∙ ap (λ l. flat_map f (take (k - 1) items) ++ l) (append-nil (f (get_or items (k - 1) 0)) ∙ ap f (get_or-range_with_len 1 13 (k - 1) 0 inside ∙ back))
