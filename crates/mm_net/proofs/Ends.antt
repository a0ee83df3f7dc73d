-- Whether links keep their rules with one more.
use Rattle.std.proofs.Common.{◌≡◌, ℕ, zero, suc, ◌+◌, ◌<◌, inl, inr, Bool, true, false, not, ◌==◌, ◌&&◌, List, [], ◌∷◌}
use Rattle.std.proofs.Common.{◌++◌, length, get_or, refl, sym, ap, ◌∙◌, subst, arith, append_assoc}
use Rattle.std.proofs.Math.{ListN.get_or-append, Seq.get_or-append_seam}
use Rattle.std.proofs.lemmas.List.{length-append, get_or-append-add, Elements.All-push, Quantifiers.all_pairs_push}
use Rattle.std.{proofs.lemmas.Bool.{or_cases, or_parts, Decides.nat_tests}, specs.List.{AllPairs, list_any}}
use Rattle.mm_sched.proofs.Numbers.{below_or}
use Rattle.mm_net.specs.{declared.link.Link.Link, Marks.has_end, Links.{IsLink, ends, AreLinks}}
use Rattle.mm_net.proofs.{Parts.{true_false, same_byte}, LinkWords.ends_both}

abbrev Apart : List (ℕ × ℕ) → Type 0
Apart es = AllPairs (λ x y. x ≡ y → ⊥) es

abbrev pub pair : ℕ → ℕ → ℕ × ℕ
pair n a = (n, a)

pair_same : (n a m b : ℕ) → n ≡ m → a ≡ b → pair n a ≡ pair m b
pair_same n a m b e f = ap (λ (k : ℕ). pair k a) e ∙ ap (λ (k : ℕ). pair m k) f

both_true : (n a : ℕ) → (n == n && a == a) ≡ true
both_true n a = rw (same_byte n, same_byte a) refl

test_false : (n a m b : ℕ) → (n == m && a == b) ≡ false → pair n a ≡ pair m b → ⊥
test_false n a m b h e = let there : (n == m && a == b) ≡ true = subst (λ (p : ℕ × ℕ). (n == p.0 && a == p.1) ≡ true) e (both_true n a) in true_false there h

test_true : (n a m b : ℕ) → (n == m && a == b) ≡ true → pair n a ≡ pair m b
test_true n a m b h = let e : n ≡ m = grind (arith, nat_tests) in let f : a ≡ b = grind (arith, nat_tests) in pair_same n a m b e f

-- a negated test says what holds where the test fails
pub says_not : (b : Bool) (P : Type 0) → (b ≡ false → P) → (b ≡ true → P → ⊥) → (not b ≡ true → P) × (P → not b ≡ true)
says_not true P holds fails = (λ h. absurd (cc), λ p. absurd (fails refl p))
says_not false P holds fails = (λ h. holds refl, λ p. refl)

pub never : (P : Type 0) → (P → ⊥) → (false ≡ true → P) × (P → false ≡ true)
never P fails = (λ h. absurd (cc), λ p. absurd (fails p))

-- an end that no link has is none of the ends

lacks_link : (l : Link) (links : List Link) (n a : ℕ) → list_any (has_end n a) (l ∷ links) ≡ false
    → ((pair l.from l.take ≡ pair n a) → ⊥) × ((pair l.to l.put ≡ pair n a) → ⊥) × (list_any (has_end n a) links ≡ false)
lacks_link l links n a h =
    let f = or_parts (has_end n a l) (list_any (has_end n a) links) h in
    let g = or_parts (l.from == n && l.take == a) (l.to == n && l.put == a) f.0 in
    (test_false l.from l.take n a g.0, test_false l.to l.put n a g.1, f.1)

none_at : (links : List Link) (n a : ℕ) → list_any (has_end n a) links ≡ false → (k : ℕ) (d : ℕ × ℕ) → k < length (ends links) → get_or (ends links) k d ≡ pair n a → ⊥
none_at [] n a h k d lt e = omega arith
none_at (l ∷ links) n a h zero d lt e = (lacks_link l links n a h).0 e
none_at (l ∷ links) n a h (suc zero) d lt e = (lacks_link l links n a h).1 e
none_at (l ∷ links) n a h (suc (suc k)) d lt e = none_at links n a (lacks_link l links n a h).2 k d (omega arith) e

-- an end that a link has is one of the ends

record StandsAt (es : List (ℕ × ℕ)) (e : ℕ × ℕ) : Type 0 where
  at : ℕ
  inside : at < length es
  same : (d : ℕ × ℕ) → get_or es at d ≡ e

some_at : (links : List Link) (n a : ℕ) → list_any (has_end n a) links ≡ true → StandsAt (ends links) (pair n a)
some_at [] n a h = absurd (cc)
some_at (l ∷ links) n a h = elim (or_cases (has_end n a l) (list_any (has_end n a) links) h) [
  | inl here ↦ elim (or_cases (l.from == n && l.take == a) (l.to == n && l.put == a) here) [
    | inl takes ↦ record { at = 0; inside = omega arith; same = λ d. test_true l.from l.take n a takes }
    | inr puts ↦ record { at = 1; inside = omega arith; same = λ d. test_true l.to l.put n a puts }
  ]
  | inr rest ↦ let f = some_at links n a rest in record { at = suc (suc f.at); inside = omega (arith, f.inside); same = f.same }
]

-- the ends with one link more

ends_more : (links : List Link) (l : Link) → ends (links ++ l ∷ []) ≡ (ends links ++ pair l.from l.take ∷ []) ++ pair l.to l.put ∷ []
ends_more links l = ends_both links (l ∷ []) ∙ sym (append_assoc (ends links) (pair l.from l.take ∷ []) (pair l.to l.put ∷ []))

apart_more : (es : List (ℕ × ℕ)) (x y : ℕ × ℕ) → Apart es → ((k : ℕ) (d : ℕ × ℕ) → k < length es → get_or es k d ≡ x → ⊥) → ((k : ℕ) (d : ℕ × ℕ) → k < length es → get_or es k d ≡ y → ⊥)
    → (x ≡ y → ⊥) → Apart ((es ++ x ∷ []) ++ y ∷ [])
apart_more es x y apart no_x no_y differ =
    all_pairs_push (λ a b. a ≡ b → ⊥) (es ++ x ∷ []) y (all_pairs_push (λ a b. a ≡ b → ⊥) es x apart no_x)
    (λ k d lt e. elim (below_or k (length es) (omega (arith, length-append es (x ∷ [])))) [
      | inl low ↦ no_y k d low (sym (get_or-append es (x ∷ []) d k low) ∙ e)
      | inr same ↦ differ (sym (get_or-append_seam es x [] d) ∙ ap (λ (i : ℕ). get_or (es ++ x ∷ []) i d) same ∙ e)
    ])

pub one_more : (links : List Link) (l : Link) → AreLinks links → IsLink l → length links < 64 → (pair l.from l.take ≡ pair l.to l.put → ⊥)
    → list_any (has_end l.from l.take) links ≡ false → list_any (has_end l.to l.put) links ≡ false → AreLinks (links ++ l ∷ [])
one_more links l are range few differ takes puts = record {
  limit = omega (arith, length-append links (l ∷ []));
  each = All-push IsLink links l are.each range;
  once = subst Apart (sym (ends_more links l)) (apart_more (ends links) (pair l.from l.take) (pair l.to l.put) are.once (none_at links l.from l.take takes) (none_at links l.to l.put puts) differ);
}

-- why links do not keep their rules with one more

apart_of : (links : List Link) (l : Link) → AreLinks (links ++ l ∷ []) → Apart (ends links ++ pair l.from l.take ∷ pair l.to l.put ∷ [])
apart_of links l are = subst Apart (ends_both links (l ∷ [])) are.once

at_take : (es : List (ℕ × ℕ)) (x y d : ℕ × ℕ) → get_or (es ++ x ∷ y ∷ []) (length es) d ≡ x
at_take es x y d = get_or-append_seam es x (y ∷ []) d

at_put : (es : List (ℕ × ℕ)) (x y d : ℕ × ℕ) → get_or (es ++ x ∷ y ∷ []) (length es + 1) d ≡ y
at_put es x y d = get_or-append-add es (x ∷ y ∷ []) 1 d

pub own_end : (links : List Link) (l : Link) → pair l.from l.take ≡ pair l.to l.put → AreLinks (links ++ l ∷ []) → ⊥
own_end links l same are =
    let x : ℕ × ℕ = pair l.from l.take in
    let y : ℕ × ℕ = pair l.to l.put in
    apart_of links l are (length (ends links)) (length (ends links) + 1) x (omega arith) (omega (arith, length-append (ends links) (x ∷ y ∷ [])))
    (at_take (ends links) x y x ∙ same ∙ sym (at_put (ends links) x y x))

pub taken : (links : List Link) (l : Link) → list_any (has_end l.from l.take) links ≡ true → AreLinks (links ++ l ∷ []) → ⊥
taken links l there are =
    let x : ℕ × ℕ = pair l.from l.take in
    let y : ℕ × ℕ = pair l.to l.put in
    let f = some_at links l.from l.take there in
    apart_of links l are f.at (length (ends links)) x f.inside (omega (arith, length-append (ends links) (x ∷ y ∷ [])))
    (get_or-append (ends links) (x ∷ y ∷ []) x f.at f.inside ∙ f.same x ∙ sym (at_take (ends links) x y x))

pub put_there : (links : List Link) (l : Link) → list_any (has_end l.to l.put) links ≡ true → AreLinks (links ++ l ∷ []) → ⊥
put_there links l there are =
    let x : ℕ × ℕ = pair l.from l.take in
    let y : ℕ × ℕ = pair l.to l.put in
    let f = some_at links l.to l.put there in
    apart_of links l are f.at (length (ends links) + 1) x (omega (arith, f.inside)) (omega (arith, length-append (ends links) (x ∷ y ∷ [])))
    (get_or-append (ends links) (x ∷ y ∷ []) x f.at f.inside ∙ f.same x ∙ sym (at_put (ends links) x y x))

pub same_ends : (l : Link) → l.from ≡ l.to → l.take ≡ l.put → pair l.from l.take ≡ pair l.to l.put
same_ends l e f = pair_same l.from l.take l.to l.put e f

pub ends_same : (l : Link) → pair l.from l.take ≡ pair l.to l.put → (l.from ≡ l.to) × (l.take ≡ l.put)
ends_same l e = (ap (λ (p : ℕ × ℕ). p.0) e, ap (λ (p : ℕ × ℕ). p.1) e)
