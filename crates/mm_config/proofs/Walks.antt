-- A list of names on its way to another, change by change.
use Rattle.std.proofs.Common.{◌≡◌, ◌≢◌, ◌⊎◌, inl, inr, ℕ, zero, suc, ◌+◌, ◌<◌, Bool, true, false, nat_eq, if◌then◌else◌, List, [], ◌∷◌, length, slice_get, slice_index_or, slice_set, Some}
use Rattle.std.proofs.Common.{refl, sym, ap, ◌∙◌, arith, eqb-true, eq-eqb}
use Rattle.std.proofs.lemmas.{Bool.{cases_eq, cases_lt}, List.{get_or-set_same, get_or-set_other, get_or_past, length-set}}
use Rattle.mm_pairs.specs.Trees.{changed}
use Rattle.mm_config.specs.Putting.{IsOnWay}

-- 1. What is among the changes.

pub record IsChange (at : ℕ) (was names : List ℕ) (e : ℕ × ℕ) : Type 0 where
  pub place : ℕ
  pub within : place < length names
  pub differs : slice_index_or was place 0 ≢ slice_index_or names place 0
  pub is : e ≡ (at + place, slice_index_or names place 0)

later : (at : ℕ) (was names : List ℕ) (w n : ℕ) (e : ℕ × ℕ) → IsChange (at + 1) was names e → IsChange at (w ∷ was) (n ∷ names) e
later at was names w n e h =
    let low = h.within in
    let next : at + 1 + h.place ≡ at + suc h.place = omega arith in
    record { place = suc h.place; within = omega (arith, low); differs = h.differs; is = h.is ∙ ap (λ p. (p, slice_index_or names h.place 0)) next }

pub change_is : (at : ℕ) (was names : List ℕ) → length was ≡ length names → (j : ℕ) (e : ℕ × ℕ) → slice_get (changed at was names) j ≡ Some e → IsChange at was names e
change_is at [] [] long j e got = cc
change_is at [] (n ∷ names) long j e got = absurd (omega (arith, long))
change_is at (w ∷ was) [] long j e got = absurd (omega (arith, long))
change_is at (w ∷ was) (n ∷ names) long j e got =
    by (nat_eq w n) refl j (λ i g. later at was names w n e (change_is (at + 1) was names (omega (arith, long)) i e g)) got
  where
    here : nat_eq w n ≡ false → (let p : ℕ × ℕ = (at, n) in p) ≡ e → IsChange at (w ∷ was) (n ∷ names) e
    here ne same =
        let first : at ≡ at + 0 = omega arith in
        let other : w ≢ n = λ equal. let own = eq-eqb w n equal in cc in
        record { place = zero; within = omega arith; differs = other; is = sym same ∙ ap (λ p. (p, n)) first }

    by : (b : Bool) → nat_eq w n ≡ b → (i : ℕ) → ((l : ℕ) → slice_get (changed (at + 1) was names) l ≡ Some e → IsChange at (w ∷ was) (n ∷ names) e)
        → slice_get (if b then changed (at + 1) was names else (at, n) ∷ changed (at + 1) was names) i ≡ Some e → IsChange at (w ∷ was) (n ∷ names) e
    by true is i rest g = rest i g
    by false is zero rest g = here is cc
    by false is (suc i) rest g = rest i g

-- each place is changed once
pub change_once : (at : ℕ) (was names : List ℕ) → length was ≡ length names → (i j : ℕ) (e f : ℕ × ℕ) → slice_get (changed at was names) i ≡ Some e
    → slice_get (changed at was names) j ≡ Some f → e.0 ≡ f.0 → i ≡ j
change_once at [] names long i j e f p q same = cc
change_once at (w ∷ was) [] long i j e f p q same = absurd (omega (arith, long))
change_once at (w ∷ was) (n ∷ names) long i j e f p q same =
    by (nat_eq w n) i j p q (λ k l g h. change_once (at + 1) was names (omega (arith, long)) k l e f g h same)
  where
    above : (k : ℕ) (g : ℕ × ℕ) → slice_get (changed (at + 1) was names) k ≡ Some g → at < g.0
    above k g got =
        let c = change_is (at + 1) was names (omega (arith, long)) k g got in
        let is = ap (λ (p : ℕ × ℕ). p.0) c.is in
        omega (arith, is)

    by : (b : Bool) (k l : ℕ) → slice_get (if b then changed (at + 1) was names else (at, n) ∷ changed (at + 1) was names) k ≡ Some e
        → slice_get (if b then changed (at + 1) was names else (at, n) ∷ changed (at + 1) was names) l ≡ Some f
        → ((k l : ℕ) → slice_get (changed (at + 1) was names) k ≡ Some e → slice_get (changed (at + 1) was names) l ≡ Some f → k ≡ l) → k ≡ l
    by true k l p q rest = rest k l p q
    by false zero zero p q rest = refl
    by false zero (suc l) p q rest =
        let first : (let x : ℕ × ℕ = (at, n) in x) ≡ e = cc in
        let low = ap (λ (x : ℕ × ℕ). x.0) first in let high = above l f q in absurd (omega (arith, low, high, same))
    by false (suc k) zero p q rest =
        let first : (let x : ℕ × ℕ = (at, n) in x) ≡ f = cc in
        let low = ap (λ (x : ℕ × ℕ). x.0) first in let high = above k e p in absurd (omega (arith, low, high, same))
    by false (suc k) (suc l) p q rest = ap suc (rest k l p q)

pub change_at : (at : ℕ) (was names : List ℕ) → length was ≡ length names → (place : ℕ) → place < length names
    → slice_index_or was place 0 ≢ slice_index_or names place 0 → (j : ℕ) × (slice_get (changed at was names) j ≡ Some (at + place, slice_index_or names place 0))
change_at at was [] long place lt other = absurd (omega (arith, lt))
change_at at [] (n ∷ names) long place lt other = absurd (omega (arith, long))
change_at at (w ∷ was) (n ∷ names) long zero lt other = by (nat_eq w n) refl
  where
    by : (b : Bool) → nat_eq w n ≡ b → (j : ℕ) × (slice_get (if b then changed (at + 1) was names else (at, n) ∷ changed (at + 1) was names) j ≡ Some (at + 0, n))
    by true e = absurd (other (eqb-true w n e))
    by false e = let first : at ≡ at + 0 = omega arith in (zero, ap (λ p. Some (p, n)) first)
change_at at (w ∷ was) (n ∷ names) long (suc place) lt other =
    by (nat_eq w n) (change_at (at + 1) was names (omega (arith, long)) place (omega (arith, lt)) other)
  where
    next : at + 1 + place ≡ at + suc place
    next = omega arith

    by : (b : Bool) → (j : ℕ) × (slice_get (changed (at + 1) was names) j ≡ Some (at + 1 + place, slice_index_or names place 0))
        → (j : ℕ) × (slice_get (if b then changed (at + 1) was names else (at, n) ∷ changed (at + 1) was names) j ≡ Some (at + suc place, slice_index_or names place 0))
    by true r = (r.0, r.1 ∙ ap (λ p. Some (p, slice_index_or names place 0)) next)
    by false r = (suc r.0, r.1 ∙ ap (λ p. Some (p, slice_index_or names place 0)) next)

-- 2. On the way.

pub up_to : (j n : ℕ) → j < n + 1 → (j < n) ⊎ (j ≡ n)
up_to j n lt = elim (cases_eq j n) [
  | inl same ↦ inr same
  | inr other ↦ inl (omega (arith, lt, other))
]

pub begins : (was names : List ℕ) (D : ℕ → ℕ → Type 0) → ((j x : ℕ) → D j x → ⊥) → IsOnWay was names D was
begins was names D none = record { long = refl; either = λ p. inl refl; done = λ j e got d. absurd (none j e.1 d); rest = λ j e got d. refl }

module _ (was names : List ℕ) (long : length was ≡ length names) (D E : ℕ → ℕ → Type 0) (now : List ℕ) (way : IsOnWay was names D now) where
  -- the same changes are made
  pub same_way : ((j : ℕ) (e : ℕ × ℕ) → slice_get (changed 0 was names) j ≡ Some e → (E j e.1 → D j e.1) × (D j e.1 → E j e.1)) → IsOnWay was names E now
  same_way alike = record {
    long = way.long;
    either = way.either;
    done = λ j e got d. way.done j e got ((alike j e got).0 d);
    rest = λ j e got d. way.rest j e got (λ done. d ((alike j e got).1 done));
  }

  -- one change more is made
  pub made : (n : ℕ) (e : ℕ × ℕ) → slice_get (changed 0 was names) n ≡ Some e
      → ((j : ℕ) (f : ℕ × ℕ) → slice_get (changed 0 was names) j ≡ Some f → (E j f.1 → D j f.1 ⊎ (j ≡ n)) × (D j f.1 ⊎ (j ≡ n) → E j f.1)) → IsOnWay was names E (slice_set now e.0 e.1)
  made n e got with_it = record {
    long = length-set now e.0 e.1 ∙ way.long;
    either = λ p. elim (cases_eq p e.0) [
      | inl same ↦ inr (ap (λ i. slice_index_or (slice_set now e.0 e.1) i 0) same ∙ here ∙ new ∙ ap (λ i. slice_index_or names i 0) (sym same))
      | inr other ↦ elim (way.either p) [
        | inl old ↦ inl (get_or-set_other now e.0 p e.1 0 other ∙ old)
        | inr new ↦ inr (get_or-set_other now e.0 p e.1 0 other ∙ new)
      ]
    ];
    done = λ j f g d. elim (cases_eq f.0 e.0) [
      | inl same ↦
          let one = change_once 0 was names long j n f e g got same in
          let two : slice_get (changed 0 was names) n ≡ Some f = ap (slice_get (changed 0 was names)) (sym one) ∙ g in
          let alike : e ≡ f = cc in
          ap (λ i. slice_index_or (slice_set now e.0 e.1) i 0) same ∙ here ∙ ap (λ (p : ℕ × ℕ). p.1) alike
      | inr other ↦ get_or-set_other now e.0 f.0 e.1 0 other ∙ way.done j f g (elim ((with_it j f g).0 d) [
        | inl before ↦ before
        | inr last ↦
            let two : slice_get (changed 0 was names) n ≡ Some f = ap (slice_get (changed 0 was names)) (sym last) ∙ g in
            let alike : e ≡ f = cc in absurd (other (ap (λ (p : ℕ × ℕ). p.0) (sym alike)))
      ])
    ];
    rest = λ j f g d.
        get_or-set_other now e.0 f.0 e.1 0 (λ same. d ((with_it j f g).1 (inr (change_once 0 was names long j n f e g got same))))
        ∙ way.rest j f g (λ before. d ((with_it j f g).1 (inl before)));
  }
    where
      change : IsChange 0 was names e
      change = change_is 0 was names long n e got

      at_place : e.0 ≡ change.place
      at_place = ap (λ (p : ℕ × ℕ). p.0) change.is ∙ (let none : 0 + change.place ≡ change.place = omega arith in none)

      here : slice_index_or (slice_set now e.0 e.1) e.0 0 ≡ e.1
      here = let p = at_place in let low = change.within in let l = way.long in get_or-set_same now e.0 e.1 0 (omega (arith, p, low, l, long))

      new : e.1 ≡ slice_index_or names e.0 0
      new = ap (λ (p : ℕ × ℕ). p.1) change.is ∙ ap (λ i. slice_index_or names i 0) (sym at_place)

-- where all changes are made, all names are new
pub arrived : (was names : List ℕ) (D : ℕ → ℕ → Type 0) (now : List ℕ) → length was ≡ length names → IsOnWay was names D now
    → ((j : ℕ) (e : ℕ × ℕ) → slice_get (changed 0 was names) j ≡ Some e → D j e.1) → (p : ℕ) → slice_index_or now p 0 ≡ slice_index_or names p 0
arrived was names D now long way all p = elim (cases_lt p (length names)) [
  | inl low ↦ elim (cases_eq (slice_index_or was p 0) (slice_index_or names p 0)) [
    | inl same ↦ elim (way.either p) [ inl old ↦ old ∙ same | inr new ↦ new ]
    | inr other ↦
        let c = change_at 0 was names long p low other in
        let none : 0 + p ≡ p = omega arith in
        ap (λ i. slice_index_or now i 0) (sym none) ∙ way.done c.0 (0 + p, slice_index_or names p 0) c.1 (all c.0 (0 + p, slice_index_or names p 0) c.1)
  ]
  | inr high ↦ let l = way.long in get_or_past now p 0 (omega (arith, l, long, high)) ∙ sym (get_or_past names p 0 high)
]
