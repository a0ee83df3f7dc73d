-- Outcomes that are the same, and the first end of each outcome.
use Rattle.std.proofs.Common.{◌≡◌, ◌⊎◌, inl, inr, ℕ, zero, suc, ◌+◌, Bool, true, false, ◌&&◌, ◌||◌, ◌==◌, if◌then◌else◌, nat_eq}
use Rattle.std.proofs.Common.{List, [], ◌∷◌, ◌++◌, refl, sym, ap, ◌∙◌, subst, eqb-true, eq-eqb, arith}
use Rattle.std.proofs.lemmas.Bool.{cases_Bool, both_ways, and_parts, or_cases, or_right}
use Rattle.std.specs.{Prelude.Contains, List.list_any}
use lib.Pointwise.{pointwise, pointwise_decides}
use Rattle.mm_explore.specs.declared.explored.Ending.{Ending, TheVariants.{Ended, Stuck, Endless}}
use Rattle.mm_explore.specs.declared.explored.Standing.{Standing, TheVariants.{Busy, In}}
use Rattle.mm_explore.specs.Outcomes.{Outcome, End, ending_number, standing_number, same_outcome, firsts_after, firsts}
use Rattle.mm_config.specs.StateNumbers.{state_number}
use Rattle.mm_config.{specs.Forms.state_at, proofs.SlotForms.state_back}
use Rattle.mm_span.proofs.Members.{none_in, in_first, in_rest, in_cases}

-- 1. Outcomes that are tested to be the same are the same.

abbrev ending_at : ℕ → Ending
ending_at zero = Ended
ending_at (suc zero) = Stuck
ending_at (suc (suc n)) = Endless

pub ending_back : (e : Ending) → ending_at (ending_number e) ≡ e
ending_back Ended = refl
ending_back Stuck = refl
ending_back Endless = refl

abbrev pub standing_at : ℕ → Standing
standing_at zero = Busy
standing_at (suc n) = In (state_at n)

pub standing_back : (x : Standing) → standing_at (standing_number x) ≡ x
standing_back Busy = refl
standing_back (In s) =
    let n = state_number s in
    ap standing_at (let e : 1 + n ≡ suc n = omega arith in e) ∙ ap (λ z. let x : Standing = In z in x) (state_back s)

pub endings_tell : (a b : Ending) → ending_number a ≡ ending_number b → a ≡ b
endings_tell a b e = sym (ending_back a) ∙ ap ending_at e ∙ ending_back b

pub standings_tell : (a b : Standing) → standing_number a ≡ standing_number b → a ≡ b
standings_tell a b e = sym (standing_back a) ∙ ap standing_at e ∙ standing_back b

abbrev same_standing : Standing → Standing → Bool
same_standing x y = standing_number x == standing_number y

standings_decide : (a b : Standing) → (same_standing a b ≡ true → a ≡ b) × (a ≡ b → same_standing a b ≡ true)
standings_decide a b = (
  λ e. standings_tell a b (eqb-true (standing_number a) (standing_number b) e),
  λ e. eq-eqb (standing_number a) (standing_number b) (ap standing_number e),
)

pub numbers_decide : (a b : ℕ) → (nat_eq a b ≡ true → a ≡ b) × (a ≡ b → nat_eq a b ≡ true)
numbers_decide a b = (eqb-true a b, eq-eqb a b)

outcomes_same : (a b : Outcome) → same_outcome a b ≡ true → a ≡ b
outcomes_same a b e =
    let slots : Bool = pointwise same_standing a.slots b.slots in
    let outputs : Bool = pointwise (pointwise nat_eq) a.outputs b.outputs in
    let one = and_parts (ending_number a.ending == ending_number b.ending) (slots && outputs) e in
    let two = and_parts slots outputs one.1 in
    let ending = endings_tell a.ending b.ending (eqb-true (ending_number a.ending) (ending_number b.ending) one.0) in
    let same_slots = (pointwise_decides standings_decide a.slots b.slots).0 two.0 in
    let same_outputs = (pointwise_decides (pointwise_decides numbers_decide) a.outputs b.outputs).0 two.1 in
    λ i. record { ending = ending i; slots = same_slots i; outputs = same_outputs i }

all_three : (a b c : Bool) → a ≡ true → b ≡ true → c ≡ true → (a && (b && c)) ≡ true
all_three true true c e f g = g
all_three true false c e f g = cc
all_three false b c e f g = cc

outcome_self : (a : Outcome) → same_outcome a a ≡ true
outcome_self a =
    all_three (ending_number a.ending == ending_number a.ending) (pointwise same_standing a.slots a.slots) (pointwise (pointwise nat_eq) a.outputs a.outputs)
    (eq-eqb (ending_number a.ending) (ending_number a.ending) refl) ((pointwise_decides standings_decide a.slots a.slots).1 refl)
    ((pointwise_decides (pointwise_decides numbers_decide) a.outputs a.outputs).1 refl)

pub outcomes_decide : (a b : Outcome) → (same_outcome a b ≡ true → a ≡ b) × (a ≡ b → same_outcome a b ≡ true)
outcomes_decide a b = (outcomes_same a b, λ e. subst (λ x. same_outcome a x ≡ true) e (outcome_self a))

-- 2. The first end of each outcome.

abbrev seen_in : List Outcome → End → Bool
seen_in seen e = list_any (same_outcome e.outcome) seen

first_new : (seen : List Outcome) (e : End) (es : List End) → seen_in seen e ≡ false → firsts_after seen (e ∷ es) ≡ e ∷ firsts_after (e.outcome ∷ seen) es
first_new seen e es new = ap (λ b. if b then firsts_after seen es else e ∷ firsts_after (e.outcome ∷ seen) es) new

first_old : (seen : List Outcome) (e : End) (es : List End) → seen_in seen e ≡ true → firsts_after seen (e ∷ es) ≡ firsts_after seen es
first_old seen e es old = ap (λ b. if b then firsts_after seen es else e ∷ firsts_after (e.outcome ∷ seen) es) old

-- one of the first has this outcome
pub record HasFirst (es : List End) (o : Outcome) : Type 0 where
  pub one : End
  pub inside : Contains es one
  pub same : o ≡ one.outcome

has_first : (seen : List Outcome) (es : List End) (e : End) → Contains es e → (seen_in seen e ≡ true) ⊎ HasFirst (firsts_after seen es) e.outcome
has_first seen [] e inside = absurd (none_in e inside)
has_first seen (x ∷ es) e inside = elim (cases_Bool (seen_in seen x)) [
  | inl old ↦ elim (in_cases x es e inside) [
    | inl same ↦ inl (ap (seen_in seen) (sym same) ∙ old)
    | inr later ↦ elim (has_first seen es e later) [
      | inl was ↦ inl was
      | inr h ↦ inr (record { one = h.one; inside = subst (λ l. Contains l h.one) (sym (first_old seen x es old)) h.inside; same = h.same })
    ]
  ]
  | inr new ↦ elim (in_cases x es e inside) [
    | inl same ↦ inr (record {
      one = x;
      inside = subst (λ l. Contains l x) (sym (first_new seen x es new)) (in_first x (firsts_after (x.outcome ∷ seen) es));
      same = ap (λ (z : End). z.outcome) (sym same);
    })
    | inr later ↦ elim (has_first (x.outcome ∷ seen) es e later) [
      | inl was ↦ elim (or_cases (same_outcome e.outcome x.outcome) (seen_in seen e) was) [
        | inl agrees ↦ inr (record {
          one = x;
          inside = subst (λ l. Contains l x) (sym (first_new seen x es new)) (in_first x (firsts_after (x.outcome ∷ seen) es));
          same = outcomes_same e.outcome x.outcome agrees;
        })
        | inr before ↦ inl before
      ]
      | inr h ↦ inr (record {
        one = h.one;
        inside = subst (λ l. Contains l h.one) (sym (first_new seen x es new)) (in_rest x (firsts_after (x.outcome ∷ seen) es) h.one h.inside);
        same = h.same;
      })
    ]
  ]
]

pub first_of : (es : List End) (e : End) → Contains es e → HasFirst (firsts es) e.outcome
unfolding firsts
first_of es e inside = elim (has_first [] es e inside) [
  | inl never ↦ cc
  | inr h ↦ h
]

first_inside : (seen : List Outcome) (es : List End) (e : End) → Contains (firsts_after seen es) e → Contains es e
first_inside seen [] e inside = absurd (none_in e inside)
first_inside seen (x ∷ es) e inside = elim (cases_Bool (seen_in seen x)) [
  | inl old ↦ in_rest x es e (first_inside seen es e (subst (λ l. Contains l e) (first_old seen x es old) inside))
  | inr new ↦ elim (in_cases x (firsts_after (x.outcome ∷ seen) es) e (subst (λ l. Contains l e) (first_new seen x es new) inside)) [
    | inl same ↦ subst (Contains (x ∷ es)) same (in_first x es)
    | inr later ↦ in_rest x es e (first_inside (x.outcome ∷ seen) es e later)
  ]
]

pub firsts_inside : (es : List End) (e : End) → Contains (firsts es) e → Contains es e
unfolding firsts
firsts_inside es e inside = first_inside [] es e inside

-- what is first of its outcome has an outcome that was not seen
first_unseen : (seen : List Outcome) (es : List End) (e : End) → Contains (firsts_after seen es) e → seen_in seen e ≡ true → ⊥
first_unseen seen [] e inside was = none_in e inside
first_unseen seen (x ∷ es) e inside was = elim (cases_Bool (seen_in seen x)) [
  | inl old ↦ first_unseen seen es e (subst (λ l. Contains l e) (first_old seen x es old) inside) was
  | inr new ↦ elim (in_cases x (firsts_after (x.outcome ∷ seen) es) e (subst (λ l. Contains l e) (first_new seen x es new) inside)) [
    | inl same ↦ absurd (both_ways (seen_in seen e) (ap (seen_in seen) (sym same) ∙ new) was)
    | inr later ↦ first_unseen (x.outcome ∷ seen) es e later (or_right (same_outcome e.outcome x.outcome) (seen_in seen e) was)
  ]
]

-- no two of the first have one outcome: one that has that of a first is it, or stands after it
pub data Stands (es : List End) (e other : End) : Type 0 where
  same : other ≡ e → Stands es e other
  after : (front back : List End) → es ≡ front ++ e ∷ back → Contains back other → Stands es e other

stands_later : (x : End) (es : List End) (e other : End) → Stands es e other → Stands (x ∷ es) e other
stands_later x es e other (Stands.same h) = Stands.same h
stands_later x es e other (Stands.after front back h there) = Stands.after (x ∷ front) back (ap (λ l. x ∷ l) h) there

stand : (seen : List Outcome) (es : List End) (e other : End) → Contains (firsts_after seen es) e → Contains es other → other.outcome ≡ e.outcome → Stands es e other
stand seen [] e other inside there agrees = absurd (none_in other there)
stand seen (x ∷ es) e other inside there agrees = elim (cases_Bool (seen_in seen x)) [
  | inl old ↦
      let first = subst (λ l. Contains l e) (first_old seen x es old) inside in
      elim (in_cases x es other there) [
        | inl this ↦ absurd (first_unseen seen es e first (ap (λ o. list_any (same_outcome o) seen) (sym agrees ∙ ap (λ (z : End). z.outcome) (sym this)) ∙ old))
        | inr later ↦ stands_later x es e other (stand seen es e other first later agrees)
      ]
  | inr new ↦ elim (in_cases x (firsts_after (x.outcome ∷ seen) es) e (subst (λ l. Contains l e) (first_new seen x es new) inside)) [
    | inl is ↦ elim (in_cases x es other there) [
      | inl this ↦ Stands.same (sym this ∙ is)
      | inr later ↦ Stands.after [] es (ap (λ z. z ∷ es) is) later
    ]
    | inr first ↦ elim (in_cases x es other there) [
      | inl this ↦ absurd (first_unseen (x.outcome ∷ seen) es e first (ap (λ b. b || seen_in seen e)
          ((outcomes_decide e.outcome x.outcome).1 (sym agrees ∙ ap (λ (z : End). z.outcome) (sym this)))))
      | inr later ↦ stands_later x es e other (stand (x.outcome ∷ seen) es e other first later agrees)
    ]
  ]
]

-- an end that has the outcome of a first one is that, or stands after it
pub first_stands : (es : List End) (e other : End) → Contains (firsts es) e → Contains es other → other.outcome ≡ e.outcome → Stands es e other
unfolding firsts
first_stands es e other inside there agrees = stand [] es e other inside there agrees
