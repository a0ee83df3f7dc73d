-- One end more is counted with those of its outcome.
use Rattle.std.proofs.Common.{◌≡◌, inl, inr, ℕ, suc, ◌+◌, ◌^◌, ◌<◌, ◌≤◌, Bool, true, false, cond, if◌then◌else◌, ◌||◌}
use Rattle.std.proofs.Common.{nat_eq, List, [], ◌∷◌, ◌++◌, map, length, Some, None, refl, sym, ap, ◌∙◌, subst, arith}
use Rattle.std.proofs.Common.{append-nil}
use Rattle.std.proofs.lemmas.{Bool.{cases_Bool, both_ways, or_parts}, List.Sums.{count_by-le-length, sum_by-append}}
use Rattle.std.proofs.lemmas.Map.Keys.{IsDistinct-head, IsDistinct-tail}
use Rattle.std.specs.Prelude.{slice_get}
use Rattle.std.specs.List.{AllByRecursion, AllZip, list_any, count_by, sum_by, flat_map, IsDistinct}
use Rattle.std.specs.Map.{lookup, keys_of}
use Rattle.indexmap.specs.IndexMap.{insert_entry}
use lib.Pointwise.{pointwise, pointwise_decides}
use Rattle.mm_model.specs.{Image.{Image, start}, Report.groups_of}
use Rattle.mm_explore.specs.declared.{explored.{Standing.Standing}, ends.Tally.Tally}
use Rattle.mm_explore.specs.Outcomes.{Outcome, End, ending_number, standing_number, same_outcome, firsts_after, firsts}
use Rattle.mm_explore.specs.{Explored.leads_to, Noting.{bytes_form, outcome_form, outcome_held, IsKeptEnd, tally_after}}
use Rattle.mm_explore.proofs.Finals.{outcomes_decide, numbers_decide, endings_tell, standing_at, standing_back}
use Rattle.mm_explore.specs.declared.ends.End as code_end

-- 1. Outcomes are told apart by their numbers.

record Parted {A : Type 0} (cs ds xs ys : List A) : Type 0 where
  fronts : cs ≡ ds
  rests : xs ≡ ys

parted : {A : Type 0} (cs ds xs ys : List A) → length cs ≡ length ds → cs ++ xs ≡ ds ++ ys → Parted cs ds xs ys
parted [] [] xs ys long e = record { fronts = refl; rests = e }
parted [] (b ∷ ds) xs ys long e = absurd (omega (arith, long))
parted (a ∷ cs) [] xs ys long e = absurd (omega (arith, long))
parted (a ∷ cs) (b ∷ ds) xs ys long e =
    let head : a ≡ b = cc in
    let tail : cs ++ xs ≡ ds ++ ys = cc in
    let rest = parted cs ds xs ys (omega (arith, long)) tail in
    record { fronts = λ j. head j ∷ rest.fronts j; rests = rest.rests }

standings_back : (xs : List Standing) → map standing_at (map standing_number xs) ≡ xs
standings_back [] = refl
standings_back (x ∷ xs) = λ j. standing_back x j ∷ standings_back xs j

length_standings : (xs : List Standing) → length (map standing_number xs) ≡ length xs
length_standings [] = refl
length_standings (x ∷ xs) = ap suc (length_standings xs)

bytes_tell : (cs ds : List (List ℕ)) → flat_map bytes_form cs ≡ flat_map bytes_form ds → cs ≡ ds
bytes_tell [] [] e = refl
bytes_tell [] (b ∷ ds) e = cc
bytes_tell (a ∷ cs) [] e = cc
bytes_tell (a ∷ cs) (b ∷ ds) e =
    let long : length a ≡ length b = cc in
    let rest : a ++ flat_map bytes_form cs ≡ b ++ flat_map bytes_form ds = cc in
    let two = parted a b (flat_map bytes_form cs) (flat_map bytes_form ds) long rest in
    let later = bytes_tell cs ds two.rests in
    λ j. two.fronts j ∷ later j

pub forms_tell : (a b : Outcome) → outcome_form a ≡ outcome_form b → a ≡ b
unfolding outcome_form
forms_tell a b e =
    let ending : ending_number a.ending ≡ ending_number b.ending = cc in
    let long : length a.slots ≡ length b.slots = cc in
    let rest : map standing_number a.slots ++ flat_map bytes_form a.outputs ≡ map standing_number b.slots ++ flat_map bytes_form b.outputs = cc in
    let two = parted (map standing_number a.slots) (map standing_number b.slots) (flat_map bytes_form a.outputs) (flat_map bytes_form b.outputs)
    (length_standings a.slots ∙ long ∙ sym (length_standings b.slots)) rest in
    let kind = endings_tell a.ending b.ending ending in
    let slots = sym (standings_back a.slots) ∙ ap (map standing_at) two.fronts ∙ standings_back b.slots in
    let outputs = bytes_tell a.outputs b.outputs two.rests in
    λ j. record { ending = kind j; slots = slots j; outputs = outputs j }

-- 2. The first ends of outcomes, with one more.

abbrev same : End → End → Bool
same t u = same_outcome t.outcome u.outcome

same_is : (t u : End) → same t u ≡ true → t.outcome ≡ u.outcome
same_is t u e = (outcomes_decide t.outcome u.outcome).0 e

is_same : (t u : End) → t.outcome ≡ u.outcome → same t u ≡ true
is_same t u e = (outcomes_decide t.outcome u.outcome).1 e

abbrev new_after : Bool → End → List End
new_after there t = if there then [] else t ∷ []

abbrev seen_as : End → List Outcome → Bool
seen_as t seen = list_any (same_outcome t.outcome) seen

regroup : (a b c : Bool) (t : End) → new_after ((a || b) || c) t ≡ new_after (b || (a || c)) t
regroup true true c t = refl
regroup true false c t = refl
regroup false true c t = refl
regroup false false c t = refl

firsts_more : (seen : List Outcome) (ts : List End) (t : End)
    → firsts_after seen (ts ++ t ∷ []) ≡ firsts_after seen ts ++ new_after (seen_as t seen || list_any (same t) (firsts_after seen ts)) t
firsts_more seen [] t = by (seen_as t seen)
  where
    by : (b : Bool) → (if b then [] else t ∷ []) ≡ new_after (b || false) t
    by true = refl
    by false = refl
firsts_more seen (u ∷ ts) t = by (firsts_more seen ts t) (firsts_more (u.outcome ∷ seen) ts t) (seen_as u seen)
  where
    by : firsts_after seen (ts ++ t ∷ []) ≡ firsts_after seen ts ++ new_after (seen_as t seen || list_any (same t) (firsts_after seen ts)) t
        → firsts_after (u.outcome ∷ seen) (ts ++ t ∷ []) ≡ firsts_after (u.outcome ∷ seen) ts
        ++ new_after ((same t u || seen_as t seen) || list_any (same t) (firsts_after (u.outcome ∷ seen) ts)) t
        → (b : Bool) → (if b then firsts_after seen (ts ++ t ∷ []) else u ∷ firsts_after (u.outcome ∷ seen) (ts ++ t ∷ []))
        ≡ (if b then firsts_after seen ts else u ∷ firsts_after (u.outcome ∷ seen) ts)
        ++ new_after (seen_as t seen || list_any (same t) (if b then firsts_after seen ts else u ∷ firsts_after (u.outcome ∷ seen) ts)) t
    by skip go true = skip
    by skip go false =
        ap (λ l. u ∷ l) go
        ∙ ap (λ l. u ∷ firsts_after (u.outcome ∷ seen) ts ++ l)
        (regroup (same t u) (seen_as t seen) (list_any (same t) (firsts_after (u.outcome ∷ seen) ts)) t)

-- a schedule is not the same as another of an outcome that was not seen
seen_differs : (t u : End) (seen : List Outcome) → seen_as u seen ≡ true → seen_as t seen ≡ false → same t u ≡ false
seen_differs t u seen there none = elim (cases_Bool (same t u)) [
  | inl agrees ↦ absurd (both_ways (seen_as t seen) none (ap (λ o. list_any (same_outcome o) seen) (same_is t u agrees) ∙ there))
  | inr differ ↦ differ
]

count_cons : (p : End → Bool) (u : End) (ts : List End) → count_by p (u ∷ ts) ≡ (if p u then 1 else 0) + count_by p ts
count_cons p u ts =
    let two = sum_by-append (λ x. cond (p x) 1 0) (u ∷ []) ts in
    let one : sum_by (λ x. cond (p x) 1 0) (u ∷ []) ≡ cond (p u) 1 0 = omega arith in
    omega (arith, two, one)

none_counted : (seen : List Outcome) (ts : List End) (t : End) → seen_as t seen ≡ false → list_any (same t) (firsts_after seen ts) ≡ false
    → count_by (same t) ts ≡ 0
none_counted seen [] t none absent = refl
none_counted seen (u ∷ ts) t none absent = by (none_counted seen ts t) (none_counted (u.outcome ∷ seen) ts t) (seen_as u seen) refl absent
  where
    by : (seen_as t seen ≡ false → list_any (same t) (firsts_after seen ts) ≡ false → count_by (same t) ts ≡ 0)
        → ((same t u || seen_as t seen) ≡ false → list_any (same t) (firsts_after (u.outcome ∷ seen) ts) ≡ false → count_by (same t) ts ≡ 0)
        → (b : Bool) → seen_as u seen ≡ b → list_any (same t) (if b then firsts_after seen ts else u ∷ firsts_after (u.outcome ∷ seen) ts) ≡ false
        → count_by (same t) (u ∷ ts) ≡ 0
    by skip go true there gone =
        count_cons (same t) u ts ∙ ap (λ (b : Bool). (if b then 1 else 0) + count_by (same t) ts) (seen_differs t u seen there none) ∙ ap (λ n. 0 + n) (skip none gone)
    by skip go false there gone =
        let two = or_parts (same t u) (list_any (same t) (firsts_after (u.outcome ∷ seen) ts)) gone in
        count_cons (same t) u ts ∙ ap (λ (b : Bool). (if b then 1 else 0) + count_by (same t) ts) two.0
        ∙ ap (λ n. 0 + n) (go (ap (λ b. b || seen_as t seen) two.0 ∙ none) two.1)

count_more : (p : End → Bool) (ts : List End) (t : End) → count_by p (ts ++ t ∷ []) ≡ count_by p ts + (if p t then 1 else 0)
count_more p ts t =
    let two = sum_by-append (λ x. cond (p x) 1 0) ts (t ∷ []) in
    let one : sum_by (λ x. cond (p x) 1 0) (t ∷ []) ≡ cond (p t) 1 0 = omega arith in
    omega (arith, two, one)

-- 3. The tallies, with one more.

module _ {K : Type 0} (of : K → List ℕ) (i : Image) (list : List (List ℕ)) where
  abbrev pub same_key : K → K → Bool
  same_key a b = pointwise nat_eq (of a) (of b)

  key_is : (a b : K) → same_key a b ≡ true → of a ≡ of b
  key_is a b e = (pointwise_decides numbers_decide (of a) (of b)).0 e

  is_key : (a b : K) → of a ≡ of b → same_key a b ≡ true
  is_key a b e = (pointwise_decides numbers_decide (of a) (of b)).1 e

  abbrev pub Counts : List End → End → K × Tally → Type 0
  Counts ends u entry = IsKeptEnd i list ends u (of entry.0) entry.1

  module _ (ends : List End) (t : End) (at : code_end.End) (first : slice_get list at.at ≡ Some t.schedule) (k : K) (form : of k ≡ outcome_form t.outcome)
      (held : outcome_held at (leads_to i t.schedule).core (groups_of (start i).core) ≡ t.outcome) where
    abbrev with_t : List End
    with_t = ends ++ t ∷ []

    other_outcome : (u : End) (entry : K × Tally) → Counts ends u entry → same_key k entry.0 ≡ false → same u t ≡ false
    other_outcome u entry h differ = elim (cases_Bool (same u t)) [
      | inl agrees ↦ absurd (both_ways (same_key k entry.0) differ (is_key k entry.0 (form ∙ ap outcome_form (sym (same_is u t agrees)) ∙ sym h.form)))
      | inr no_other ↦ no_other
    ]

    turned : (u : End) → same u t ≡ false → same t u ≡ false
    turned u differ = elim (cases_Bool (same t u)) [
      | inl agrees ↦ absurd (both_ways (same u t) differ (is_same u t (sym (same_is t u agrees))))
      | inr other ↦ other
    ]

    counts_other : (u : End) (entry : K × Tally) → Counts ends u entry → same_key k entry.0 ≡ false → Counts with_t u entry
    counts_other u entry h differ =
        let more = count_more (same u) ends t in
        let none : count_by (same u) with_t ≡ count_by (same u) ends + 0 = more ∙ ap (λ (b : Bool). count_by (same u) ends + (if b then 1 else 0)) (other_outcome u entry h differ) in
        let was = h.count in
        record { form = h.form; count = omega (arith, none, was); first = h.first; held = h.held }

    counts_same : (u : End) (entry : K × Tally) → Counts ends u entry → same u t ≡ true → Counts with_t u (entry.0, tally_after at (Some entry.1))
    counts_same u entry h agrees =
        let more = count_more (same u) ends t in
        let one : count_by (same u) with_t ≡ count_by (same u) ends + 1 = more ∙ ap (λ (b : Bool). count_by (same u) ends + (if b then 1 else 0)) agrees in
        let was = h.count in
        record { form = h.form; count = omega (arith, one, was); first = h.first; held = h.held }

    counts_first : count_by (same t) ends ≡ 0 → Counts with_t t (k, tally_after at None)
    counts_first none =
        let more = count_more (same t) ends t in
        let own : same t t ≡ true = is_same t t refl in
        let one : count_by (same t) with_t ≡ count_by (same t) ends + 1 = more ∙ ap (λ (b : Bool). count_by (same t) ends + (if b then 1 else 0)) own in
        record { form = form; count = omega (arith, one, none); first = first; held = held }

    others : (us : List End) (es : List (K × Tally)) → AllZip (Counts ends) us es → AllByRecursion (λ y. same_key k y ≡ false) (keys_of es) → AllZip (Counts with_t) us es
    others [] [] h differ = tt
    others [] (e ∷ es) h differ = h
    others (u ∷ us) [] h differ = h
    others (u ∷ us) (e ∷ es) h differ = (counts_other u e h.0 differ.0, others us es h.1 differ.1)

    same_as : (e : K) (ys : List K) → of k ≡ of e → AllByRecursion (λ y. same_key e y ≡ false) ys → AllByRecursion (λ y. same_key k y ≡ false) ys
    same_as e [] same h = tt
    same_as e (y ∷ ys) same h = (ap (λ l. pointwise nat_eq l (of y)) same ∙ h.0, same_as e ys same h.1)

    pub counted : (us : List End) (es : List (K × Tally)) → AllZip (Counts ends) us es → IsDistinct same_key (keys_of es)
        → (list_any (same t) us ≡ false → count_by (same t) ends ≡ 0)
        → AllZip (Counts with_t) (us ++ new_after (list_any (same t) us) t) (insert_entry same_key es k (tally_after at (lookup (same_key k) es)))
    counted [] [] h distinct none = (counts_first (none refl), tt)
    counted [] (e ∷ es) h distinct none = absurd h
    counted (u ∷ us) [] h distinct none = absurd h
    counted (u ∷ us) (e ∷ es) h distinct none = by (counted us es h.1 (IsDistinct-tail same_key e.0 (keys_of es) distinct)) (same_key k e.0) refl
      where
        by : ((list_any (same t) us ≡ false → count_by (same t) ends ≡ 0)
            → AllZip (Counts with_t) (us ++ new_after (list_any (same t) us) t) (insert_entry same_key es k (tally_after at (lookup (same_key k) es))))
            → (b : Bool) → same_key k e.0 ≡ b
            → AllZip (Counts with_t) (u ∷ us ++ new_after (same t u || list_any (same t) us) t)
            (if b then (e.0, tally_after at (cond b (Some e.1) (lookup (same_key k) es))) ∷ es
            else e ∷ insert_entry same_key es k (tally_after at (cond b (Some e.1) (lookup (same_key k) es))))
        by rest true is =
            let key = key_is k e.0 is in
            let one : t.outcome ≡ u.outcome = forms_tell t.outcome u.outcome (sym form ∙ key ∙ h.0.form) in
            let agrees : same t u ≡ true = is_same t u one in
            subst (λ b. AllZip (Counts with_t) (u ∷ us ++ new_after (b || list_any (same t) us) t) ((e.0, tally_after at (Some e.1)) ∷ es)) (sym agrees) (
              counts_same u e h.0 (is_same u t (sym one)),
              subst (λ l. AllZip (Counts with_t) l es) (sym (append-nil us))
                  (others us es h.1 (same_as e.0 (keys_of es) key (IsDistinct-head same_key e.0 (keys_of es) distinct))),
            )
        by rest false is =
            let differ : same t u ≡ false = turned u (other_outcome u e h.0 is) in
            subst (λ b. AllZip (Counts with_t) (u ∷ us ++ new_after (b || list_any (same t) us) t) (e ∷ insert_entry same_key es k (tally_after at (lookup (same_key k) es)))) (sym differ)
            (counts_other u e h.0 is, rest (λ absent. none (ap (λ b. b || list_any (same t) us) differ ∙ absent)))

  pub ends_more : (ends : List End) (t : End) (at : code_end.End) (k : K) (es : List (K × Tally)) → slice_get list at.at ≡ Some t.schedule → of k ≡ outcome_form t.outcome
      → outcome_held at (leads_to i t.schedule).core (groups_of (start i).core) ≡ t.outcome
      → IsDistinct same_key (keys_of es) → AllZip (Counts ends) (firsts ends) es
      → AllZip (Counts (ends ++ t ∷ [])) (firsts (ends ++ t ∷ [])) (insert_entry same_key es k (tally_after at (lookup (same_key k) es)))
  unfolding firsts
  ends_more ends t at k es first form held distinct h =
      subst (λ us. AllZip (Counts (ends ++ t ∷ [])) us (insert_entry same_key es k (tally_after at (lookup (same_key k) es)))) (sym (firsts_more [] ends t))
      (counted ends t at first k form held (firsts_after [] ends) es h distinct (λ absent. none_counted [] ends t refl absent))

  -- counts are small
  small_counts : (ends : List End) (n : ℕ) → length ends ≤ n → (us : List End) (es : List (K × Tally)) → AllZip (Counts ends) us es → AllByRecursion (λ entry. entry.1.count ≤ n) es
  small_counts ends n few [] [] h = tt
  small_counts ends n few [] (e ∷ es) h = absurd h
  small_counts ends n few (u ∷ us) [] h = absurd h
  small_counts ends n few (u ∷ us) (e ∷ es) h =
      let was = h.0.count in
      let all = count_by-le-length (same u) ends in
      (omega (arith, was, all, few), small_counts ends n few us es h.1)

  pub counts_fit : (ends : List End) (es : List (K × Tally)) → AllZip (Counts ends) (firsts ends) es → length ends < 2 ^ 32
      → AllByRecursion (λ entry. entry.1.count < 2 ^ 63) es
  counts_fit ends es h few = below es (small_counts ends (length ends) (omega arith) (firsts ends) es h)
    where
      below : (es : List (K × Tally)) → AllByRecursion (λ entry. entry.1.count ≤ length ends) es → AllByRecursion (λ entry. entry.1.count < 2 ^ 63) es
      below [] k = tt
      below (e ∷ es) k = let one = k.0 in (omega (arith, one, few), below es k.1)

pub found_small : {K : Type 0} (test : K → Bool) (es : List (K × Tally)) (v : Tally) → AllByRecursion (λ entry. entry.1.count < 2 ^ 63) es → lookup test es ≡ Some v → v.count < 2 ^ 63
found_small test [] v h e = cc
found_small test (x ∷ es) v h e = by (test x.0) (found_small test es v h.1) e
  where
    by : (b : Bool) → (lookup test es ≡ Some v → v.count < 2 ^ 63) → cond b (Some x.1) (lookup test es) ≡ Some v → v.count < 2 ^ 63
    by true rest is = let same : x.1 ≡ v = cc in subst (λ (t : Tally). t.count < 2 ^ 63) same h.0
    by false rest is = rest is

-- the numbers of an outcome, put one after the other
pub form_joined : (o : Outcome) (k0 k1 k2 k3 k4 : List ℕ) (kind long : ℕ) (standings : List Standing) (outputs : List (List ℕ))
    → k0 ≡ [] → k1 ≡ k0 ++ kind ∷ [] → k2 ≡ k1 ++ long ∷ [] → k3 ≡ k2 ++ map standing_number standings → k4 ≡ k3 ++ flat_map bytes_form outputs
    → kind ≡ ending_number o.ending → long ≡ length o.slots → standings ≡ o.slots → outputs ≡ o.outputs → k4 ≡ outcome_form o
unfolding outcome_form
form_joined o k0 k1 k2 k3 k4 kind long standings outputs e0 e1 e2 e3 e4 is_kind is_long are_standings are_outputs =
    let first = e1 ∙ ap (λ l. l ++ kind ∷ []) e0 in
    let second = e2 ∙ ap (λ l. l ++ long ∷ []) first in
    let third = e3 ∙ ap (λ l. l ++ map standing_number standings) second in
    e4 ∙ ap (λ l. l ++ flat_map bytes_form outputs) third
    ∙ (λ j. is_kind j ∷ is_long j ∷ map standing_number (are_standings j) ++ flat_map bytes_form (are_outputs j))
