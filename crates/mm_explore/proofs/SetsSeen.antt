-- The endless sets of a list, as far as its schedules were seen.
use Rattle.std.proofs.Common.{◌≡◌, inl, inr, ℕ, zero, suc, ◌+◌, ◌/◌, ◌%◌, ◌<◌, ◌≤◌, Bool, true, false, cond, if◌then◌else◌, ◌||◌, ◌==◌, nat_eq, List, [], ◌∷◌, ◌++◌}
use Rattle.std.proofs.Common.{length, take, slice_get, slice_index_or, Option, Some, None, refl, sym, ap, ◌∙◌, subst, bit_or, arith, eqb-true, eq-eqb}
use Rattle.std.proofs.lemmas.{Bool.{both_ways, ne_eqb}, List.Elements.{Contains-get_or, Contains-append_cases}, Nat.{or_shr, or_mod}, Option.slice_get_within}
use Rattle.std.specs.{Prelude.{Contains, unwrap_or}, List.{AllByRecursion, AllZip}, Map.lookup}
use Rattle.indexmap.specs.IndexMap.{insert_entry}
use Rattle.mm_model.specs.{Flags.flags, Image.Image, Slot.Slot}
use Rattle.mm_span.{specs.Pairs.EachPair, proofs.Members.{none_in, in_first, in_rest, in_cases, all_at}}
use Rattle.mm_explore.specs.{Closed.{LeadsOn, IsEndless, IsFirstEndless}, Explored.IsExplored, Outcomes.slots_at, Schedules.Before}
use Rattle.mm_explore.specs.Searching.{IsSeenBy, AreSeenBy, IsSetSeen, AreSetsSeen}
use Rattle.mm_config.specs.Machines.{IsApartBy, AreApart}
use Rattle.mm_explore.proofs.{AllFound.at_index, ClosedSets.{end_led, ends_back, final_like, final_stays_all, on_trans}, FirstOnes.index_one, Orders.{before_self, before_cases}}
use Rattle.mm_explore.proofs.{Selections.{selected, is_selected, selected_in_order, select_skip, select_more}, Steps.{take_one, get_inside, zip_push}}
use Rattle.mm_explore.proofs.GraphRuns.{ascends}

-- 1. Masks that are joined.

or_bits : (x y : ℕ) → x < 2 → y < 2 → (bit_or x y == 1) ≡ ((x == 1) || (y == 1))
or_bits zero zero p q = refl
or_bits zero (suc zero) p q = refl
or_bits zero (suc (suc y)) p q = absurd (omega (arith, q))
or_bits (suc zero) zero p q = refl
or_bits (suc zero) (suc zero) p q = refl
or_bits (suc zero) (suc (suc y)) p q = absurd (omega (arith, q))
or_bits (suc (suc x)) y p q = absurd (omega (arith, p))

or_flag : (a b : ℕ) → (bit_or a b % 2 == 1) ≡ ((a % 2 == 1) || (b % 2 == 1))
or_flag a b = ap (λ n. n == 1) (or_mod a b 1) ∙ or_bits (a % 2) (b % 2) (omega arith) (omega arith)

or_half : (a b : ℕ) → bit_or a b / 2 ≡ bit_or (a / 2) (b / 2)
or_half a b = or_shr a b 1

-- 2. Lists up to an index.

take_before : (ts : List (List ℕ)) → EachPair Before ts → (a : ℕ) → a < length ts → (u : List ℕ) → Contains (take a ts) u → Before u (slice_index_or ts a [])
take_before [] up a lt u inside = absurd (omega (arith, lt))
take_before (t ∷ ts) up zero lt u inside = absurd (none_in u inside)
take_before (t ∷ ts) up (suc a) lt u inside = elim (in_cases t (take a ts) u inside) [
  | inl e ↦ subst (λ x. Before x (slice_index_or ts a [])) e (all_at (Before t) ts (slice_index_or ts a []) up.0 (Contains-get_or ts a [] (omega (arith, lt))))
  | inr later ↦ take_before ts up.1 a (omega (arith, lt)) u later
]

in_take : (xs : List (List ℕ)) (a f : ℕ) → f < a → a ≤ length xs → Contains (take a xs) (slice_index_or xs f [])
in_take [] a f lt le = absurd (omega (arith, lt, le))
in_take (x ∷ xs) zero f lt le = absurd (omega (arith, lt))
in_take (x ∷ xs) (suc a) zero lt le = in_first x (take a xs)
in_take (x ∷ xs) (suc a) (suc f) lt le = in_rest x (take a xs) (slice_index_or xs f []) (in_take xs a f (omega (arith, lt)) (omega (arith, le)))

each_taken : (P : List ℕ → Type 0) (ts : List (List ℕ)) (a : ℕ) → AllByRecursion P ts → AllByRecursion P (take a ts)
each_taken P ts zero h = tt
each_taken P [] (suc a) h = tt
each_taken P (t ∷ ts) (suc a) h = (h.0, each_taken P ts a h.1)

take_in_order : (ts : List (List ℕ)) (a : ℕ) → EachPair Before ts → EachPair Before (take a ts)
take_in_order ts zero up = tt
take_in_order [] (suc a) up = tt
take_in_order (t ∷ ts) (suc a) up = (each_taken (Before t) ts a up.0, take_in_order ts a up.1)

zip_with : {A B : Type 0} (R S : A → B → Type 0) (xs : List A) (ys : List B) → ((x : A) (y : B) → Contains xs x → R x y → S x y) → AllZip R xs ys → AllZip S xs ys
zip_with R S [] [] to h = tt
zip_with R S [] (y ∷ ys) to h = absurd h
zip_with R S (x ∷ xs) [] to h = absurd h
zip_with R S (x ∷ xs) (y ∷ ys) to h = (to x y (in_first x xs) h.0, zip_with R S xs ys (λ z w inside r. to z w (in_rest x xs z inside) r) h.1)

-- 3. One schedule more is seen.

module _ (i : Image) (list seen : List (List ℕ)) (t u : List ℕ) where
  seen_by : (k : ℕ) (b : Bool) → (LeadsOn i t u → slice_get (slots_at i u) k ≡ slice_get (slots_at i t) k) → IsSeenBy b i seen t k → IsSeenBy b i (seen ++ u ∷ []) t k
  seen_by k true same h = h
  seen_by k false same h = λ v inside on. elim (Contains-append_cases seen (u ∷ []) v inside) [
    | inl before ↦ h v before on
    | inr last ↦ elim (in_cases u [] v last) [
      | inl e ↦ subst (λ w. slice_get (slots_at i w) k ≡ slice_get (slots_at i t) k) e (same (subst (LeadsOn i t) (sym e) on))
      | inr none ↦ absurd (none_in v none)
    ]
  ]

  seen_all : (LeadsOn i t u → ⊥) → (k : ℕ) (busy : List Bool) → AreSeenBy i seen t k busy → AreSeenBy i (seen ++ u ∷ []) t k busy
  seen_all none k [] h = tt
  seen_all none k (b ∷ busy) h = (seen_by k b (λ on. absurd (none on)) h.0, seen_all none (k + 1) busy h.1)

  -- nothing changes for a set of which it is not
  set_seen : (entry : ℕ × ℕ) → (LeadsOn i t u → ⊥) → IsSetSeen i list seen t entry → IsSetSeen i list (seen ++ u ∷ []) t entry
  set_seen entry none h = record { at = h.at; slots = seen_all none 0 (flags (length (slots_at i t)) entry.1) h.slots }

  -- a slot, when one of its set is seen
  or_one : LeadsOn i t u → (k : ℕ) (s o : Slot) → slice_get (slots_at i t) k ≡ Some s → slice_get (slots_at i u) k ≡ Some o → (x m : Bool) → IsSeenBy x i seen t k → IsApartBy m s o
      → IsSeenBy (x || m) i (seen ++ u ∷ []) t k
  or_one on k s o at_t at_u true m h apart = h
  or_one on k s o at_t at_u false true h apart = (u, on, λ same. apart (let two : Some s ≡ Some o = sym at_t ∙ sym same ∙ at_u in cc))
  or_one on k s o at_t at_u false false h apart = seen_by k false (λ _. at_u ∙ ap Some (sym apart) ∙ sym at_t) h

  or_all : LeadsOn i t u → (k : ℕ) (slots others : List Slot) → ((j : ℕ) → slice_get (slots_at i t) (k + j) ≡ slice_get slots j) → ((j : ℕ) → slice_get (slots_at i u) (k + j) ≡ slice_get others j)
      → (x mask : ℕ) → AreSeenBy i seen t k (flags (length slots) x) → AreApart (flags (length slots) mask) slots others → AreSeenBy i (seen ++ u ∷ []) t k (flags (length slots) (bit_or x mask))
  or_all on k [] others ft fu x mask h apart = tt
  or_all on k (s ∷ slots) [] ft fu x mask h apart = absurd apart
  or_all on k (s ∷ slots) (o ∷ others) ft fu x mask h apart = (
    subst (λ b. IsSeenBy b i (seen ++ u ∷ []) t k) (sym (or_flag x mask))
        (or_one on k s o (ap (slice_get (slots_at i t)) here ∙ ft 0) (ap (slice_get (slots_at i u)) here ∙ fu 0) (x % 2 == 1) (mask % 2 == 1) h.0 apart.0),
    subst (λ n. AreSeenBy i (seen ++ u ∷ []) t (k + 1) (flags (length slots) n)) (sym (or_half x mask))
        (or_all on (k + 1) slots others (λ j. ap (slice_get (slots_at i t)) (next j) ∙ ft (suc j)) (λ j. ap (slice_get (slots_at i u)) (next j) ∙ fu (suc j)) (x / 2) (mask / 2) h.1 apart.1),
  )
    where
      here : k ≡ k + 0
      here = omega arith

      next : (j : ℕ) → (k + 1) + j ≡ k + suc j
      next j = omega arith

  -- the entry of a set of which it is
  set_again : (entry : ℕ × ℕ) (mask : ℕ) → LeadsOn i t u → AreApart (flags (length (slots_at i t)) mask) (slots_at i t) (slots_at i u) → IsSetSeen i list seen t entry
      → IsSetSeen i list (seen ++ u ∷ []) t (entry.0, bit_or entry.1 mask)
  set_again entry mask on apart h = record {
    at = h.at;
    slots = or_all on 0 (slots_at i t) (slots_at i u) (λ j. ap (slice_get (slots_at i t)) (none j)) (λ j. ap (slice_get (slots_at i u)) (none j)) entry.1 mask h.slots apart;
  }
    where
      none : (j : ℕ) → 0 + j ≡ j
      none j = omega arith

-- 4. Endless sets.

module _ (i : Image) where
  endless_led : (s t : List ℕ) → IsEndless i s → LeadsOn i s t → IsEndless i t
  endless_led s t e on =
      let back = ends_back i s e.0 t on in
      (end_led i s t e.0 on, λ final. e.1 (final_like i t s (sym (final_stays_all i t back.items final) ∙ back.leads) final))

  -- a set has one first schedule
  same_first : (u v : List ℕ) → IsFirstEndless i u → IsFirstEndless i v → LeadsOn i u v → u ≡ v
  same_first u v hu hv on = elim (before_cases u v) [
    | inl before ↦ absurd (hv.first u before (ends_back i u hu.endless.0 v on))
    | inr other ↦ elim other [
      | inl e ↦ e
      | inr behind ↦ absurd (hu.first v behind on)
    ]
  ]

-- 5. The schedule at an index is seen.

module _ (i : Image) (limit : ℕ) (list : List (List ℕ)) (k : IsExplored i limit list) (a : ℕ) (lt : a < length list) where
  abbrev t : List ℕ
  t = slice_index_or list a []

  abbrev seen : List (List ℕ)
  seen = take a list

  more_seen : take (a + 1) list ≡ seen ++ t ∷ []
  more_seen = take_one list a [] lt

  abbrev Seen : List ℕ → ℕ × ℕ → Type 0
  Seen = IsSetSeen i list seen

  abbrev SeenNext : List ℕ → ℕ × ℕ → Type 0
  SeenNext = IsSetSeen i list (seen ++ t ∷ [])

  module _ (entries : List (ℕ × ℕ)) (h : AreSetsSeen i list seen entries) where
    -- what is known of the first schedules of sets
    first_at : (u : List ℕ) → Contains h.firsts u → IsFirstEndless i u
    first_at u inside = (is_selected (IsFirstEndless i) seen h.firsts h.are u inside).1

    first_before : (u : List ℕ) → Contains h.firsts u → Before u t
    first_before u inside = take_before list k.in_order a lt u (is_selected (IsFirstEndless i) seen h.firsts h.are u inside).0

    -- it is in no endless set
    pub seen_skip : (IsEndless i t → ⊥) → AreSetsSeen i list (take (a + 1) list) entries
    seen_skip none = subst (λ l. AreSetsSeen i list l entries) (sym more_seen) (record {
      firsts = h.firsts;
      are = select_skip (IsFirstEndless i) seen h.firsts t (λ first. none first.endless) h.are;
      sets = zip_with Seen SeenNext h.firsts entries
          (λ u entry inside s. set_seen i list seen u t entry (λ on. none (endless_led i u t (first_at u inside).endless on)) s) h.sets;
    })

    -- it is the first of an endless set
    module _ (first : IsFirstEndless i t) where
      none_apart : (n j : ℕ) → AreSeenBy i (seen ++ t ∷ []) t j (flags n 0)
      none_apart zero j = tt
      none_apart (suc n) j = (by, none_apart n (j + 1))
        where
          by : IsSeenBy false i (seen ++ t ∷ []) t j
          by = λ v inside on. elim (Contains-append_cases seen (t ∷ []) v inside) [
            | inl before ↦ absurd (first.first v (take_before list k.in_order a lt v before) on)
            | inr last ↦ elim (in_cases t [] v last) [
              | inl e ↦ ap (λ w. slice_get (slots_at i w) j) (sym e)
              | inr none ↦ absurd (none_in v none)
            ]
          ]

      fresh : (v : ℕ) (firsts : List (List ℕ)) (es : List (ℕ × ℕ)) → ((u : List ℕ) → Contains firsts u → Before u t) → AllZip Seen firsts es
          → (insert_entry nat_eq es a v ≡ es ++ (a, v) ∷ []) × (lookup (nat_eq a) es ≡ None)
      fresh v [] [] before z = (refl, refl)
      fresh v [] (e ∷ es) before z = absurd z
      fresh v (u ∷ firsts) [] before z = absurd z
      fresh v (u ∷ firsts) (e ∷ es) before z =
          let rest = fresh v firsts es (λ w inside. before w (in_rest u firsts w inside)) z.1 in
          let at = at_index list e.0 u [] z.0.at in
          let no : nat_eq a e.0 ≡ false = ne_eqb a e.0 (λ same.
          before_self t (subst (λ w. Before w t) (sym at ∙ ap (λ n. slice_index_or list n []) (sym same)) (before u (in_first u firsts)))) in (
            ap (λ b. if b then (e.0, v) ∷ es else e ∷ insert_entry nat_eq es a v) no ∙ ap (λ l. e ∷ l) rest.0,
            ap (λ b. cond b (Some e.1) (lookup (nat_eq a) es)) no ∙ rest.1,
          )

      pub seen_first : AreSetsSeen i list (take (a + 1) list) (insert_entry nat_eq entries a (bit_or (unwrap_or (lookup (nat_eq a) entries) 0) 0))
      seen_first =
          let new = fresh 0 h.firsts entries first_before h.sets in
          let none : bit_or (unwrap_or (lookup (nat_eq a) entries) 0) 0 ≡ 0 = ap (λ (o : Option ℕ). bit_or (unwrap_or o 0) 0) new.1 in
          subst (AreSetsSeen i list (take (a + 1) list)) (sym (ap (insert_entry nat_eq entries a) none ∙ new.0))
          (subst (λ l. AreSetsSeen i list l (entries ++ (a, 0) ∷ [])) (sym more_seen) (record {
            firsts = h.firsts ++ t ∷ [];
            are = select_more (IsFirstEndless i) seen h.firsts t first h.are;
            sets = zip_push SeenNext h.firsts entries t (a, 0)
                (zip_with Seen SeenNext h.firsts entries
                (λ u entry inside s. set_seen i list seen u t entry (λ on. first.first u (first_before u inside) (ends_back i u (first_at u inside).endless.0 t on)) s) h.sets)
                (record { at = get_inside list a [] lt; slots = none_apart (length (slots_at i t)) 0 });
          }))

    -- it is a later one of an endless set
    module _ (f : ℕ) (low : f < a) (first : IsFirstEndless i (slice_index_or list f [])) (on : LeadsOn i (slice_index_or list f []) t) (mask : ℕ)
        (apart : AreApart (flags (length (slots_at i (slice_index_or list f []))) mask) (slots_at i (slice_index_or list f [])) (slots_at i t)) where
      abbrev at_first : List ℕ
      at_first = slice_index_or list f []

      earlier : Before at_first t
      earlier = ascends list k.in_order f a low lt

      back : LeadsOn i t at_first
      back = ends_back i at_first first.endless.0 t on

      -- another set does not lead to it
      others_not : (u : List ℕ) → IsFirstEndless i u → (u ≡ at_first → ⊥) → LeadsOn i u t → ⊥
      others_not u hu apart on_u = apart (same_first i u at_first hu first (on_trans i u t at_first on_u back))

      again : (firsts : List (List ℕ)) (es : List (ℕ × ℕ)) → ((u : List ℕ) → Contains firsts u → IsFirstEndless i u) → EachPair Before firsts → Contains firsts at_first → AllZip Seen firsts es
          → AllZip SeenNext firsts (insert_entry nat_eq es f (bit_or (unwrap_or (lookup (nat_eq f) es) 0) mask))
      again [] es are up there z = absurd (none_in at_first there)
      again (u ∷ firsts) [] are up there z = absurd z
      again (u ∷ firsts) (e ∷ es) are up there z =
          by (λ later. again firsts es (λ w inside. are w (in_rest u firsts w inside)) up.1 later z.1) (nat_eq f e.0) refl
        where
          at : slice_index_or list e.0 [] ≡ u
          at = at_index list e.0 u [] z.0.at

          one : (n : ℕ) → slice_index_or list n [] ≡ at_first → n < length list → n ≡ f
          one n same inside = index_one list k.in_order n f inside (omega (arith, low, lt)) same

          by : (Contains firsts at_first → AllZip SeenNext firsts (insert_entry nat_eq es f (bit_or (unwrap_or (lookup (nat_eq f) es) 0) mask)))
              → (b : Bool) → nat_eq f e.0 ≡ b
              → AllZip SeenNext (u ∷ firsts) (if b then (e.0, bit_or (unwrap_or (cond b (Some e.1) (lookup (nat_eq f) es)) 0) mask) ∷ es
              else e ∷ insert_entry nat_eq es f (bit_or (unwrap_or (cond b (Some e.1) (lookup (nat_eq f) es)) 0) mask))
          by rest true is =
              let here : at_first ≡ u = ap (λ n. slice_index_or list n []) (eqb-true f e.0 is) ∙ at in (
                set_again i list seen u t e mask (subst (λ w. LeadsOn i w t) here on)
                    (subst (λ w. AreApart (flags (length (slots_at i w)) mask) (slots_at i w) (slots_at i t)) here apart) z.0,
                zip_with Seen SeenNext firsts es (λ w entry inside s. set_seen i list seen w t entry
                    (others_not w (are w (in_rest u firsts w inside)) (λ same. before_self u (subst (Before u) (same ∙ here) (all_at (Before u) firsts w up.0 inside)))) s) z.1,
              )
          by rest false is =
              let off : u ≡ at_first → ⊥ = λ same. both_ways (nat_eq f e.0) is (eq-eqb f e.0 (sym (one e.0 (at ∙ same) (slice_get_within list e.0 u z.0.at)))) in (
                set_seen i list seen u t e (others_not u (are u (in_first u firsts)) off) z.0,
                rest (elim (in_cases u firsts at_first there) [ inl same ↦ absurd (off same) | inr later ↦ later ]),
              )

      pub seen_again : AreSetsSeen i list (take (a + 1) list) (insert_entry nat_eq entries f (bit_or (unwrap_or (lookup (nat_eq f) entries) 0) mask))
      seen_again = subst (λ l. AreSetsSeen i list l (insert_entry nat_eq entries f (bit_or (unwrap_or (lookup (nat_eq f) entries) 0) mask))) (sym more_seen) (record {
        firsts = h.firsts;
        are = select_skip (IsFirstEndless i) seen h.firsts t (λ is. is.first at_first earlier back) h.are;
        sets = again h.firsts entries first_at (selected_in_order (IsFirstEndless i) seen h.firsts h.are (take_in_order list a k.in_order))
            (selected (IsFirstEndless i) seen h.firsts h.are at_first (in_take list a f low (omega (arith, lt))) first) h.sets;
      })
