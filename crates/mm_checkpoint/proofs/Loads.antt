-- Pending loads and empty registers, one for each other, and sums of what a function gives at each number below n.
use Rattle.std.proofs.Common.{◌≡◌, ℕ, zero, suc, ◌+◌, ◌*◌, ◌<◌, ◌≤◌, Bool, true, false, inl, inr, List, [], ◌∷◌, ◌++◌}
use Rattle.std.proofs.Common.{length, get_or, refl, sym, ap, subst, ◌∙◌, arith, eq-eqb, eqb-true}
use Rattle.std.proofs.lemmas.{Bool.{cases_eq, cases_lt, ne_eqb}, List.{get_or_past, append-nil}}
use Rattle.std.specs.{Prelude.{◌==◌, count_by}, List.{AllByRecursion, range_with_len}}
use Rattle.mm_model.specs.{declared.slot.Pending.Pending, Flags.{flags, one_if, number_of_flags, in_mask}}
use Rattle.mm_model.{specs.Slot.{Slot, is_empty}, proofs.{CoreRows.each_map, Bytes.Bitmaps.bits-flags}}
use Rattle.mm_machine.specs.Snapshot.{IsPending}
use Rattle.mm_format.{specs.Images.{mask, flags_of}, proofs.ImagesFit.fits_mask}
use Rattle.mm_checkpoint.specs.{Tests.{bits_set, has_entry}, Steps.bit_count}
use Rattle.mm_checkpoint.proofs.Counts.{count_cons, count_yes, count_map, count_push, none_count, none_any, moved}

abbrev sum_below : (ℕ → ℕ) → ℕ → ℕ
sum_below f zero = 0
sum_below f (suc n) = sum_below f n + f n

-- 1. Sums of two functions.

sums_same : (f g : ℕ → ℕ) (n : ℕ) → ((r : ℕ) → r < n → f r ≡ g r) → sum_below f n ≡ sum_below g n
sums_same f g zero h = refl
sums_same f g (suc n) h = let rest = sums_same f g n (λ r lt. h r (omega arith)) in let last = h n (omega arith) in omega (arith, rest, last)

sums_le : (f g : ℕ → ℕ) (n : ℕ) → ((r : ℕ) → r < n → f r ≤ g r) → sum_below f n ≤ sum_below g n
sums_le f g zero h = omega arith
sums_le f g (suc n) h = let rest = sums_le f g n (λ r lt. h r (omega arith)) in let last = h n (omega arith) in omega (arith, rest, last)

sum_both : (f g : ℕ → ℕ) (n : ℕ) → sum_below (λ r. f r + g r) n ≡ sum_below f n + sum_below g n
sum_both f g zero = refl
sum_both f g (suc n) = let rest = sum_both f g n in omega (arith, rest)

-- terms that are no greater, and make up as much, are the same
squeezed : (f g : ℕ → ℕ) (n : ℕ) → ((r : ℕ) → r < n → f r ≤ g r) → sum_below g n ≤ sum_below f n → (r : ℕ) → r < n → f r ≡ g r
squeezed f g zero h le r lt = absurd (omega arith)
squeezed f g (suc n) h le r lt =
    let rest = sums_le f g n (λ k small. h k (omega arith)) in
    let last = h n (omega arith) in
    elim (cases_eq r n) [
      | inl e ↦ let fs = ap f e in let gs = ap g e in omega (arith, rest, last, fs, gs)
      | inr ne ↦ squeezed f g n (λ k small. h k (omega arith)) (omega (arith, rest, last)) r (omega arith)
    ]

-- 2. One number among those below n.

sum_none : (m n : ℕ) → n ≤ m → sum_below (λ r. one_if (m == r)) n ≡ 0
sum_none m zero le = refl
sum_none m (suc n) le =
    let rest = sum_none m n (omega arith) in
    let last : one_if (m == n) ≡ 0 = ap one_if (ne_eqb m n (λ e. omega arith)) in
    omega (arith, rest, last)

sum_one : (m n : ℕ) → m < n → sum_below (λ r. one_if (m == r)) n ≡ 1
sum_one m zero lt = absurd (omega arith)
sum_one m (suc n) lt = elim (cases_eq m n) [
  | inl e ↦ let rest = sum_none m n (omega arith) in let last : one_if (m == n) ≡ 1 = ap one_if (eq-eqb m n e) in omega (arith, rest, last)
  | inr ne ↦ let rest = sum_one m n (omega arith) in let last : one_if (m == n) ≡ 0 = ap one_if (ne_eqb m n ne) in omega (arith, rest, last)
]

sum_zeros : (n : ℕ) → sum_below (λ r. 0) n ≡ 0
sum_zeros zero = refl
sum_zeros (suc n) = let rest = sum_zeros n in omega (arith, rest)

-- each element is counted once
sum_counts : {A : Type 0} (key : A → ℕ) (n : ℕ) (xs : List A) → AllByRecursion (λ x. key x < n) xs → sum_below (λ r. count_by (λ x. key x == r) xs) n ≡ length xs
sum_counts key n [] h = sum_zeros n
sum_counts key n (x ∷ xs) h =
    let apart = sums_same (λ r. count_by (λ y. key y == r) (x ∷ xs)) (λ r. one_if (key x == r) + count_by (λ y. key y == r) xs) n (λ r lt. count_cons (λ y. key y == r) x xs) in
    let both = sum_both (λ r. one_if (key x == r)) (λ r. count_by (λ y. key y == r) xs) n in
    let one = sum_one (key x) n h.0 in
    let rest = sum_counts key n xs h.1 in
    omega (arith, apart, both, one, rest)

-- 3. Flags.

sum_first : (f : ℕ → ℕ) (n : ℕ) → sum_below f (suc n) ≡ f 0 + sum_below (λ r. f (suc r)) n
sum_first f zero = omega arith
sum_first f (suc n) = let rest = sum_first f n in omega (arith, rest)

sum_flags : (fs : List Bool) → sum_below (λ r. one_if (get_or fs r false)) (length fs) ≡ count_by (λ b. b) fs
sum_flags [] = refl
sum_flags (b ∷ fs) =
    let first = sum_first (λ r. one_if (get_or (b ∷ fs) r false)) (length fs) in
    let rest = sum_flags fs in
    let all = count_cons (λ c. c) b fs in
    omega (arith, first, rest, all)

-- 4. Loads for empty registers, no two for one, as many as there are: one for each.

abbrev loads : ℕ → List Pending → ℕ
loads r ps = count_by (λ (p : Pending). p.reg == r) ps

module _ (set : List Bool) where
  -- the load is for an empty register that no load before is for
  pub record IsNewLoad (earlier : List Pending) (p : Pending) : Type 0 where
    pub register : p.reg < length set
    pub empty : get_or set p.reg false ≡ true
    pub alone : has_entry earlier p.reg ≡ false

  abbrev pub AreNew : (earlier : List Pending) → List Pending → Type 0
  AreNew earlier [] = Unit {0}
  AreNew earlier (p ∷ ps) = IsNewLoad earlier p × AreNew (earlier ++ p ∷ []) ps

  abbrev most : ℕ → ℕ
  most r = one_if (get_or set r false)

  few : (r : ℕ) (earlier ps : List Pending) → loads r earlier ≤ most r → AreNew earlier ps
      → loads r (earlier ++ ps) ≤ most r
  few r earlier [] le new = subst (λ xs. loads r xs ≤ most r) (sym (append-nil earlier)) le
  few r earlier (p ∷ ps) le new =
      subst (λ xs. loads r xs ≤ most r) (moved earlier ps p)
      (few r (earlier ++ p ∷ []) ps (by (p.reg == r) refl) new.1)
    where
      by : (b : Bool) → (p.reg == r) ≡ b → loads r (earlier ++ p ∷ []) ≤ most r
      by true e =
          let here : p.reg ≡ r = eqb-true p.reg r e in
          let none : loads r earlier ≡ 0 = ap (λ k. loads k earlier) (sym here)
          ∙ none_count (λ (q : Pending). q.reg == p.reg) earlier
          (none_any (λ (q : Pending). q.reg == p.reg) earlier new.0.alone) in
          let full : most r ≡ 1 = ap one_if (ap (λ k. get_or set k false) (sym here) ∙ new.0.empty) in
          let more : loads r (earlier ++ p ∷ []) ≡ loads r earlier + 1 =
          count_push (λ (q : Pending). q.reg == r) earlier p ∙ ap (λ c. loads r earlier + one_if c) e in
          omega (arith, none, full, more)
      by false e =
          let more : loads r (earlier ++ p ∷ []) ≡ loads r earlier + 0 =
          count_push (λ (q : Pending). q.reg == r) earlier p ∙ ap (λ c. loads r earlier + one_if c) e in
          omega (arith, le, more)

  all_small : (earlier ps : List Pending) → AreNew earlier ps
      → AllByRecursion (λ (p : Pending). p.reg < length set) ps
  all_small earlier [] new = tt
  all_small earlier (p ∷ ps) new = (new.0.register, all_small (earlier ++ p ∷ []) ps new.1)

  pub one_load : (ps : List Pending) → AreNew [] ps → length ps ≡ count_by (λ b. b) set → (r : ℕ)
      → loads r ps ≡ most r
  one_load ps new many r = elim (cases_lt r (length set)) [
    | inl lt ↦
        let all = sum_counts (λ (p : Pending). p.reg) (length set) ps (all_small [] ps new) in
        let total = sum_flags set in
        squeezed (λ k. loads k ps) most (length set) (λ k small. few k [] ps (omega arith) new)
        (omega (arith, all, total, many)) r lt
    | inr le ↦
        let past : most r ≡ 0 = ap one_if (get_or_past set r false le) in
        let le = few r [] ps (omega arith) new in
        omega (arith, past, le)
  ]

-- 5. The loads of a slot.

pub sixteen_flags : (fs : List Bool) → length fs ≡ 16 → flags 16 (number_of_flags fs) ≡ fs
unfolding mask flags_of
sixteen_flags fs long = sym (fits_mask fs long).1

each_there : (ps : List Pending) → AllByRecursion (λ (p : Pending). 1 ≤ loads p.reg ps) ps
each_there [] = tt
each_there (p ∷ ps) = (
  let own = count_yes (λ (q : Pending). q.reg == p.reg) p ps (eq-eqb p.reg p.reg refl) in omega (arith, own),
  each_map _ _ (λ q some.
      let all = count_cons (λ (x : Pending). x.reg == q.reg) p ps in omega (arith, all, some)) ps (each_there ps),
)

-- as many flags as registers that a mask names
pub bits_counted : (mask : ℕ) → bit_count mask ≡ bits_set mask
unfolding bit_count
bits_counted mask =
    sym (count_map (λ (b : Bool). b) (in_mask mask) (range_with_len 0 16))
    ∙ ap (count_by (λ (b : Bool). b)) (bits-flags 16 mask)

no_flags : (fs : List Bool) → ((r : ℕ) → get_or fs r false ≡ false) → number_of_flags fs ≡ 0
no_flags [] h = refl
no_flags (b ∷ fs) h =
    ap (λ c. one_if c + 2 * number_of_flags fs) (h 0) ∙ ap (λ n. 0 + 2 * n) (no_flags fs (λ r. h (suc r)))

module _ (s : Slot) (long : length s.empty ≡ 16) (pending : IsPending s) where
  stands : (r : ℕ) → loads r s.pending ≡ one_if (get_or s.empty r false)
  unfolding is_empty
  stands r = (pending r).loads

  pub registers_small : AllByRecursion (λ (p : Pending). p.reg < length s.empty) s.pending
  registers_small =
      each_map _ _ (λ p some.
      elim (cases_lt p.reg (length s.empty)) [
        | inl small ↦ small
        | inr large ↦
            let past = ap one_if (get_or_past s.empty p.reg false large) in
            absurd (omega (arith, past, some, stands p.reg))
      ]) s.pending (each_there s.pending)

  pub pending_set : length s.pending ≡ bits_set (number_of_flags s.empty)
  pending_set =
      let n = length s.empty in
      sym (sum_counts (λ (p : Pending). p.reg) n s.pending registers_small)
      ∙ sums_same (λ r. loads r s.pending) (λ r. one_if (get_or s.empty r false)) n (λ r lt. stands r)
      ∙ sum_flags s.empty ∙ ap (count_by (λ (b : Bool). b)) (sym (sixteen_flags s.empty long))

  -- no register is empty where no load is pending
  pub none_empty : s.pending ≡ [] → number_of_flags s.empty ≡ 0
  none_empty none = no_flags s.empty (λ r. by (get_or s.empty r false) (sym (stands r) ∙ ap (loads r) none))
    where
      by : (b : Bool) → one_if b ≡ 0 → b ≡ false
      by true is = absurd (omega (arith, is))
      by false is = refl
