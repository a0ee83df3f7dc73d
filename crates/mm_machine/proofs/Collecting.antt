-- Outputs as they are collected group by group, and pages, slots and events by their places.
use Rattle.std.proofs.Common.{◌≡◌, ℕ, zero, suc, ◌+◌, ◌<◌, inl, inr, true, false, eqb, ◌||◌, List, [], ◌∷◌, ◌++◌}
use Rattle.std.proofs.Common.{length, map, take, get_or, Option, Some, slice_get, sym, ap, subst, ◌∙◌, arith}
use Rattle.std.proofs.lemmas.Bool.{cases_eq, eq-eqb}
use Rattle.std.proofs.lemmas.List.{map-append, take_more, flat_map_more, Folds.list_any-append}
use Rattle.std.proofs.Math.Bool.{or-true}
use Rattle.std.specs.{Prelude.slice_index, List.{AllByRecursion, flat_map, Sorted.IsStrictlyIncreasing}}
use Rattle.mm_word.specs.declared.word.Cell.{Cell}
use Rattle.mm_model.specs.{Memory.{Memory, IsPaged}, declared.event.Event.Event, Slot.Slot}
use Rattle.mm_model.specs.{State.{Core, queue_at, output_of}, Groups.has_group, Fits.slots_of}
use Rattle.mm_model.proofs.CoreRows.{each_map, each_push, rest_rises, above_first}
use Rattle.mm_mem.proofs.{Flats.page_here, PagePlaces.{got, any_default, some_same, page_there, at_place, place_mapped}}
use Rattle.mm_thread.specs.Output.{Output}
use Rattle.mm_machine.specs.{Snapshot.{groups_of, has_output, IsOutputOf, queued_at}, Capture.{cells_of, OutputsBelow}}

-- 1. Outputs.

rising_then : (x : ℕ) (xs : List ℕ) → IsStrictlyIncreasing xs → AllByRecursion (λ y. x < y) xs → IsStrictlyIncreasing (x ∷ xs)
rising_then x [] h low zero lt = absurd (omega arith)
rising_then x (y ∷ ys) h low zero lt = low.0
rising_then x xs h low (suc k) lt =
    let next : suc k + 1 ≡ suc (k + 1) = omega arith in
    let rest : slice_index xs k < slice_index xs (k + 1) = h k (omega arith) in
    rw next rest

rising_push : (xs : List ℕ) (y : ℕ) → IsStrictlyIncreasing xs → AllByRecursion (λ x. x < y) xs → IsStrictlyIncreasing (xs ++ y ∷ [])
rising_push [] y h low = λ k lt. absurd (omega arith)
rising_push (x ∷ xs) y h low = rising_then x (xs ++ y ∷ []) (rising_push xs y (rest_rises x xs h) low.1) (each_push (λ z. x < z) xs y (above_first x xs h) low.0)

low_groups : (n : ℕ) (os : List Output) → AllByRecursion (λ (o : Output). o.group < n) os → AllByRecursion (λ x. x < n) (groups_of os)
low_groups n [] h = tt
low_groups n (o ∷ os) h = (h.0, low_groups n os h.1)

module _ (core : Core) (slots : List Slot) (n : ℕ) (os : List Output) (so_far : OutputsBelow core slots n os) where
  higher : AllByRecursion (λ (o : Output). o.group < n + 1) os
  higher = each_map (λ (o : Output). o.group < n) (λ (o : Output). o.group < n + 1) (λ o lt. omega arith) os so_far.low

  pub output_more : (o : Output) → o.group ≡ n → o.bytes ≡ output_of core n → has_group slots n ≡ true → OutputsBelow core slots (n + 1) (os ++ o ∷ [])
  output_more o is said has = record {
    rising = subst IsStrictlyIncreasing (sym (map-append (λ (x : Output). x.group) os (o ∷ [])))
        (rising_push (groups_of os) o.group so_far.rising (subst (λ (k : ℕ). AllByRecursion (λ x. x < k) (groups_of os)) (sym is) (low_groups n os so_far.low)));
    low = each_push (λ (x : Output). x.group < n + 1) os o higher (omega (arith, is));
    used = each_push (λ (x : Output). has_group slots x.group ≡ true) os o so_far.used (ap (has_group slots) is ∙ has);
    shown = λ g lt here. list_any-append (λ (x : Output). eqb x.group g) os (o ∷ []) ∙ by g lt here;
    said = each_push (IsOutputOf core) os o so_far.said (said ∙ ap (output_of core) (sym is));
  }
    where
      by : (g : ℕ) → g < n + 1 → has_group slots g ≡ true → (has_output os g || (eqb o.group g || false)) ≡ true
      by g lt here = elim (cases_eq g n) as (λ _. (has_output os g || (eqb o.group g || false)) ≡ true) [
        | inl same ↦ ap (λ b. has_output os g || (b || false)) (eq-eqb o.group g (is ∙ sym same)) ∙ or-true (has_output os g)
        | inr other ↦ ap (λ b. b || (eqb o.group g || false)) (so_far.shown g (omega arith) here)
      ]

  pub output_not : has_group slots n ≡ false → OutputsBelow core slots (n + 1) os
  output_not none = record {
    rising = so_far.rising;
    low = higher;
    used = so_far.used;
    shown = λ g lt here. elim (cases_eq g n) as (λ _. has_output os g ≡ true) [
      | inl same ↦ let no : has_group slots g ≡ false = ap (has_group slots) same ∙ none in absurd cc
      | inr other ↦ so_far.shown g (omega arith) here
    ];
    said = so_far.said;
  }

-- 2. A page at its place.

module _ (m : Memory) (i n : ℕ) (paged : IsPaged m) (is : slice_get (map (λ (e : ℕ × List Cell). e.0) m.pages) i ≡ Some n) where
  -- the page of a number, at its place
  pub place_page : get_or m.pages i (n, cells_of m n) ≡ (n, cells_of m n)
  place_page =
      let here = at_place m.pages i n is in
      let e : ℕ × List Cell = get_or m.pages i (n, cells_of m n) in
      let number : e.0 ≡ n = here.has_number (n, cells_of m n) in
      let same : e ≡ get_or m.pages i e = any_default m.pages i (n, cells_of m n) e here.in_range in
      let cells : ◌≡◌ {A = Option (List Cell)} (Some e.1) (Some (cells_of m n)) = sym (page_here m n i e paged here same) ∙ page_there m n (place_mapped m i n paged is) in
      ap (λ (k : ℕ). let pair : ℕ × List Cell = (k, e.1) in pair) number ∙ ap (λ (cs : List Cell). let pair : ℕ × List Cell = (n, cs) in pair) (some_same cells)

-- 3. Slots and events by their places.

got_within : {A : Type 0} (xs : List A) (i : ℕ) (x : A) → slice_get xs i ≡ Some x → i < length xs
got_within [] i x is = cc
got_within (y ∷ ys) zero x is = omega arith
got_within (y ∷ ys) (suc i) x is = omega (arith, got_within ys i x is)

pub take_got : {A : Type 0} (xs : List A) (i : ℕ) (x : A) → slice_get xs i ≡ Some x → take (i + 1) xs ≡ take i xs ++ x ∷ []
take_got xs i x is =
    let within = got_within xs i x is in
    let same : get_or xs i x ≡ x = some_same (sym (got xs i x within) ∙ is) in
    take_more xs i x within ∙ ap (λ y. take i xs ++ y ∷ []) same

pub events_more : (core : Core) (i : ℕ) (s : Slot) (number : ℕ) (so_far : List (ℕ × Event)) (queue : List Event) → slice_get (slots_of core) i ≡ Some s → number ≡ s.number
    → so_far ≡ flat_map (queued_at core) (take i (slots_of core)) → queue ≡ queue_at core number
    → so_far ++ map (λ (e : Event). (number, e)) queue ≡ flat_map (queued_at core) (take (i + 1) (slots_of core))
events_more core i s number so_far queue is named before own =
    ap (λ (xs : List (ℕ × Event)). xs ++ map (λ (e : Event). (number, e)) queue) before
    ∙ ap (λ (es : List Event). flat_map (queued_at core) (take i (slots_of core)) ++ map (λ (e : Event). (number, e)) es) own
    ∙ ap (λ (n : ℕ). flat_map (queued_at core) (take i (slots_of core)) ++ map (λ (e : Event). (n, e)) (queue_at core n)) named
    ∙ flat_map_more (queued_at core) [] (take i (slots_of core)) s
    ∙ ap (flat_map (queued_at core)) (sym (take_got (slots_of core) i s is))
