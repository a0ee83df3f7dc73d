-- Round robin issues the next running slot.
use Rattle.std.proofs.Common.{◌≡◌, ℕ, zero, suc, ◌<◌, ◌≤◌, inl, inr, Bool, true, false, nat_lt, if◌then◌else◌, List, []}
use Rattle.std.proofs.Common.{◌∷◌, ◌++◌, length, map, Option, Some, None, refl, sym, ap, ◌∙◌, arith, ltb-true}
use Rattle.std.proofs.lemmas.Bool.{lt-ltb}
use Rattle.std.specs.{Prelude.Contains, List.{AllByRecursion, Sorted.IsStrictlyIncreasing}, Option.option_or}
use Rattle.mm_model.specs.{Slot.Slot, State.{ThreadRow, Core, State, slot_at}, Spelling.numbers_of, Turn.is_running}
use Rattle.mm_model.specs.Run.{after, run, first_running, any_number, next_running, then_issued, robin_from, last_item}
use Rattle.mm_model.specs.Fits.{slots_of, IsState}
use Rattle.mm_model.proofs.CoreRows.{each_map, each_contained, above_first, rest_rises, slot_at-number, slots_found}
use Rattle.mm_model.proofs.{CoreRows.{slot_has, Rises, numbers_above}, StateKeeps.after_state}
use Rattle.mm_laws.specs.Schedules.{NoneRuns, AnyNumber, IsLeast, IsNext}

abbrev slots_in : List ThreadRow → List Slot
slots_in rows = map (λ (row : ThreadRow). row.slot) rows

-- 1. The first running slot that passes.

none_says : (p : ℕ → Bool) (rows : List ThreadRow) → first_running p rows ≡ None → AllByRecursion (λ (s : Slot). is_running s.state ≡ true → p s.number ≡ false) (slots_in rows)
none_says p [] e = tt
none_says p (row ∷ rows) e = by (is_running row.slot.state) (p row.slot.number) refl refl e (λ k. none_says p rows k)
  where
    by : (a b : Bool) → is_running row.slot.state ≡ a → p row.slot.number ≡ b → (if a then (if b then Some row.slot.number else first_running p rows) else first_running p rows) ≡ None
        → (first_running p rows ≡ None → AllByRecursion (λ (s : Slot). is_running s.state ≡ true → p s.number ≡ false)
        (slots_in rows)) → AllByRecursion (λ (s : Slot). is_running s.state ≡ true → p s.number ≡ false)
        (slots_in (row ∷ rows))
    by true true ea eb e later = cc
    by true false ea eb e later = ((λ running. eb), later e)
    by false b ea eb e later = ((λ running. cc (running, ea)), later e)

-- the first is one of the slots, runs and passes, and each other that does has a greater number
record IsFirst (p : ℕ → Bool) (slots : List Slot) (n : ℕ) : Type 0 where
  slot : Slot
  one : Contains slots slot
  number : slot.number ≡ n
  running : is_running slot.state ≡ true
  passes : p n ≡ true
  least : AllByRecursion (λ (s : Slot). is_running s.state ≡ true → p s.number ≡ true → n ≤ s.number) slots

some_says : (p : ℕ → Bool) (rows : List ThreadRow) (n : ℕ) → IsStrictlyIncreasing (numbers_of (slots_in rows)) → first_running p rows ≡ Some n → IsFirst p (slots_in rows) n
some_says p [] n up e = cc
some_says p (row ∷ rows) n up e =
    by (is_running row.slot.state) (p row.slot.number) refl refl e (λ k. some_says p rows n (rest_rises row.slot.number (numbers_of (slots_in rows)) up) k)
  where
    behind : IsFirst p (slots_in rows) n → (is_running row.slot.state ≡ true → p row.slot.number ≡ true → ⊥) → IsFirst p (slots_in (row ∷ rows)) n
    behind f not_first = record {
      slot = f.slot;
      one = (suc f.one.0, omega (arith, f.one.1), f.one.2);
      number = f.number;
      running = f.running;
      passes = f.passes;
      least = ((λ running passes. absurd (not_first running passes)), f.least);
    }

    by : (a b : Bool) → is_running row.slot.state ≡ a → p row.slot.number ≡ b → (if a then (if b then Some row.slot.number else first_running p rows) else first_running p rows) ≡ Some n
        → (first_running p rows ≡ Some n → IsFirst p (slots_in rows) n) → IsFirst p (slots_in (row ∷ rows)) n
    by true true ea eb e later =
        let same : row.slot.number ≡ n = cc in
        record {
          slot = row.slot;
          one = (0, omega arith, refl);
          number = same;
          running = ea;
          passes = sym (ap p same) ∙ eb;
          least = (
            (λ running passes. omega arith),
            each_map (λ (s : Slot). row.slot.number < s.number) (λ (s : Slot). is_running s.state ≡ true → p s.number ≡ true → n ≤ s.number) (λ s lt running passes. omega arith) (slots_in rows)
                (numbers_above row.slot.number (slots_in rows) (above_first row.slot.number (numbers_of (slots_in rows)) up)),
          );
        }
    by true false ea eb e later = behind (later e) (λ running passes. cc (passes, eb))
    by false b ea eb e later = behind (later e) (λ running passes. cc (running, ea))

-- the same, of the slots by their numbers
least_of : (core : Core) (p : ℕ → Bool) (Passes : ℕ → Type 0) (n : ℕ) → Rises core → ((m : ℕ) → p m ≡ true → Passes m)
    → ((m : ℕ) → Passes m → p m ≡ true) → first_running p core.rows ≡ Some n → IsLeast core Passes n
least_of core p Passes n up from to e =
    let first = some_says p core.rows n up e in
    record {
      runs = (
        first.slot,
        record {
          at = ap (slot_at core) (sym first.number) ∙ each_contained (λ (s : Slot). slot_at core s.number ≡ Some s) (slots_of core) first.slot (slots_found core up) first.one;
          running = first.running;
        },
      );
      passes = from n first.passes;
      least = λ m both runs.
          let number = slot_at-number core m runs.0 runs.1.at in
          let low : n ≤ runs.0.number = slot_has (λ (s : Slot). is_running s.state ≡ true → p s.number ≡ true
          → n ≤ s.number) core m runs.0 first.least runs.1.at runs.1.running (ap p number ∙ to m both.0) in
          let under = both.1 in
          omega arith;
    }

none_of : (core : Core) (p : ℕ → Bool) (Passes : ℕ → Type 0) → ((m : ℕ) → Passes m → p m ≡ true) → first_running p core.rows ≡ None → NoneRuns core Passes
none_of core p Passes to e m passes runs =
    let number = slot_at-number core m runs.0 runs.1.at in
    let fails = slot_has (λ (s : Slot). is_running s.state ≡ true → p s.number ≡ false) core m runs.0 (none_says p core.rows e) runs.1.at runs.1.running in
    cc (ap p number, fails, to m passes)

-- 2. The next running slot.

next_is : (core : Core) (last : Option ℕ) (n : ℕ) → Rises core → next_running core.rows last ≡ Some n → IsNext core last n
next_is core None n up e = least_of core any_number AnyNumber n up (λ m k. tt) (λ m k. refl) e
next_is core (Some last) n up e = by (first_running (nat_lt last) core.rows) refl e
  where
    by : (o : Option ℕ) → first_running (nat_lt last) core.rows ≡ o → option_or o (first_running any_number core.rows) ≡ Some n → IsNext core (Some last) n
    by (Some m) is e =
        let same : m ≡ n = cc in
        inl (least_of core (nat_lt last) (λ m. last < m) n up (λ k t. ltb-true last k t) (λ k lt. lt-ltb last k lt) (is ∙ ap (λ (k : ℕ). Some k) same))
    by None is e = inr (none_of core (nat_lt last) (λ m. last < m) (λ k lt. lt-ltb last k lt) is, least_of core any_number AnyNumber n up (λ m k. tt) (λ m k. refl) e)

none_next : (core : Core) (last : Option ℕ) → next_running core.rows last ≡ None → NoneRuns core AnyNumber
none_next core None e = none_of core any_number AnyNumber (λ m k. refl) e
none_next core (Some last) e = by (first_running (nat_lt last) core.rows) e
  where
    by : (o : Option ℕ) → option_or o (first_running any_number core.rows) ≡ None → NoneRuns core AnyNumber
    by (Some m) e = cc
    by None e = none_of core any_number AnyNumber (λ m k. refl) e

-- 3. Round robin.

pub short : (s : State) (last : Option ℕ) (count : ℕ) → length (robin_from s last count) ≤ count
unfolding robin_from
short s last zero = omega arith
short s last (suc count) = by (next_running s.core.rows last) (λ n. short (after s n) (Some n) count)
  where
    by : (o : Option ℕ) → ((n : ℕ) → length (robin_from (after s n) (Some n) count) ≤ count) → length (then_issued o (λ n. robin_from (after s n) (Some n) count)) ≤ suc count
    by None rest = omega arith
    by (Some n) rest = let few = rest n in omega arith

pub ends : (s : State) (last : Option ℕ) (count : ℕ) → length (robin_from s last count) < count → NoneRuns (run s (robin_from s last count)).core AnyNumber
unfolding robin_from run
ends s last zero lt = absurd (omega arith)
ends s last (suc count) lt = by (next_running s.core.rows last) refl lt (λ n k. ends (after s n) (Some n) count k)
  where
    by : (o : Option ℕ) → next_running s.core.rows last ≡ o → length (then_issued o (λ n. robin_from (after s n) (Some n) count)) < suc count
        → ((n : ℕ) → length (robin_from (after s n) (Some n) count) < count → NoneRuns (run (after s n) (robin_from (after s n) (Some n) count)).core AnyNumber)
        → NoneRuns (run s (then_issued o (λ n. robin_from (after s n) (Some n) count))).core AnyNumber
    by None is lt rest = none_next s.core last is
    by (Some n) is lt rest = rest n (omega arith)

heads : (x y : ℕ) (xs ys : List ℕ) → x ∷ xs ≡ y ∷ ys → (x ≡ y) × (xs ≡ ys)
heads x y xs ys e = (cc, cc)

pub issues_next : (s : State) (last : Option ℕ) (count : ℕ) → IsState s → (before : List ℕ) (n : ℕ) (behind : List ℕ)
    → robin_from s last count ≡ before ++ n ∷ behind → IsNext (run s before).core (last_item last before) n
unfolding robin_from run
issues_next s last zero h [] n behind e = cc
issues_next s last zero h (m ∷ before) n behind e = cc
issues_next s last (suc count) h [] n behind e = by (next_running s.core.rows last) refl e
  where
    by : (o : Option ℕ) → next_running s.core.rows last ≡ o → then_issued o (λ k. robin_from (after s k) (Some k) count) ≡ n ∷ behind → IsNext s.core last n
    by None is e = cc
    by (Some k) is e =
        let same = (heads k n (robin_from (after s k) (Some k) count) behind e).0 in
        next_is s.core last n h.core.rising (is ∙ ap (λ (j : ℕ). Some j) same)
issues_next s last (suc count) h (m ∷ before) n behind e = by (next_running s.core.rows last) e (λ k. issues_next (after s m) (Some m) count (after_state s m h) before n behind k)
  where
    by : (o : Option ℕ) → then_issued o (λ k. robin_from (after s k) (Some k) count) ≡ m ∷ (before ++ n ∷ behind)
        → (robin_from (after s m) (Some m) count ≡ before ++ n ∷ behind → IsNext (run (after s m) before).core
        (last_item (Some m) before) n)
        → IsNext (run (after s m) before).core (last_item (Some m) before) n
    by None e later = cc
    by (Some k) e later =
        let same = heads k m (robin_from (after s k) (Some k) count) (before ++ n ∷ behind) e in
        later (ap (λ j. robin_from (after s j) (Some j) count) (sym same.0) ∙ same.1)
