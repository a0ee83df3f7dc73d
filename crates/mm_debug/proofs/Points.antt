-- A session that goes to a point stands for the images for which both stood.
use Rattle.std.proofs.Common.{◌≡◌, ℕ, zero, suc, ◌≤◌, inl, inr, List, [], ◌∷◌, ◌++◌, length, map, take, Option, Some}
use Rattle.std.proofs.{Common.{None, refl, sym, ap, subst, ◌∙◌, arith}, lemmas.{Bool.cases_lt, List.length-replicate}}
use Rattle.std.proofs.Math.Logic.{∥∥₁_map}
use Rattle.mm_model.specs.{State.{State, output_of}, Image.{Image, start}}
use Rattle.mm_model.specs.{Run.{after, run, next_running, then_issued, robin_from}, Fits.{identity_of, slots_of}}
use Rattle.mm_model.proofs.CoreRows.{has_group_by}
use Rattle.mm_sched.specs.declared.schedule.Order.{Order}
use Rattle.mm_machine.specs.{Validity.IsValid, Snapshot.{IsSnapshotOf, CanRestore, restored}}
use Rattle.mm_machine.proofs.{Keeping.valid_after, Went.run_both}
use Rattle.mm_debug.specs.Session.{Session, total_of}
use Rattle.mm_debug.specs.Standing.{run_items, GoesOnAfter, StandsFor, Point, total_at, PointStandsFor}
use Rattle.mm_debug.proofs.{AnyRuns.run_goes_on, SameStates.{IsQuiet, kept_quiet, AreAlike, same_state}}
use Rattle.mm_sched.specs.declared.schedule.Order.TheVariants as order

-- 1. Of two counts of cycles, the items of the lesser are the first of those of the greater.

record IsFront (items all : List ℕ) : Type 0 where
  rest : List ℕ
  is : all ≡ items ++ rest

robin_front : (s : State) (last : Option ℕ) (few many : ℕ) → few ≤ many → IsFront (robin_from s last few) (robin_from s last many)
unfolding robin_from
robin_front s last zero many le = record { rest = robin_from s last many; is = refl }
robin_front s last (suc few) zero le = absurd (omega arith)
robin_front s last (suc few) (suc many) le = by (next_running s.core.rows last) (λ n. robin_front (after s n) (Some n) few many (omega arith))
  where
    by : (o : Option ℕ) → ((n : ℕ) → IsFront (robin_from (after s n) (Some n) few) (robin_from (after s n) (Some n) many))
        → IsFront (then_issued o (λ n. robin_from (after s n) (Some n) few)) (then_issued o (λ n. robin_from (after s n) (Some n) many))
    by None later = record { rest = []; is = refl }
    by (Some n) later = let front = later n in record { rest = front.rest; is = ap (λ (items : List ℕ). n ∷ items) front.is }

list_front : (items : List ℕ) (few many : ℕ) → few ≤ many → IsFront (take few items) (take many items)
list_front items zero many le = record { rest = take many items; is = refl }
list_front items (suc few) zero le = absurd (omega arith)
list_front [] (suc few) (suc many) le = record { rest = []; is = refl }
list_front (n ∷ items) (suc few) (suc many) le = let front = list_front items few many (omega arith) in record { rest = front.rest; is = ap (λ (xs : List ℕ). n ∷ xs) front.is }

front_of : (i : Image) (o : Order) (few many : ℕ) → few ≤ many → IsFront (run_items i o few) (run_items i o many)
front_of i order.Robin few many le = robin_front (start i) None few many le
front_of i (order.List items) few many le = list_front items few many le

run_front : (s : State) (items all : List ℕ) (f : IsFront items all) → run s all ≡ run (run s items) f.rest
run_front s items all f = ap (run s) f.is ∙ run_both s items f.rest

-- 2. Two states of one run.

kept_run : (s : State) (items : List ℕ) → IsValid s → IsValid (run s items)
unfolding run
kept_run s [] kept = kept
kept_run s (n ∷ items) kept = kept_run (after s n) items (valid_after s n kept)

begun_count : (i : Image) → length (start i).core.outputs ≡ 64
unfolding start
begun_count i = length-replicate {A = List ℕ} 64 []

run_count : (i : Image) (items : List ℕ) → length (run (start i) items).core.outputs ≡ 64
run_count i items = (run_goes_on (start i) items).core.count ∙ begun_count i

runs_alike : (i : Image) (items others : List ℕ) → AreAlike (run (start i) items) (run (start i) others)
runs_alike i items others =
    let one = run_goes_on (start i) items in
    let other = run_goes_on (start i) others in
    record {
      version = one.core.version ∙ sym other.core.version;
      split = one.core.split ∙ sym other.core.split;
      frames = one.frames ∙ sym other.frames;
    }

nothing_in : (bytes : List ℕ) → length bytes ≤ 0 → bytes ≡ []
nothing_in [] few = refl
nothing_in (b ∷ bytes) few = absurd (omega arith)

-- an output that is empty was empty before
quiet_before : (t : State) (items : List ℕ) → length t.core.outputs ≡ 64
    → map identity_of (slots_of t.core) ≡ map identity_of (slots_of (run t items).core) → IsQuiet (run t items).core → IsQuiet t.core
quiet_before t items count same later = record {
  count = count;
  silent = λ g none.
      let nothing : output_of (run t items).core g ≡ [] = later.silent g (sym (has_group_by (run t items).core t.core g same) ∙ none) in
      let grows : length (output_of t.core g) ≤ length (output_of (run t items).core g) = (run_goes_on t items).core.grows g in
      nothing_in (output_of t.core g) (omega (arith, ap length nothing));
}

abbrev state_at : Image → Order → ℕ → State
state_at i o total = run (start i) (run_items i o total)

module _ (i : Image) (s : Session) (p : Point) (kept : ∥ IsValid s.state ∥₁) (stands : StandsFor i s) (point : PointStandsFor i s.order p) (can : CanRestore s.state p.snapshot) where
  quiet_later : total_of s ≤ total_at p → IsQuiet (state_at i s.order (total_at p)).core
  quiet_later le =
      let front = front_of i s.order (total_of s) (total_at p) le in
      let is : state_at i s.order (total_at p) ≡ run s.state front.rest =
      run_front (start i) (run_items i s.order (total_of s)) (run_items i s.order (total_at p)) front ∙ ap (λ (t : State). run t front.rest)
      (sym stands.state) in
      kept_quiet (state_at i s.order (total_at p)) (subst (λ (t : State). ∥ IsValid t ∥₁) (sym is) (∥∥₁_map kept (λ k. kept_run s.state front.rest k)))

  quiet_earlier : total_at p ≤ total_of s → IsQuiet (state_at i s.order (total_at p)).core
  quiet_earlier le =
      let front = front_of i s.order (total_at p) (total_of s) le in
      let is : s.state ≡ run (state_at i s.order (total_at p)) front.rest = stands.state ∙ run_front (start i) (run_items i s.order (total_at p)) (run_items i s.order (total_of s)) front in
      quiet_before (state_at i s.order (total_at p)) front.rest (run_count i (run_items i s.order (total_at p)))
      (ap (map identity_of) (sym point.state.slots) ∙ can.slots ∙ ap (λ (t : State). map identity_of (slots_of t.core)) is)
      (subst (λ (t : State). IsQuiet t.core) is (kept_quiet s.state kept))

  quiet_there : IsQuiet (state_at i s.order (total_at p)).core
  quiet_there = elim (cases_lt (total_of s) (total_at p)) as (λ _. IsQuiet (state_at i s.order (total_at p)).core) [
    | inl lt ↦ quiet_later (omega arith)
    | inr ge ↦ quiet_earlier ge
  ]

  alike_there : AreAlike s.state (state_at i s.order (total_at p))
  alike_there = subst (λ (t : State). AreAlike t (state_at i s.order (total_at p))) (sym stands.state) (runs_alike i (run_items i s.order (total_of s)) (run_items i s.order (total_at p)))

  went : (u : State) → u ≡ restored s.state p.snapshot → IsSnapshotOf u p.snapshot → ∥ IsValid u ∥₁ → u ≡ state_at i s.order (total_at p)
  went u made shown kept_now =
      let there : State = state_at i s.order (total_at p) in
      same_state u there p.snapshot
      (subst (λ (t : State). AreAlike t there) (sym made)
      (record { version = alike_there.version; split = alike_there.split; frames = alike_there.frames })) shown point.state
      (kept_quiet u kept_now)
      quiet_there

-- 3. Sessions that go to points.

abbrev at_point : Session → Point → State → Session
at_point s p state = record s { last = p.last; state = state }

pub gone_stands : (i : Image) (s : Session) (p : Point) (u : State) → u ≡ restored s.state p.snapshot → IsSnapshotOf u p.snapshot → ∥ IsValid s.state ∥₁ → ∥ IsValid u ∥₁
    → CanRestore s.state p.snapshot
    → StandsFor i s → PointStandsFor i s.order p → StandsFor i (at_point s p u)
gone_stands i s p u made shown before now can stands point = record {
  state = went i s p before stands point can u made shown now ∙ ap (λ n. run (start i) (run_items i s.order n)) shown.cycles;
  place = subst (λ (n : ℕ). GoesOnAfter s.order p.last (run_items i s.order n)) shown.cycles point.place;
}
