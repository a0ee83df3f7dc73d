-- If all configurations were found, what comes of every run was found, and the outcome of the closed set into which it
-- leads.
use Rattle.std.proofs.Common.{◌≡◌, inl, inr, ℕ, true, List, [], ◌∷◌, ◌++◌, refl, sym, subst}
use Rattle.std.proofs.lemmas.List.{Elements.{Contains-append_left, Contains-append_right}}
use Rattle.std.specs.{Prelude.{Contains, IsSome, Some, Option, None}, List.{AllZip, flat_map}}
use Rattle.mm_word.specs.{Access.AccessValue, Cause.cause_numbers}
use Rattle.mm_model.specs.{Image.{Image, start}, Report.groups_of, Run.{turn_of, run}, Slot.Slot, Spelling.IsImage}
use Rattle.mm_model.specs.{Trace.{touches, group_in}, Counted.writes}
use Rattle.mm_span.proofs.Members.{none_in, in_first, in_rest, in_cases, in_map, in_flat}
use Rattle.mm_explore.specs.{Closed.{LeadsOn, IsAtEnd, IsFirstEndless}, Explored.{IsAll}}
use Rattle.mm_explore.specs.Findings.{Extension, extended, IsFinal, has_fault, first_fault, any_kind}
use Rattle.mm_explore.specs.Finds.{Finds, IsGroupOf, fault_of, faults_of, outcome_found, outcomes_of}
use Rattle.mm_explore.specs.Laws.{IsFaultFound, IsOutcomeFound, IsRunFound, RunsAreFound}
use Rattle.mm_explore.specs.{Outcomes.{End, IsOutcome, SelectsEndless, firsts, count_of}, Results.{Results, GroupFound, FaultFound, OutcomeFound}}
use Rattle.mm_explore.proofs.{Finals.first_of, FirstOnes.first_endless, FoundOnRuns.{reaches, faults}, Touchers.{toucher_inside, faulter_inside}}
use Rattle.mm_explore.proofs.{ClosedSets.{on_same, end_alike, ends_back, end_led, final_like}, Selections.selected, SetOutcomes.outcome_there}
use Rattle.mm_explore.proofs.{Turning.{final_or, goes_on}, TellsEnds.{HasEnd, end_for}}

-- 1. The end of a schedule that is told.

-- the outcome of a schedule in a closed set, if one of its members is told
found_of : (i : Image) → IsImage i → (ends : List End) (s t : List ℕ) → HasEnd i ends t → IsAtEnd i t → LeadsOn i t s → (e : Results) → e.outcomes ≡ outcomes_of i ends → IsOutcomeFound i e s
unfolding outcomes_of
found_of i img ends s t h closed on e outcomes =
    let first = first_of ends h.end h.inside in
    let make : End → OutcomeFound = λ (x : End). outcome_found i (count_of ends x.outcome) x.outcome x.schedule in
    record {
      outcome = first.one.outcome;
      is = outcome_there i img t s closed on first.one.outcome (subst (IsOutcome i t) first.same (subst (λ u. IsOutcome i u h.end.outcome) h.is h.outcome));
      count = count_of ends first.one.outcome;
      by = first.one.schedule;
      inside = subst (λ l. Contains l (make first.one)) (sym outcomes) (in_map make (firsts ends) first.one first.inside);
    }

-- 2. Words and faults.

record IsGroupFound (i : Image) (list : List (List ℕ)) (gs : List GroupFound) (group : ℕ) : Type 0 where
  found : GroupFound
  inside : Contains gs found
  is : IsGroupOf i list group found

group_found : (i : Image) (list : List (List ℕ)) (groups : List ℕ) (gs : List GroupFound) → AllZip (IsGroupOf i list) groups gs → (g : ℕ) → Contains groups g → IsGroupFound i list gs g
group_found i list [] gs h g inside = absurd (none_in g inside)
group_found i list (x ∷ groups) [] h g inside = absurd h
group_found i list (x ∷ groups) (y ∷ gs) h g inside = elim (in_cases x groups g inside) [
  | inl e ↦ record { found = y; inside = in_first y gs; is = subst (λ n. IsGroupOf i list n y) e h.0 }
  | inr later ↦ let rest = group_found i list groups gs h.1 g later in record { found = rest.found; inside = in_rest y gs rest.found rest.inside; is = rest.is }
]

fault_in : (slot cause : ℕ) (o : Option Extension) → IsSome o → (f : FaultFound) × Contains (fault_of slot cause o) f × (f.slot ≡ slot) × (f.cause ≡ cause)
fault_in slot cause None h = cc
fault_in slot cause (Some x) h =
    let f : FaultFound = record { slot = slot; cause = cause; by = extended x } in
    (f, in_first f [], refl, refl)

module _ (i : Image) (limit : ℕ) (e : Results) (img : IsImage i) (k : Finds i limit e) (full : e.all ≡ true) where
  list : List (List ℕ)
  list = k.list

  all : IsAll i k.list
  all = k.all full

  endless_selected : SelectsEndless true i k.list k.are.firsts
  endless_selected = subst (λ b. SelectsEndless b i k.list k.are.firsts) full k.are.endless

  told : (s t : List ℕ) → Contains (k.are.finals ++ k.are.firsts) t → IsAtEnd i t → LeadsOn i t s → IsOutcomeFound i e s
  told s t inside closed on = found_of i img k.ends s t (end_for i (k.are.finals ++ k.are.firsts) k.ends k.are.are t inside) closed on e k.outcomes

  outcome : (s : List ℕ) → IsAtEnd i s → IsOutcomeFound i e s
  outcome s closed = elim (final_or i k.list k.explored.least all s) [
    | inl final ↦
        let c = all s in
        let t = c.0 in
        let there = final_like i s t (sym c.2) final in
        told s t (Contains-append_left k.are.finals k.are.firsts t (selected (IsFinal i) k.list k.are.finals k.are.final t c.1 there))
        (end_alike i s t (sym c.2) closed) (on_same i t s c.2)
    | inr turns ↦
        let f = first_endless i limit k.list k.explored all s (closed, turns) in
        told s f.first (Contains-append_right k.are.finals k.are.firsts f.first (selected (IsFirstEndless i) k.list k.are.firsts endless_selected f.first f.inside f.is))
        (end_led i s f.first closed f.on) (ends_back i s closed f.first f.on)
  ]

  module _ (s : List ℕ) where
    -- the group of an access is found
    group_for : (item : ℕ) (a : AccessValue) → Contains (touches (turn_of (run (start i) s) item).step) a → IsGroupFound i k.list e.groups (group_in (turn_of (run (start i) s) item))
    group_for item a made = group_found i k.list (groups_of (start i).core) e.groups k.groups (group_in (turn_of (run (start i) s) item)) (toucher_inside i img s item a made)

    fault_for : (item slot cause : ℕ) → has_fault slot cause (turn_of (run (start i) s) item).step ≡ true → IsFaultFound e slot cause
    unfolding faults_of
    fault_for item slot cause fault =
        let c = all s in
        let where_it_is = faulter_inside i img s item slot cause fault in
        let f = fault_in slot cause (first_fault i k.list slot cause) (faults i k.list c.0 s c.1 c.2 item slot cause fault) in
        let by_cause : ℕ → List FaultFound = λ n. fault_of slot n (first_fault i k.list slot n) in
        let by_slot : Slot → List FaultFound = λ (x : Slot). flat_map (λ n. fault_of x.number n (first_fault i k.list x.number n)) cause_numbers in
        record {
          found = f.0;
          inside = subst (λ l. Contains l f.0) (sym k.faults) (in_flat by_slot i.slots where_it_is.slot f.0 where_it_is.inside
              (subst (λ n. Contains (flat_map (λ m. fault_of n m (first_fault i k.list n m)) cause_numbers) f.0) (sym where_it_is.number) (in_flat by_cause cause_numbers cause f.0 where_it_is.cause f.1)));
          slot = f.2;
          cause = f.3;
        }

    pub run_found : IsRunFound i e s
    run_found =
        let c = all s in
        record {
          touched = λ item a made.
              let g = group_for item a made in
              record {
                found = g.found;
                inside = g.inside;
                group = g.is.group;
                at = g.is.reached.touched.each a.addr (reaches i k.list c.0 s c.1 c.2 any_kind item a made refl);
              };
          wrote = λ item a made kind.
              let g = group_for item a made in
              record {
                found = g.found;
                inside = g.inside;
                group = g.is.group;
                at = g.is.reached.wrote.each a.addr (reaches i k.list c.0 s c.1 c.2 writes item a made kind);
              };
          fault = fault_for;
          outcome = outcome s;
          goes_on = goes_on i k.list k.explored.least all s;
        }

pub runs_are_found : RunsAreFound
runs_are_found i limit e img k full s = run_found i limit e img k full s
