-- What was noted of all turns explored is what an exploration finds.
use Rattle.std.proofs.Common.{◌≡◌, inl, inr, ℕ, ◌<◌, Bool, true, false, if◌then◌else◌, List, [], ◌∷◌, ◌++◌, map, length}
use Rattle.std.proofs.Common.{zero, suc, Option, Some, None, slice_get, refl, sym, subst}
use Rattle.std.proofs.lemmas.Option.{slice_get_within}
use Rattle.std.specs.{Prelude.{Contains, IfSome, slice_index_or}, List.{AllZip, flat_map}}
use Rattle.mm_word.specs.{Cause.cause_numbers, declared.perm.Kind.Kind, Access.AccessValue}
use Rattle.mm_model.specs.{Image.{Image}, Slot.Slot, Trace.{touches, group_in}, Counted.writes}
use Rattle.mm_explore.specs.declared.found.Origin.{Origin}
use Rattle.mm_explore.specs.Findings.{Extension, turn_at, explored_turns, Reaches, IsReached, any_kind, first_fault}
use Rattle.mm_explore.specs.{Finds.{IsGroupOf, fault_of, faults_of}, Noting.{IsFrom, fault_kept}}
use Rattle.mm_explore.specs.{Finds.{outcome_found, outcomes_of}, Outcomes.{End, firsts, count_of}, Results.{GroupFound, OutcomeFound}}
use Rattle.mm_explore.specs.Words.{AreKept, IsGroupFound, passed_words, turn_words}
use Rattle.mm_span.proofs.Members.{none_in, in_first, in_cases, in_flat, flat_in}
use Rattle.mm_span.proofs.Runs.{spans_alike}

-- 1. Words.

module _ (passes : Kind → Bool) where
  -- what is among the words of an access
  record Passed (group : ℕ) (access : AccessValue) (key : ℕ × ℕ) : Type 0 where
    kind : passes access.kind ≡ true
    is : let k : ℕ × ℕ = (group, access.addr) in k ≡ key

  passed_in : (group : ℕ) (access : AccessValue) (key : ℕ × ℕ) → Contains (passed_words passes group access) key → Passed group access key
  passed_in group access key there = by (passes access.kind) refl there
    where
      by : (b : Bool) → passes access.kind ≡ b → Contains {X = ℕ × ℕ} (if b then (group, access.addr) ∷ [] else []) key → Passed group access key
      by true e inside = elim (in_cases (group, access.addr) [] key inside) [
        | inl is ↦ record { kind = e; is = is }
        | inr later ↦ absurd (none_in key later)
      ]
      by false e inside = absurd (none_in key inside)

  in_passed : (group : ℕ) (access : AccessValue) → passes access.kind ≡ true → Contains {X = ℕ × ℕ} (passed_words passes group access) (group, access.addr)
  in_passed group access e =
      let key : ℕ × ℕ = (group, access.addr) in
      subst (λ (b : Bool). Contains {X = ℕ × ℕ} (if b then key ∷ [] else []) key) (sym e) (in_first key [])

  module _ (i : Image) (list : List (List ℕ)) (group word : ℕ) where
    reaches : Contains (flat_map (turn_words passes i) (explored_turns i list)) (group, word) → Reaches passes i list group word
    reaches there =
        let turn = flat_in (turn_words passes i) (explored_turns i list) (group, word) there in
        let x = turn.source in
        let made = flat_in (passed_words passes (group_in (turn_at i x))) (touches (turn_at i x).step) (group, word) turn.has in
        let passed = passed_in (group_in (turn_at i x)) made.source (group, word) made.has in
        record {
          turn = x;
          explored = turn.inside;
          access = made.source;
          made = made.inside;
          kind = passed.kind;
          by = λ j. (passed.is j).0;
          at = λ j. (passed.is j).1;
        }

    reached_in : Reaches passes i list group word → Contains (flat_map (turn_words passes i) (explored_turns i list)) (group, word)
    reached_in r =
        let key : ◌≡◌ {A = ℕ × ℕ} (group_in (turn_at i r.turn), r.access.addr) (group, word) = λ j. (r.by j, r.at j) in
        subst (Contains (flat_map (turn_words passes i) (explored_turns i list))) key
        (in_flat (turn_words passes i) (explored_turns i list) r.turn (group_in (turn_at i r.turn), r.access.addr) r.explored
        (in_flat (passed_words passes (group_in (turn_at i r.turn))) (touches (turn_at i r.turn).step) r.access (group_in (turn_at i r.turn), r.access.addr) r.made
        (in_passed (group_in (turn_at i r.turn)) r.access r.kind)))

module _ (i : Image) (list : List (List ℕ)) (touched wrote : List (ℕ × ℕ))
    (all_touched : AreKept (flat_map (turn_words any_kind i) (explored_turns i list)) touched) (all_wrote : AreKept (flat_map (turn_words writes i) (explored_turns i list)) wrote) where
  group_reached : (group : ℕ) (g : GroupFound) → IsGroupFound touched wrote group g → IsReached i list group g.reached
  group_reached group g h = record {
    touched = spans_alike (λ word. Contains touched (group, word)) (Reaches any_kind i list group)
        (λ word there. reaches any_kind i list group word (all_touched.only (group, word) there))
        (λ word r. all_touched.each (group, word) (reached_in any_kind i list group word r)) g.reached.touched h.touches;
    wrote = spans_alike (λ word. Contains wrote (group, word)) (Reaches writes i list group)
        (λ word there. reaches writes i list group word (all_wrote.only (group, word) there))
        (λ word r. all_wrote.each (group, word) (reached_in writes i list group word r)) g.reached.wrote h.writes;
  }

  pub groups_found : (groups : List ℕ) (gs : List GroupFound) → AllZip (IsGroupFound touched wrote) groups gs → AllZip (IsGroupOf i list) groups gs
  groups_found [] [] h = tt
  groups_found [] (g ∷ gs) h = h
  groups_found (n ∷ groups) [] h = h
  groups_found (n ∷ groups) (g ∷ gs) h = (record { group = h.0.number; reached = group_reached n g h.0 }, groups_found groups gs h.1)

-- 2. Faults.

pub at_index : {X : Type 0} (xs : List X) (k : ℕ) (x d : X) → slice_get xs k ≡ Some x → slice_index_or xs k d ≡ x
at_index [] k x d e = cc
at_index (y ∷ xs) zero x d e = cc
at_index (y ∷ xs) (suc k) x d e = at_index xs k x d e

fault_found : (list : List (List ℕ)) (slot cause : ℕ) (x : Option Extension) (o : Option Origin) → IsFrom list x o → fault_kept list slot cause o ≡ fault_of slot cause x
fault_found list slot cause None None h = refl
fault_found list slot cause None (Some o) h = absurd h
fault_found list slot cause (Some x) None h = absurd h
fault_found list slot cause (Some x) (Some o) h =
    let schedule = at_index list o.from x.schedule [] h.schedule in
    let item = h.item in
    λ j. record { slot = slot; cause = cause; by = schedule j ++ item j ∷ [] } ∷ []

flat_alike : {X Y : Type 0} (f g : X → List Y) → ((x : X) → f x ≡ g x) → (xs : List X) → flat_map f xs ≡ flat_map g xs
flat_alike f g same [] = refl
flat_alike f g same (x ∷ xs) = let rest = flat_alike f g same xs in let one = same x in λ j. one j ++ rest j

pub faults_found : (i : Image) (list : List (List ℕ)) (kept : ℕ → ℕ → Option Origin) → ((slot cause : ℕ) → IsFrom list (first_fault i list slot cause) (kept slot cause))
    → flat_map (λ (s : Slot). flat_map (λ cause. fault_kept list s.number cause (kept s.number cause)) cause_numbers) i.slots ≡ faults_of i list
unfolding faults_of
faults_found i list kept are =
    flat_alike (λ (s : Slot). flat_map (λ cause. fault_kept list s.number cause (kept s.number cause)) cause_numbers)
    (λ (s : Slot). flat_map (λ cause. fault_of s.number cause (first_fault i list s.number cause)) cause_numbers)
    (λ s. flat_alike (λ cause. fault_kept list s.number cause (kept s.number cause)) (λ cause. fault_of s.number cause (first_fault i list s.number cause))
    (λ cause. fault_found list s.number cause (first_fault i list s.number cause) (kept s.number cause) (are s.number cause)) cause_numbers) i.slots

pub origin_inside : (list : List (List ℕ)) (x : Option Extension) (o : Option Origin) → IsFrom list x o → IfSome o (λ (o : Origin). o.from < length list)
origin_inside list None None h = tt
origin_inside list None (Some o) h = absurd h
origin_inside list (Some x) None h = tt
origin_inside list (Some x) (Some o) h = slice_get_within list o.from x.schedule h.schedule

-- 3. Outcomes.

pub outcomes_are : (i : Image) (ends : List End) (now : List OutcomeFound)
    → now ≡ map (λ (e : End). outcome_found i (count_of ends e.outcome) e.outcome e.schedule) (firsts ends) → now ≡ outcomes_of i ends
unfolding outcomes_of
outcomes_are i ends now is = is
