-- Each finding is met by its schedule, and by none before it.
use Rattle.std.proofs.Common.{◌≡◌, ◌⊎◌, inl, inr, ℕ, ◌<◌, Bool, true, false, List, [], ◌∷◌, ◌++◌, map, zip, length, Option, Some, None, refl, sym, ap, ◌∙◌, subst, arith}
use Rattle.std.proofs.lemmas.List.{length-map, Elements.{Contains-append_cases, Contains-append_left, Contains-append_right}}
use Rattle.std.specs.{Prelude.Contains, List.flat_map}
use Rattle.mm_word.specs.Cause.{cause_numbers}
use Rattle.mm_model.specs.{Image.{Image, start}, Report.groups_of, Slot.Slot, Spelling.IsImage, Run.run}
use Rattle.mm_span.specs.Pairs.{EachPair}
use Rattle.mm_explore.specs.Moves.{moves}
use Rattle.mm_explore.specs.Schedules.{Before}
use Rattle.mm_explore.specs.Explored.{IsExplored}
use Rattle.mm_explore.specs.Findings.{Extension, extended, turn_at, extensions, explored_turns, has_fault, first_fault}
use Rattle.mm_explore.specs.declared.explored.Ending.{Ending, TheVariants.{Ended, Stuck, Endless}}
use Rattle.mm_explore.specs.{Closed.{LeadsOn, IsAtEnd, IsEndless, IsFirstEndless}, Findings.IsFinal}
use Rattle.mm_explore.specs.Finds.{Finds, fault_of, faults_of, as_output, outcome_found, outcomes_of}
use Rattle.mm_explore.specs.{Laws.{MeetsFault, MeetsOutcome, IsFirst, FindingsAreMet}, Searching.{Cover, UpTo}}
use Rattle.mm_explore.specs.Outcomes.{Outcome, End, IsEnding, IsOutcome, SelectsEndless, firsts, count_of}
use Rattle.mm_explore.specs.Results.{Results, FaultFound, OutcomeFound}
use Rattle.mm_explore.proofs.Orders.{before_self, before_up_to, up_to_before, before_front, up_to_both, before_both}
use Rattle.mm_explore.proofs.Orders.{before_items, before_through}
use Rattle.mm_span.proofs.Members.{none_in, in_cases, all_at, all_of, map_in, in_map, flat_in, pairs_both, pairs_map, first_found, found_in}
use Rattle.mm_explore.proofs.{Movings.runs_rise, Coverings.{covers, alike}, FoundOnRuns.{faulting_moves, explores}}
use Rattle.mm_explore.proofs.Finals.{Stands, firsts_inside, first_stands}
use Rattle.mm_explore.proofs.{ClosedSets.{on_same, final_like, finals_are_closed}, FirstOnes.first_endless, TellsEnds.end_for}
use Rattle.mm_explore.proofs.{Selections.{selected, is_selected, selected_in_order, pairs_behind}}
use Rattle.mm_explore.proofs.SetOutcomes.{no_moves_final, outcome_there, outcome_one, outcome_slots, outcome_outputs}

-- 1. The turns explored are in the order of their schedules.

abbrev pub Earlier : Extension → Extension → Type 0
Earlier x y = Before (extended x) (extended y)

module _ (i : Image) (img : IsImage i) where
  own_in_order : (t : List ℕ) → EachPair Earlier (extensions i t)
  own_in_order t =
      let make : ℕ → Extension = λ m. record { schedule = t; item = m } in
      pairs_map ◌<◌ Earlier make (moves (run (start i) t)) (λ a b left right lt. before_items t a b lt) (runs_rise i t img)

  -- a turn explored is that of a schedule of the list
  pub schedule_in : (list : List (List ℕ)) (x : Extension) → Contains (flat_map (extensions i) list) x → Contains list x.schedule
  schedule_in list x inside =
      let k = flat_in (extensions i) list x inside in
      let make : ℕ → Extension = λ m. record { schedule = k.source; item = m } in
      let from = map_in make (moves (run (start i) k.source)) x k.has in
      subst (Contains list) (ap (λ (y : Extension). y.schedule) from.gives) k.inside

  schedule_own : (t : List ℕ) (x : Extension) → Contains (extensions i t) x → t ≡ x.schedule
  schedule_own t x inside =
      let make : ℕ → Extension = λ m. record { schedule = t; item = m } in
      let from = map_in make (moves (run (start i) t)) x inside in
      ap (λ (y : Extension). y.schedule) from.gives

  pub turns_in_order : (list : List (List ℕ)) → EachPair Before list → EachPair Earlier (flat_map (extensions i) list)
  turns_in_order [] up = tt
  turns_in_order (t ∷ list) up =
      pairs_both Earlier (extensions i t) (flat_map (extensions i) list) (own_in_order t) (turns_in_order list up.1) (λ x y left right.
      before_both x.schedule y.schedule x.item y.item
      (subst (λ z. Before z y.schedule) (schedule_own t x left) (all_at (Before t) list y.schedule up.0 (schedule_in list y right))))

  module _ (limit : ℕ) (list : List (List ℕ)) (k : IsExplored i limit list) where
    -- 2. Faults.

    module _ (slot cause : ℕ) (x : Extension) (is : first_fault i list slot cause ≡ Some x) where
      faults : Extension → Bool
      faults y = has_fault slot cause (turn_at i y).step

      found : Contains (explored_turns i list) x × (has_fault slot cause (turn_at i x).step ≡ true)
      found = found_in (λ y. has_fault slot cause (turn_at i y).step) (explored_turns i list) x is

      inside : Contains list x.schedule
      unfolding explored_turns
      inside = schedule_in list x found.0

      -- no covered turn before it has the fault
      none_covered : (y : Extension) → Before (extended y) (extended x) → has_fault slot cause (turn_at i y).step ≡ true → Cover i list y.schedule → ⊥
      unfolding explored_turns
      none_covered y before fault c =
          let z : Extension = record { schedule = c.by; item = y.item } in
          let on = (alike i c.by y.schedule c.same).each y.item in
          let again : has_fault slot cause (turn_at i z).step ≡ true = ap (has_fault slot cause) on.step ∙ fault in
          let there = explores i list c.by y.item c.inside (faulting_moves (run (start i) c.by) y.item slot cause again) in
          let early : Before (extended z) (extended x) = up_to_before (extended z) (extended y) (extended x) (up_to_both c.by y.schedule y.item c.early) before in
          elim (first_found Earlier (λ y. has_fault slot cause (turn_at i y).step) (explored_turns i list) (turns_in_order list k.in_order) x z is there again) [
            | inl same ↦ before_self (extended x) (subst (λ (w : Extension). Before (extended w) (extended x)) (sym same) early)
            | inr later ↦ before_self (extended x) (before_up_to (extended x) (extended z) (extended x) later (inr early))
          ]

      none_before : (u : List ℕ) → Before u (extended x) → MeetsFault i slot cause u → ⊥
      none_before u before meets =
          let y = meets.last in
          let early = subst (λ w. Before w (extended x)) (sym meets.whole) before in
          covers i limit list k x.schedule inside y.schedule (before_front y.schedule x.schedule y.item x.item early) (none_covered y early meets.faults)

      pub fault_first : IsFirst (MeetsFault i slot cause) (extended x)
      fault_first = record { met = record { last = x; whole = refl; faults = found.1 }; first = none_before }

-- 3. Outcomes.

-- members of a kind are in the order of their schedules: final ones, and endless ones
abbrev Ordered : Image → List ℕ → List ℕ → Type 0
Ordered i s t = (IsFinal i s → IsFinal i t → Before s t) × (IsEndless i s → IsEndless i t → Before s t)

pairs_of_map : {X Y : Type 0} (R : Y → Y → Type 0) (f : X → Y) (xs : List X) → EachPair R (map f xs) → EachPair (λ x y. R (f x) (f y)) xs
pairs_of_map R f [] h = tt
pairs_of_map R f (x ∷ xs) h = (all_of (λ y. R (f x) (f y)) xs (λ y inside. all_at (R (f x)) (map f xs) (f y) h.0 (in_map f xs y inside)), pairs_of_map R f xs h.1)

ending_final : (i : Image) (t : List ℕ) (e : Ending) → IsEnding i t e → (e ≡ Endless → ⊥) → IsFinal i t
ending_final i t Ended none other = no_moves_final i t none
ending_final i t Stuck h other = h.0
ending_final i t Endless h other = absurd (other refl)

ending_turns : (i : Image) (t : List ℕ) (e : Ending) → IsEnding i t e → e ≡ Endless → IsEndless i t
ending_turns i t e h is = subst (IsEnding i t) is h

ending_or : (e : Ending) → (e ≡ Endless) ⊎ (e ≡ Endless → ⊥)
ending_or Ended = inr (λ e. cc)
ending_or Stuck = inr (λ e. cc)
ending_or Endless = inl refl

-- a schedule leads into a closed set with this outcome
pub record LeadsInto (i : Image) (o : Outcome) (s : List ℕ) : Type 0 where
  pub closed : IsAtEnd i s
  pub is : IsOutcome i s o

module _ (i : Image) (limit : ℕ) (e : Results) (img : IsImage i) (k : Finds i limit e) where
  abbrev told : List (List ℕ)
  told = k.are.finals ++ k.are.firsts

  endless_of : (all : Bool) (firsts : List (List ℕ)) → SelectsEndless all i k.list firsts → (t : List ℕ) → Contains firsts t → IsFirstEndless i t
  endless_of true firsts h t inside = (is_selected (IsFirstEndless i) k.list firsts h t inside).1
  endless_of false firsts h t inside = absurd (none_in t (subst (λ l. Contains l t) h inside))

  final_in : (t : List ℕ) → Contains k.are.finals t → Contains k.list t × IsFinal i t
  final_in t inside = is_selected (IsFinal i) k.list k.are.finals k.are.final t inside

  turns_in : (t : List ℕ) → Contains k.are.firsts t → IsFirstEndless i t
  turns_in t inside = endless_of e.all k.are.firsts k.are.endless t inside

  firsts_in_order : (all : Bool) (firsts : List (List ℕ)) → SelectsEndless all i k.list firsts → EachPair Before firsts
  firsts_in_order true firsts h = selected_in_order (IsFirstEndless i) k.list firsts h k.explored.in_order
  firsts_in_order false firsts h = subst (EachPair Before) (sym h) tt

  weaken : (xs : List (List ℕ)) → EachPair Before xs → EachPair (Ordered i) xs
  weaken [] h = tt
  weaken (x ∷ xs) h = (all_of (Ordered i x) xs (λ y inside. let b = all_at (Before x) xs y h.0 inside in (λ f g. b, λ f g. b)), weaken xs h.1)

  ordered : EachPair (Ordered i) told
  ordered = pairs_both (Ordered i) k.are.finals k.are.firsts
      (weaken k.are.finals (selected_in_order (IsFinal i) k.list k.are.finals k.are.final k.explored.in_order))
      (weaken k.are.firsts (firsts_in_order e.all k.are.firsts k.are.endless))
      (λ x y left right. (λ f g. absurd ((turns_in y right).endless.1 g), λ f g. absurd (f.1 (final_in x left).1)))

  ends_ordered : EachPair (λ (a b : End). Ordered i a.schedule b.schedule) k.ends
  ends_ordered = pairs_of_map (Ordered i) (λ (x : End). x.schedule) k.ends (subst (EachPair (Ordered i)) (sym k.are.are.schedules) ordered)

  module _ (x : End) (first : Contains (firsts k.ends) x) where
    abbrev t : List ℕ
    t = x.schedule

    end_inside : Contains k.ends x
    end_inside = firsts_inside k.ends x first

    has : IsOutcome i t x.outcome
    has = all_at (λ (y : End). IsOutcome i y.schedule y.outcome) k.ends x k.are.are.outcomes end_inside

    among : Contains k.are.finals t ⊎ Contains k.are.firsts t
    among = Contains-append_cases k.are.finals k.are.firsts t (subst (λ l. Contains l t) k.are.are.schedules (in_map (λ (y : End). y.schedule) k.ends x end_inside))

    met : LeadsInto i x.outcome t
    met = record { closed = elim among [ inl f ↦ (finals_are_closed i t (final_in t f).1).closed | inr f ↦ (turns_in t f).endless.0 ]; is = has }

    none_sooner : (u : List ℕ) → Before u t → LeadsInto i x.outcome u → ⊥
    none_sooner u before leads = elim (ending_or x.outcome.ending) [
      | inr final ↦ final_case final
      | inl turns ↦ turns_case turns
    ]
      where
        -- the end of a schedule that is told, with the same outcome, and no later than u
        clash : (v : List ℕ) → Contains told v → LeadsOn i u v → UpTo v u → (IsFinal i t × IsFinal i v) ⊎ (IsEndless i t × IsEndless i v) → ⊥
        clash v there on early kinds =
            let end = end_for i told k.ends k.are.are v there in
            let same : end.end.outcome ≡ x.outcome =
            outcome_one i v end.end.outcome x.outcome (subst (λ s. IsOutcome i s end.end.outcome) end.is end.outcome) (outcome_there i img u v leads.closed on x.outcome leads.is) in
            elim (first_stands k.ends x end.end first end.inside same) [
              | Stands.same e ↦ before_self t (up_to_before t u t (subst (λ s. UpTo s u) (sym end.is ∙ ap (λ (y : End). y.schedule) e) early) before)
              | Stands.after front back split later ↦
                  let pair = pairs_behind (λ (a b : End). Ordered i a.schedule b.schedule) front x back (subst (EachPair (λ (a b : End). Ordered i a.schedule b.schedule)) split ends_ordered) end.end later in
                  let behind : Before t v = elim kinds [
                    | inl f ↦ subst (Before t) end.is (pair.0 f.0 (subst (IsFinal i) (sym end.is) f.1))
                    | inr f ↦ subst (Before t) end.is (pair.1 f.0 (subst (IsEndless i) (sym end.is) f.1))
                  ] in
                  before_self t (before_through t v t behind (up_to_before v u t early before))
            ]

        final_case : (x.outcome.ending ≡ Endless → ⊥) → ⊥
        final_case other =
            let final_t = ending_final i t x.outcome.ending has.ending other in
            let final_u = ending_final i u x.outcome.ending leads.is.ending other in
            let place : Contains k.list t = elim among [ inl f ↦ (final_in t f).0 | inr f ↦ absurd ((turns_in t f).endless.1 final_t) ] in
            covers i limit k.list k.explored t place u (inr before) (λ c.
            let final_c = final_like i u c.by (sym c.same) final_u in
            clash c.by (Contains-append_left k.are.finals k.are.firsts c.by (selected (IsFinal i) k.list k.are.finals k.are.final c.by c.inside final_c))
            (on_same i u c.by (sym c.same)) c.early (inl (final_t, final_c)))

        turns_case : x.outcome.ending ≡ Endless → ⊥
        turns_case turns =
            let endless_t = ending_turns i t x.outcome.ending has.ending turns in
            let endless_u = ending_turns i u x.outcome.ending leads.is.ending turns in
            let full : Contains k.are.firsts t = elim among [ inl f ↦ absurd (endless_t.1 (final_in t f).1) | inr f ↦ f ] in
            by e.all refl k.are.endless full endless_t endless_u
          where
            by : (all : Bool) → e.all ≡ all → SelectsEndless all i k.list k.are.firsts → Contains k.are.firsts t → IsEndless i t → IsEndless i u → ⊥
            by false is selects full endless_t endless_u = none_in t (subst (λ l. Contains l t) selects full)
            by true is selects full endless_t endless_u =
                let f = first_endless i limit k.list k.explored (k.all is) u endless_u in
                clash f.first (Contains-append_right k.are.finals k.are.firsts f.first (selected (IsFirstEndless i) k.list k.are.firsts selects f.first f.inside f.is))
                f.on f.early (inr (endless_t, f.is.endless))

    pub outcome_first : IsFirst (LeadsInto i x.outcome) t
    outcome_first = record { met = met; first = none_sooner }

-- 4. What is told of an outcome is the outcome.

zips_tell : {X Y : Type 0} (xs : List X) (a b : List Y) → length a ≡ length xs → length b ≡ length xs → zip xs a ≡ zip xs b → a ≡ b
zips_tell [] [] [] la lb e = refl
zips_tell [] (y ∷ a) b la lb e = cc
zips_tell [] [] (y ∷ b) la lb e = cc
zips_tell (x ∷ xs) [] b la lb e = cc
zips_tell (x ∷ xs) (y ∷ a) [] la lb e = cc
zips_tell {X = X} {Y = Y} (x ∷ xs) (y ∷ a) (z ∷ b) la lb e =
    let pair : ◌≡◌ {A = X × Y} (x, y) (x, z) = cc in
    let head : y ≡ z = ap (λ (p : X × Y). p.1) pair in
    let tail : zip xs a ≡ zip xs b = cc in
    let rest = zips_tell xs a b (omega (arith, la)) (omega (arith, lb)) tail in
    λ j. head j ∷ rest j

outputs_back : (a b : List (ℕ × List ℕ)) → map as_output a ≡ map as_output b → a ≡ b
outputs_back [] [] e = refl
outputs_back [] (y ∷ b) e = cc
outputs_back (x ∷ a) [] e = cc
outputs_back (x ∷ a) (y ∷ b) e =
    let head : as_output x ≡ as_output y = cc in
    let tail : map as_output a ≡ map as_output b = cc in
    let rest = outputs_back a b tail in
    λ j. ((head j).group, (head j).bytes) ∷ rest j

told_once : (i : Image) (img : IsImage i) (s t : List ℕ) (a b : Outcome) → IsOutcome i s a → IsOutcome i t b → (m n : ℕ) (x y : List ℕ) → outcome_found i m a x ≡ outcome_found i n b y → a ≡ b
told_once i img s t a b ha hb m n x y e =
    let numbers : List ℕ = map (λ (z : Slot). z.number) i.slots in
    let groups : List ℕ = groups_of (start i).core in
    let long = length-map i.slots (λ (z : Slot). z.number) in
    let ending = ap (λ (o : OutcomeFound). o.ending) e in
    let slots = zips_tell numbers a.slots b.slots (outcome_slots i img s a ha ∙ sym long) (outcome_slots i img t b hb ∙ sym long) (ap (λ (o : OutcomeFound). o.slots) e) in
    let outputs = zips_tell groups a.outputs b.outputs (outcome_outputs i s a ha) (outcome_outputs i t b hb)
    (outputs_back (zip groups a.outputs) (zip groups b.outputs) (ap (λ (o : OutcomeFound). o.outputs) e)) in
    λ j. record { ending = ending j; slots = slots j; outputs = outputs j }

-- 5. All findings.

record FaultOf (i : Image) (list : List (List ℕ)) (f : FaultFound) : Type 0 where
  turn : Extension
  is : first_fault i list f.slot f.cause ≡ Some turn
  by : f.by ≡ extended turn

one_fault : (i : Image) (list : List (List ℕ)) (slot cause : ℕ) (o : Option Extension) → first_fault i list slot cause ≡ o → (f : FaultFound) → Contains (fault_of slot cause o) f → FaultOf i list f
one_fault i list slot cause None e f inside = absurd (none_in f inside)
one_fault i list slot cause (Some x) e f inside = elim (in_cases (record { slot = slot; cause = cause; by = extended x }) [] f inside) [
  | inl same ↦ subst (FaultOf i list) same (record { turn = x; is = e; by = refl })
  | inr never ↦ absurd (none_in f never)
]

fault_from : (i : Image) (list : List (List ℕ)) (f : FaultFound) → Contains (faults_of i list) f → FaultOf i list f
unfolding faults_of
fault_from i list f inside =
    let s = flat_in (λ (s : Slot). flat_map (λ cause. fault_of s.number cause (first_fault i list s.number cause)) cause_numbers) i.slots f inside in
    let c = flat_in (λ cause. fault_of s.source.number cause (first_fault i list s.source.number cause)) cause_numbers f s.has in
    one_fault i list s.source.number c.source (first_fault i list s.source.number c.source) refl f c.has

pub findings_are_met : FindingsAreMet
unfolding outcomes_of
findings_are_met i limit e img k = record {
  faults = λ f inside.
      let from = fault_from i k.list f (subst (λ l. Contains l f) k.faults inside) in
      subst (IsFirst (MeetsFault i f.slot f.cause)) (sym from.by) (fault_first i img limit k.list k.explored f.slot f.cause from.turn from.is);
  outcomes = λ o inside.
      let from = map_in (λ (x : End). outcome_found i (count_of k.ends x.outcome) x.outcome x.schedule) (firsts k.ends) o (subst (λ l. Contains l o) k.outcomes inside) in
      let x = from.source in
      let first = outcome_first i limit e img k x from.inside in
      subst (λ o. IsFirst (MeetsOutcome i o) o.by) from.gives (record {
        met = record { closed = first.met.closed; outcome = x.outcome; is = first.met.is; told = refl };
        first = λ u before m. first.first u before (record {
          closed = m.closed;
          is = subst (IsOutcome i u) (told_once i img u x.schedule m.outcome x.outcome m.is first.met.is _ _ _ _ (sym m.told)) m.is;
        });
      });
}
