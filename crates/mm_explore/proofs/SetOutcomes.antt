-- The members of a closed set have one outcome.
use Rattle.std.proofs.Common.{◌≡◌, ℕ, zero, suc, ◌+◌, List, [], ◌∷◌, ◌++◌, map, length, Some, slice_get}
use Rattle.std.proofs.Common.{slice_set, slice_index_or, refl, sym, ap, ◌∙◌, subst, append_assoc, append-nil, length-append, arith}
use Rattle.std.specs.Prelude.{Contains}
use Rattle.mm_model.proofs.TurnChanges.{OutputMoves, turn_changes}
use Rattle.mm_model.specs.{Fits.{slots_of, identity_of}, Image.{Image, start}, Report.groups_of, Run.{after, run}, Slot.Slot}
use Rattle.mm_model.specs.{Spelling.IsImage, State.{State, output_of}, Turn.turn}
use Rattle.mm_explore.specs.declared.explored.{Ending.{Ending, TheVariants.{Ended, Stuck, Endless}}, Standing.{Standing, TheVariants.{Busy, In}}}
use Rattle.mm_explore.specs.Closed.{LeadsOn, IsAtEnd}
use Rattle.mm_config.specs.Configurations.{uncounted_slot}
use Rattle.mm_explore.specs.Moves.{moves}
use Rattle.mm_explore.specs.Explored.{leads_to}
use Rattle.mm_explore.specs.{Findings.IsFinal, Laws.OutcomesAreOfSets}
use Rattle.mm_explore.specs.Outcomes.{Outcome, IsEnding, IsStanding, AreStanding, IsOutcome, IsSteady, slots_at}
use Rattle.mm_explore.proofs.Coverings.{alike}
use Rattle.mm_explore.proofs.Goings.{same_outputs}
use Rattle.mm_explore.proofs.HeldEnds.{slots_bare}
use Rattle.mm_config.proofs.States.{runs_state_of}
use Rattle.mm_explore.proofs.ClosedSets.{all_alike, ends_back, end_led, final_stays_all, final_like}
use Rattle.mm_span.proofs.Members.{none_in}

-- 1. Outputs only grow.

pub record Grows (was now : List ℕ) : Type 0 where
  pub more : List ℕ
  pub is : now ≡ was ++ more

grows_self : (xs : List ℕ) → Grows xs xs
grows_self xs = record { more = []; is = sym (append-nil xs) }

grows_then : (a b c : List ℕ) → Grows a b → Grows b c → Grows a c
grows_then a b c x y = record { more = x.more ++ y.more; is = y.is ∙ ap (λ l. l ++ y.more) x.is ∙ append_assoc a x.more y.more }

-- what grows into something that grows back is the same
grows_back : (a b : List ℕ) → Grows a b → Grows b a → a ≡ b
grows_back a b x y =
    let there = ap length x.is ∙ length-append a x.more in
    let back = ap length y.is ∙ length-append b y.more in
    sym (x.is ∙ ap (λ l. a ++ l) (nothing x.more (omega (arith, there, back))) ∙ append-nil a)
  where
    nothing : (xs : List ℕ) → length xs ≡ 0 → xs ≡ []
    nothing [] e = refl
    nothing (z ∷ xs) e = absurd (omega (arith, e))

grows_at : (xs : List (List ℕ)) (g h byte : ℕ) → Grows (slice_index_or xs h []) (slice_index_or (slice_set xs g (slice_index_or xs g [] ++ byte ∷ [])) h [])
grows_at [] g h byte = grows_self []
grows_at (x ∷ xs) zero zero byte = record { more = byte ∷ []; is = refl }
grows_at (x ∷ xs) zero (suc h) byte = grows_self (slice_index_or xs h [])
grows_at (x ∷ xs) (suc g) zero byte = grows_self x
grows_at (x ∷ xs) (suc g) (suc h) byte = grows_at xs g h byte

output_grows : (was now : List (List ℕ)) → OutputMoves was now → (g : ℕ) → Grows (slice_index_or was g []) (slice_index_or now g [])
output_grows was now (OutputMoves.Same e) g = subst (λ l. Grows (slice_index_or was g []) (slice_index_or l g [])) (sym e) (grows_self (slice_index_or was g []))
output_grows was now (OutputMoves.Puts p) g = subst (λ l. Grows (slice_index_or was g []) (slice_index_or l g [])) (sym p.outputs) (grows_at was p.group g p.byte)

after_grows : (s : State) (n g : ℕ) → Grows (output_of s.core g) (output_of (after s n).core g)
unfolding after output_of
after_grows s n g = output_grows s.core.outputs (turn s.core s.memory n).core.outputs (turn_changes s.core s.memory n).outputs g

run_grows : (s : State) (items : List ℕ) (g : ℕ) → Grows (output_of s.core g) (output_of (run s items).core g)
unfolding run
run_grows s [] g = grows_self (output_of s.core g)
run_grows s (n ∷ items) g =
    grows_then (output_of s.core g) (output_of (after s n).core g) (output_of (run (after s n) items).core g) (after_grows s n g) (run_grows (after s n) items g)

run_then : (s : State) (xs ys : List ℕ) → run s (xs ++ ys) ≡ run (run s xs) ys
unfolding run
run_then s [] ys = refl
run_then s (x ∷ xs) ys = run_then (after s x) xs ys

output_alike : (s t : State) (g : ℕ) → Rattle.mm_config.specs.Configurations.configuration s ≡ Rattle.mm_config.specs.Configurations.configuration t → output_of s.core g ≡ output_of t.core g
output_alike s t g e = let h = same_outputs s t (g ∷ []) e in cc

-- 2. Members of a closed set.

pub no_moves_final : (i : Image) (t : List ℕ) → moves (run (start i) t) ≡ [] → IsFinal i t
no_moves_final i t none m inside = absurd (none_in m (subst (λ l. Contains l m) none inside))

-- the slots of all runs are as many
slots_long : (i : Image) → IsImage i → (t : List ℕ) → length (slots_at i t) ≡ length i.slots
slots_long i img t =
    let s = run (start i) t in
    ap length (slots_bare s) ∙ long (slots_of s.core) ∙ sym (Rattle.std.proofs.lemmas.List.length-map (slots_of s.core) identity_of)
    ∙ ap length (runs_state_of i t img).fits.same_slots ∙ Rattle.std.proofs.lemmas.List.length-map i.slots identity_of
  where
    long : (slots : List Slot) → length (map uncounted_slot slots) ≡ length slots
    long slots = Rattle.std.proofs.lemmas.List.length-map slots uncounted_slot

module _ (i : Image) (s t : List ℕ) (k : IsAtEnd i s) (on : LeadsOn i s t) where
  back : LeadsOn i t s
  back = ends_back i s k t on

  there : IsAtEnd i t
  there = end_led i s t k on

  stays_here : IsFinal i s → leads_to i s ≡ leads_to i t
  stays_here final = sym (final_stays_all i s on.items final) ∙ on.leads

  ending_there : (e : Ending) → IsEnding i s e → IsEnding i t e
  ending_there Ended none = sym (alike i s t (stays_here (no_moves_final i s none))).moves ∙ none
  ending_there Stuck h = let e = stays_here h.0 in (final_like i s t e h.0, λ none. h.1 ((alike i s t e).moves ∙ none))
  ending_there Endless h = (there, λ final. h.1 (final_like i t s (sym (final_stays_all i t back.items final) ∙ back.leads) final))

  at_there : (items : List ℕ) → slots_at i (t ++ items) ≡ slots_at i (s ++ (on.items ++ items))
  at_there items = ap (λ (c : State). slots_of c.core) (sym (all_alike i (s ++ on.items) t items on.leads) ∙ ap (leads_to i) (append_assoc s on.items items))

  same_there : slots_at i t ≡ slots_at i (s ++ on.items)
  same_there = ap (λ (c : State). slots_of c.core) (sym on.leads)

  steady_there : (n : ℕ) → IsSteady i s n → IsSteady i t n
  steady_there n h items =
      ap (λ l. slice_get l n) (at_there items) ∙ h (on.items ++ items) ∙ sym (h on.items) ∙ sym (ap (λ l. slice_get l n) same_there)

  slot_there : (n : ℕ) → IsSteady i s n → slice_get (slots_at i t) n ≡ slice_get (slots_at i s) n
  slot_there n h = ap (λ l. slice_get l n) same_there ∙ h on.items

  output_grown : (g : ℕ) → Grows (output_of (run (start i) s).core g) (output_of (run (start i) t).core g)
  output_grown g =
      subst (Grows (output_of (run (start i) s).core g))
      (ap (λ (x : State). output_of x.core g) (sym (run_then (start i) s on.items)) ∙ output_alike (run (start i) (s ++ on.items)) (run (start i) t) g on.leads)
      (run_grows (run (start i) s) on.items g)

module _ (i : Image) (img : IsImage i) (s t : List ℕ) (k : IsAtEnd i s) (on : LeadsOn i s t) where
  outputs_there : (groups : List ℕ) → map (output_of (run (start i) s).core) groups ≡ map (output_of (run (start i) t).core) groups
  outputs_there [] = refl
  outputs_there (g ∷ groups) =
      let one = grows_back (output_of (run (start i) s).core g) (output_of (run (start i) t).core g) (output_grown i s t k on g)
      (output_grown i t s (there i s t k on) (back i s t k on) g) in
      let rest = outputs_there groups in
      λ j. one j ∷ rest j

  standing_there : (n : ℕ) (x y : Slot) → slice_get (slots_at i s) n ≡ Some x → slice_get (slots_at i t) n ≡ Some y → (st : Standing) → IsStanding i s n x st → IsStanding i t n y st
  standing_there n x y at_x at_y Busy h = λ steady. h (steady_there i t s (there i s t k on) (back i s t k on) n steady)
  standing_there n x y at_x at_y (In state) h =
      let two : Some x ≡ Some y = sym at_x ∙ sym (slot_there i s t k on n h.0) ∙ at_y in
      let same : x ≡ y = cc in
      (steady_there i s t k on n h.0, h.1 ∙ ap (λ (z : Slot). z.state) same)

  standings_there : (n : ℕ) (xs ys : List Slot) → ((j : ℕ) → slice_get (slots_at i s) (n + j) ≡ slice_get xs j) → ((j : ℕ) → slice_get (slots_at i t) (n + j) ≡ slice_get ys j)
      → length xs ≡ length ys → (st : List Standing) → AreStanding i s n xs st → AreStanding i t n ys st
  standings_there n [] [] fx fy long [] h = tt
  standings_there n [] [] fx fy long (b ∷ st) h = h
  standings_there n [] (y ∷ ys) fx fy long st h = cc
  standings_there n (x ∷ xs) [] fx fy long st h = cc
  standings_there n (x ∷ xs) (y ∷ ys) fx fy long [] h = absurd h
  standings_there n (x ∷ xs) (y ∷ ys) fx fy long (b ∷ st) h = (
    standing_there n x y (ap (slice_get (slots_at i s)) here ∙ fx 0) (ap (slice_get (slots_at i t)) here ∙ fy 0) b h.0,
    standings_there (n + 1) xs ys (λ j. ap (slice_get (slots_at i s)) (next j) ∙ fx (suc j)) (λ j. ap (slice_get (slots_at i t)) (next j) ∙ fy (suc j))
        (let e : length xs ≡ length ys = cc in e) st h.1,
  )
    where
      here : n ≡ n + 0
      here = omega arith

      next : (j : ℕ) → (n + 1) + j ≡ n + suc j
      next j = omega arith

  pub outcome_there : (o : Outcome) → IsOutcome i s o → IsOutcome i t o
  outcome_there o h = record {
    ending = ending_there i s t k on o.ending h.ending;
    slots = standings_there 0 (slots_at i s) (slots_at i t) (λ j. ap (slice_get (slots_at i s)) (none j)) (λ j. ap (slice_get (slots_at i t)) (none j))
        (slots_long i img s ∙ sym (slots_long i img t)) o.slots h.slots;
    outputs = h.outputs ∙ outputs_there (groups_of (start i).core);
  }
    where
      none : (j : ℕ) → 0 + j ≡ j
      none j = omega arith

pub outcomes_are_of_sets : OutcomesAreOfSets
outcomes_are_of_sets i s t o img k on h = outcome_there i img s t k on o h

-- 3. A schedule has one outcome.

ending_one : (i : Image) (t : List ℕ) (a b : Ending) → IsEnding i t a → IsEnding i t b → a ≡ b
ending_one i t Ended Ended h k = refl
ending_one i t Ended Stuck h k = absurd (k.1 h)
ending_one i t Ended Endless h k = absurd (k.1 (no_moves_final i t h))
ending_one i t Stuck Ended h k = absurd (h.1 k)
ending_one i t Stuck Stuck h k = refl
ending_one i t Stuck Endless h k = absurd (k.1 h.0)
ending_one i t Endless Ended h k = absurd (h.1 (no_moves_final i t k))
ending_one i t Endless Stuck h k = absurd (h.1 k.0)
ending_one i t Endless Endless h k = refl

standing_one : (i : Image) (t : List ℕ) (n : ℕ) (s : Slot) (a b : Standing) → IsStanding i t n s a → IsStanding i t n s b → a ≡ b
standing_one i t n s Busy Busy h k = refl
standing_one i t n s Busy (In b) h k = absurd (h k.0)
standing_one i t n s (In a) Busy h k = absurd (k h.0)
standing_one i t n s (In a) (In b) h k = let same = h.1 ∙ sym k.1 in λ j. In (same j)

standings_one : (i : Image) (t : List ℕ) (n : ℕ) (slots : List Slot) (a b : List Standing) → AreStanding i t n slots a → AreStanding i t n slots b → a ≡ b
standings_one i t n [] [] [] h k = refl
standings_one i t n [] [] (y ∷ b) h k = absurd k
standings_one i t n [] (x ∷ a) b h k = absurd h
standings_one i t n (s ∷ slots) [] b h k = absurd h
standings_one i t n (s ∷ slots) (x ∷ a) [] h k = absurd k
standings_one i t n (s ∷ slots) (x ∷ a) (y ∷ b) h k =
    let one = standing_one i t n s x y h.0 k.0 in
    let rest = standings_one i t (n + 1) slots a b h.1 k.1 in
    λ j. one j ∷ rest j

pub outcome_one : (i : Image) (t : List ℕ) (a b : Outcome) → IsOutcome i t a → IsOutcome i t b → a ≡ b
outcome_one i t a b h k =
    let ending = ending_one i t a.ending b.ending h.ending k.ending in
    let slots = standings_one i t 0 (slots_at i t) a.slots b.slots h.slots k.slots in
    let outputs = h.outputs ∙ sym k.outputs in
    λ j. record { ending = ending j; slots = slots j; outputs = outputs j }

-- 4. How many slots and outputs an outcome tells of.

standings_long : (i : Image) (t : List ℕ) (n : ℕ) (slots : List Slot) (a : List Standing) → AreStanding i t n slots a → length a ≡ length slots
standings_long i t n [] [] h = refl
standings_long i t n [] (x ∷ a) h = absurd h
standings_long i t n (s ∷ slots) [] h = absurd h
standings_long i t n (s ∷ slots) (x ∷ a) h = ap suc (standings_long i t (n + 1) slots a h.1)

pub outcome_slots : (i : Image) (img : IsImage i) (t : List ℕ) (o : Outcome) → IsOutcome i t o → length o.slots ≡ length i.slots
outcome_slots i img t o h = standings_long i t 0 (slots_at i t) o.slots h.slots ∙ slots_long i img t

pub outcome_outputs : (i : Image) (t : List ℕ) (o : Outcome) → IsOutcome i t o → length o.outputs ≡ length (groups_of (start i).core)
outcome_outputs i t o h = ap length h.outputs ∙ Rattle.std.proofs.lemmas.List.length-map (groups_of (start i).core) (output_of (run (start i) t).core)
