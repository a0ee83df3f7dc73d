-- What is read of an end, and its outcome.
use Rattle.std.proofs.Common.{◌≡◌, ℕ, zero, suc, ◌+◌, ◌/◌, ◌≤◌, Bool, true, false, List, [], ◌∷◌, map, zip, length, slice_get}
use Rattle.std.proofs.Common.{refl, sym, ap, ◌∙◌, subst, arith}
use Rattle.std.proofs.lemmas.List.{length-map}
use Rattle.mm_model.proofs.CoreRows.{slot_limit-few}
use Rattle.mm_model.specs.{Fits.{slots_of, identity_of}, Flags.flags, Image.{Image, start}, Report.groups_of, Run.run, Slot.Slot, Spelling.IsImage}
use Rattle.mm_model.specs.State.{ThreadRow, Core, State, output_of}
use Rattle.mm_thread.specs.Output.{Output}
use Rattle.mm_config.{specs.Configurations.{uncounted_slot, uncounted_row, configuration}, proofs.States.runs_state_of}
use Rattle.mm_explore.specs.declared.explored.{Standing.{Standing}}
use Rattle.mm_explore.specs.{Explored.leads_to, Findings.{IsFinal, are_none}, Moves.moves}
use Rattle.mm_explore.specs.{Noting.{outcome_held, standings_of}, Searching.{AreBusyBy}}
use Rattle.mm_explore.specs.{Finds.{as_output, outcome_found}, Results.OutcomeFound}
use Rattle.mm_explore.specs.Outcomes.{End, IsEnding, AreStanding, IsOutcome, IsSteady, slots_at, ending_of}
use Rattle.mm_explore.proofs.{ClosedSets.final_stays_all, Goings.outputs_bare}
use Rattle.mm_explore.specs.declared.ends.End as code_end

-- 1. Slots of a configuration.

rows_bare : (rows : List ThreadRow) → map (λ (row : ThreadRow). row.slot) (map uncounted_row rows) ≡ map uncounted_slot (map (λ (row : ThreadRow). row.slot) rows)
rows_bare [] = refl
rows_bare (row ∷ rows) = ap (λ l. uncounted_slot row.slot ∷ l) (rows_bare rows)

pub slots_bare : (s : State) → slots_of (configuration s).core ≡ map uncounted_slot (slots_of s.core)
unfolding configuration
slots_bare s = rows_bare s.core.rows

-- as many as the image has, and no more than a mask has bits
pub slots_count : (i : Image) → IsImage i → (t : List ℕ) → length (slots_at i t) ≡ length i.slots
slots_count i img t =
    let s = run (start i) t in
    let same = (runs_state_of i t img).fits.same_slots in
    ap length (slots_bare s) ∙ length-map (slots_of s.core) uncounted_slot
    ∙ sym (length-map (slots_of s.core) identity_of) ∙ ap length same ∙ length-map i.slots identity_of

pub few_slots : (i : Image) → IsImage i → length i.slots ≤ 64
few_slots i img = let few = img.few_slots in let limit = slot_limit-few i.version in omega (arith, few, limit)

-- 2. Outcomes.

pub flags_long : (k n : ℕ) → length (flags k n) ≡ k
flags_long zero n = refl
flags_long (suc k) n = ap suc (flags_long k (n / 2))

standings_as_long : (busy : List Bool) (slots : List Slot) → length busy ≡ length slots → length (standings_of busy slots) ≡ length slots
standings_as_long [] [] e = refl
standings_as_long [] (s ∷ slots) e = cc
standings_as_long (b ∷ busy) [] e = cc
standings_as_long (b ∷ busy) (s ∷ slots) e = ap suc (standings_as_long busy slots (let h : length busy ≡ length slots = cc in h))

pub standings_long : (busy : ℕ) (slots : List Slot) → length (standings_of (flags (length slots) busy) slots) ≡ length slots
standings_long busy slots = standings_as_long (flags (length slots) busy) slots (flags_long (length slots) busy)

standing_all : (i : Image) (t : List ℕ) (k : ℕ) (busy : List Bool) (slots : List Slot) → length busy ≡ length slots → AreBusyBy i t k busy → AreStanding i t k slots (standings_of busy slots)
standing_all i t k [] [] long h = tt
standing_all i t k [] (s ∷ slots) long h = cc
standing_all i t k (b ∷ busy) [] long h = cc
standing_all i t k (true ∷ busy) (s ∷ slots) long h = (h.0, standing_all i t (k + 1) busy slots (let e : length busy ≡ length slots = cc in e) h.1)
standing_all i t k (false ∷ busy) (s ∷ slots) long h = ((h.0, refl), standing_all i t (k + 1) busy slots (let e : length busy ≡ length slots = cc in e) h.1)

module _ (i : Image) (t : List ℕ) (e : code_end.End) (core : Core) (groups : List ℕ) (is_core : core ≡ (leads_to i t).core) (is_groups : groups ≡ groups_of (start i).core) where
  -- the outcome that is read of the machine at an end
  pub outcome_so : IsEnding i t e.ending → AreBusyBy i t 0 (flags (length (slots_at i t)) e.busy) → IsOutcome i t (outcome_held e core groups)
  outcome_so ending busy = record {
    ending = ending;
    slots = subst (λ l. AreStanding i t 0 (slots_at i t) (standings_of (flags (length l) e.busy) l)) (sym (ap slots_of is_core))
        (standing_all i t 0 (flags (length (slots_at i t)) e.busy) (slots_at i t) (flags_long (length (slots_at i t)) e.busy) busy);
    outputs = (λ j. map (output_of (is_core j)) (is_groups j)) ∙ outputs_bare (run (start i) t) (groups_of (start i).core);
  }

-- 3. Final configurations.

pub final_steady : (i : Image) (t : List ℕ) → IsFinal i t → (k : ℕ) → IsSteady i t k
final_steady i t final k items = ap (λ (s : State). slice_get (slots_of s.core) k) (final_stays_all i t items final)

none_busy : (i : Image) (t : List ℕ) → IsFinal i t → (n k : ℕ) → AreBusyBy i t k (flags n 0)
none_busy i t final zero k = tt
none_busy i t final (suc n) k = (final_steady i t final k, none_busy i t final n (k + 1))

pub final_ending : (i : Image) (t : List ℕ) → IsFinal i t → IsEnding i t (ending_of (are_none (moves (run (start i) t))))
final_ending i t final = by (moves (run (start i) t)) refl
  where
    by : (ms : List ℕ) → moves (run (start i) t) ≡ ms → IsEnding i t (ending_of (are_none ms))
    by [] e = e
    by (m ∷ ms) e = (final, λ none. cc (none, e))

pub final_outcome : (i : Image) (t : List ℕ) (e : code_end.End) (core : Core) (groups : List ℕ) → core ≡ (leads_to i t).core → groups ≡ groups_of (start i).core
    → IsFinal i t → e.ending ≡ ending_of (are_none (moves (run (start i) t))) → e.busy ≡ 0 → IsOutcome i t (outcome_held e core groups)
final_outcome i t e core groups is_core is_groups final ending busy =
    outcome_so i t e core groups is_core is_groups (subst (IsEnding i t) (sym ending) (final_ending i t final))
    (subst (λ n. AreBusyBy i t 0 (flags (length (slots_at i t)) n)) (sym busy) (none_busy i t final (length (slots_at i t)) 0))

-- 4. Outcomes that are told.

numbers_of_slots : (slots base : List Slot) → map identity_of slots ≡ map identity_of base → map (λ (s : Slot). s.number) (map uncounted_slot slots) ≡ map (λ (s : Slot). s.number) base
numbers_of_slots [] [] e = refl
numbers_of_slots [] (o ∷ other) e = cc
numbers_of_slots (s ∷ slots) [] e = cc
numbers_of_slots (s ∷ slots) (o ∷ other) e =
    let head : identity_of s ≡ identity_of o = cc in
    let tail : map identity_of slots ≡ map identity_of other = cc in
    let rest = numbers_of_slots slots other tail in
    λ j. (head j).0 ∷ rest j

pub found_is : (i : Image) → IsImage i → (e : End) (at : code_end.End) (core : Core) (groups : List ℕ) → core ≡ (leads_to i e.schedule).core → groups ≡ groups_of (start i).core
    → outcome_held at (leads_to i e.schedule).core (groups_of (start i).core) ≡ e.outcome → (count total : ℕ) → count ≡ total
    → (slots : List (ℕ × Standing)) → slots ≡ zip (map (λ (s : Slot). s.number) (slots_of core)) (standings_of (flags (length (slots_of core)) at.busy) (slots_of core))
    → (outputs : List Output) → outputs ≡ map as_output (zip groups (map (output_of core) groups)) → (by : List ℕ) → by ≡ e.schedule
    → ◌≡◌ {A = OutcomeFound} (record { count = count; ending = at.ending; slots = slots; outputs = outputs; by = by }) (outcome_found i total e.outcome e.schedule)
found_is i img e at core groups is_core is_groups held count total counted slots are outputs told by is =
    let s = run (start i) e.schedule in
    let outcome : outcome_held at core groups ≡ e.outcome = (λ j. outcome_held at (is_core j) (is_groups j)) ∙ held in
    let numbers : map (λ (s : Slot). s.number) (slots_of core) ≡ map (λ (s : Slot). s.number) i.slots =
    ap (λ (k : Core). map (λ (s : Slot). s.number) (slots_of k)) is_core ∙ ap (map (λ (s : Slot). s.number)) (slots_bare s)
    ∙ numbers_of_slots (slots_of s.core) i.slots (runs_state_of i e.schedule img).fits.same_slots in
    let all_slots = are ∙ (λ j. zip (numbers j) (outcome j).slots) in
    let all_outputs = told ∙ (λ j. map as_output (zip (is_groups j) (outcome j).outputs)) in
    λ j. record { count = counted j; ending = (outcome j).ending; slots = all_slots j; outputs = all_outputs j; by = is j }
