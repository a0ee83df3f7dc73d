-- The moves of a configuration are those of its slots.
use Rattle.std.proofs.Common.{◌≡◌, ℕ, ◌+◌, Bool, true, false, ◌||◌, cond, if◌then◌else◌, List, [], ◌∷◌, ◌++◌, map}
use Rattle.std.proofs.Common.{refl, sym, ap, ◌∙◌}
use Rattle.std.specs.List.{filter, flat_map, list_any, range_with_len}
use Rattle.mm_model.specs.{Fits.slots_of, Groups.has_group, Image.{Image, start}, Report.{is_of, groups_of}, Run.run}
use Rattle.mm_model.specs.{Slot.Slot, State.{ThreadRow, Core, State}, Turn.is_running}
use Rattle.mm_explore.specs.{Explored.leads_to, Moves.{runs, has_load, are_some, running_slots, loaded_ports, moves}}
use Rattle.mm_explore.specs.MoveLists.{running_item, loaded_item, ports_in, moves_in}
use Rattle.mm_explore.proofs.Goings.{moves_bare}

-- 1. Moves.

running_are : (rows : List ThreadRow) → flat_map running_item (map (λ (row : ThreadRow). row.slot) rows) ≡ running_slots rows
running_are [] = refl
running_are (row ∷ rows) =
    ap (λ l. (if is_running row.slot.state then row.slot.number ∷ [] else []) ++ l) (running_are rows) ∙ by (is_running row.slot.state)
  where
    by : (b : Bool) → (if b then row.slot.number ∷ [] else []) ++ running_slots rows ≡ map (λ (r : ThreadRow). r.slot.number) (cond b (row ∷ filter runs rows) (filter runs rows))
    by true = refl
    by false = refl

loaded_are : (rows : List ThreadRow) → flat_map loaded_item (map (λ (row : ThreadRow). row.slot) rows) ≡ loaded_ports rows
loaded_are [] = refl
loaded_are (row ∷ rows) =
    ap (λ l. (if are_some row.slot.pending then (128 + row.slot.number) ∷ [] else []) ++ l) (loaded_are rows) ∙ by (are_some row.slot.pending)
  where
    by : (b : Bool) → (if b then (128 + row.slot.number) ∷ [] else []) ++ loaded_ports rows ≡ map (λ (r : ThreadRow). 128 + r.slot.number) (cond b (row ∷ filter has_load rows) (filter has_load rows))
    by true = refl
    by false = refl

moves_are : (s : State) → moves_in s.core.split (slots_of s.core) ≡ moves s
unfolding moves
moves_are s =
    ap (λ l. l ++ ports_in s.core.split (slots_of s.core)) (running_are s.core.rows)
    ∙ ap (λ l. running_slots s.core.rows ++ (if s.core.split then l else [])) (loaded_are s.core.rows)

-- the moves that are read of a configuration are those of its state
pub moves_read : (i : Image) (t : List ℕ) (core : Core) → core ≡ (leads_to i t).core → moves_in core.split (slots_of core) ≡ moves (run (start i) t)
moves_read i t core is = ap (λ (k : Core). moves_in k.split (slots_of k)) is ∙ moves_are (leads_to i t) ∙ moves_bare (run (start i) t)

-- 2. Groups.

any_started : (g : ℕ) (slots : List Slot) → list_any (is_of g) (map (λ s. let row : ThreadRow = record { slot = s; queue = [] } in row) slots) ≡ has_group slots g
any_started g [] = refl
any_started g (s ∷ slots) = ap (λ b. is_of g (record { slot = s; queue = [] }) || b) (any_started g slots)

filter_same : (p q : ℕ → Bool) → ((x : ℕ) → p x ≡ q x) → (xs : List ℕ) → filter p xs ≡ filter q xs
filter_same p q h [] = refl
filter_same p q h (x ∷ xs) = ap (λ l. cond (p x) (x ∷ l) l) (filter_same p q h xs) ∙ ap (λ b. cond b (x ∷ filter q xs) (filter q xs)) (h x)

pub groups_start : (i : Image) → filter (has_group i.slots) (range_with_len 0 64) ≡ groups_of (start i).core
unfolding start
groups_start i = sym (filter_same
    (λ g. list_any (is_of g) (map (λ s. let row : ThreadRow = record { slot = s; queue = [] } in row) i.slots))
    (has_group i.slots) (λ g. any_started g i.slots) (range_with_len 0 64))

pub groups_from : (i : Image) (slots : List Slot) (groups : List ℕ) → slots ≡ i.slots → groups ≡ filter (has_group slots) (range_with_len 0 64) → groups ≡ groups_of (start i).core
groups_from i slots groups same is = is ∙ filter_same (has_group slots) (has_group i.slots) (λ g. ap (λ l. has_group l g) same) (range_with_len 0 64) ∙ groups_start i
