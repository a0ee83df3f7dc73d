-- An item is a move of a state, or its cycle is idle; and the moves of a state that fits an image ascend.
use Rattle.std.proofs.Common.{◌≡◌, ◌⊎◌, inl, inr, ℕ, ◌+◌, ◌-◌, ◌<◌, ◌≤◌, Bool, true, false, ◌&&◌, ◌==◌, nat_le}
use Rattle.std.proofs.Common.{if◌then◌else◌, List, [], ◌∷◌, map, Option, Some, None, refl, sym, ap, ◌∙◌, subst, arith}
use Rattle.std.proofs.Common.{eqb-true, leb-true}
use Rattle.std.proofs.lemmas.{Bool.both_ways, List.Elements.{Contains-append_left, Contains-append_right}}
use Rattle.std.specs.{Prelude.Contains, List.{AllByRecursion, filter, Sorted.IsStrictlyIncreasing}}
use Rattle.mm_model.specs.{declared.slot.Pending.Pending, Memory.Memory, Slot.Slot}
use Rattle.mm_model.specs.State.{ThreadRow, Core, State, row_in, slot_of, slot_at}
use Rattle.mm_model.specs.Turn.{Turned, is_running, started, idle, arrives, taken_by_port, taken_by, turn}
use Rattle.mm_model.specs.{Run.{turn_of, after, run}, Image.{Image, start}, Spelling.IsImage}
use Rattle.mm_model.specs.Fits.{IsSlot, slots_of, IsFormed, IsState, Fits}
use Rattle.mm_model.proofs.{CoreRows.{above_first, rest_rises}, Starts.{start_state, start_fits}}
use Rattle.mm_model.proofs.StateKeeps.{after_state, after_fits}
use Rattle.mm_span.specs.Pairs.{EachPair}
use Rattle.mm_config.specs.Configurations.{uncounted, configuration}
use Rattle.mm_explore.specs.Moves.{runs, are_some, has_load, running_slots}
use Rattle.mm_explore.specs.Moves.{loaded_ports, moves}
use Rattle.mm_explore.specs.Laws.{OthersAreIdle}
use Rattle.mm_span.proofs.Members.{none_in, in_first, in_rest, in_map, in_filter, all_at, map_in, filter_in}
use Rattle.mm_span.proofs.Members.{pairs_both, pairs_filter, pairs_map}

both_first : (a b : Bool) → (a && b) ≡ true → a ≡ true
both_first true b e = refl
both_first false b e = e

both_second : (a b : Bool) → (a && b) ≡ true → b ≡ true
both_second true b e = e
both_second false b e = cc

-- 1. Rows by number.

record RowOf (rows : List ThreadRow) (n : ℕ) (s : Slot) : Type 0 where
  row : ThreadRow
  inside : Contains rows row
  number : row.slot.number ≡ n
  slot : row.slot ≡ s

row_of : (rows : List ThreadRow) (n : ℕ) (s : Slot) → slot_of (row_in rows n) ≡ Some s → RowOf rows n s
row_of [] n s e = cc
row_of (row ∷ rows) n s e = by (row.slot.number == n) refl (row_of rows n s) e
  where
    by : (b : Bool) → (row.slot.number == n) ≡ b → (slot_of (row_in rows n) ≡ Some s → RowOf rows n s)
        → slot_of (if b then Some row else row_in rows n) ≡ Some s → RowOf (row ∷ rows) n s
    by true is later e = record { row = row; inside = in_first row rows; number = eqb-true row.slot.number n is; slot = cc }
    by false is later e = let k = later e in record { row = k.row; inside = in_rest row rows k.row k.inside; number = k.number; slot = k.slot }

module _ (core : Core) (m : Memory) (n : ℕ) where
  abbrev here : State
  here = record { core = core; memory = m; cycles = 0 }

  -- 2. Moves.

  runs_here : (s : Slot) → slot_at core n ≡ Some s → is_running s.state ≡ true → Contains (moves here) n
  unfolding slot_at moves
  runs_here s at going =
      let k = row_of core.rows n s at in
      let number : ThreadRow → ℕ = λ row. row.slot.number in
      let one = in_map number (filter runs core.rows) k.row (in_filter runs core.rows k.row k.inside (ap (λ (x : Slot). is_running x.state) k.slot ∙ going)) in
      Contains-append_left (running_slots core.rows) (if core.split then loaded_ports core.rows else []) n (subst (Contains (running_slots core.rows)) k.number one)

  loads_here : (s : Slot) (p : Pending) (loads : List Pending) → core.split ≡ true → 128 ≤ n → slot_at core (n - 128) ≡ Some s → s.pending ≡ p ∷ loads → Contains (moves here) n
  unfolding slot_at moves
  loads_here s p loads split low at is =
      let k = row_of core.rows (n - 128) s at in
      let port : ThreadRow → ℕ = λ row. 128 + row.slot.number in
      let same : 128 + k.row.slot.number ≡ n = let e = k.number in omega (arith, e, low) in
      let one = in_map port (filter has_load core.rows) k.row (in_filter has_load core.rows k.row k.inside (ap (λ (x : Slot). are_some x.pending) k.slot ∙ ap are_some is)) in
      Contains-append_right (running_slots core.rows) (if core.split then loaded_ports core.rows else []) n
      (subst (λ b. Contains (if b then loaded_ports core.rows else []) n) (sym split) (subst (Contains (loaded_ports core.rows)) same one))

  -- the item is a move, or the turn is that of an idle cycle
  abbrev MoveOr : Turned → Type 0
  MoveOr t = Contains (moves here) n ⊎ ((k : ℕ) × (t ≡ idle core m k))

  by_loads : (s : Slot) → core.split ≡ true → 128 ≤ n → slot_at core (n - 128) ≡ Some s → (loads : List Pending) → s.pending ≡ loads → MoveOr (arrives core m s loads)
  by_loads s split low at [] is = inr (s.number, refl)
  by_loads s split low at (p ∷ loads) is = inl (loads_here s p loads split low at is)

  by_slot : (b : Bool) → (core.split && nat_le 128 n) ≡ b → (o : Option Slot) → (b ≡ true → slot_at core (n - 128) ≡ o) → (b ≡ false → o ≡ None) → MoveOr (taken_by_port core m n o)
  by_slot b test None at none = inr (n, refl)
  by_slot true test (Some s) at none = by_loads s (both_first core.split (nat_le 128 n) test) (leb-true 128 n (both_second core.split (nat_le 128 n) test)) (at refl) s.pending refl
  by_slot false test (Some s) at none = let absent = none refl in cc

  by_port : (b : Bool) → (core.split && nat_le 128 n) ≡ b → MoveOr (taken_by_port core m n (if b then slot_at core (n - 128) else None))
  by_port true test = by_slot true test (slot_at core (n - 128)) (λ e. refl) (λ e. absurd (both_ways true e refl))
  by_port false test = inr (n, refl)

  by_state : (s : Slot) → slot_at core n ≡ Some s → (b : Bool) → is_running s.state ≡ b → MoveOr (if b then started core m s else idle core m n)
  by_state s at true is = inl (runs_here s at is)
  by_state s at false is = inr (n, refl)

  by_taker : (o : Option Slot) → slot_at core n ≡ o → MoveOr (taken_by core m n o)
  by_taker None at = by_port (core.split && nat_le 128 n) refl
  by_taker (Some s) at = by_state s at (is_running s.state) refl

  pub move_or_idle : MoveOr (turn core m n)
  unfolding turn
  move_or_idle = by_taker (slot_at core n) refl

-- the item is a move, or its cycle is idle
pub moves_or_idles : (s : State) (n : ℕ) → Contains (moves s) n ⊎ ((k : ℕ) × (turn_of s n ≡ idle s.core s.memory k))
unfolding moves
moves_or_idles s n = move_or_idle s.core s.memory n

pub idle_leads : (s : State) (n k : ℕ) → turn_of s n ≡ idle s.core s.memory k → configuration (after s n) ≡ configuration s
unfolding configuration after idle
idle_leads s n k e = ap (λ (t : Turned). let u : State = record { core = uncounted t.core; memory = t.memory; cycles = 0 } in u) e

pub others_are_idle : OthersAreIdle
others_are_idle s n never = elim (moves_or_idles s n) [
  | inl move ↦ absurd (never move)
  | inr k ↦ idle_leads s n k.0 k.1
]

-- 3. The moves of a state of a run ascend.

abbrev Lower : ThreadRow → ThreadRow → Type 0
Lower a b = a.slot.number < b.slot.number

numbers_above : (n : ℕ) (rows : List ThreadRow) → AllByRecursion (λ y. n < y) (map (λ (s : Slot). s.number) (map (λ (row : ThreadRow). row.slot) rows))
    → AllByRecursion (λ (x : ThreadRow). n < x.slot.number) rows
numbers_above n [] h = tt
numbers_above n (row ∷ rows) h = (h.0, numbers_above n rows h.1)

rows_rise : (rows : List ThreadRow) → IsStrictlyIncreasing (map (λ (s : Slot). s.number) (map (λ (row : ThreadRow). row.slot) rows)) → EachPair Lower rows
rows_rise [] h = tt
rows_rise (row ∷ rows) h =
    let numbers : List ℕ = map (λ (s : Slot). s.number) (map (λ (r : ThreadRow). r.slot) rows) in
    (numbers_above row.slot.number rows (above_first row.slot.number numbers h), rows_rise rows (rest_rises row.slot.number numbers h))

abbrev slot_number : ThreadRow → ℕ
slot_number row = row.slot.number

abbrev port_number : ThreadRow → ℕ
port_number row = 128 + row.slot.number

module _ (core : Core) (h : IsFormed core) where
  low : (row : ThreadRow) → Contains core.rows row → row.slot.number < 64
  low row inside = (all_at IsSlot (slots_of core) row.slot h.slots (in_map (λ (r : ThreadRow). r.slot) core.rows row inside)).number

  running_rise : EachPair ◌<◌ (running_slots core.rows)
  running_rise = pairs_map Lower ◌<◌ slot_number (filter runs core.rows) (λ a b left right lt. lt) (pairs_filter Lower runs core.rows (rows_rise core.rows h.rising))

  ports_rise : EachPair ◌<◌ (loaded_ports core.rows)
  ports_rise = pairs_map Lower ◌<◌ port_number (filter has_load core.rows) (λ a b left right lt. omega (arith, lt)) (pairs_filter Lower has_load core.rows (rows_rise core.rows h.rising))

  ports_by : (b : Bool) → EachPair ◌<◌ (if b then loaded_ports core.rows else [])
  ports_by true = ports_rise
  ports_by false = tt

  over : (b : Bool) (x y : ℕ) → Contains (running_slots core.rows) x → Contains (if b then loaded_ports core.rows else []) y → x < y
  over false x y left right = absurd (none_in y right)
  over true x y left right =
      let a = map_in slot_number (filter runs core.rows) x left in
      let b = map_in port_number (filter has_load core.rows) y right in
      let small = low a.source (filter_in runs core.rows a.source a.inside).0 in
      let e = a.gives in
      let f = b.gives in
      omega (arith, small, e, f)

pub moves_rise : (s : State) → IsFormed s.core → EachPair ◌<◌ (moves s)
unfolding moves
moves_rise s h =
    pairs_both ◌<◌ (running_slots s.core.rows) (if s.core.split then loaded_ports s.core.rows else [])
    (running_rise s.core h) (ports_by s.core h s.core.split) (over s.core h s.core.split)

record Reached (i : Image) (s : State) : Type 0 where
  state : IsState s
  fits : Fits i s

run_reached : (i : Image) (s : State) (items : List ℕ) → IsImage i → Reached i s → Reached i (run s items)
unfolding run
run_reached i s [] img r = r
run_reached i s (n ∷ items) img r = run_reached i (after s n) items img (record { state = after_state s n r.state; fits = after_fits i s n img r.state r.fits })

pub runs_rise : (i : Image) (items : List ℕ) → IsImage i → EachPair ◌<◌ (moves (run (start i) items))
runs_rise i items img =
    let r = run_reached i (start i) items img (record { state = start_state i img; fits = start_fits i img }) in
    moves_rise (run (start i) items) r.state.core
