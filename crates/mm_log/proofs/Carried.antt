-- What lines make of each row, of the outputs and of the memory of a state.
use Rattle.std.proofs.Common.{◌≡◌, ◌≢◌, ℕ, ◌<◌, inl, inr, Bool, true, false, ◌==◌, nat_eq, if◌then◌else◌, List, [], ◌∷◌}
use Rattle.std.proofs.Common.{◌++◌, map, slice_set, slice_index_or, Option, Some, refl, sym, ap, ◌∙◌, arith}
use Rattle.std.{proofs.lemmas.Bool.cases_eq, specs.List.{AllByRecursion, Sorted.IsStrictlyIncreasing}}
use Rattle.mm_machine.proofs.Returning.{above_rows}
use Rattle.mm_model.proofs.{Bytes.Ranges.map-map, CoreRows.{above_first, rest_rises, row_here, row_later}}
use Rattle.mm_model.specs.{declared.event.Event.Event, Slot.Slot}
use Rattle.mm_model.specs.State.{ThreadRow, Core, State, row_in, at_number, put_output, output_of}
use Rattle.mm_model.specs.{Spelling.numbers_of, Fits.{identity_of, slots_of}}
use Rattle.mm_log.specs.Lines.{Line}
use Rattle.mm_log.specs.Lines.Line.{Traced, Points, Enters, Holds, Empties, Issues, Queues, Reads, Puts, Maps, Removes}
use Rattle.mm_log.specs.Lines.Line.{Sets}
use Rattle.mm_log.specs.Replay.{holding, emptied, is_turn, with_turns, without_first, carry_out, replay}
use Rattle.mm_log.proofs.{Runs.run_on, Pages.memory_line}

-- 1. A line on a row, on outputs, on a slot and on a queue.

abbrev slot_changed : (Slot → Slot) → ThreadRow → ThreadRow
slot_changed f row = record row { slot = f row.slot }

abbrev queue_changed : (List Event → List Event) → ThreadRow → ThreadRow
queue_changed f row = record row { queue = f row.queue }

abbrev pub row_line : Line → ThreadRow → ThreadRow
row_line (Traced turns step) row = at_number step.slot (slot_changed (with_turns (is_turn step.tick) turns)) row
row_line (Points n p b) row = at_number n (slot_changed (λ x. record x { ip = p; past = b })) row
row_line (Enters n st) row = at_number n (slot_changed (λ x. record x { state = st })) row
row_line (Holds n r w) row = at_number n (slot_changed (holding r w)) row
row_line (Empties n r) row = at_number n (slot_changed (emptied r)) row
row_line (Issues n load) row = at_number n (slot_changed (λ x. record x { pending = x.pending ++ load ∷ [] })) row
row_line (Queues h e) row = at_number h (queue_changed (λ events. events ++ e ∷ [])) row
row_line (Reads h) row = at_number h (queue_changed without_first) row
row_line _ row = row

abbrev pub out_line : Line → List (List ℕ) → List (List ℕ)
out_line (Puts g b) outs = slice_set outs g (slice_index_or outs g [] ++ b ∷ [])
out_line _ outs = outs

abbrev pub slot_line : ℕ → Line → Slot → Slot
slot_line n (Traced turns step) s = if n == step.slot then with_turns (is_turn step.tick) turns s else s
slot_line n (Points k p b) s = if n == k then record s { ip = p; past = b } else s
slot_line n (Enters k st) s = if n == k then record s { state = st } else s
slot_line n (Holds k r w) s = if n == k then holding r w s else s
slot_line n (Empties k r) s = if n == k then emptied r s else s
slot_line n (Issues k load) s = if n == k then record s { pending = s.pending ++ load ∷ [] } else s
slot_line n _ s = s

abbrev pub queue_line : ℕ → Line → List Event → List Event
queue_line n (Queues h e) q = if n == h then q ++ e ∷ [] else q
queue_line n (Reads h) q = if n == h then without_first q else q
queue_line n _ q = q

-- 2. A line on a state.

map_same : {A : Type 0} (xs : List A) → map (λ (x : A). x) xs ≡ xs
map_same [] = refl
map_same (x ∷ xs) = ap (λ l. x ∷ l) (map_same xs)

record Carried (s : State) (l : Line) : Type 0 where
  rows : (carry_out s l).core.rows ≡ map (row_line l) s.core.rows
  outputs : (carry_out s l).core.outputs ≡ out_line l s.core.outputs
  memory : (carry_out s l).memory ≡ memory_line l s.memory
  version : (carry_out s l).core.version ≡ s.core.version
  split : (carry_out s l).core.split ≡ s.core.split
  cycles : (carry_out s l).cycles ≡ s.cycles

carried : (s : State) (l : Line) → Carried s l
unfolding carry_out put_output output_of
carried s (Traced turns step) = record { rows = refl; outputs = refl; memory = refl; version = refl; split = refl; cycles = refl }
carried s (Points n p b) = record { rows = refl; outputs = refl; memory = refl; version = refl; split = refl; cycles = refl }
carried s (Enters n st) = record { rows = refl; outputs = refl; memory = refl; version = refl; split = refl; cycles = refl }
carried s (Holds n r w) = record { rows = refl; outputs = refl; memory = refl; version = refl; split = refl; cycles = refl }
carried s (Empties n r) = record { rows = refl; outputs = refl; memory = refl; version = refl; split = refl; cycles = refl }
carried s (Issues n load) = record { rows = refl; outputs = refl; memory = refl; version = refl; split = refl; cycles = refl }
carried s (Queues h e) = record { rows = refl; outputs = refl; memory = refl; version = refl; split = refl; cycles = refl }
carried s (Reads h) = record { rows = refl; outputs = refl; memory = refl; version = refl; split = refl; cycles = refl }
carried s (Puts g b) = record { rows = sym (map_same s.core.rows); outputs = refl; memory = refl; version = refl; split = refl; cycles = refl }
carried s (Maps p) = record { rows = sym (map_same s.core.rows); outputs = refl; memory = refl; version = refl; split = refl; cycles = refl }
carried s (Removes p) = record { rows = sym (map_same s.core.rows); outputs = refl; memory = refl; version = refl; split = refl; cycles = refl }
carried s (Sets w c) = record { rows = sym (map_same s.core.rows); outputs = refl; memory = refl; version = refl; split = refl; cycles = refl }

-- 3. Lines on a state.

pub record Replayed (s : State) (ls : List Line) : Type 0 where
  pub rows : (replay s ls).core.rows ≡ map (run_on row_line ls) s.core.rows
  pub outputs : (replay s ls).core.outputs ≡ run_on out_line ls s.core.outputs
  pub memory : (replay s ls).memory ≡ run_on memory_line ls s.memory
  pub version : (replay s ls).core.version ≡ s.core.version
  pub split : (replay s ls).core.split ≡ s.core.split
  pub cycles : (replay s ls).cycles ≡ s.cycles

pub replayed : (s : State) (ls : List Line) → Replayed s ls
unfolding replay
replayed s [] = record { rows = sym (map_same s.core.rows); outputs = refl; memory = refl; version = refl; split = refl; cycles = refl }
replayed s (l ∷ ls) =
    let one = carried s l in
    let rest = replayed (carry_out s l) ls in
    record {
      rows = rest.rows ∙ ap (map (run_on row_line ls)) one.rows ∙ map-map (run_on row_line ls) (row_line l) s.core.rows;
      outputs = rest.outputs ∙ ap (run_on out_line ls) one.outputs;
      memory = rest.memory ∙ ap (run_on memory_line ls) one.memory;
      version = rest.version ∙ one.version;
      split = rest.split ∙ one.split;
      cycles = rest.cycles ∙ one.cycles;
    }

-- 4. Lines on a row are lines on its slot and on its queue.

slot_if : (b : Bool) (f : Slot → Slot) (row : ThreadRow) → (if b then slot_changed f row else row) ≡ record { slot = if b then f row.slot else row.slot; queue = row.queue }
slot_if true f row = refl
slot_if false f row = refl

queue_if : (b : Bool) (f : List Event → List Event) (row : ThreadRow) → (if b then queue_changed f row else row) ≡ record { slot = row.slot; queue = if b then f row.queue else row.queue }
queue_if true f row = refl
queue_if false f row = refl

abbrev row_by : ℕ → Line → ThreadRow → ThreadRow
row_by n l row = record { slot = slot_line n l row.slot; queue = queue_line n l row.queue }

row_one : (l : Line) (row : ThreadRow) → row_line l row ≡ row_by row.slot.number l row
row_one (Traced turns step) row = slot_if (nat_eq row.slot.number step.slot) (with_turns (is_turn step.tick) turns) row
row_one (Points n p b) row = slot_if (nat_eq row.slot.number n) (λ x. record x { ip = p; past = b }) row
row_one (Enters n st) row = slot_if (nat_eq row.slot.number n) (λ x. record x { state = st }) row
row_one (Holds n r w) row = slot_if (nat_eq row.slot.number n) (holding r w) row
row_one (Empties n r) row = slot_if (nat_eq row.slot.number n) (emptied r) row
row_one (Issues n load) row = slot_if (nat_eq row.slot.number n) (λ x. record x { pending = x.pending ++ load ∷ [] }) row
row_one (Queues h e) row = queue_if (nat_eq row.slot.number h) (λ events. events ++ e ∷ []) row
row_one (Reads h) row = queue_if (nat_eq row.slot.number h) without_first row
row_one (Puts g b) row = refl
row_one (Maps p) row = refl
row_one (Removes p) row = refl
row_one (Sets w c) row = refl

number_if : (b : Bool) (x y : Slot) → x.number ≡ y.number → (if b then x else y).number ≡ y.number
number_if true x y e = e
number_if false x y e = refl

turns_number : (b : Bool) (turns : ℕ) (s : Slot) → (with_turns b turns s).number ≡ s.number
turns_number true turns s = refl
turns_number false turns s = refl

pub number_line : (n : ℕ) (l : Line) (s : Slot) → (slot_line n l s).number ≡ s.number
number_line n (Traced turns step) s = number_if (nat_eq n step.slot) (with_turns (is_turn step.tick) turns s) s (turns_number (is_turn step.tick) turns s)
number_line n (Points k p b) s = number_if (nat_eq n k) (record s { ip = p; past = b }) s refl
number_line n (Enters k st) s = number_if (nat_eq n k) (record s { state = st }) s refl
number_line n (Holds k r w) s = number_if (nat_eq n k) (holding r w s) s refl
number_line n (Empties k r) s = number_if (nat_eq n k) (emptied r s) s refl
number_line n (Issues k load) s = number_if (nat_eq n k) (record s { pending = s.pending ++ load ∷ [] }) s refl
number_line n (Queues h e) s = refl
number_line n (Reads h) s = refl
number_line n (Puts g b) s = refl
number_line n (Maps p) s = refl
number_line n (Removes p) s = refl
number_line n (Sets w c) s = refl

pub row_all : (ls : List Line) (row : ThreadRow) → run_on row_line ls row ≡ record { slot = run_on (slot_line row.slot.number) ls row.slot; queue = run_on (queue_line row.slot.number) ls row.queue }
row_all [] row = refl
row_all (l ∷ ls) row =
    let n : ℕ = row.slot.number in
    let next : ThreadRow = row_by n l row in
    let put : ℕ → ThreadRow = λ k. record { slot = run_on (slot_line k) ls next.slot; queue = run_on (queue_line k) ls next.queue } in
    ap (run_on row_line ls) (row_one l row) ∙ row_all ls next ∙ ap put (number_line n l row.slot)

-- 5. Rows whose lines make the later rows.

abbrev numbers : List ThreadRow → List ℕ
numbers rows = map (λ (row : ThreadRow). row.slot.number) rows

same_numbers : (a b : List ThreadRow) → map identity_of (map (λ (row : ThreadRow). row.slot) a) ≡ map identity_of (map (λ (row : ThreadRow). row.slot) b) → numbers a ≡ numbers b
same_numbers [] [] e = refl
same_numbers [] (y ∷ b) e = cc
same_numbers (x ∷ a) [] e = cc
same_numbers (x ∷ a) (y ∷ b) e =
    let heads : identity_of x.slot ≡ identity_of y.slot = cc in
    let rest : map identity_of (map (λ (row : ThreadRow). row.slot) a) ≡ map identity_of (map (λ (row : ThreadRow). row.slot) b) = cc in
    let first : x.slot.number ≡ y.slot.number = ap (λ (i : ℕ × ℕ × Option ℕ). i.0) heads in
    let others = same_numbers a b rest in
    cc

-- a row that is found is at its number, above what all are above
found_above : (k : ℕ) (rows : List ThreadRow) (n : ℕ) (row : ThreadRow) → AllByRecursion (λ (r : ThreadRow). k < r.slot.number) rows → row_in rows n ≡ Some row → k < n
found_above k [] n row h is = cc
found_above k (x ∷ rows) n row h is = elim (cases_eq x.slot.number n) [
  | inl e ↦ let up = h.0 in omega arith
  | inr ne ↦ found_above k rows n row h.1 (sym (row_later x rows n ne) ∙ is)
]

pub found_number : (rows : List ThreadRow) (n : ℕ) (row : ThreadRow) → row_in rows n ≡ Some row → row.slot.number ≡ n
found_number [] n row is = cc
found_number (x ∷ rows) n row is = elim (cases_eq x.slot.number n) [
  | inl e ↦
      let two : ◌≡◌ {A = Option ThreadRow} (Some x) (Some row) = sym (row_here x rows n e) ∙ is in
      let one : x ≡ row = cc in
      sym (ap (λ (r : ThreadRow). r.slot.number) one) ∙ e
  | inr ne ↦ found_number rows n row (sym (row_later x rows n ne) ∙ is)
]

rows_made : (f : ThreadRow → ThreadRow) (a b : List ThreadRow) → IsStrictlyIncreasing (numbers_of (map (λ (row : ThreadRow). row.slot) a)) → numbers a ≡ numbers b
    → ((n : ℕ) (x y : ThreadRow) → row_in a n ≡ Some x → row_in b n ≡ Some y → f x ≡ y) → map f a ≡ b
rows_made f [] [] up e h = refl
rows_made f [] (y ∷ b) up e h = cc
rows_made f (x ∷ a) [] up e h = cc
rows_made f (x ∷ a) (y ∷ b) up e h =
    let first : x.slot.number ≡ y.slot.number = cc in
    let rest : numbers a ≡ numbers b = cc in
    let above : AllByRecursion (λ (r : ThreadRow). x.slot.number < r.slot.number) a = above_rows x.slot.number a (above_first x.slot.number (numbers_of (map (λ (row : ThreadRow). row.slot) a)) up) in
    let here : f x ≡ y = h x.slot.number x y (row_here x a x.slot.number refl) (row_here y b x.slot.number (sym first)) in
    let others : map f a ≡ b =
    rows_made f a b (rest_rises x.slot.number (numbers_of (map (λ (row : ThreadRow). row.slot) a)) up) rest
    (λ n u v at there.
    let low : x.slot.number < n = found_above x.slot.number a n u above at in
    let ne : x.slot.number ≢ n = omega arith in
    h n u v (row_later x a n ne ∙ at) (row_later y b n (λ s. ne (first ∙ s)) ∙ there)) in
    cc

pub core_made : (a b : Core) (f : ThreadRow → ThreadRow) → IsStrictlyIncreasing (numbers_of (slots_of a)) → map identity_of (slots_of b) ≡ map identity_of (slots_of a)
    → ((n : ℕ) (x y : ThreadRow) → row_in a.rows n ≡ Some x → row_in b.rows n ≡ Some y → f x ≡ y) → map f a.rows ≡ b.rows
core_made a b f up ids h = rows_made f a.rows b.rows up (sym (same_numbers b.rows a.rows ids)) h
