-- The next slot of a mask is the next running slot.
use Rattle.std.proofs.Common.{◌≡◌, ℕ, ◌<◌, inl, inr, Bool, true, false, nat_lt, ◌==◌, if◌then◌else◌, List, [], ◌∷◌, map}
use Rattle.std.proofs.Common.{Option, Some, None, refl, sym, ap, ◌∙◌, arith}
use Rattle.std.proofs.lemmas.{Nat.Bits.bit_at-zero, Bool.{cases_eq, Decides.nat_tests}}
use Rattle.std.specs.{List.{AllByRecursion, Sorted.IsStrictlyIncreasing}, Int.bit_at}
use Rattle.mm_model.specs.{State.{ThreadRow, Core, slot_at, row_in, slot_of}, Spelling.numbers_of, Turn.is_running}
use Rattle.mm_model.specs.Run.{first_running, any_number, next_running}
use Rattle.mm_model.proofs.CoreRows.{above_first, rest_rises, Rises}
use Rattle.mm_sched.specs.{Shown.{runs, Shows}, Following.{IsLeastBit, IsNextBit}}

abbrev numbers : List ThreadRow → List ℕ
numbers rows = numbers_of (map (λ (row : ThreadRow). row.slot) rows)

abbrev runs_in : List ThreadRow → ℕ → Bool
runs_in rows n = runs (slot_of (row_in rows n))

at_head : (row : ThreadRow) (rows : List ThreadRow) (n : ℕ) → row.slot.number ≡ n → runs_in (row ∷ rows) n ≡ is_running row.slot.state
at_head row rows n e = let same : (row.slot.number == n) ≡ true = grind (arith, nat_tests) in rw same refl

behind : (row : ThreadRow) (rows : List ThreadRow) (n : ℕ) → (row.slot.number ≡ n → ⊥) → runs_in (row ∷ rows) n ≡ runs_in rows n
behind row rows n ne = let other : (row.slot.number == n) ≡ false = grind (arith, nat_tests) in rw other refl

found_above : (x : ℕ) (rows : List ThreadRow) (n : ℕ) → AllByRecursion (λ y. x < y) (numbers rows) → runs_in rows n ≡ true → x < n
found_above x [] n h e = cc
found_above x (row ∷ rows) n h e = elim (cases_eq row.slot.number n) [
  | inl same ↦ let low : x < row.slot.number = h.0 in omega arith
  | inr other ↦ found_above x rows n h.1 (sym (behind row rows n other) ∙ e)
]

-- the least number that runs and passes
pub record LeastIn (p : ℕ → Bool) (rows : List ThreadRow) (n : ℕ) : Type 0 where
  pub runs : runs_in rows n ≡ true
  pub passes : p n ≡ true
  pub least : (m : ℕ) → m < n → runs_in rows m ≡ true → p m ≡ true → ⊥

first_some : (p : ℕ → Bool) (rows : List ThreadRow) (n : ℕ) → IsStrictlyIncreasing (numbers rows) → LeastIn p rows n → first_running p rows ≡ Some n
first_some p [] n up l = absurd (let none : false ≡ true = l.runs in cc)
first_some p (row ∷ rows) n up l = elim (cases_eq row.slot.number n) [
  | inl same ↦
      let running : is_running row.slot.state ≡ true = sym (at_head row rows n same) ∙ l.runs in
      let passes : p row.slot.number ≡ true = ap p same ∙ l.passes in
      rw (running, passes) (ap (λ (k : ℕ). Some k) same)
  | inr other ↦
      let later : runs_in rows n ≡ true = sym (behind row rows n other) ∙ l.runs in
      let above : AllByRecursion (λ y. row.slot.number < y) (numbers rows) = above_first row.slot.number (numbers rows) up in
      let low : row.slot.number < n = found_above row.slot.number rows n above later in
      let rest : first_running p rows ≡ Some n = first_some p rows n (rest_rises row.slot.number (numbers rows) up) (record {
        runs = later;
        passes = l.passes;
        least = λ m lt running passes.
            let high : row.slot.number < m = found_above row.slot.number rows m above running in
            l.least m lt (behind row rows m (λ e. omega arith) ∙ running) passes;
      }) in
      go (is_running row.slot.state) (p row.slot.number) refl refl (λ running passes. l.least row.slot.number low (at_head row rows row.slot.number refl ∙ running) passes) rest
]
  where
    go : (a b : Bool) → is_running row.slot.state ≡ a → p row.slot.number ≡ b → (is_running row.slot.state ≡ true → p row.slot.number ≡ true → ⊥) → first_running p rows ≡ Some n
        → (if a then (if b then Some row.slot.number else first_running p rows) else first_running p rows) ≡ Some n
    go true true ea eb never rest = absurd (never ea eb)
    go true false ea eb never rest = rest
    go false b ea eb never rest = rest

first_none : (p : ℕ → Bool) (rows : List ThreadRow) → IsStrictlyIncreasing (numbers rows) → ((m : ℕ) → runs_in rows m ≡ true → p m ≡ true → ⊥) → first_running p rows ≡ None
first_none p [] up none = refl
first_none p (row ∷ rows) up none = go (is_running row.slot.state) (p row.slot.number) refl refl (first_none p rows (rest_rises row.slot.number (numbers rows) up) (λ m running passes.
    let high : row.slot.number < m = found_above row.slot.number rows m (above_first row.slot.number (numbers rows) up) running in
    none m (behind row rows m (λ e. omega arith) ∙ running) passes))
  where
    go : (a b : Bool) → is_running row.slot.state ≡ a → p row.slot.number ≡ b → first_running p rows ≡ None
        → (if a then (if b then Some row.slot.number else first_running p rows) else first_running p rows) ≡ None
    go true true ea eb rest = absurd (none row.slot.number (at_head row rows row.slot.number refl ∙ ea) eb)
    go true false ea eb rest = rest
    go false b ea eb rest = rest

least_in : (core : Core) (mask : ℕ) (p : ℕ → Bool) (n : ℕ) → Shows core mask → IsLeastBit mask p n → LeastIn p core.rows n
unfolding slot_at
least_in core mask p n shows l = record {
  runs = (shows.each n).0 l.set;
  passes = l.passed;
  least = λ m lt running passes. l.least m lt ((shows.each m).1 running) passes;
}

none_runs : (core : Core) (mask : ℕ) (p : ℕ → Bool) → Shows core mask → ((m : ℕ) → bit_at mask m ≡ 1 → p m ≡ true → ⊥) → (m : ℕ) → runs_in core.rows m ≡ true → p m ≡ true → ⊥
unfolding slot_at
none_runs core mask p shows none m running passes = none m ((shows.each m).1 running) passes

-- the number that comes next in the mask is the next running slot's
pub next_shown : (core : Core) (mask : ℕ) (last : Option ℕ) (n : ℕ) → Rises core → Shows core mask → IsNextBit mask last n → next_running core.rows last ≡ Some n
next_shown core mask None n up shows l = first_some any_number core.rows n up (least_in core mask any_number n shows l)
next_shown core mask (Some last) n up shows (inl l) = rw (first_some (nat_lt last) core.rows n up (least_in core mask (nat_lt last) n shows l)) refl
next_shown core mask (Some last) n up shows (inr f) =
    let above : first_running (nat_lt last) core.rows ≡ None = first_none (nat_lt last) core.rows up (none_runs core mask (nat_lt last) shows (λ m set over. f.0 m (grind (arith, nat_tests)) set)) in
    rw above (first_some any_number core.rows n up (least_in core mask any_number n shows f.1))

-- and where no bit is set no slot runs
pub none_shown : (core : Core) (mask : ℕ) (last : Option ℕ) → Rises core → Shows core mask → mask ≡ 0 → next_running core.rows last ≡ None
none_shown core mask last up shows z = go last
  where
    none : (p : ℕ → Bool) → first_running p core.rows ≡ None
    none p = first_none p core.rows up (none_runs core mask p shows (λ m set passes. let unset : bit_at mask m ≡ 0 = ap (λ (k : ℕ). bit_at k m) z ∙ bit_at-zero m in omega arith))

    go : (last : Option ℕ) → next_running core.rows last ≡ None
    go None = none any_number
    go (Some last) = rw (none (nat_lt last)) (none any_number)
