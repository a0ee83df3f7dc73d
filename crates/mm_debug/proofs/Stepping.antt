-- The next item of a session, and the session after cycles.
use Rattle.std.proofs.Common.{◌≡◌, inl, inr, ℕ, zero, suc, ◌+◌, ◌<◌, ◌≤◌, Bool, true, false, nat_lt, if◌then◌else◌}
use Rattle.std.proofs.Common.{List, [], ◌∷◌, map, Option, None, Some, refl, sym, ap, ◌∙◌, arith}
use Rattle.std.proofs.{Props.props, Math.Logic.∥∥₁_elim, lemmas.Bool.{cases_lt, Decides.nat_tests}}
use Rattle.std.specs.{List.AllByRecursion, Option.option_or}
use Rattle.mm_model.specs.{Slot.Slot, State.ThreadRow, Turn.is_running}
use Rattle.mm_model.specs.{Run.{after, first_running, any_number, next_running}, Fits.{IsSlot, slots_of}}
use Rattle.mm_model.proofs.CoreRows.{each_map}
use Rattle.mm_machine.specs.Validity.{IsValid}
use Rattle.mm_debug.specs.Session.{Session, total_of, next_item, issued, then_stepped, stepped}
use Rattle.mm_sched.specs.Orders.{item_in}
use Rattle.mm_sched.specs.declared.schedule.Order.TheVariants as order

-- 1. The next item.

-- there is none once the limit is reached
pub limit_ends : (s : Session) → 1000000 ≤ total_of s → next_item s ≡ None
unfolding next_item
limit_ends s over = let past : nat_lt (total_of s) 1000000 ≡ false = grind (arith, nat_tests) in rw past refl

-- and below it the item is that of the order
pub item_of_order : (s : Session) → total_of s < 1000000 → next_item s ≡ item_in s.order s.last s.state
unfolding next_item
item_of_order s lt = let below : nat_lt (total_of s) 1000000 ≡ true = grind (arith, nat_tests) in rw below refl

pub item_below_limit : (s : Session) (item : ℕ) → next_item s ≡ Some item → total_of s < 1000000
item_below_limit s item next = elim (cases_lt (total_of s) 1000000) [
  | inl lt ↦ lt
  | inr over ↦ let none = limit_ends s over in absurd (cc)
]

-- 2. An item of round robin is a slot's number.

first_small : (p : ℕ → Bool) (rows : List ThreadRow) (n : ℕ) → AllByRecursion (λ (s : Slot). s.number < 64) (map (λ (row : ThreadRow). row.slot) rows) → first_running p rows ≡ Some n → n < 64
first_small p [] n small is = cc
first_small p (row ∷ rows) n small is = by (is_running row.slot.state) (p row.slot.number) (λ later. first_small p rows n small.1 later) is
  where
    by : (a b : Bool) → (first_running p rows ≡ Some n → n < 64)
        → (if a then (if b then Some row.slot.number else first_running p rows) else first_running p rows) ≡ Some n → n < 64
    by true true rest here = let same : row.slot.number ≡ n = cc in omega (arith, small.0)
    by true false rest here = rest here
    by false b rest here = rest here

next_small : (rows : List ThreadRow) (last : Option ℕ) (n : ℕ) → AllByRecursion (λ (s : Slot). s.number < 64) (map (λ (row : ThreadRow). row.slot) rows) → next_running rows last ≡ Some n → n < 64
next_small rows None n small is = first_small any_number rows n small is
next_small rows (Some last) n small is = by (first_running (nat_lt last) rows) refl is
  where
    by : (o : Option ℕ) → first_running (nat_lt last) rows ≡ o → option_or o (first_running any_number rows) ≡ Some n → n < 64
    by None above is = first_small any_number rows n small is
    by (Some m) above is = first_small (nat_lt last) rows n small (above ∙ is)

pub robin_small : (s : Session) (item : ℕ) → ∥ IsValid s.state ∥₁ → s.order ≡ order.Robin → next_item s ≡ Some item → item < 64
robin_small s item kept robin next =
    let here : next_running s.state.core.rows s.last ≡ Some item =
    sym (ap (λ o. item_in o s.last s.state) robin) ∙ sym (item_of_order s (item_below_limit s item next)) ∙ next in
    ∥∥₁_elim kept (hlevel props) (λ k.
    next_small s.state.core.rows s.last item (each_map IsSlot (λ (x : Slot). x.number < 64) (λ x is. is.number) (slots_of s.state.core) k.state.core.slots) here)

-- 3. Cycles.

pub issued_total : (s : Session) (item : ℕ) → total_of (issued s item) ≡ total_of s + 1
unfolding after
issued_total s item = refl

pub stepped_none : (s : Session) (count : ℕ) → count ≡ 0 → stepped s count ≡ s
unfolding stepped
stepped_none s zero none = refl
stepped_none s (suc count) none = absurd (omega arith)

-- no cycle is issued where there is no next item
pub stepped_ends : (s : Session) (count : ℕ) → next_item s ≡ None → stepped s count ≡ s
unfolding stepped
stepped_ends s zero next = refl
stepped_ends s (suc count) next = ap (λ o. then_stepped s o (λ item. stepped (issued s item) count)) next

-- and else that of the next item, and the others after it
pub stepped_goes : (s : Session) (item count less : ℕ) → next_item s ≡ Some item → count ≡ suc less → stepped s count ≡ stepped (issued s item) less
unfolding stepped
stepped_goes s item count less next more = ap (stepped s) more ∙ ap (λ o. then_stepped s o (λ n. stepped (issued s n) less)) next
