-- A session goes on standing for an image, whatever it answers.
use Rattle.std.proofs.Common.{◌≡◌, ℕ, zero, suc, ◌+◌, ◌-◌, Bool, true, false, ◌&&◌, nat_lt, if◌then◌else◌, List, []}
use Rattle.std.proofs.Common.{◌∷◌, ◌++◌, take, slice_get, Option, Some, None, refl, sym, ap, ◌∙◌, subst, arith}
use Rattle.std.proofs.lemmas.{List.take_more, Option.{slice_get_within, get_or_from_slice_get}}
use Rattle.mm_machine.proofs.{Went.last_more, Keeping.run_more}
use Rattle.mm_model.specs.{State.State, Image.{Image, start}}
use Rattle.mm_model.specs.{Run.{after, run, next_running, then_issued, robin_from, last_item}, Limits.cycle_limit}
use Rattle.mm_sched.specs.{declared.schedule.Order.Order, Orders.{item_in, last_after}}
use Rattle.mm_debug.specs.declared.command.Command.{Command}
use Rattle.mm_debug.specs.declared.command.Command.TheVariants.{Nothing, Step, Run, Break, Watch, Regs, Mem, Quit, Bad}
use Rattle.mm_debug.specs.{declared.breakpoints.{Break.{Break as Breakpoint}}, Commands.command_of}
use Rattle.mm_debug.specs.Session.{Session, begun, total_of, next_item, issued, then_stepped, stepped, stops_before}
use Rattle.mm_debug.specs.Session.{stops_after, Ran, stopped, after_cycle, before_cycle, run_from, ran, answer}
use Rattle.mm_debug.specs.{Session.{answer_to, dialogue}, Standing.{run_items, GoesOnAfter, StandsFor}}
use Rattle.mm_debug.proofs.Dialogues.{keeps}
use Rattle.mm_sched.specs.declared.schedule.Order.TheVariants as order
use Rattle.mm_debug.specs.declared.stop.StopReason.TheVariants as stop

-- 1. An order issues one item more.

-- round robin with one cycle more issues the slot that is next after the others
pub robin_more : (s : State) (last : Option ℕ) (count n : ℕ) → next_running (run s (robin_from s last count)).core.rows (last_item last (robin_from s last count)) ≡ Some n
    → robin_from s last (suc count) ≡ robin_from s last count ++ n ∷ []
unfolding robin_from run
robin_more s last zero n next = ap (λ (o : Option ℕ). then_issued o (λ k. [])) next
robin_more s last (suc count) n next = by (next_running s.core.rows last) refl next (λ k e. robin_more (after s k) (Some k) count n e)
  where
    by : (o : Option ℕ) → next_running s.core.rows last ≡ o
        → next_running (run s (then_issued o (λ k. robin_from (after s k) (Some k) count))).core.rows (last_item last (then_issued o (λ k. robin_from (after s k) (Some k) count))) ≡ Some n
        → ((k : ℕ) → next_running (run (after s k) (robin_from (after s k) (Some k) count)).core.rows (last_item (Some k) (robin_from (after s k) (Some k) count)) ≡ Some n
        → robin_from (after s k) (Some k) (suc count) ≡ robin_from (after s k) (Some k) count ++ n ∷ [])
        → then_issued o (λ k. robin_from (after s k) (Some k) (suc count)) ≡ then_issued o (λ k. robin_from (after s k) (Some k) count) ++ n ∷ []
    by None is e later = cc
    by (Some k) is e later = ap (λ (items : List ℕ). k ∷ items) (later k e)

-- a list with one cycle more issues its next item after the others
pub list_more : (items : List ℕ) (count n : ℕ) → slice_get items count ≡ Some n → take (count + 1) items ≡ take count items ++ n ∷ []
list_more items count n is =
    take_more items count 0 (slice_get_within items count n is)
    ∙ ap (λ (x : ℕ). take count items ++ x ∷ []) (get_or_from_slice_get items count n 0 is)

-- what an order issues with one cycle more, and where it goes on then
record MoreItems (i : Image) (o : Order) (last : Option ℕ) (count n : ℕ) : Type 0 where
  items : run_items i o (count + 1) ≡ run_items i o count ++ n ∷ []
  place : GoesOnAfter o (last_after o last n) (run_items i o (count + 1))

more_items : (i : Image) (o : Order) (last : Option ℕ) (s : State) (n : ℕ) → s ≡ run (start i) (run_items i o s.cycles) → GoesOnAfter o last (run_items i o s.cycles) → item_in o last s ≡ Some n
    → MoreItems i o last s.cycles n
more_items i order.Robin last s n state place next =
    let all : List ℕ = robin_from (start i) None s.cycles in
    let then_next : next_running (run (start i) all).core.rows (last_item None all) ≡ Some n =
    ap (λ (t : State). next_running t.core.rows (last_item None all)) (sym state) ∙ ap (next_running s.core.rows) (sym place) ∙ next in
    let one : s.cycles + 1 ≡ suc s.cycles = omega arith in
    let more : robin_from (start i) None (s.cycles + 1) ≡ all ++ n ∷ [] = ap (robin_from (start i) None) one ∙ robin_more (start i) None s.cycles n then_next in
    record { items = more; place = sym (ap (last_item None) more ∙ last_more None all n) }
more_items i (order.List items) last s n state place next = record { items = list_more items s.cycles n next; place = tt }

-- 2. Sessions stand for images.

-- a session that has issued nothing stands for the image at whose start its machine is
pub begun_stands : (i : Image) (order : Order) → StandsFor i (begun order (start i))
unfolding start run robin_from
begun_stands i order.Robin = record { state = refl; place = refl }
begun_stands i (order.List items) = record { state = refl; place = tt }

pub begun_at : (i : Image) (order : Order) (s : State) → s ≡ start i → StandsFor i (begun order s)
begun_at i o s is = subst (λ (t : State). StandsFor i (begun o t)) (sym is) (begun_stands i o)

item_of : (s : Session) (n : ℕ) → next_item s ≡ Some n → item_in s.order s.last s.state ≡ Some n
unfolding next_item
item_of s n next = by (nat_lt (total_of s) cycle_limit) next
  where
    by : (b : Bool) → (if b then item_in s.order s.last s.state else None) ≡ Some n → item_in s.order s.last s.state ≡ Some n
    by true e = e
    by false e = cc

pub issued_stands : (i : Image) (s : Session) (item : ℕ) → next_item s ≡ Some item → StandsFor i s → StandsFor i (issued s item)
unfolding after
issued_stands i s item next stands =
    let more = more_items i s.order s.last s.state item stands.state stands.place (item_of s item next) in
    let items : List ℕ = run_items i s.order (total_of s) in
    record {
      state = ap (λ (t : State). after t item) stands.state ∙ sym (run_more (start i) items item) ∙ ap (run (start i)) (sym more.items);
      place = more.place;
    }

pub stepped_stands : (i : Image) (s : Session) (count : ℕ) → StandsFor i s → StandsFor i (stepped s count)
unfolding stepped
stepped_stands i s zero stands = stands
stepped_stands i s (suc count) stands = by (next_item s) refl (λ item next. stepped_stands i (issued s item) count (issued_stands i s item next stands))
  where
    by : (o : Option ℕ) → next_item s ≡ o → ((item : ℕ) → next_item s ≡ Some item → StandsFor i (stepped (issued s item) count))
        → StandsFor i (then_stepped s o (λ item. stepped (issued s item) count))
    by None is later = stands
    by (Some item) is later = later item is

run_from_stands : (i : Image) (begun : Bool) (s : Session) (left : ℕ) → StandsFor i s → StandsFor i (run_from begun s left).session
unfolding run_from
run_from_stands i begun s zero stands = stands
run_from_stands i begun s (suc left) stands = by (next_item s) refl (λ item next. issued_stands i s item next stands) (λ item there. run_from_stands i true (issued s item) left there)
  where
    watches : (item : ℕ) (o : Option ℕ) → StandsFor i (issued s item) → StandsFor i (run_from true (issued s item) left).session
        → StandsFor i (after_cycle (issued s item) o (run_from true (issued s item) left)).session
    watches item None there later = later
    watches item (Some word) there later = there

    breaks : (item : ℕ) (b : Bool) (rest : Ran) → StandsFor i rest.session → StandsFor i (if b then stopped s (stop.Break item) else rest).session
    breaks item true rest later = stands
    breaks item false rest later = later

    by : (o : Option ℕ) → next_item s ≡ o → ((item : ℕ) → next_item s ≡ Some item → StandsFor i (issued s item))
        → ((item : ℕ) → StandsFor i (issued s item) → StandsFor i (run_from true (issued s item) left).session)
        → StandsFor i (before_cycle begun s o (λ item. after_cycle (issued s item) (stops_after s item) (run_from true (issued s item) left))).session
    by None is there later = stands
    by (Some item) is there later =
        let now = there item is in
        breaks item (begun && stops_before s item) (after_cycle (issued s item) (stops_after s item) (run_from true (issued s item) left)) (watches item (stops_after s item) now (later item now))

pub ran_stands : (i : Image) (s : Session) → StandsFor i s → StandsFor i (ran s).session
unfolding ran
ran_stands i s stands = run_from_stands i false s (cycle_limit - total_of s) stands

-- breaks and watches are no part of it
breaks_stand : (i : Image) (s : Session) (entries : List Breakpoint) → StandsFor i s → StandsFor i (record s { breaks = entries })
breaks_stand i s entries stands = record { state = stands.state; place = stands.place }

watches_stand : (i : Image) (s : Session) (words : List ℕ) → StandsFor i s → StandsFor i (record s { watches = words })
watches_stand i s words stands = record { state = stands.state; place = stands.place }

pub answer_stands : (i : Image) (s : Session) (c : Command) → StandsFor i s → StandsFor i (answer s c).session
unfolding answer
answer_stands i s Nothing stands = stands
answer_stands i s (Step count) stands = stepped_stands i s count stands
answer_stands i s Run stands = ran_stands i s stands
answer_stands i s (Break slot address) stands = breaks_stand i s (answer s (Break slot address)).session.breaks stands
answer_stands i s (Watch word) stands = watches_stand i s (answer s (Watch word)).session.watches stands
answer_stands i s (Regs slot) stands = stands
answer_stands i s (Mem word count) stands = stands
answer_stands i s Quit stands = stands
answer_stands i s Bad stands = stands

pub dialogue_stands : (i : Image) (s : Session) (lines : List (List ℕ)) → StandsFor i s → StandsFor i (dialogue s lines).session
dialogue_stands i = keeps answer_to (StandsFor i) (λ s line stands. answer_stands i s (command_of line) stands)
