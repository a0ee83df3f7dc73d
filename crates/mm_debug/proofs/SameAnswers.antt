-- Two sessions that stand for one image, with as many cycles of one order and the same breaks and watches, answer the same.
use Rattle.std.proofs.Common.{◌≡◌, ℕ, zero, suc, ◌-◌, Bool, true, false, ◌&&◌, nat_lt, if◌then◌else◌, List, Option}
use Rattle.std.{proofs.Common.{Some, None, refl, sym, ap, ◌∙◌, subst}, specs.Prelude.⊤}
use Rattle.mm_model.specs.{State.{State, slot_at}, Image.{Image, start}, Run.{turn_of, after, run, next_running}}
use Rattle.mm_model.specs.Limits.{cycle_limit}
use Rattle.mm_sched.specs.{declared.schedule.Order.Order, Orders.{item_in, last_after}}
use Rattle.mm_debug.specs.declared.command.Command.{Command}
use Rattle.mm_debug.specs.declared.command.Command.TheVariants.{Nothing, Step, Run, Break, Watch, Regs, Mem, Quit, Bad}
use Rattle.mm_debug.specs.declared.{breakpoints.{Break.{Break as Breakpoint}}, stop.StopReason.StopReason}
use Rattle.mm_debug.specs.{Commands.command_of, Breakpoints.{has_break, has_watch, fits, with_break, with_watch}}
use Rattle.mm_debug.specs.Session.{Session, total_of, next_item, issued, then_stepped, stepped, breaks_for}
use Rattle.mm_debug.specs.Session.{stops_before, watched, stops_after, Ran, stopped, after_cycle, before_cycle}
use Rattle.mm_debug.specs.Session.{run_from, ran, stepped_text, stop_text, break_text, watch_text, slot_text}
use Rattle.mm_debug.specs.{Session.{memory_text, Answer, answer}, Standing.{run_items, GoesOnAfter, StandsFor}}
use Rattle.mm_debug.specs.Laws.{AreAlike, AnswersDependOnThese}
use Rattle.mm_sched.specs.declared.schedule.Order.TheVariants as order
use Rattle.mm_debug.specs.declared.stop.StopReason.TheVariants as stop

-- 1. Sessions that are the same, but for a last item at which nothing looks.

-- round robin looks at the last item, and a list does not
abbrev IsSameLast : Order → Option ℕ → Option ℕ → Type 0
IsSameLast order.Robin a b = a ≡ b
IsSameLast (order.List items) a b = ⊤

record IsSame (s t : Session) : Type 0 where
  order : s.order ≡ t.order
  last : IsSameLast s.order s.last t.last
  state : s.state ≡ t.state
  breaks : s.breaks ≡ t.breaks
  watches : s.watches ≡ t.watches

same_total : {s t : Session} → IsSame s t → total_of s ≡ total_of t
same_total h = ap (λ (x : State). x.cycles) h.state

-- 2. Cycles.

item_by_last : (o : Order) (a b : Option ℕ) (s : State) → IsSameLast o a b → item_in o a s ≡ item_in o b s
item_by_last order.Robin a b s h = ap (next_running s.core.rows) h
item_by_last (order.List items) a b s h = refl

same_next : (s t : Session) → IsSame s t → next_item s ≡ next_item t
unfolding next_item
same_next s t h =
    ap (λ (x : Option ℕ). if nat_lt s.state.cycles cycle_limit then x else None) (item_by_last s.order s.last t.last s.state h.last)
    ∙ ap (λ (o : Order). if nat_lt s.state.cycles cycle_limit then item_in o t.last s.state else None) h.order
    ∙ ap (λ (x : State). if nat_lt x.cycles cycle_limit then item_in t.order t.last x else None) h.state

last_by_last : (o : Order) (a b : Option ℕ) (item : ℕ) → IsSameLast o a b → IsSameLast o (last_after o a item) (last_after o b item)
last_by_last order.Robin a b item h = refl
last_by_last (order.List items) a b item h = tt

same_issued : (s t : Session) → IsSame s t → (item : ℕ) → IsSame (issued s item) (issued t item)
same_issued s t h item = record {
  order = h.order;
  last = subst (λ (o : Order). IsSameLast s.order (last_after s.order s.last item) (last_after o t.last item)) h.order (last_by_last s.order s.last t.last item h.last);
  state = ap (λ (x : State). after x item) h.state;
  breaks = h.breaks;
  watches = h.watches;
}

same_then : (s t : Session) (o : Option ℕ) (f g : ℕ → Session) → IsSame s t → ((item : ℕ) → IsSame (f item) (g item)) → IsSame (then_stepped s o f) (then_stepped t o g)
same_then s t None f g h later = h
same_then s t (Some item) f g h later = later item

same_stepped : (s t : Session) → IsSame s t → (count : ℕ) → IsSame (stepped s count) (stepped t count)
unfolding stepped
same_stepped s t h zero = h
same_stepped s t h (suc count) =
    let f : ℕ → Session = λ item. stepped (issued s item) count in
    let g : ℕ → Session = λ item. stepped (issued t item) count in
    subst (λ (o : Option ℕ). IsSame (then_stepped s (next_item s) f) (then_stepped t o g)) (same_next s t h)
    (same_then s t (next_item s) f g h (λ item. same_stepped (issued s item) (issued t item) (same_issued s t h item) count))

-- 3. Runs.

record SameRan (a b : Ran) : Type 0 where
  session : IsSame a.session b.session
  stop : a.stop ≡ b.stop

same_break : (s t : Session) → IsSame s t → (item : ℕ) → stops_before s item ≡ stops_before t item
same_break s t h item =
    ap (λ (entries : List Breakpoint). breaks_for entries item (slot_at s.state.core item)) h.breaks ∙ ap (λ (x : State). breaks_for t.breaks item (slot_at x.core item)) h.state

same_watch : (s t : Session) → IsSame s t → (item : ℕ) → stops_after s item ≡ stops_after t item
same_watch s t h item =
    ap (λ (words : List ℕ). watched words (turn_of s.state item).step) h.watches ∙ ap (λ (x : State). watched t.watches (turn_of x item).step) h.state

same_or : (s t : Session) (why : StopReason) (b : Bool) (f g : Ran) → IsSame s t → SameRan f g → SameRan (if b then stopped s why else f) (if b then stopped t why else g)
same_or s t why true f g h later = record { session = h; stop = refl }
same_or s t why false f g h later = later

same_before : (begun : Bool) (s t : Session) (o : Option ℕ) (f g : ℕ → Ran) → IsSame s t → ((item : ℕ) → SameRan (f item) (g item)) → SameRan (before_cycle begun s o f) (before_cycle begun t o g)
same_before begun s t None f g h later = record { session = h; stop = refl }
same_before begun s t (Some item) f g h later =
    let why : StopReason = stop.Break item in
    subst (λ (b : Bool). SameRan (if begun && stops_before s item then stopped s why else f item) (if begun && b then stopped t why else g item)) (same_break s t h item)
    (same_or s t why (begun && stops_before s item) (f item) (g item) h (later item))

same_after : (s t : Session) (o : Option ℕ) (f g : Ran) → IsSame s t → SameRan f g → SameRan (after_cycle s o f) (after_cycle t o g)
same_after s t None f g h later = later
same_after s t (Some word) f g h later = record { session = h; stop = refl }

same_run : (begun : Bool) (s t : Session) → IsSame s t → (left : ℕ) → SameRan (run_from begun s left) (run_from begun t left)
unfolding run_from
same_run begun s t h zero = record { session = h; stop = refl }
same_run begun s t h (suc left) =
    let f : ℕ → Ran = λ item. after_cycle (issued s item) (stops_after s item) (run_from true (issued s item) left) in
    let g : ℕ → Ran = λ item. after_cycle (issued t item) (stops_after t item) (run_from true (issued t item) left) in
    subst (λ (o : Option ℕ). SameRan (before_cycle begun s (next_item s) f) (before_cycle begun t o g)) (same_next s t h)
    (same_before begun s t (next_item s) f g h
    (λ item.
    let now = same_issued s t h item in
    subst (λ (o : Option ℕ). SameRan (f item) (after_cycle (issued t item) o (run_from true (issued t item) left))) (same_watch s t h item)
    (same_after (issued s item) (issued t item) (stops_after s item) (run_from true (issued s item) left) (run_from true (issued t item) left) now
    (same_run true (issued s item) (issued t item) now left))))

same_ran : (s t : Session) → IsSame s t → SameRan (ran s) (ran t)
unfolding ran
same_ran s t h = subst (λ (n : ℕ). SameRan (ran s) (run_from false t (cycle_limit - n))) (same_total h) (same_run false s t h (cycle_limit - total_of s))

-- 4. Answers.

record SameAnswer (a b : Answer) : Type 0 where
  reply : a.reply ≡ b.reply
  session : IsSame a.session b.session
  go : a.go ≡ b.go

same_answer : (s t : Session) → IsSame s t → (c : Command) → SameAnswer (answer s c) (answer t c)
unfolding answer
same_answer s t h Nothing = record { reply = refl; session = h; go = refl }
same_answer s t h (Step count) =
    let later = same_stepped s t h count in
    record {
      reply = ap (λ (n : ℕ). stepped_text (n - total_of s) n) (same_total later) ∙ ap (λ (n : ℕ). stepped_text (total_of (stepped t count) - n) (total_of (stepped t count))) (same_total h);
      session = later;
      go = refl;
    }
same_answer s t h Run =
    let later = same_ran s t h in
    record {
      reply = ap (λ (x : StopReason). stop_text x (total_of (ran s).session)) later.stop ∙ ap (stop_text (ran t).stop) (same_total later.session);
      session = later.session;
      go = refl;
    }
same_answer s t h (Break slot address) = record {
  reply = ap (λ (entries : List Breakpoint). break_text (fits (has_break entries slot address) entries)) h.breaks;
  session =
      record {
        order = h.order;
        last = h.last;
        state = h.state;
        breaks =
            ap (λ (entries : List Breakpoint). with_break entries (record { slot = slot; address = address })) h.breaks;
        watches = h.watches;
      };
  go = refl;
}
same_answer s t h (Watch word) = record {
  reply = ap (λ (words : List ℕ). watch_text (fits (has_watch words word) words)) h.watches;
  session = record { order = h.order; last = h.last; state = h.state; breaks = h.breaks; watches = ap (λ (words : List ℕ). with_watch words word) h.watches };
  go = refl;
}
same_answer s t h (Regs slot) = record { reply = ap (λ (x : State). slot_text (slot_at x.core slot)) h.state; session = h; go = refl }
same_answer s t h (Mem word count) = record { reply = ap (λ (x : State). memory_text x.memory word count) h.state; session = h; go = refl }
same_answer s t h Quit = record { reply = refl; session = h; go = refl }
same_answer s t h Bad = record { reply = refl; session = h; go = refl }

-- 5. Sessions of one image.

last_by_place : (o : Order) (a b : Option ℕ) (items : List ℕ) → GoesOnAfter o a items → GoesOnAfter o b items → IsSameLast o a b
last_by_place order.Robin a b items h k = h ∙ sym k
last_by_place (order.List list) a b items h k = tt

same_sessions : (i : Image) (s t : Session) → StandsFor i s → StandsFor i t → AreAlike s t → IsSame s t
same_sessions i s t h k alike =
    let place : GoesOnAfter s.order t.last (run_items i s.order (total_of s)) =
    subst (λ (o : Order). GoesOnAfter o t.last (run_items i o (total_of s))) (sym alike.order)
    (subst (λ (n : ℕ). GoesOnAfter t.order t.last (run_items i t.order n)) (sym alike.total) k.place) in
    record {
      order = alike.order;
      last = last_by_place s.order s.last t.last (run_items i s.order (total_of s)) h.place place;
      state = h.state ∙ ap (λ (o : Order). run (start i) (run_items i o (total_of s))) alike.order ∙ ap (λ (n : ℕ). run (start i) (run_items i t.order n)) alike.total ∙ sym k.state;
      breaks = alike.breaks;
      watches = alike.watches;
    }

pub answers_depend : AnswersDependOnThese
answers_depend i s t line h k alike =
    let same = same_answer s t (same_sessions i s t h k alike) (command_of line) in
    (same.reply, same.go, record { order = same.session.order; total = same_total same.session; breaks = same.session.breaks; watches = same.session.watches })
