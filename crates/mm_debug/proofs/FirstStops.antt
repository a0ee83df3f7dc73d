-- A run issues the least number of cycles after which a stop stands.
use Rattle.std.proofs.Common.{◌≡◌, ℕ, zero, suc, ◌+◌, ◌-◌, ◌<◌, Bool, true, false, ◌&&◌, if◌then◌else◌, Option, None}
use Rattle.std.{proofs.Common.{Some, refl, sym, ap, ◌∙◌, arith}, specs.Option.option_or}
use Rattle.mm_debug.specs.declared.stop.StopReason.{StopReason}
use Rattle.mm_debug.specs.Session.{Session, Ran, total_of, next_item, issued, stepped, stops_before, stops_after}
use Rattle.mm_debug.specs.Session.{stopped, after_cycle, before_cycle, run_from, ran}
use Rattle.mm_debug.specs.Laws.{watch_of, watch_stands, end_or_break, stop_after, StopsFirst, RunsStopFirst}
use Rattle.mm_debug.proofs.Stepping.{limit_ends, issued_total, stepped_none, stepped_goes}
use Rattle.mm_debug.specs.declared.stop.StopReason.TheVariants as stop

-- 1. The stop that stands after so many cycles.

-- the same of a run that has begun before
abbrev stop_from : Bool → Session → ℕ → Option StopReason
stop_from begun s zero = end_or_break begun s (next_item s)
stop_from begun s (suc count) = stop_after s (suc count)

from_start : (s : Session) (count : ℕ) → stop_after s count ≡ stop_from false s count
from_start s zero = refl
from_start s (suc count) = refl

-- a watch after the next cycle
abbrev watch_at : Session → Option StopReason
watch_at s = watch_stands s (next_item s)

-- the end or a break after a cycle
abbrev end_at : Session → Option StopReason
end_at s = end_or_break true s (next_item s)

module _ (s : Session) (item : ℕ) (next : next_item s ≡ Some item) where
  after_one : stop_after s 1 ≡ option_or (watch_of (stops_after s item)) (end_at (issued s item))
  after_one =
      ap (λ (t : Session). option_or (watch_at t) (end_at (stepped s 1))) (stepped_none s 0 refl)
      ∙ ap (λ (o : Option ℕ). option_or (watch_stands s o) (end_at (stepped s 1))) next
      ∙ ap (λ (t : Session). option_or (watch_of (stops_after s item)) (end_at t)) (stepped_goes s item 1 0 next refl ∙ stepped_none (issued s item) 0 refl)

  after_more : (count : ℕ) → stop_after s (suc (suc count)) ≡ stop_after (issued s item) (suc count)
  after_more count =
      ap (λ (t : Session). option_or (watch_at t) (end_at (stepped s (suc (suc count))))) (stepped_goes s item (suc count) count next refl)
      ∙ ap (λ (t : Session). option_or (watch_at (stepped (issued s item) count)) (end_at t)) (stepped_goes s item (suc (suc count)) (suc count) next refl)

  -- after the cycle of the next item, after which no watch stands, it is that of the session from there on
  stop_later : (begun : Bool) (count : ℕ) → stops_after s item ≡ None → stop_from begun s (suc count) ≡ stop_from true (issued s item) count
  stop_later begun zero quiet = after_one ∙ ap (λ (o : Option ℕ). option_or (watch_of o) (end_at (issued s item))) quiet
  stop_later begun (suc count) quiet = after_more count

-- 2. Where a run stops.

record StopsFrom (begun : Bool) (s : Session) (r : Ran) : Type 0 where
  pub count : ℕ
  pub session : r.session ≡ stepped s count
  pub total : total_of r.session ≡ total_of s + count
  pub stands : stop_from begun s count ≡ Some r.stop
  pub least : (k : ℕ) → k < count → stop_from begun s k ≡ None

at_once : (begun : Bool) (s : Session) (why : StopReason) → stop_from begun s 0 ≡ Some why → StopsFrom begun s (stopped s why)
at_once begun s why stands = record {
  count = 0;
  session = sym (stepped_none s 0 refl);
  total = omega arith;
  stands = stands;
  least = λ k lt. absurd (omega arith);
}

module _ (begun : Bool) (s : Session) (item : ℕ) (next : next_item s ≡ Some item) (passes : stop_from begun s 0 ≡ None) where
  after_watch : (word : ℕ) → stops_after s item ≡ Some word → StopsFrom begun s (stopped (issued s item) (stop.Watch word))
  after_watch word watched = record {
    count = 1;
    session = sym (stepped_goes s item 1 0 next refl ∙ stepped_none (issued s item) 0 refl);
    total = issued_total s item;
    stands = after_one s item next ∙ ap (λ (o : Option ℕ). option_or (watch_of o) (end_at (issued s item))) watched;
    least = λ k lt. let first : k ≡ 0 = omega arith in ap (stop_from begun s) first ∙ passes;
  }

  least_later : (count : ℕ) → stops_after s item ≡ None → ((k : ℕ) → k < count → stop_from true (issued s item) k ≡ None) → (k : ℕ) → k < suc count → stop_from begun s k ≡ None
  least_later count quiet least zero lt = passes
  least_later count quiet least (suc k) lt = stop_later s item next begun k quiet ∙ least k (omega arith)

  after_cycles : (r : Ran) → stops_after s item ≡ None → StopsFrom true (issued s item) r → StopsFrom begun s r
  after_cycles r quiet later = record {
    count = suc later.count;
    session = later.session ∙ sym (stepped_goes s item (suc later.count) later.count next refl);
    total = omega (arith, later.total, issued_total s item);
    stands = stop_later s item next begun later.count quiet ∙ later.stands;
    least = least_later later.count quiet later.least;
  }

-- the rest of a run stops so, and then the run does
module _ (begun : Bool) (s : Session) (left : ℕ) (rest : (t : Session) → left ≡ 1000000 - total_of t → StopsFrom true t (run_from true t left)) (more : suc left ≡ 1000000 - total_of s) where
  by_watch : (item : ℕ) (word : Option ℕ) → next_item s ≡ Some item → stop_from begun s 0 ≡ None → stops_after s item ≡ word
      → StopsFrom begun s (after_cycle (issued s item) word (run_from true (issued s item) left))
  by_watch item (Some word) next passes is = after_watch begun s item next passes word is
  by_watch item None next passes is = after_cycles begun s item next passes (run_from true (issued s item) left) is (rest (issued s item) (omega (arith, issued_total s item)))

  by_break : (item : ℕ) (breaks : Bool) → next_item s ≡ Some item → (begun && stops_before s item) ≡ breaks
      → StopsFrom begun s (if breaks then stopped s (stop.Break item) else after_cycle (issued s item) (stops_after s item) (run_from true (issued s item) left))
  by_break item true next is =
      at_once begun s (stop.Break item) (ap (end_or_break begun s) next ∙ ap (λ b. if b then Some (stop.Break item) else None) is)
  by_break item false next is =
      by_watch item (stops_after s item) next (ap (end_or_break begun s) next ∙ ap (λ b. if b then Some (stop.Break item) else None) is) refl

  by_next : (next : Option ℕ) → next_item s ≡ next
      → StopsFrom begun s (before_cycle begun s next (λ item. after_cycle (issued s item) (stops_after s item) (run_from true (issued s item) left)))
  by_next None is = at_once begun s stop.End (ap (end_or_break begun s) is)
  by_next (Some item) is = by_break item (begun && stops_before s item) is refl

stops_from : (begun : Bool) (s : Session) (left : ℕ) → left ≡ 1000000 - total_of s → StopsFrom begun s (run_from begun s left)
unfolding run_from
stops_from begun s zero none = at_once begun s stop.End (ap (end_or_break begun s) (limit_ends s (omega arith)))
stops_from begun s (suc left) more = by_next begun s left (λ t e. stops_from true t left e) more (next_item s) refl

stops_first : (s : Session) → StopsFirst s
unfolding ran
stops_first s =
    let stops = stops_from false s (1000000 - total_of s) refl in
    record {
      count = stops.count;
      session = stops.session;
      total = stops.total;
      stands = from_start s stops.count ∙ stops.stands;
      least = λ k lt. from_start s k ∙ stops.least k lt;
    }

pub runs_stop_first : RunsStopFirst
runs_stop_first s = stops_first s
