-- Laws of sessions.
use Rattle.std.specs.Prelude.{◌≡◌, ◌↔◌, ℕ, zero, suc, ◌+◌, ◌<◌, ◌≤◌, Bool, true, false, ◌&&◌, if◌then◌else◌, List, []}
use Rattle.std.specs.{Prelude.{◌∷◌, Contains, Option, Some, None}, Option.option_or}
use Rattle.mm_word.specs.declared.perm.Kind.{Kind}
use Rattle.mm_model.specs.{Image.{Image, start}, Run.{run, turn_of}, Uses.{Use, Accessed}, Counted.writes}
use Rattle.mm_sched.specs.declared.schedule.Order.{Order}
use Rattle.mm_debug.specs.{declared.stop.StopReason.StopReason, Breakpoints.has_watch}
use Rattle.mm_debug.specs.Session.{Session, total_of, begun, next_item, stepped, stops_before, stops_after, ran}
use Rattle.mm_debug.specs.{Session.answer_to, Standing.{StandsFor, run_items}}
use Rattle.mm_debug.specs.declared.stop.StopReason.TheVariants as stop

-- 1. The stops of a run.

abbrev pub watch_of : Option ℕ → Option StopReason
watch_of None = None
watch_of (Some word) = Some (stop.Watch word)

-- a stop by a watch, after the cycle of the next item
abbrev pub watch_stands : Session → Option ℕ → Option StopReason
watch_stands s None = None
watch_stands s (Some item) = watch_of (stops_after s item)

-- the end if there is no next item, or else a break before that item, which needs a cycle of the run
abbrev pub end_or_break : (after_cycle : Bool) → Session → Option ℕ → Option StopReason
end_or_break after_cycle s None = Some stop.End
end_or_break after_cycle s (Some item) = if after_cycle && stops_before s item then Some (stop.Break item) else None

-- the stop after `count` cycles of a run: a watch before the end before a break
abbrev pub stop_after : Session → ℕ → Option StopReason
stop_after s zero = end_or_break false s (next_item s)
stop_after s (suc count) =
    option_or (watch_stands (stepped s count) (next_item (stepped s count)))
    (end_or_break true (stepped s (suc count)) (next_item (stepped s (suc count))))

-- A run issues the least count of cycles after which it has to stop.
pub record StopsFirst (s : Session) : Type 0 where
  pub count : ℕ
  pub session : (ran s).session ≡ stepped s count
  pub total : total_of (ran s).session ≡ total_of s + count
  pub stands : stop_after s count ≡ Some (ran s).stop
  pub least : (k : ℕ) → k < count → stop_after s k ≡ None

abbrev pub RunsStopFirst : Type 0
RunsStopFirst = (s : Session) → StopsFirst s

-- 2. The cycles of a step.

-- Up to `count` cycles were issued: fewer only if the order or the limit has ended.
pub record StepsUpTo (s : Session) (count : ℕ) : Type 0 where
  pub issued : ℕ
  pub most : issued ≤ count
  pub total : total_of (stepped s count) ≡ total_of s + issued
  pub ended : issued < count → next_item (stepped s count) ≡ None

abbrev pub StepsIssueCycles : Type 0
StepsIssueCycles = (s : Session) (count : ℕ) → StepsUpTo s count

-- 3. The run of a session.

-- the session after lines, each of which is carried out
abbrev pub after_lines : Session → List (List ℕ) → Session
after_lines s [] = s
after_lines s (line ∷ lines) = after_lines (answer_to s line).session lines

-- After any lines a session has its order, and stands for every image for which it stood before.
abbrev pub LinesKeepStanding : Type 0
LinesKeepStanding = (i : Image) (s : Session) (lines : List (List ℕ)) → StandsFor i s
    → ((after_lines s lines).order ≡ s.order) × StandsFor i (after_lines s lines)

-- The state of a session that began at the start of an image's run is, after any lines, the state of that run after as
-- many items of the order as the session has issued.
abbrev pub DebuggingChangesNoRun : Type 0
DebuggingChangesNoRun = (i : Image) (order : Order) (lines : List (List ℕ)) →
    let s = after_lines (begun order (start i)) lines in s.state ≡ run (start i) (run_items i order (total_of s))

-- 4. What an answer depends on: the image, the order, the count of cycles so far, the breaks and watches, and the line.

-- two sessions have issued the same count of cycles of one order, and have the same breaks and watches
pub record AreAlike (s t : Session) : Type 0 where
  pub order : s.order ≡ t.order
  pub total : total_of s ≡ total_of t
  pub breaks : s.breaks ≡ t.breaks
  pub watches : s.watches ≡ t.watches

abbrev pub AnswersDependOnThese : Type 0
AnswersDependOnThese = (i : Image) (s t : Session) (line : List ℕ) → StandsFor i s → StandsFor i t → AreAlike s t
    → ((answer_to s line).reply ≡ (answer_to t line).reply) × ((answer_to s line).go ≡ (answer_to t line).go)
    × AreAlike (answer_to s line).session (answer_to t line).session

-- 5. The cycles at which a watch stops.

-- the uses of a cycle have a Store or a LoadSet on this word that was done
abbrev pub SetsBitAt : ℕ → List Use → Type 0
SetsBitAt word us = (kind : Kind) × (writes kind ≡ true) × Contains us (Accessed kind word true true)

-- A cycle stops a run exactly if it did a Store or a LoadSet on a watched word.
abbrev pub WatchesSeeSignals : Type 0
WatchesSeeSignals =
    (s : Session) (item word : ℕ)
    → (stops_after s item ≡ Some word)
    ↔ ((has_watch s.watches word ≡ true) × SetsBitAt word (turn_of s.state item).uses)
