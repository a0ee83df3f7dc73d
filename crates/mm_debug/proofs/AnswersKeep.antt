-- What each cycle and each entry keeps of a session, every answer keeps.
use Rattle.std.proofs.Common.{◌≡◌, ℕ, zero, suc, ◌-◌, Bool, true, false, ◌&&◌, if◌then◌else◌, List, [], ◌∷◌, Option}
use Rattle.std.proofs.Common.{Some, None, refl}
use Rattle.mm_debug.specs.declared.command.Command.{Command}
use Rattle.mm_debug.specs.declared.command.Command.TheVariants.{Nothing, Step, Run, Break, Watch, Regs, Mem, Quit, Bad}
use Rattle.mm_debug.specs.declared.{breakpoints.{Break.{Break as Breakpoint}}, stop.StopReason.StopReason}
use Rattle.mm_debug.specs.Commands.{command_of}
use Rattle.mm_debug.specs.Session.{Session, total_of, next_item, issued, then_stepped, stepped, stops_before}
use Rattle.mm_debug.specs.Session.{stops_after, Ran, stopped, after_cycle, before_cycle, run_from, ran, answer}
use Rattle.mm_debug.{specs.{Session.{answer_to, dialogue}, Laws.after_lines}, proofs.Dialogues.keeps}
use Rattle.mm_model.specs.Limits.{cycle_limit}
use Rattle.mm_debug.specs.declared.stop.StopReason.TheVariants as stop

-- the cycle of the next item keeps it, and it does not speak of breaks and watches
pub record Keeps (P : Session → Type 0) : Type 0 where
  pub issues : (s : Session) (item : ℕ) → next_item s ≡ Some item → P s → P (issued s item)
  pub breaks : (s : Session) (entries : List Breakpoint) → P s → P (record s { breaks = entries })
  pub watches : (s : Session) (words : List ℕ) → P s → P (record s { watches = words })

module _ (P : Session → Type 0) (each : Keeps P) where
  then_keeps : (s : Session) (o : Option ℕ) (rest : ℕ → Session) → next_item s ≡ o → ((item : ℕ) → next_item s ≡ Some item → P (rest item)) → P s → P (then_stepped s o rest)
  then_keeps s None rest is later h = h
  then_keeps s (Some item) rest is later h = later item is

  pub stepped_keeps : (s : Session) (count : ℕ) → P s → P (stepped s count)
  unfolding stepped
  stepped_keeps s zero h = h
  stepped_keeps s (suc count) h =
      then_keeps s (next_item s) (λ item. stepped (issued s item) count) refl (λ item is. stepped_keeps (issued s item) count (each.issues s item is h)) h

  break_keeps : (s : Session) (why : StopReason) (b : Bool) (rest : Ran) → P s → P rest.session → P (if b then stopped s why else rest).session
  break_keeps s why true rest h later = h
  break_keeps s why false rest h later = later

  before_keeps : (begun : Bool) (s : Session) (o : Option ℕ) (rest : ℕ → Ran) → next_item s ≡ o → ((item : ℕ) → next_item s ≡ Some item → P (rest item).session) → P s
      → P (before_cycle begun s o rest).session
  before_keeps begun s None rest is later h = h
  before_keeps begun s (Some item) rest is later h = break_keeps s (stop.Break item) (begun && stops_before s item) (rest item) h (later item is)

  after_keeps : (s : Session) (o : Option ℕ) (rest : Ran) → P s → P rest.session → P (after_cycle s o rest).session
  after_keeps s None rest h later = later
  after_keeps s (Some word) rest h later = h

  run_keeps : (begun : Bool) (s : Session) (left : ℕ) → P s → P (run_from begun s left).session
  unfolding run_from
  run_keeps begun s zero h = h
  run_keeps begun s (suc left) h =
      before_keeps begun s (next_item s) (λ item. after_cycle (issued s item) (stops_after s item) (run_from true (issued s item) left)) refl
      (λ item is.
      let now = each.issues s item is h in
      after_keeps (issued s item) (stops_after s item) (run_from true (issued s item) left) now (run_keeps true (issued s item) left now))
      h

  pub ran_keeps : (s : Session) → P s → P (ran s).session
  unfolding ran
  ran_keeps s h = run_keeps false s (cycle_limit - total_of s) h

  pub answer_keeps : (s : Session) (c : Command) → P s → P (answer s c).session
  unfolding answer
  answer_keeps s Nothing h = h
  answer_keeps s (Step count) h = stepped_keeps s count h
  answer_keeps s Run h = ran_keeps s h
  answer_keeps s (Break slot address) h = each.breaks s (answer s (Break slot address)).session.breaks h
  answer_keeps s (Watch word) h = each.watches s (answer s (Watch word)).session.watches h
  answer_keeps s (Regs slot) h = h
  answer_keeps s (Mem word count) h = h
  answer_keeps s Quit h = h
  answer_keeps s Bad h = h

  pub dialogue_keeps : (s : Session) (lines : List (List ℕ)) → P s → P (dialogue s lines).session
  dialogue_keeps = keeps answer_to P (λ s line h. answer_keeps s (command_of line) h)

  pub lines_keep : (s : Session) (lines : List (List ℕ)) → P s → P (after_lines s lines)
  lines_keep s [] h = h
  lines_keep s (line ∷ lines) h = lines_keep (answer_to s line).session lines (answer_keeps s (command_of line) h)
