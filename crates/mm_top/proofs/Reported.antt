-- How a command that writes a text ends.
use Rattle.std.proofs.Common.{◌≡◌, ℕ, List, [], Option, Result, Ok, Err, refl, sym, ap, ◌∙◌, subst}
use Rattle.std.specs.Result.{IsErrAnd}
use Rattle.mm_io.{specs.{declared.write.WriteFault.WriteFault, Sinks.Writes}, proofs.Known.writes_same}
use Rattle.mm_mem.specs.declared.memory.Memory.{Ghosts}
use Rattle.mm_model.specs.{declared.counts.Counts.Counts, Uses.Use, State.State, Image.{Image, start}, Run.{run, uses}}
use Rattle.mm_model.specs.Report.{report, report_after}
use Rattle.mm_machine.specs.{declared.machine.Machine.Machine, Machine.{state_of, StandsTo, StandsFor}}
use Rattle.mm_sched.specs.{declared.schedule.Order.Order, Orders.items_of}
use Rattle.mm_save.specs.Recorder.{bare, recorded}
use Rattle.mm_load.specs.{declared.status.{Refusal.Refusal, CommandError.CommandError}, Kinds.values_of, Stops.end_of}
use Rattle.mm_top.specs.{Orders.AreIssued, Commands.replies_to, Answers.{Ends, EndsWith, Writing, writing}}
use Rattle.mm_sched.specs.declared.schedule.Order.TheVariants as order
use Rattle.mm_debug.specs.Session as session
use Rattle.mm_load.specs.declared.status.CommandError.TheVariants as stop

module _ {M : Type 0} {memory : Ghosts M} where
  -- no cycle so far
  pub start_cycles : (i : Image) (m : Machine M memory) → StandsFor i [] m → m.cycles ≡ 0
  unfolding run start
  start_cycles i m h = ap (λ (s : State). s.cycles) h.state

  pub start_state : (i : Image) (m : Machine M memory) → StandsFor i [] m → state_of m ≡ start i
  unfolding run
  start_state i m h = h.state

  -- the report of a machine is that of the run that it stands for
  pub reported : {S T E : Type 0} {taken : S → Option (List ℕ)} {faults : S → ℕ} {old new : S} {result : Result T E}
      (tells : List Use → Option Counts) (i : Image) (items : List ℕ) (m : Machine M memory) → StandsFor i items m
      → ((us : List Use) → StandsTo m us → Writes taken faults old new (report (state_of m) i (tells us)) result)
      → Writes taken faults old new (report_after tells i items) result
  reported tells i items m h writes =
      writes_same (writes (uses (start i) items) h.uses_made) (ap (λ (s : State). report s i (tells (uses (start i) items))) h.state)

  -- the replies of a recorder whose session a machine began are those of its image
  pub replied : {S T E : Type 0} {taken : S → Option (List ℕ)} {faults : S → ℕ} {old new : S} {result : Result T E}
      (o : Order) (input : List ℕ) (i : Image) (m : Machine M memory) (s first now : session.Session) → StandsFor i [] m → s ≡ session.begun o (state_of m)
      → first ≡ bare s → now ≡ s → Writes taken faults old new (recorded first now input).text result → Writes taken faults old new (replies_to i o input) result
  replied o input i m s first now h begun nothing_set same writes =
      let is : s ≡ session.begun o (start i) = begun ∙ ap (λ (state : State). session.begun o state) (start_state i m h) in
      writes_same writes
      (ap (λ (t : session.Session). (recorded first t input).text) (same ∙ is)
      ∙ ap (λ (t : session.Session). (recorded t (session.begun o (start i)) input).text) (nothing_set ∙ ap bare is))

-- the items of an order are those that are to be issued
pub issued : (o : Order) (i : Image) (cycles : ℕ) → AreIssued i cycles (values_of o) (items_of o (start i) cycles)
issued order.Robin i cycles = refl
issued (order.List list) i cycles = refl

pub issued_for : (o : Order) (i : Image) {cycles count : ℕ} → cycles ≡ count → AreIssued i count (values_of o) (items_of o (start i) cycles)
issued_for o i {cycles = cycles} same =
    subst (λ (n : ℕ). AreIssued i n (values_of o) (items_of o (start i) cycles)) same (issued o i cycles)

-- a text of one kind is one of another
pub ends_as : (out : Writing) (IsText Other : List ℕ → Type 0) (result : Result (Unit {0}) CommandError)
    → ((text : List ℕ) → IsText text → Other text) → EndsWith out IsText result → EndsWith out Other result
ends_as out IsText Other (Ok done) becomes (text, is, took) = (text, becomes text is, took)
ends_as out IsText Other (Err (stop.Refused r)) becomes ends = ends
ends_as out IsText Other (Err stop.ReadFault) becomes ends = ends
ends_as out IsText Other (Err stop.WriteFault) becomes (text, is, part, rose) = (text, becomes text is, part, rose)
ends_as out IsText Other (Err stop.NoMemory) becomes ends = ends

module _ {S : Type 0} {taken : S → Option (List ℕ)} {faults : S → ℕ} {old new : S} (Refuses : Refusal → Type 0) (Fails : Type 0) (IsText : List ℕ → Type 0) (text : List ℕ) (is : IsText text) where
  -- a command that writes a text ends so
  pub ends_written : (wrote : Result (Unit {0}) WriteFault) (result : Result (Unit {0}) CommandError) → result ≡ end_of wrote → Writes taken faults old new text wrote
      → Ends (writing taken faults old new) Refuses Fails IsText result
  ends_written (Ok done) result same wrote =
      let P : Result (Unit {0}) CommandError → Type 0 = λ x. Ends (writing taken faults old new) Refuses Fails IsText x in
      subst P (sym same) (text, is, wrote.whole)
  ends_written (Err e) result same wrote =
      let P : Result (Unit {0}) CommandError → Type 0 = λ x. Ends (writing taken faults old new) Refuses Fails IsText x in
      subst P (sym same) (text, is, wrote.part, wrote.failed)

-- and so does one that stops since the sink failed
pub ends_cut : {S T E : Type 0} {taken : S → Option (List ℕ)} {faults : S → ℕ} {old new : S} {e : E} (Refuses : Refusal → Type 0) (Fails : Type 0) (IsText : List ℕ → Type 0) (text : List ℕ)
    (result : Result (Unit {0}) CommandError) → IsText text → Writes {T = T} {E = E} taken faults old new text (Err e) → IsErrAnd result (λ s. s ≡ stop.WriteFault)
    → Ends (writing taken faults old new) Refuses Fails IsText result
ends_cut Refuses Fails IsText text (Ok t) is wrote fails = absurd fails
ends_cut {taken = taken} {faults = faults} {old = old} {new = new} Refuses Fails IsText text (Err s) is wrote fails =
    let P : CommandError → Type 0 = λ x. Ends (writing taken faults old new) Refuses Fails IsText (Err x) in
    subst P (sym fails) (text, is, wrote.part, wrote.failed)
