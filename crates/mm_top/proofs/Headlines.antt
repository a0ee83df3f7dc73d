-- The headline, from what the answer to the words says.
use Rattle.std.{proofs.Common.{◌≡◌, ℕ, Bool, List, [], ◌∷◌, ◌++◌, Option, sym, subst}, specs.Io.KnownBytes.append_known}
use Rattle.mm_model.specs.{declared.counts.Counts.Counts, Uses.Use, Groups.HasSlot, Image.{Image, start}}
use Rattle.mm_model.specs.{Reach.Entries.All, Report.report_after, Run.uses, Spelling.IsImage, State.State}
use Rattle.mm_model.specs.{Trace.{trace as trace_of}, Worlds.Apart}
use Rattle.mm_laws.{specs.Runs.Isolates, proofs.WholeRuns.{runs_reach, runs_isolate}}
use Rattle.mm_kernel.specs.Segments.{Segment}
use Rattle.mm_keep_text.proofs.Ones.{kept_by}
use Rattle.mm_confine_text.proofs.Confining.{confined_by}
use Rattle.mm_load.specs.{declared.status.Status.{Status, TheVariants.Done}, Files.FilesAccepted}
use Rattle.mm_load.specs.Kinds.{Value, an_image}
use Rattle.mm_cli.{specs.Table.{Row, Matches, files_of}, proofs.Rows.one_row}
use Rattle.mm_log.{proofs.Logs.logs_replay, specs.Log.log_text}
use Rattle.mm_explore.proofs.{Earliest.findings_are_met, RunsFound.runs_are_found}
use Rattle.mm_top.specs.{Commands.{run, trace, log, explore, keeps}, Answers.{Answers, Call, RowComesTo, write}}
use Rattle.mm_top.specs.{Headline.{RunIsProved, LogIsProved, ExploreIsProved, KeepsIsProved, no_turns}, Orders.AreIssued}
use Rattle.mm_top.proofs.{TracedSections.traces_isolate, LoggedSections.logs_isolate, Verdicts.done}

-- 1. What is proved of a command, from what its row comes to.

module _ (tells : List Use → Option Counts) (held : List ℕ → Option (List ℕ)) (left : Option (List ℕ)) (image : List ℕ) (cycles : ℕ) (schedule : Option (List ℕ)) (text : List ℕ) where
  proved : (command : List ℕ → ℕ → Option (List ℕ) → Row) (turns : State → List ℕ → List ℕ) (i : Image) (lists : List Value) (items : List ℕ)
      → FilesAccepted held [] (files_of (command image cycles schedule)) (an_image i ∷ lists) → AreIssued i cycles lists items → IsImage i
      → text ≡ turns (start i) items ++ report_after tells i items
      → ((c : ℕ → Bool) → HasSlot i c → Apart i All c → Isolates i items (turns (start i) items ++ report_after tells i items) c)
      → RunIsProved command turns tells held image cycles schedule text
  proved command turns i lists items accepted issues spelled is isolates = record {
    i = i;
    lists = lists;
    items = items;
    reads = accepted;
    issues = issues;
    writes = is;
    reaches = runs_reach i items spelled;
    isolates =
        λ c has apart.
        let P : List ℕ → Type 0 = λ written. Isolates i items written c in
        subst P (sym is) (isolates c has apart);
  }

  run_proved : RowComesTo tells held left (run image cycles schedule) (write text) → RunIsProved run no_turns tells held image cycles schedule text
  run_proved (an_image i ∷ lists, accepted, (items, issues, is)) =
      let spelled = accepted.0.means.image in
      proved run no_turns i lists items accepted issues spelled is (λ c has apart. runs_isolate i items (tells (uses (start i) items)) c spelled has apart)
  run_proved ([], accepted, writes) = absurd writes
  run_proved (v ∷ lists, accepted, writes) = absurd (assumption (accepted, writes))

  trace_proved : RowComesTo tells held left (trace image cycles schedule) (write text) → RunIsProved trace trace_of tells held image cycles schedule text
  trace_proved (an_image i ∷ lists, accepted, (items, issues, is)) =
      let spelled = accepted.0.means.image in
      proved trace trace_of i lists items accepted issues spelled is (λ c has apart. traces_isolate i items (tells (uses (start i) items)) c spelled has apart)
  trace_proved ([], accepted, writes) = absurd writes
  trace_proved (v ∷ lists, accepted, writes) = absurd (assumption (accepted, writes))

  log_proved : RowComesTo tells held left (log image cycles schedule) (write text) → LogIsProved tells held image cycles schedule text
  unfolding proved
  log_proved (an_image i ∷ lists, accepted, (items, issues, is)) =
      let spelled = accepted.0.means.image in
      record {
        runs = proved log log_text i lists items accepted issues spelled is (λ c has apart. logs_isolate i items (tells (uses (start i) items)) c spelled has apart);
        replays = λ front later same. logs_replay i front later spelled;
      }
  log_proved ([], accepted, writes) = absurd writes
  log_proved (v ∷ lists, accepted, writes) = absurd (assumption (accepted, writes))

keeps_proved : (tells : List Use → Option Counts) (held : List ℕ → Option (List ℕ)) (left : Option (List ℕ)) (image : List ℕ) (threads : ℕ) (kept : List Segment) (text : List ℕ)
    → RowComesTo tells held left (keeps image threads kept) (write text) → KeepsIsProved held image threads kept text
keeps_proved tells held left image threads kept text (an_image i ∷ [], accepted, says) = record {
  i = i;
  reads = accepted;
  answer = says.answer;
  is = says.is;
  groups = says.groups;
  groups_are = says.groups_are;
  writes = says.written;
  holds = kept_by i kept threads says.answer accepted.0.means.image says.is;
  confines = confined_by i kept threads says.answer accepted.0.means.image says.is;
}
keeps_proved tells held left image threads kept text (values, accepted, writes) = absurd (assumption (accepted, writes))

explore_proved : (tells : List Use → Option Counts) (held : List ℕ → Option (List ℕ)) (left : Option (List ℕ)) (image : List ℕ) (states : ℕ) (text : List ℕ)
    → RowComesTo tells held left (explore image states) (write text) → ExploreIsProved held image states text
explore_proved tells held left image states text (an_image i ∷ [], accepted, explores) = record {
  i = i;
  reads = accepted;
  found = explores.found;
  finds = explores.finds;
  writes = explores.written;
  met = findings_are_met i states explores.found accepted.0.means.image explores.finds;
  runs = λ all s. runs_are_found i states explores.found accepted.0.means.image explores.finds all s;
}
explore_proved tells held left image states text (values, accepted, writes) = absurd (assumption (accepted, writes))

-- 2. The headline, from the answer.

-- the text that is written is what the row of the words comes to
written : {c : Call} {words : List (List ℕ)} {status : Status} → Answers c words status → status ≡ Done → (row : Row) → Matches words row
    → (text : List ℕ) × RowComesTo c.tells c.files.held c.input.left row (write text) × (c.out.taken ≡ append_known c.out.taken_before text)
written {c = c} {words = words} answers same row asks =
    let (text, comes, took) = done answers same in
    (text, subst (λ (r : Row). RowComesTo c.tells c.files.held c.input.left r (write text)) (one_row words comes.row row comes.asks asks) comes.gives, took)

pub run_headline : {c : Call} {words : List (List ℕ)} {status : Status} → Answers c words status → status ≡ Done → (image : List ℕ) (cycles : ℕ) (schedule : Option (List ℕ))
    → Matches words (run image cycles schedule)
    → (text : List ℕ) × RunIsProved run no_turns c.tells c.files.held image cycles schedule text × (c.out.taken ≡ append_known c.out.taken_before text)
run_headline {c = c} answers same image cycles schedule asks =
    let (text, gives, took) = written answers same (run image cycles schedule) asks in
    (text, run_proved c.tells c.files.held c.input.left image cycles schedule text gives, took)

pub trace_headline : {c : Call} {words : List (List ℕ)} {status : Status} → Answers c words status → status ≡ Done → (image : List ℕ) (cycles : ℕ) (schedule : Option (List ℕ))
    → Matches words (trace image cycles schedule)
    → (text : List ℕ) × RunIsProved trace trace_of c.tells c.files.held image cycles schedule text × (c.out.taken ≡ append_known c.out.taken_before text)
trace_headline {c = c} answers same image cycles schedule asks =
    let (text, gives, took) = written answers same (trace image cycles schedule) asks in
    (text, trace_proved c.tells c.files.held c.input.left image cycles schedule text gives, took)

pub log_headline : {c : Call} {words : List (List ℕ)} {status : Status} → Answers c words status → status ≡ Done → (image : List ℕ)
    (cycles : ℕ) (schedule : Option (List ℕ)) → Matches words (log image cycles schedule)
    → (text : List ℕ) × LogIsProved c.tells c.files.held image cycles schedule text × (c.out.taken ≡ append_known c.out.taken_before text)
log_headline {c = c} answers same image cycles schedule asks =
    let (text, gives, took) = written answers same (log image cycles schedule) asks in
    (text, log_proved c.tells c.files.held c.input.left image cycles schedule text gives, took)

pub explore_headline : {c : Call} {words : List (List ℕ)} {status : Status} → Answers c words status → status ≡ Done → (image : List ℕ) (states : ℕ)
    → Matches words (explore image states) → (text : List ℕ) × ExploreIsProved c.files.held image states text × (c.out.taken ≡ append_known c.out.taken_before text)
explore_headline {c = c} answers same image states asks =
    let (text, gives, took) = written answers same (explore image states) asks in
    (text, explore_proved c.tells c.files.held c.input.left image states text gives, took)

pub keeps_headline : {c : Call} {words : List (List ℕ)} {status : Status} → Answers c words status → status ≡ Done → (image : List ℕ) (threads : ℕ) (kept : List Segment)
    → Matches words (keeps image threads kept) → (text : List ℕ) × KeepsIsProved c.files.held image threads kept text × (c.out.taken ≡ append_known c.out.taken_before text)
keeps_headline {c = c} answers same image threads kept asks =
    let (text, gives, took) = written answers same (keeps image threads kept) asks in
    (text, keeps_proved c.tells c.files.held c.input.left image threads kept text gives, took)
