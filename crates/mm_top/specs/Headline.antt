-- The headline: what is proved of every run, trace, log, exploration and look at a kernel that is done.
use Rattle.std.specs.Prelude.{◌≡◌, ◌++◌, ◌∷◌, [], ℕ, Bool, true, List, Option}
use Rattle.mm_model.specs.{declared.counts.Counts.Counts, Uses.Use, Image.{Image, start}, State.State, Groups.HasSlot}
use Rattle.mm_model.specs.{Reach.Entries.All, Worlds.Apart, Report.report_after}
use Rattle.mm_laws.specs.Runs.{Reaches, Isolates}
use Rattle.mm_cli.specs.Table.{Row, files_of}
use Rattle.mm_load.specs.{Kinds.{Value, an_image}, Files.FilesAccepted}
use Rattle.mm_log.specs.{Log.log_text, Laws.Replays}
use Rattle.mm_explore.specs.{Finds.Finds, Laws.{AreMet, IsRunFound}, Results.{Results, explored_text}}
use Rattle.mm_kernel.specs.Segments.{Segment}
use Rattle.mm_keep_text.specs.declared.told.Answer.{Answer}
use Rattle.mm_keep_text.specs.{Answers.{IsAnswer, answer_text}, Laws.KeepsIfYes}
use Rattle.mm_confine_text.specs.{Told.AreGroups, Laws.ConfinesIfYes}
use Rattle.mm_top.specs.{Commands.{log, explore, keeps}, Orders.AreIssued}

-- What a command that is done did, if it runs an image and writes a report. `turns` is the text that it writes before
-- the report, of the state at the start and the items that are issued.
pub record RunIsProved (command : (image : List ℕ) → (cycles : ℕ) → (schedule : Option (List ℕ)) → Row)
    (turns : State → List ℕ → List ℕ) (tells : List Use → Option Counts) (held : List ℕ → Option (List ℕ))
    (image : List ℕ) (cycles : ℕ) (schedule : Option (List ℕ)) (written : List ℕ) : Type 0 where
  -- the image that the first file spells, the list of the second file if there is one, and the items that were issued
  pub i : Image
  pub lists : List Value
  pub items : List ℕ
  pub reads : FilesAccepted held [] (files_of (command image cycles schedule)) (an_image i ∷ lists)
  pub issues : AreIssued i cycles lists items
  -- The text is that of the turns, and then the report of the flat machine.
  pub writes : written ≡ turns (start i) items ++ report_after tells i items
  -- Every word that a thread touches lies in a segment that is granted to its group. What an enter pointer leads to is
  -- granted only once the pointer was entered at its own address.
  pub reaches : Reaches i items
  -- The sections of groups that stand apart are those of a run without the others, under the items restricted to these
  -- groups.
  pub isolates : (c : ℕ → Bool) → HasSlot i c → Apart i All c → Isolates i items written c

-- the text of the turns of a `run`: none, so that the report is all that it writes
abbrev pub no_turns : State → List ℕ → List ℕ
no_turns s items = []

-- What a `log` that is done did.
pub record LogIsProved (tells : List Use → Option Counts) (held : List ℕ → Option (List ℕ)) (image : List ℕ)
    (cycles : ℕ) (schedule : Option (List ℕ)) (written : List ℕ) : Type 0 where
  -- The text of the turns is the line of each turn, each followed by the lines of all that the turn changed.
  pub runs : RunIsProved log log_text tells held image cycles schedule written
  -- The lines up to any cycle, carried out from the machine's start, make the state that the run has then, except for
  -- the number of cycles.
  pub replays : (front later : List ℕ) → runs.items ≡ front ++ later → Replays runs.i front later

-- What an `explore` that is done did.
pub record ExploreIsProved (held : List ℕ → Option (List ℕ)) (image : List ℕ) (states : ℕ) (written : List ℕ) : Type 0 where
  -- the image that the file spells, and what is found of it
  pub i : Image
  pub reads : FilesAccepted held [] (files_of (explore image states)) (an_image i ∷ [])
  pub found : Results
  pub finds : Finds i states found
  pub writes : written ≡ explored_text found
  -- Each fault and each outcome is met by its schedule, and by none before it.
  pub met : AreMet i found
  -- If all configurations were looked at, whatever comes of a run under any items is found, and some more items lead to a
  -- configuration that is final or in an endless set, with an outcome that is found.
  pub runs : found.all ≡ true → (s : List ℕ) → IsRunFound i found s

-- What a `keeps` that is done did.
pub record KeepsIsProved (held : List ℕ → Option (List ℕ)) (image : List ℕ) (threads : ℕ) (kept : List Segment)
    (written : List ℕ) : Type 0 where
  -- the image that the file spells, and the answer for it
  pub i : Image
  pub reads : FilesAccepted held [] (files_of (keeps image threads kept)) (an_image i ∷ [])
  pub answer : Answer
  pub is : IsAnswer i kept threads answer
  -- The text is that of the answer and, if this is yes, of what each group can reach.
  pub groups : List ℕ
  pub groups_are : AreGroups i kept answer groups
  pub writes : written ≡ answer_text answer ++ groups
  -- If the answer is yes, the kernel keeps its segments in every run of every variant of the image.
  pub holds : KeepsIfYes i kept answer
  -- If the answer is yes, then in every run each access is one that its group reaches, or is on a kept word that threads of
  -- the kernel use so, from a door or a slot that the text names for the group.
  pub confines : ConfinesIfYes i kept answer
