-- What each command comes to, given its words and the values of its inputs.
use Rattle.std.specs.Prelude.{◌≡◌, ℕ, Bool, List, [], ◌∷◌, ◌++◌, map, length, take, Option, None, Some}
use Rattle.mm_model.specs.{declared.counts.Counts.Counts, Uses.Use, Groups.among, Schedule.{first_items, only}}
use Rattle.mm_model.specs.{Worlds.{Extracts, alone, migrated}, Audit.IsAudit, Report.report_after}
use Rattle.mm_format.specs.Images.{Spells}
use Rattle.mm_object.specs.{Objects.Object, Format.{Spells as SpellsObject}}
use Rattle.mm_link.specs.{declared.fault.LinkFault.LinkFault, Faults.link_fault, Linked.Linked}
use Rattle.mm_disasm.specs.Canonical.{canonical}
use Rattle.mm_gen.specs.{Generated.generated, Summary.summary}
use Rattle.mm_sweep.specs.{Swept.swept, Refusals.CanSweep}
use Rattle.mm_audit.specs.Refusals.{StandAlone}
use Rattle.mm_explore.specs.Finds.{Explores}
use Rattle.mm_why.specs.Text.{SaysWhy}
use Rattle.mm_kernel.specs.Segments.{Segment}
use Rattle.mm_confine_text.specs.Told.{Tells}
use Rattle.mm_sched.specs.declared.schedule.Order.{Order}
use Rattle.mm_log.specs.Log.{log_text}
use Rattle.mm_save.specs.Recorder.{recorded}
use Rattle.mm_cli.specs.declared.table.Command.{Command}
use Rattle.mm_cli.specs.declared.table.Command.TheVariants.{Run, Trace, Log, Solo, Grants, Extract, Asm, Link, Dis}
use Rattle.mm_cli.specs.declared.table.Command.TheVariants.{Debug, Gen, Soak, Migrate, Sweep, Holders, Save, Continue}
use Rattle.mm_cli.specs.declared.table.Command.TheVariants.{Net, Explore, Why, Keeps}
use Rattle.mm_cli.specs.declared.table.Kind.TheVariants.{Image as image_file, Schedule as schedule_file}
use Rattle.mm_cli.specs.declared.table.Kind.TheVariants.{Source as source_file, Object as object_file}
use Rattle.mm_cli.specs.{declared.table.Kind.TheVariants.Checkpoint as checkpoint_file}
use Rattle.mm_cli.specs.Words.{Word, file_word, number_word, groups_word, segments_word, mode_word, range_word}
use Rattle.mm_cli.specs.{Words.{use_word, optional}, Table.Row}
use Rattle.mm_load.specs.declared.status.Refusal.{Refusal}
use Rattle.mm_load.specs.Kinds.{Value, an_image, a_list, an_object, a_checkpoint, a_links, an_events, a_text, values_of}
use Rattle.mm_net.specs.Texts.{net_text}
use Rattle.mm_top.specs.{Orders.AreIssued, Groups.GroupsRefused, Ranges.SweepRefused, Nodes.{NoneLacking, JoinRefused}}
use Rattle.mm_top.specs.Saving.{last_issued, saved_after, Continues}
use Rattle.mm_model.specs.Image as model
use Rattle.mm_model.specs.Run as machine
use Rattle.mm_model.specs.Trace as lines
use Rattle.mm_sweep.specs.Holders as holding
use Rattle.mm_debug.specs.Session as session
use Rattle.mm_load.specs.declared.status.Refusal.TheVariants as refusal

-- 1. What is written and refused.

-- the report of the groups' own part of a run under a list: the image without the slots of other groups, and the
-- groups' items among the first `cycles` of the list
abbrev pub own_report : (List Use → Option Counts) → model.Image → List ℕ → ℕ → (ℕ → Bool) → List ℕ
own_report tells i list cycles c = report_after tells (alone i c) (only i (first_items list cycles) c)

-- the text is the spelling of the groups' own image: their slots, and what they can touch
abbrev pub IsExtract : model.Image → (ℕ → Bool) → List ℕ → Type 0
IsExtract i c text = (own : model.Image) × Extracts i c own × Spells text own

-- objects are refused because they do not link: this is their first fault
abbrev pub LinkRefused : List Object → Refusal → Type 0
LinkRefused objects r = (fault : LinkFault) × (r ≡ refusal.Link fault) × (link_fault objects ≡ Some fault)

-- the text is the spelling of the image that objects link to
abbrev pub IsLinked : List Object → List ℕ → Type 0
IsLinked objects text = (i : model.Image) × Linked objects i × Spells text i

-- the replies to the lines of an input, in a session of an image under an order, which can go back to its start
abbrev pub replies_to : model.Image → Order → (input : List ℕ) → List ℕ
replies_to i order input = let first = session.begun order (model.start i) in (recorded first first input).text

-- the values are those of an order and then of an input, and the text is the replies to that input
abbrev pub IsDialogue : model.Image → List Value → List ℕ → Type 0
IsDialogue i values text = (order : Order) × (input : List ℕ) × (values ≡ values_of order ++ a_text input ∷ [])
    × (text ≡ replies_to i order input)

-- the summary of a generated image's run under up to `cycles` cycles of round robin, over every memory
abbrev pub soaked : (number size cycles : ℕ) → List ℕ
soaked number size cycles =
    let i = generated number size in
    summary (machine.run (model.start i) (machine.robin_from (model.start i) None cycles))

-- 2. The commands.

-- a command with these words is refused, given these values of its inputs
abbrev pub DeclinesAt : Command → List Word → List Value → Refusal → Type 0
DeclinesAt Solo (image ∷ groups_word groups ∷ words) (an_image i ∷ lists) r = GroupsRefused i (among groups) r
DeclinesAt Extract (image ∷ groups_word groups ∷ []) (an_image i ∷ []) r = GroupsRefused i (among groups) r
DeclinesAt Link words values r = (objects : List Object) × (values ≡ map an_object objects) × LinkRefused objects r
DeclinesAt Sweep (image ∷ range_word base log ∷ []) (an_image i ∷ []) r = SweepRefused (base, log) i r
DeclinesAt Net words (a_links links ∷ an_events events ∷ values) r =
    (images : List model.Image) × (values ≡ map an_image images) × JoinRefused links (length images) r
DeclinesAt _ _ _ r = ⊥

-- a command that runs nothing writes a text
abbrev pub YieldsAloneAt : Command → List Word → List Value → List ℕ → Type 0
YieldsAloneAt Grants (image ∷ []) (an_image i ∷ []) text = IsAudit i None text
YieldsAloneAt Grants (image ∷ groups_word groups ∷ []) (an_image i ∷ []) text = IsAudit i (Some groups) text
YieldsAloneAt Extract (image ∷ groups_word groups ∷ []) (an_image i ∷ []) text =
    StandAlone i (among groups) × IsExtract i (among groups) text
YieldsAloneAt Asm words (an_object o ∷ []) text = SpellsObject text o
YieldsAloneAt Link words values text = (objects : List Object) × (values ≡ map an_object objects)
    × IsLinked objects text
YieldsAloneAt Dis words (an_object o ∷ []) text = text ≡ canonical o
YieldsAloneAt Gen (number_word number ∷ number_word size ∷ []) [] text = Spells text (generated number size)
YieldsAloneAt Migrate (image ∷ mode_word split ∷ []) (an_image i ∷ []) text = Spells text (migrated i split)
YieldsAloneAt Sweep (image ∷ range_word base log ∷ []) (an_image i ∷ []) text =
    CanSweep (base, log) i × Spells text (swept (base, log) i)
YieldsAloneAt Holders (image ∷ range_word base log ∷ []) (an_image i ∷ []) text = text ≡ holding.holders (base, log) i
YieldsAloneAt Explore (image ∷ number_word states ∷ []) (an_image i ∷ []) text = Explores i states text
YieldsAloneAt Why (image ∷ number_word group ∷ number_word word ∷ use_word how ∷ []) (an_image i ∷ []) text =
    SaysWhy i how group word text
YieldsAloneAt Keeps (image ∷ number_word threads ∷ segments_word kept ∷ []) (an_image i ∷ []) text =
    Tells i kept threads text
YieldsAloneAt _ _ _ text = ⊥

-- a command writes a text, given what the memory tells of uses
abbrev pub YieldsAt : (List Use → Option Counts) → Command → List Word → List Value → List ℕ → Type 0
YieldsAt tells Run (image ∷ number_word cycles ∷ words) (an_image i ∷ lists) text =
    (items : List ℕ) × AreIssued i cycles lists items × (text ≡ report_after tells i items)
YieldsAt tells Trace (image ∷ number_word cycles ∷ words) (an_image i ∷ lists) text =
    (items : List ℕ) × AreIssued i cycles lists items
    × (text ≡ lines.trace (model.start i) items ++ report_after tells i items)
YieldsAt tells Log (image ∷ number_word cycles ∷ words) (an_image i ∷ lists) text =
    (items : List ℕ) × AreIssued i cycles lists items
    × (text ≡ log_text (model.start i) items ++ report_after tells i items)
YieldsAt tells Solo (image ∷ groups_word groups ∷ number_word cycles ∷ words) (an_image i ∷ a_list list ∷ []) text =
    StandAlone i (among groups) × (text ≡ own_report tells i list cycles (among groups))
YieldsAt tells Debug words (an_image i ∷ values) text = IsDialogue i values text
YieldsAt tells Soak (number_word number ∷ number_word size ∷ number_word cycles ∷ []) [] text =
    text ≡ soaked number size cycles
YieldsAt tells Save (image ∷ number_word cycles ∷ words) (an_image i ∷ lists) text =
    (items : List ℕ) × AreIssued i cycles lists items × (text ≡ saved_after i items (last_issued lists items))
YieldsAt tells Continue (image ∷ checkpoint ∷ number_word cycles ∷ words) (an_image i ∷ a_checkpoint c ∷ lists) text =
    Continues tells i c cycles lists text
YieldsAt tells Net (first ∷ second ∷ number_word cycles ∷ words) (a_links links ∷ an_events events ∷ values) text =
    (images : List model.Image) × (values ≡ map an_image images) × NoneLacking links (length images)
    × (text ≡ net_text tells links images (take cycles events))
YieldsAt tells command words values text = YieldsAloneAt command words values text

-- a row is refused
abbrev pub Declines : Row → List Value → Refusal → Type 0
Declines row values r = DeclinesAt row.command row.words values r

-- a row that runs nothing writes a text
abbrev pub YieldsAlone : Row → List Value → List ℕ → Type 0
YieldsAlone row values text = YieldsAloneAt row.command row.words values text

-- a row writes a text, given what the memory tells of uses
abbrev pub Yields : (List Use → Option Counts) → Row → List Value → List ℕ → Type 0
Yields tells row values text = YieldsAt tells row.command row.words values text

-- 3. The rows that clauses and laws name.

-- the words of a run: an image, a count of cycles and, perhaps, a schedule
abbrev pub run_words : (image : List ℕ) (cycles : ℕ) (schedule : Option (List ℕ)) → List Word
run_words image cycles schedule =
    file_word image_file image ∷ number_word cycles ∷ optional (file_word schedule_file) schedule

abbrev pub run : (image : List ℕ) (cycles : ℕ) (schedule : Option (List ℕ)) → Row
run image cycles schedule = record { command = Run; words = run_words image cycles schedule }

abbrev pub trace : (image : List ℕ) (cycles : ℕ) (schedule : Option (List ℕ)) → Row
trace image cycles schedule = record { command = Trace; words = run_words image cycles schedule }

abbrev pub log : (image : List ℕ) (cycles : ℕ) (schedule : Option (List ℕ)) → Row
log image cycles schedule = record { command = Log; words = run_words image cycles schedule }

abbrev pub explore : (image : List ℕ) (states : ℕ) → Row
explore image states = record { command = Explore; words = file_word image_file image ∷ number_word states ∷ [] }

abbrev pub keeps : (image : List ℕ) (threads : ℕ) (kept : List Segment) → Row
keeps image threads kept = record {
  command = Keeps;
  words = file_word image_file image ∷ number_word threads ∷ segments_word kept ∷ [];
}

abbrev pub save : (image : List ℕ) (cycles : ℕ) (schedule : Option (List ℕ)) → Row
save image cycles schedule = record { command = Save; words = run_words image cycles schedule }

abbrev pub continue : (image checkpoint : List ℕ) (cycles : ℕ) (schedule : Option (List ℕ)) → Row
continue image checkpoint cycles schedule = record {
  command = Continue;
  words = file_word image_file image ∷ file_word checkpoint_file checkpoint ∷ number_word cycles
      ∷ optional (file_word schedule_file) schedule;
}

abbrev pub asm : (source : List ℕ) → Row
asm source = record { command = Asm; words = file_word source_file source ∷ [] }

abbrev pub link : (objects : List (List ℕ)) → Row
link objects = record { command = Link; words = map (file_word object_file) objects }
