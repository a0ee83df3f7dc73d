-- From a run to its checkpoint and on: what `save` and `continue` do one after the other.
use Rattle.std.specs.Prelude.{◌≡◌, ℕ, ◌+◌, ◌≤◌, List, [], ◌∷◌, ◌++◌, length, Option, None}
use Rattle.mm_model.specs.{declared.counts.Counts.Counts, Limits.cycle_limit, Uses.Use, Image.{Image, start}}
use Rattle.mm_model.specs.{Bytes.IsBytes, Run.{run, uses, robin_from}, Schedule.first_items, Report.report}
use Rattle.mm_model.specs.Spelling.{IsImage}
use Rattle.mm_checkpoint.specs.Checkpoints.{Saved}
use Rattle.mm_cli.specs.{declared.{table.{Kind.{TheVariants.{Checkpoint as checkpoint_file}}}}}
use Rattle.mm_load.specs.Kinds.{Value, an_image, a_list, a_checkpoint, limit_of, Accepts}
use Rattle.mm_top.specs.{Orders.AreIssued, Saving.last_issued, Commands.{save, continue, Yields}}

-- What `continue` writes after up to `b` further cycles from what `save` wrote.
pub record IsOneRun (tells : List Use → Option Counts) (i : Image) (a b : ℕ) (lists more : List Value) (text : List ℕ) :
    Type 0 where
  -- the items that were issued before the save, and the items after it
  pub items : List ℕ
  pub further : List ℕ
  pub issues : AreIssued i a lists items
  -- The text is the report of the image's run under both, with the counts of the second part's uses alone.
  pub whole : text ≡ report (run (start i) (items ++ further)) i (tells (uses (run (start i) items) further))
  -- If the second part has no schedule, it is round robin from the saved state, after the slot that round robin issued
  -- last. If the first part had a schedule, there is no such slot, and round robin begins anew.
  pub unlisted : more ≡ [] → further ≡ robin_from (run (start i) items) (last_issued lists items) b
  -- If both parts are round robin, their items are those of one round robin of all cycles.
  pub robin : lists ≡ [] → more ≡ [] → items ++ further ≡ robin_from (start i) None (a + b)
  -- If the second part has a schedule, its items are the first `b` of the schedule, or all if the schedule has fewer.
  pub listed : (list : List ℕ) → more ≡ a_list list ∷ [] → further ≡ first_items list b

-- What `save` wrote after up to `a` cycles is read by `continue`, which goes on with the run that was saved.
pub record IsSaved (tells : List Use → Option Counts) (i : Image) (a : ℕ) (lists : List Value) (ck : List ℕ) : Type 0
  where
    -- The text consists of bytes, and is not too long to be read.
    pub bytes : IsBytes ck
    pub short : length ck ≤ limit_of checkpoint_file
    -- The text is read as one checkpoint of the image, and as no other.
    pub checkpoint : Saved
    pub accepted : Accepts checkpoint_file (an_image i ∷ []) ck (a_checkpoint checkpoint)
    pub alone : (c : Saved) → Accepts checkpoint_file (an_image i ∷ []) ck (a_checkpoint c) → c ≡ checkpoint
    pub goes_on : (again file : List ℕ) (b : ℕ) (other : Option (List ℕ)) (more : List Value) (text : List ℕ)
        → Yields tells (continue again file b other) (an_image i ∷ a_checkpoint checkpoint ∷ more) text
        → IsOneRun tells i a b lists more text

-- whatever `save` writes is read as a checkpoint, and the run goes on from it
abbrev pub SavesGoOn : Type 0
SavesGoOn = (tells : List Use → Option Counts) (i : Image) (a : ℕ) (image : List ℕ) (schedule : Option (List ℕ))
    (lists : List Value) (ck : List ℕ)
    → IsImage i → a ≤ cycle_limit → Yields tells (save image a schedule) (an_image i ∷ lists) ck
    → IsSaved tells i a lists ck
