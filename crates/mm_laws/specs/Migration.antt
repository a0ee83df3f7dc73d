-- A plain image that is migrated to version 2.
use Rattle.std.specs.{Prelude.{◌≡◌, ◌≢◌, ◌↔◌, ℕ, Bool, false, List, Option}, List.AllByRecursion}
use Rattle.mm_word.specs.declared.cause.Cause.TheVariants.{OutFull}
use Rattle.mm_model.specs.{declared.{counts.Counts.Counts, step.{Step.Step, Tick.TheVariants.Faulted}}, Uses.Use}
use Rattle.mm_model.specs.{Image.{Image, start}, Run.steps, Report.report_after, Trace.trace}
use Rattle.mm_model.specs.{Reach.{Entries, CanTouch, CanWrite}, Worlds.{Apart, migrated}}

-- no turn of the run faults because an output is full
abbrev pub NoOutputIsFull : Image → List ℕ → Type 0
NoOutputIsFull i items = AllByRecursion (λ (step : Step). step.tick ≢ Faulted OutFull) (steps (start i) items)

-- two images show the same of their runs, and the same groups reach the same words in both
pub record ShowsTheSame (i j : Image) (items : List ℕ) : Type 0 where
  -- the reports are the same over every memory
  pub report : (tells : List Use → Option Counts) → report_after tells i items ≡ report_after tells j items
  pub trace : trace (start i) items ≡ trace (start j) items
  pub can_touch : (e : Entries) (g w : ℕ) → CanTouch i e g w ↔ CanTouch j e g w
  pub can_write : (e : Entries) (g w : ℕ) → CanWrite i e g w ↔ CanWrite j e g w
  pub apart : (e : Entries) (c : ℕ → Bool) → Apart i e c ↔ Apart j e c

-- A plain image that is migrated to version 2, and stays plain, shows the same for each list in whose run no output is
-- full. This condition is only for an image of version 1: its groups may put out less than those of version 2.
abbrev pub MigrationKeeps : Type 0
MigrationKeeps = (i : Image) (items : List ℕ) → i.split ≡ false → (i.version ≡ 1 → NoOutputIsFull i items)
    → ShowsTheSame i (migrated i false) items
