-- Runs that are saved, and go on.
use Rattle.std.specs.Prelude.{◌≡◌, ℕ, List, [], ◌∷◌, Option, None}
use Rattle.mm_model.specs.{declared.counts.Counts.Counts, Uses.Use, Image.{Image, start}, State.State}
use Rattle.mm_model.specs.{Run.{run, last_item}, Report.further_report}
use Rattle.mm_machine.specs.Snapshot.{IsAlike}
use Rattle.mm_checkpoint.specs.{Checkpoints.Saved, Format.spelling, States.saved_form}
use Rattle.mm_load.specs.Kinds.{Value}
use Rattle.mm_top.specs.Orders.{AreIssuedFrom}

-- 1. What is saved.

-- the slot that round robin issued last; none if there is a list
abbrev pub last_issued : (lists : List Value) → List ℕ → Option ℕ
last_issued [] items = last_item None items
last_issued (list ∷ lists) items = None

-- the bytes of the checkpoint of an image's run under these items, with the slot that round robin issued last
abbrev pub saved_after : Image → List ℕ → (last : Option ℕ) → List ℕ
saved_after i items last = spelling i (saved_form (run (start i) items) last)

-- 2. What goes on.

-- a state of a machine of the image has this saved form
pub record HasState (i : Image) (c : Saved) (s : State) : Type 0 where
  pub alike : IsAlike (start i) s
  pub saved : saved_form s c.last ≡ c

-- the text is the report of a run that goes on from what is saved
abbrev pub Continues : (List Use → Option Counts) → Image → Saved → (cycles : ℕ) → (lists : List Value) → List ℕ
    → Type 0
Continues tells i c cycles lists text =
    (s : State) × HasState i c s
    × ((items : List ℕ) × AreIssuedFrom s c.last cycles lists items × (text ≡ further_report tells i s items))
