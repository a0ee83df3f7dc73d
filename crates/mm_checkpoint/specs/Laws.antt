-- Laws of checkpoints.
use Rattle.std.specs.Prelude.{◌≡◌, ◌↔◌, ℕ, ◌+◌, ◌<◌, ◌≤◌, List, ◌++◌, length, Option, None, IfSome}
use Rattle.mm_model.specs.{Image.{Image, start}, Bytes.IsBytes, Limits.cycle_limit, Run.{run, robin_from, last_item}}
use Rattle.mm_model.specs.{Spelling.IsImage, State.State}
use Rattle.mm_machine.specs.Snapshot.{Parts, IsSnapshot, IsTyped, IsSnapshotOf, restored}
use Rattle.mm_checkpoint.specs.{Checkpoints.{saved_of, IsCheckpoint}, Format.{Saves, spelling}, Faults.save_fault}
use Rattle.mm_checkpoint.specs.States.{saved_form}

-- 1. Bytes and checkpoints.

-- the bytes spell some parts of a state, and a last slot, as a checkpoint of the image
pub record SomeSaved (i : Image) (bytes : List ℕ) : Type 0 where
  pub parts : Parts
  pub last : Option ℕ
  pub saves : Saves bytes i parts last

-- bytes have no fault exactly if they are a checkpoint of the image
abbrev pub CheckpointsHaveNoFault : Type 0
CheckpointsHaveNoFault = (i : Image) (bytes : List ℕ) → IsImage i → IsBytes bytes → (save_fault i bytes ≡ None)
    ↔ SomeSaved i bytes

-- bytes are at most one checkpoint of the image
abbrev pub CheckpointsAreOne : Type 0
CheckpointsAreOne = (i : Image) (bytes : List ℕ) (p q : Parts) (last also : Option ℕ) → IsImage i → Saves bytes i p last
    → Saves bytes i q also → saved_of p last ≡ saved_of q also

-- the bytes of a checkpoint of an image are no more than are read of a checkpoint's file
abbrev pub CheckpointsAreShort : Type 0
CheckpointsAreShort = (i : Image) (bytes : List ℕ) (p : Parts) (last : Option ℕ) → IsImage i → Saves bytes i p last
    → length bytes ≤ 33554432

-- 2. Checkpoints of runs.

-- a snapshot of a state, whose parts keep the invariants of their types
pub record SomeSnapshot (s : State) : Type 0 where
  pub parts : Parts
  pub of : IsSnapshotOf s parts
  pub typed : IsTyped parts

-- the state of each run of an image has a snapshot
abbrev pub RunsHaveSnapshots : Type 0
RunsHaveSnapshots = (i : Image) (items : List ℕ) → IsImage i → SomeSnapshot (run (start i) items)

-- the spelling of a state's saved form is a checkpoint of the image, of a snapshot of the state, and consists of bytes
pub record IsSavedState (i : Image) (s : State) (last : Option ℕ) : Type 0 where
  pub parts : Parts
  pub of : IsSnapshotOf s parts
  pub saves : Saves (spelling i (saved_form s last)) i parts last
  pub bytes : IsBytes (spelling i (saved_form s last))

-- the state of each run of an image under at most 1,000,000 items has such a checkpoint, with no last slot or any below
-- 64
abbrev pub RunsHaveCheckpoints : Type 0
RunsHaveCheckpoints =
    (i : Image) (items : List ℕ) (last : Option ℕ) → IsImage i → length items ≤ cycle_limit → IfSome last (λ n. n < 64)
    → IsSavedState i (run (start i) items) last

-- a snapshot of a machine of an image, after at most 1,000,000 items, keeps the rules of the image's checkpoints
abbrev pub SnapshotsAreCheckpoints : Type 0
SnapshotsAreCheckpoints =
    (i : Image) (items : List ℕ) (p : Parts) (last : Option ℕ) → IsImage i → length items ≤ cycle_limit
    → IsSnapshotOf (run (start i) items) p → IsTyped p
    → IfSome last (λ n. n < 64) → IsCheckpoint i p last

-- if the first parts are a snapshot of a state, so are the second; and both put the same state back
pub record SameStates (p q : Parts) : Type 0 where
  pub of : (t : State) → IsSnapshotOf t p → IsSnapshotOf t q
  pub restored : (s : State) → restored s p ≡ restored s q

abbrev pub SavedFormsAreStates : Type 0
SavedFormsAreStates = (p q : Parts) (last also : Option ℕ) → IsSnapshot q → saved_of p last ≡ saved_of q also
    → SameStates p q × (last ≡ also)

-- the snapshot of a machine of an image, after any list of items, brings the run's state back to a machine at the
-- image's start, and further items then lead where the whole list leads
abbrev pub RestoredRunsGoOn : Type 0
RestoredRunsGoOn =
    (i : Image) (items more : List ℕ) (p : Parts) → IsImage i → IsSnapshotOf (run (start i) items) p
    → (restored (start i) p ≡ run (start i) items) × (run (restored (start i) p) more ≡ run (start i) (items ++ more))

-- the saved form of a snapshot of a machine of an image, after any list of items, is that of the run's state
abbrev pub SnapshotsHaveSavedForms : Type 0
SnapshotsHaveSavedForms =
    (i : Image) (items : List ℕ) (p : Parts) (last : Option ℕ) → IsImage i → IsSnapshotOf (run (start i) items) p
    → saved_of p last ≡ saved_form (run (start i) items) last

-- round robin of some cycles, and then of more from the state and the last item after them, is one round robin of all
abbrev pub RoundRobinGoesOn : Type 0
RoundRobinGoesOn =
    (s : State) (last : Option ℕ) (first more : ℕ)
    → robin_from s last (first + more)
    ≡ robin_from s last first
    ++ robin_from (run s (robin_from s last first)) (last_item last (robin_from s last first)) more
