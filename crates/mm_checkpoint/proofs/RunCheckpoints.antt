-- The parts of a run's state are a snapshot of it, and spelled by bytes they are a checkpoint of its image.
use Rattle.std.proofs.Common.{◌≡◌, ℕ, ◌<◌, List, map, Option, None, refl, ap, zero, suc, [], ◌∷◌, sym, subst, arith}
use Rattle.std.specs.List.{AllByRecursion}
use Rattle.mm_model.proofs.{TurnKeeps.each_of, CoreRows.{each_map, into_map}}
use Rattle.mm_model.proofs.OutputBytes.{AreBytes, group_bytes, run_bytes}
use Rattle.mm_model.specs.{Slot.Slot, State.State, Image.start, Run.run, Fits.{slots_of, IsOfVersion}, Bytes.IsBytes}
use Rattle.mm_thread.specs.Output.{Output}
use Rattle.mm_machine.specs.{Validity.IsValid, Snapshot.{Parts, IsSnapshotOf, IsTyped}, Capture.OutputsBelow}
use Rattle.mm_machine.proofs.{Keeping.valid_core, Copied.{snapshot_taken, typed_taken}}
use Rattle.mm_checkpoint.specs.{Checkpoints.{saved_of, Saved, IsCheckpoint}, Format.spelling, Reading.groups_of}
use Rattle.mm_checkpoint.specs.{States.{outputs_of, saved_form}, Laws.{RunsHaveSnapshots, RunsHaveCheckpoints}}
use Rattle.mm_checkpoint.proofs.{Reached.{reached, snapshots}, Forms.{groups_made, said_made}}
use Rattle.mm_checkpoint.proofs.Made.{made_outputs, made_parts, made_saved}
use Rattle.mm_checkpoint.proofs.{Groups.{groups_rise, groups_used, groups_low, groups_shown}, CheckpointBytes.whole}

-- 1. The parts.

module _ (s : State) (kept : IsValid s) where
  abbrev slots : List Slot
  slots = slots_of s.core

  abbrev outputs : List Output
  outputs = made_outputs (outputs_of s.core)

  same_groups : map (λ (o : Output). o.group) outputs ≡ groups_of slots
  same_groups = groups_made s.core (groups_of slots)

  small : AllByRecursion (λ (x : Slot). x.group < 64) slots
  small = each_map (IsOfVersion 2) (λ (x : Slot). x.group < 64) (λ x is. is.group) slots (valid_core s kept).numbers

  below : OutputsBelow s.core (slots_of s.core) 64 outputs
  below = record {
    rising = groups_rise slots small outputs same_groups;
    low = groups_low slots small outputs same_groups;
    used = groups_used slots small outputs same_groups;
    shown = groups_shown slots small outputs same_groups;
    said = said_made s.core (groups_of slots);
  }

  -- beside any last slot
  abbrev pub parts : Parts
  parts = made_parts (saved_form s None)

  pub have_form : (last : Option ℕ) → saved_of parts last ≡ saved_form s last
  have_form last = made_saved (saved_form s last)

  pub are_snapshot : IsSnapshotOf s parts
  are_snapshot = record { rules = snapshot_taken s outputs below kept; slots = refl; events = refl; outputs = below.said; pages = refl; cycles = refl }

  pub are_typed : IsTyped parts
  are_typed = typed_taken s outputs kept

pub runs_have_snapshots : RunsHaveSnapshots
runs_have_snapshots i items image =
    let s : State = run (start i) items in
    let kept : IsValid s = (reached i items image).kept in
    record { parts = parts s kept; of = are_snapshot s kept; typed = are_typed s kept }

-- 2. The bytes.

is_bytes : (bytes : List ℕ) → AreBytes bytes → IsBytes bytes
is_bytes [] h k = omega arith
is_bytes (b ∷ bytes) h zero = h.0
is_bytes (b ∷ bytes) h (suc k) = is_bytes bytes h.1 k

pub runs_have_checkpoints : RunsHaveCheckpoints
runs_have_checkpoints i items last image few small =
    let s : State = run (start i) items in
    let kept : IsValid s = (reached i items image).kept in
    let p = parts s kept in
    let form = have_form s kept last in
    let checkpoint : IsCheckpoint i p last =
    snapshots i items p last image few (are_snapshot s kept) (are_typed s kept) small in
    let groups = groups_of (slots_of s.core) in
    let outputs : AllByRecursion (λ (o : ℕ × List ℕ). AreBytes o.1) (saved_of p last).outputs =
    subst (λ (c : Saved). AllByRecursion (λ (o : ℕ × List ℕ). AreBytes o.1) c.outputs) (sym form)
    (into_map _ _ _
    (each_of _ (group_bytes s.core (run_bytes i items)) groups)) in
    record {
      parts = p;
      of = are_snapshot s kept;
      saves = record { checkpoint = checkpoint; spelled = ap (spelling i) (sym form) };
      bytes = is_bytes _ (subst (λ (c : Saved). AreBytes (spelling i c)) form
          (whole i p last image checkpoint (λ b. b < 256) (λ b small. small) outputs).each);
    }
