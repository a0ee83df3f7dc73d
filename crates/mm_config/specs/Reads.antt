-- What is read of changes: places, each with a name there.
use Rattle.std.specs.Prelude.{◌≡◌, ℕ, ◌<◌, ◌≤◌, ◌^◌, bit_or, List, [], ◌++◌, fold, length, take, slice_set, slice_index_or}
use Rattle.std.specs.List.{AllByRecursion}
use Rattle.mm_model.specs.{declared.event.Event.Event, Slot.Slot, State.{Core, output_of}}
use Rattle.mm_thread.specs.{SlotIndices.no_slot, Revisions.Extension}
use Rattle.mm_pairs.specs.Named.{named}
use Rattle.mm_config.specs.declared.store.Store.{Store}
use Rattle.mm_config.specs.{Forms.{slot_from, queue_from}, Naming.{IsOutputName, leaf_at}}

-- the set of the places
abbrev pub mask_of : List (ℕ × ℕ) → ℕ
mask_of changes = fold (λ (mask : ℕ) (e : ℕ × ℕ). bit_or mask (2 ^ e.0)) 0 changes

-- slots, with those of the names at their places
abbrev pub slots_read : (lists : List (List ℕ)) (base : List Slot) → List (ℕ × ℕ) → List Slot → List Slot
slots_read lists base changes slots =
    fold (λ (now : List Slot) (e : ℕ × ℕ). slice_set now e.0 (slot_from (slice_index_or base e.0 no_slot) (named [] lists e.1))) slots changes

-- the queue of a name
abbrev pub queue_read : (lists : List (List ℕ)) → ℕ × ℕ → ℕ × List Event
queue_read lists e = (e.0, queue_from (named [] lists e.1))

-- a group, and the name of an output that takes the place of its own
pub record IsOutputChange (k : Store) (core : Core) (tree : ℕ) (e : ℕ × ℕ) : Type 0 where
  pub small : e.0 < 64
  pub was : IsOutputName k (output_of core e.0) (leaf_at k.pairs 6 tree e.0)
  pub bytes : List ℕ
  pub named : IsOutputName k bytes e.1
  pub all : AllByRecursion (λ byte. byte < 256) bytes

-- what stays of the output of the group, and the bytes after it
pub record IsOutputRead (k : Store) (core : Core) (e : ℕ × ℕ) (x : Extension) : Type 0 where
  pub group : x.group ≡ e.0
  pub kept : x.kept ≤ length (output_of core e.0)
  pub is : (bytes : List ℕ) → IsOutputName k bytes e.1 → take x.kept (output_of core e.0) ++ x.bytes ≡ bytes
