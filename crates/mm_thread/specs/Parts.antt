-- A core by its parts: slots, events and outputs.
use Rattle.std.specs.Prelude.{◌≡◌, ℕ, Bool, ◌==◌, if◌then◌else◌, List, [], ◌∷◌, map, replicate, slice_set}
use Rattle.std.specs.List.{AllByRecursion}
use Rattle.mm_model.specs.{declared.event.Event.Event, Slot.Slot, State.{ThreadRow, Core, output_of}}
use Rattle.mm_model.specs.Fits.{identity_of, slots_of, IsCore}
use Rattle.mm_thread.specs.Output.{Output}

-- the events of a list for the slot of a number, in order
abbrev pub events_for : ℕ → List (ℕ × Event) → List Event
events_for n [] = []
events_for n (x ∷ xs) = if x.0 == n then x.1 ∷ events_for n xs else events_for n xs

abbrev pub row_with : List (ℕ × Event) → Slot → ThreadRow
row_with events s = record { slot = s; queue = events_for s.number events }

-- the outputs of groups, each replaced by the one in the list, if there is one
abbrev pub outputs_with : List Output → List (List ℕ) → List (List ℕ)
outputs_with [] outputs = outputs
outputs_with (o ∷ os) outputs = outputs_with os (slice_set outputs o.group o.bytes)

-- the core of these parts
abbrev pub core_of : ℕ → Bool → List Slot → List (ℕ × Event) → List Output → Core
core_of version split slots events outputs = record {
  rows = map (row_with events) slots;
  outputs = outputs_with outputs (replicate 64 []);
  version = version;
  split = split;
}

-- the parts make a core of this core's slots, and each output in the list is its group's
pub record AreParts (core : Core) (slots : List Slot) (events : List (ℕ × Event)) (outputs : List Output) : Type 0 where
  pub whole : IsCore (core_of core.version core.split slots events outputs)
  pub same : map identity_of slots ≡ map identity_of (slots_of core)
  pub given : AllByRecursion
      (λ (o : Output). output_of (core_of core.version core.split slots events outputs) o.group ≡ o.bytes) outputs
