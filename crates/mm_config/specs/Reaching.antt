-- What is read where the machine is put to another configuration.
use Rattle.std.specs.Prelude.{◌≡◌, ◌⊎◌, ℕ, ◌<◌, ◌≤◌, if◌then◌else◌, false, List, [], ◌∷◌, ◌++◌, map, length, take, slice_index_or}
use Rattle.std.specs.List.{AllByRecursion}
use Rattle.mm_model.specs.{Image.Image, Flags.flags, Fits.identity_of, State.{State, Core, output_of}}
use Rattle.mm_model.specs.declared.event.Event.{Event}
use Rattle.mm_thread.specs.{SlotIndices.{no_slot, slot_in, queue_in}, Revisions.{Extension, queues_in, outputs_in}}
use Rattle.mm_config.specs.declared.configs.Configs as code
use Rattle.mm_config.specs.declared.names.Names.{Names}
use Rattle.mm_pairs.specs.Trees.{IsTree}
use Rattle.mm_config.specs.{Noting.{HaveSamePlaces, mapped_pages}, Machines.Configs, Naming.AreNamesOf, Keeping.{Stands, IsConfigurationOf, IsKeyOf}}

-- a machine with its configurations, and another configuration of a key
pub record HasConfiguration (c : code.Configs) (key : ℕ × ℕ) : Type 0 where
  pub image : Image
  pub at : Configs
  pub state : State
  pub stands : Stands image at c
  pub config : IsConfigurationOf image state
  pub is : IsKeyOf image.slots c.depth c.store state key

-- a machine with its configurations, and another configuration of these names
pub record Reaches (wanted : Names) (c : code.Configs) : Type 0 where
  pub image : Image
  pub at : Configs
  pub state : State
  pub stands : Stands image at c
  pub config : IsConfigurationOf image state
  pub names : AreNamesOf image.slots c.depth c.store state wanted

-- the core is this one, and what is not room is as it was
pub record HasPutCore (core : Core) (old new : code.Configs) : Type 0 where
  pub is : new.core ≡ core
  pub room : map identity_of new.slots.items ≡ map identity_of old.slots.items
  pub others : new ≡ record old { core = new.core; slots = new.slots; revision = new.revision; changed = new.changed }

-- the memory of these names is put: the pages that are listed are its pages, if the same pages were mapped before
pub record HasPutMemory (wanted : Names) (c : code.Configs) : Type 0 where
  pub was : IsTree c.store.pairs c.names.height c.names.pages
  pub now : IsTree c.store.pairs wanted.height wanted.pages
  pub listed : c.names.height ≡ wanted.height → HaveSamePlaces c.store.pairs wanted.height c.names.pages wanted.pages
      → c.mapped.items ≡ mapped_pages c.mem.memory

-- what is not room for reading is as it was
abbrev pub KeepsAll : (old new : code.Configs) → Type 0
KeepsAll old new = new ≡ record old { slots = new.slots; revision = new.revision; changed = new.changed }

-- the slots of a core at the indices that are set in a mask are read; those at the others are the same
pub record HasReadSlots (core : Core) (old new : code.Configs) (mask : ℕ) : Type 0 where
  pub slots : (k : ℕ) → k < length old.base.items
      → (if slice_index_or (flags (length old.base.items) mask) k false then slice_index_or new.slots.items k no_slot else slot_in old.core k) ≡ slot_in core k
  pub room : map identity_of new.slots.items ≡ map identity_of old.slots.items
  pub others : KeepsAll old new

-- an index is one of those listed
abbrev pub IsListed : {A : Type 0} → (A → ℕ) → ℕ → List A → Type 0
IsListed of k [] = ⊥
IsListed of k (x ∷ xs) = (of x ≡ k) ⊎ IsListed of k xs

-- the queues of a core that are not the same are read
pub record HasReadQueues (core : Core) (old new : code.Configs) : Type 0 where
  pub queues : AllByRecursion (λ (x : ℕ × List Event). (x.0 < length old.core.rows) × (x.1 ≡ queue_in core x.0)) (queues_in new.revision)
  pub rest : (k : ℕ) → k < length old.core.rows → IsListed (λ (x : ℕ × List Event). x.0) k (queues_in new.revision) ⊎ (queue_in old.core k ≡ queue_in core k)
  pub room : new.slots ≡ old.slots
  pub others : KeepsAll old new

-- bytes that stay and those after them are an output of the core that is wanted
pub record Extends (core wanted : Core) (x : Extension) : Type 0 where
  pub inside : x.group < length core.outputs
  pub kept : x.kept ≤ length (output_of core x.group)
  pub is : take x.kept (output_of core x.group) ++ x.bytes ≡ output_of wanted x.group

-- the outputs of a core that are not the same are read
pub record HasReadOutputs (core : Core) (old new : code.Configs) : Type 0 where
  pub outputs : AllByRecursion (Extends old.core core) (outputs_in new.revision)
  pub rest : (g : ℕ) → g < length old.core.outputs → IsListed (λ (x : Extension). x.group) g (outputs_in new.revision) ⊎ (output_of old.core g ≡ output_of core g)
  pub queues : new.revision.queues ≡ old.revision.queues
  pub room : new.slots ≡ old.slots
  pub others : KeepsAll old new
