-- What is noted of a turn.
use Rattle.std.specs.Prelude.{◌≡◌, ◌⊎◌, ◌↔◌, true, ℕ, ◌<◌, ◌≤◌, ◌^◌, ◌%◌, List, [], ◌∷◌, ◌++◌, map, length, slice_index_or, Option, Some, IsSomeAnd}
use Rattle.std.specs.Prelude.{IsBitSet, IfSome}
use Rattle.mm_word.specs.declared.cause.Cause.{Cause}
use Rattle.mm_model.specs.declared.{slot.SlotState.TheVariants.Running, step.{Step.Step, Tick.{Tick, TheVariants.Faulted}}}
use Rattle.mm_word.specs.Access.{AccessValue}
use Rattle.mm_word.specs.declared.word.Cell.{Cell}
use Rattle.mm_model.specs.Counted.{writes}
use Rattle.mm_model.specs.{Image.{Image, start}, Spelling.IsImage, Memory.{Memory, IsPaged, put_cell}, Slot.Slot, State.{slot_at, output_of}, Run.turn_of, Fits.{slots_of, identity_of}}
use Rattle.mm_laws.specs.Frames.{MemoryLeft}
use Rattle.mm_thread.specs.SlotIndices.{no_slot, slot_in, queue_in}
use Rattle.mm_pairs.specs.Trees.{IsTree}
use Rattle.mm_config.specs.declared.configs.Configs as code
use Rattle.mm_config.specs.declared.note.Before.{Before}
use Rattle.mm_config.specs.{Machines.Configs, Naming.{IsSlotName, IsQueueName, IsOutputName, leaf_at, AreMemoryNames}}
use Rattle.mm_config.specs.{Noting.{IsKeptStill, HasOtherPages, mapped_pages}, Keeping.Stands}

-- 0. At the start.

-- the core and the memory are at the start of an image, and nothing is noted or kept
pub record HasStarted (i : Image) (c : code.Configs) : Type 0 where
  pub image : IsImage i
  pub base : c.base.items ≡ i.slots
  pub room : c.slots.items ≡ i.slots
  pub deep : c.depth ≤ 6
  pub wide : length i.slots ≤ 2 ^ c.depth
  pub core : c.core ≡ (start i).core
  pub memory : c.mem.memory ≡ (start i).memory
  pub uses : c.mem.uses ≡ 0
  pub pairs : c.store.pairs ≡ []
  pub outputs : c.store.outputs ≡ []
  pub lists : c.store.lists ≡ []
  pub cells : c.store.cells ≡ []
  pub pages : c.store.pages ≡ []
  pub names : c.names ≡ record { slots = 0; queues = 0; outputs = 0; height = 0; pages = 0 }
  pub kept : c.kept ≡ []

-- 1. Before a turn, and after it.

-- what a machine was before the turn of an item
pub record IsBefore (c : code.Configs) (item : ℕ) (b : Before) : Type 0 where
  pub running : (n : ℕ) → IsBitSet b.running n ↔ IsSomeAnd (slot_at c.core n) (λ s. s.state ≡ Running)
  pub pages : b.pages ≡ length c.mem.memory.pages
  pub put_out : IfSome (slot_at c.core (item % 128)) (λ s. b.put_out ≡ length (output_of c.core s.group))

-- the core and the memory have made the turn of an item, and nothing was noted of it
pub record HasTurned (b : Before) (step : Step) (c : code.Configs) : Type 0 where
  pub image : Image
  pub at : Configs
  pub item : ℕ
  pub was : code.Configs
  pub stands : Stands image at was
  pub byte : item < 256
  pub before : IsBefore was item b
  pub core : c.core ≡ (turn_of at.machine item).core
  pub memory : c.mem.memory ≡ (turn_of at.machine item).memory
  pub uses : c.mem.uses < 2 ^ 61
  pub shown : step ≡ (turn_of at.machine item).step
  pub others : c ≡ record was { core = c.core; mem = c.mem }

-- 2. Leaves.

-- the names are trees with a leaf for each slot
pub record HasTrees (c : code.Configs) : Type 0 where
  pub depth : c.depth ≤ 6
  pub wide : length c.base.items ≤ 2 ^ c.depth
  pub same : map identity_of c.base.items ≡ map identity_of (slots_of c.core)
  pub slots : IsTree c.store.pairs c.depth c.names.slots
  pub queues : IsTree c.store.pairs c.depth c.names.queues

-- each leaf is the name of what is at its place, or is as it was, and not one of those that have to be noted
pub record NotesLeaves (Is : (at name : ℕ) → Type 0) (IsOne : ℕ → Type 0) (old : List (ℕ × ℕ)) (depth was : ℕ) (new : List (ℕ × ℕ)) (tree : ℕ) : Type 0 where
  pub inner : IsTree new depth tree
  pub each : (at : ℕ) → Is at (leaf_at new depth tree at) ⊎ ((IsOne at → ⊥) × (leaf_at new depth tree at ≡ leaf_at old depth was at))

-- 3. Slots.

abbrev pub IsSlotNamed : code.Configs → (at name : ℕ) → Type 0
IsSlotNamed c at name =
    (at < length c.base.items) × IsSlotName c.store (slice_index_or c.base.items at no_slot) (slot_in c.core at) name

pub record NotesSlots (IsOne : ℕ → Type 0) (old new : code.Configs) : Type 0 where
  pub still : IsKeptStill old.store new.store
  pub leaves : NotesLeaves (IsSlotNamed new) IsOne old.store.pairs old.depth old.names.slots new.store.pairs new.names.slots
  pub others : new ≡ record old { store = new.store; names = record old.names { slots = new.names.slots }; numbers = new.numbers }

-- the slot at an index is handled by the slot `by`, and did not run
pub record IsServedBy (base : List Slot) (by running at : ℕ) : Type 0 where
  pub within : at < length base
  pub handler : (slice_index_or base at no_slot).handler ≡ Some by
  pub rests : IsBitSet running (slice_index_or base at no_slot).number → ⊥

-- 4. Queues.

abbrev pub IsQueueNamed : code.Configs → (at name : ℕ) → Type 0
IsQueueNamed c at name = (at < length c.base.items) × IsQueueName c.store (queue_in c.core at) name

pub record NotesQueues (IsOne : ℕ → Type 0) (old new : code.Configs) : Type 0 where
  pub still : IsKeptStill old.store new.store
  pub leaves : NotesLeaves (IsQueueNamed new) IsOne old.store.pairs old.depth old.names.queues new.store.pairs new.names.queues
  pub others : new ≡ record old { store = new.store; names = record old.names { queues = new.names.queues }; numbers = new.numbers }

-- a slot that faults, at one index, is handled by that at another
pub record IsFaultHandler (base : List Slot) (tick : Tick) (at k : ℕ) : Type 0 where
  pub cause : Cause
  pub faults : tick ≡ Faulted cause
  pub within : k < length base
  pub handler : (slice_index_or base at no_slot).handler ≡ Some (slice_index_or base k no_slot).number

-- 5. Outputs.

-- the output of the core before was of this name and length, and now it is the same, or one byte more
pub record WasOutput (g before : ℕ) (c : code.Configs) : Type 0 where
  pub bytes : List ℕ
  pub named : IsOutputName c.store bytes (leaf_at c.store.pairs 6 c.names.outputs g)
  pub inner : IsTree c.store.pairs 6 c.names.outputs
  pub long : before ≡ length bytes
  pub small : g < 64
  pub now : (output_of c.core g ≡ bytes) ⊎ ((byte : ℕ) × (byte < 256) × (output_of c.core g ≡ bytes ++ byte ∷ []))

abbrev pub IsOutputNamed : code.Configs → (at name : ℕ) → Type 0
IsOutputNamed c at name = IsOutputName c.store (output_of c.core at) name

pub record NotesOutputs (IsOne : ℕ → Type 0) (old new : code.Configs) : Type 0 where
  pub still : IsKeptStill old.store new.store
  pub leaves : NotesLeaves (IsOutputNamed new) IsOne old.store.pairs 6 old.names.outputs new.store.pairs new.names.outputs
  pub others : new ≡ record old { store = new.store; names = record old.names { outputs = new.names.outputs } }

-- 6. Memory.

-- the names are those of the memory before a turn
pub record WasMemory (touched : Option AccessValue) (pages : ℕ) (c : code.Configs) : Type 0 where
  pub memory : Memory
  pub left : MemoryLeft memory c.mem.memory touched
  pub whole : IsPaged memory
  pub names : AreMemoryNames c.store memory c.names
  pub mapped : c.mapped.items ≡ mapped_pages memory
  pub count : pages ≡ length memory.pages

-- a memory is as it was, or a word that an access writes has another cell
abbrev pub IsSameButWord : Option AccessValue → Memory → Memory → Type 0
IsSameButWord touched m now =
    (now ≡ m) ⊎ ((a : AccessValue) × (c : Cell) × (touched ≡ Some a) × (writes a.kind ≡ true) × (now ≡ put_cell m a.addr c))

-- a page that came or went is noted; a word that an access wrote is not yet
pub record NotesPage (touched : Option AccessValue) (old new : code.Configs) : Type 0 where
  pub still : IsKeptStill old.store new.store
  pub memory : Memory
  pub left : IsSameButWord touched memory new.mem.memory
  pub whole : IsPaged new.mem.memory
  pub names : AreMemoryNames new.store memory new.names
  pub pages : HasOtherPages old.names new.names
  pub mapped : new.mapped.items ≡ mapped_pages new.mem.memory
  pub others : new ≡ record old { store = new.store; names = new.names; mapped = new.mapped }

-- the names of the memory are noted
pub record NotesMemory (old new : code.Configs) : Type 0 where
  pub still : IsKeptStill old.store new.store
  pub names : AreMemoryNames new.store new.mem.memory new.names
  pub pages : HasOtherPages old.names new.names
  pub mapped : new.mapped.items ≡ mapped_pages new.mem.memory
  pub others : new ≡ record old { store = new.store; names = new.names; mapped = new.mapped }
