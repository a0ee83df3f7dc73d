-- What a machine with its configurations has.
use Rattle.std.specs.Prelude.{◌≡◌, ℕ, ◌^◌, ◌<◌, ◌≤◌, List, map, length}
use Rattle.std.specs.List.{AllByRecursion, AllZip}
use Rattle.mm_model.specs.{Image.Image, Slot.Slot, Spelling.IsImage, Fits.{identity_of}, State.State}
use Rattle.mm_config.specs.declared.configs.Configs as code
use Rattle.mm_config.specs.declared.{names.Names.Names, store.Store.Store}
use Rattle.mm_config.specs.{Configurations.configuration, Machines.Configs, Naming.{AreNamesOf, IsRest}, States.IsStateOf}

-- a configuration of a machine of an image
pub record IsConfigurationOf (i : Image) (s : State) : Type 0 where
  pub state : IsStateOf i s
  pub bare : configuration s ≡ s

-- the names of a configuration in a pair: that of its slots, and that of the rest
pub record IsKeyOf (base : List Slot) (depth : ℕ) (k : Store) (s : State) (key : ℕ × ℕ) : Type 0 where
  pub names : Names
  pub are : AreNamesOf base depth k s names
  pub slots : key.0 ≡ names.slots
  pub rest : IsRest k.pairs names key.1

-- the machine is at a configuration
pub record IsMachineAt (i : Image) (s : State) (c : code.Configs) : Type 0 where
  pub core : c.core ≡ s.core
  pub memory : c.mem.memory ≡ s.memory
  pub config : IsConfigurationOf i s
  pub uses : c.mem.uses < 2 ^ 61
  pub mapped : c.mapped.items ≡ map (λ page. page.0) s.memory.pages

-- the names are those of a configuration
pub record HasNamesOf (i : Image) (s : State) (c : code.Configs) : Type 0 where
  pub names : AreNamesOf i.slots c.depth c.store s c.names
  pub rest : IsRest c.store.pairs c.names c.rest

-- the machine of an image with its configurations is as it is told
pub record Stands (i : Image) (v : Configs) (c : code.Configs) : Type 0 where
  pub image : IsImage i
  pub base : c.base.items ≡ i.slots
  pub room : map identity_of c.slots.items ≡ map identity_of i.slots
  pub depth : c.depth ≤ 6
  pub machine : IsMachineAt i v.machine c
  pub named : HasNamesOf i v.machine c
  pub configs : AllByRecursion (IsConfigurationOf i) v.kept
  pub each : AllZip (IsKeyOf i.slots c.depth c.store) v.kept c.kept
  pub few : length v.kept ≤ 2 ^ 31
