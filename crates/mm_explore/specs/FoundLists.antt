-- The schedules of the configurations that were found, and the machine with these.
use Rattle.std.specs.Prelude.{◌≡◌, ℕ, ◌+◌, ◌<◌, ◌≤◌, List, [], ◌∷◌, ◌++◌, map, length, Contains, Option, Some, None}
use Rattle.std.specs.Prelude.{slice_get, slice_index_or}
use Rattle.mm_model.specs.{Image.Image, State.State}
use Rattle.mm_config.specs.{Keeping.Stands, Machines.Configs}
use Rattle.mm_config.specs.declared.configs.Looked.{Looked, TheVariants.{Known, New, Full}}
use Rattle.mm_config.specs.declared.configs.Configs as code
use Rattle.mm_explore.specs.{declared.found.Origin.Origin, Explored.leads_to, Findings.Extension}

-- the schedule at an index, with an item at its end if one is given
abbrev pub schedule_with : List (List ℕ) → ℕ → Option ℕ → List ℕ
schedule_with list at None = slice_index_or list at []
schedule_with list at (Some item) = slice_index_or list at [] ++ item ∷ []

-- the schedule of an origin
abbrev pub led_by : List (List ℕ) → Origin → List ℕ
led_by list o = schedule_with list o.from (Some o.item)

-- the schedules at the start, and then those of origins, each after an earlier one
abbrev pub spelled : List (List ℕ) → List Origin → List (List ℕ)
spelled list [] = list
spelled list (o ∷ origins) = spelled (list ++ led_by list o ∷ []) origins

-- each origin is one of those before it; there are n before the first
abbrev pub AreEarlier : ℕ → List Origin → Type 0
AreEarlier n [] = Unit {0}
AreEarlier n (o ∷ origins) = (o.from < n) × AreEarlier (n + 1) origins

-- an origin is of a turn
pub record IsOrigin (list : List (List ℕ)) (o : Origin) (x : Extension) : Type 0 where
  pub schedule : slice_get list o.from ≡ Some x.schedule
  pub item : o.item ≡ x.item

-- a machine at a configuration, with those to which the schedules of a list lead
abbrev pub with_configs : Image → List (List ℕ) → State → Configs
with_configs i list machine = record { kept = map (leads_to i) list; machine = machine }

-- the machine is at the configuration to which a schedule leads
abbrev pub IsAt : Image → List (List ℕ) → List ℕ → code.Configs → Type 0
IsAt i list t configs = Stands i (with_configs i list (leads_to i t)) configs

-- it is at some configuration
pub record HasKept (i : Image) (list : List (List ℕ)) (configs : code.Configs) : Type 0 where
  pub machine : State
  pub stands : Stands i (with_configs i list machine) configs

-- what looking up the configuration of an origin's schedule answers, and what it adds
abbrev pub Looks : Image → ℕ → Looked → Origin → List (List ℕ) → List (List ℕ) → Type 0
Looks i limit (Known at) o old new = (slice_get (map (leads_to i) old) at ≡ Some (leads_to i (led_by old o))) × (new ≡ old)
Looks i limit New o old new =
    (Contains (map (leads_to i) old) (leads_to i (led_by old o)) → ⊥) × (length old < limit)
    × (new ≡ old ++ led_by old o ∷ [])
Looks i limit Full o old new =
    (Contains (map (leads_to i) old) (leads_to i (led_by old o)) → ⊥) × (limit ≤ length old) × (new ≡ old)
