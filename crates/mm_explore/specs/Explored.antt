-- Least schedules, and the list of the first of them.
use Rattle.std.specs.{Prelude.{◌≡◌, ◌≢◌, ◌⊎◌, ℕ, ◌≤◌, List, length, Contains}, List.AllByRecursion}
use Rattle.mm_model.specs.{State.State, Image.{Image, start}, Run.run}
use Rattle.mm_config.specs.Configurations.{configuration}
use Rattle.mm_explore.specs.Schedules.{Before, InOrder}

-- the configuration to which a schedule leads from an image's start
abbrev pub leads_to : Image → List ℕ → State
leads_to i t = configuration (run (start i) t)

-- a least schedule: none before it leads to the same configuration
abbrev pub IsLeast : Image → List ℕ → Type 0
IsLeast i t = (s : List ℕ) → Before s t → leads_to i s ≢ leads_to i t

-- the list has the first `limit` least schedules in their order, or all of them if there are no more
pub record IsExplored (i : Image) (limit : ℕ) (list : List (List ℕ)) : Type 0 where
  pub in_order : InOrder list
  pub least : AllByRecursion (IsLeast i) list
  pub few : length list ≤ limit
  -- a least schedule that is not in the list comes after all that are, and the list is full
  pub first : (t : List ℕ) → IsLeast i t
      → Contains list t ⊎ ((length list ≡ limit) × AllByRecursion (λ s. Before s t) list)

-- each configuration of any run has its least schedule in the list
abbrev pub IsAll : Image → List (List ℕ) → Type 0
IsAll i list = (s : List ℕ) → (t : List ℕ) × Contains list t × (leads_to i t ≡ leads_to i s)
