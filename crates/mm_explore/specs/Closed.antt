-- Sets of configurations that are never left.
use Rattle.std.specs.{Prelude.{◌≡◌, ℕ, List, [], ◌∷◌, ◌++◌}}
use Rattle.mm_model.specs.{Image.Image, State.State}
use Rattle.mm_explore.specs.{Explored.leads_to, Findings.IsFinal, Schedules.Before}

-- some items after a schedule lead to the configuration of another
pub record LeadsOn (i : Image) (s t : List ℕ) : Type 0 where
  pub items : List ℕ
  pub leads : leads_to i (s ++ items) ≡ leads_to i t

-- the configurations to which a schedule leads on
pub record IsLedOn (i : Image) (t : List ℕ) (c : State) : Type 0 where
  pub by : List ℕ
  pub on : LeadsOn i t by
  pub is : c ≡ leads_to i by

-- A closed set of configurations: no item leads out of it, and each of its members leads to each.
pub record IsClosed (i : Image) (members : State → Type 0) : Type 0 where
  pub some : (s : List ℕ) × members (leads_to i s)
  pub kept : (s : List ℕ) (item : ℕ) → members (leads_to i s) → members (leads_to i (s ++ item ∷ []))
  pub joined : (s t : List ℕ) → members (leads_to i s) → members (leads_to i t) → LeadsOn i s t

-- the configuration of a schedule is a member of a closed set: of all to which it leads on
abbrev pub IsAtEnd : Image → List ℕ → Type 0
IsAtEnd i t = IsClosed i (IsLedOn i t)

-- it is a member of an endless set: a closed set of more than one member
abbrev pub IsEndless : Image → List ℕ → Type 0
IsEndless i t = IsAtEnd i t × (IsFinal i t → ⊥)

-- a schedule of a member of an endless set, before which there is none of another member
pub record IsFirstEndless (i : Image) (t : List ℕ) : Type 0 where
  pub endless : IsEndless i t
  pub first : (s : List ℕ) → Before s t → LeadsOn i t s → ⊥
