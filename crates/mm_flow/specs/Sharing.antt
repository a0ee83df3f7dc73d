-- Groups that are given all that another group has.
use Rattle.std.specs.Prelude.{◌≡◌, ℕ, ◌+◌, ◌^◌, ◌<◌, ◌≤◌, ◌⊎◌, List, length, slice_index, Bool, true, false}
use Rattle.std.specs.{Prelude.if◌then◌else◌, Int.bit_at}
use Rattle.mm_flow.specs.Flow.{Has, Within, room}

-- the node j is node k or above it; a node whose parent is not before it is a root
pub data Up (par : List ℕ) (j : ℕ) : ℕ → Type 0 where
  here : {k : ℕ} → j ≡ k → Up par j k
  over : {k : ℕ} → slice_index par k < k → Up par j (slice_index par k) → Up par j k

-- the mark of a node if it is kept, or else 0
abbrev pub kept_mark : Bool → ℕ → ℕ
kept_mark keep m = if keep then m else 0

-- a kept mark of a node or of a node above it
pub record MarkedAbove (par marks : List ℕ) (keep : ℕ → Bool) (k g : ℕ) : Type 0 where
  pub node : ℕ
  pub up : Up par node k
  pub marked : Has marks node g
  pub kept : keep node ≡ true

pub record AreMarksAbove (par marks : List ℕ) (keep : ℕ → Bool) (out : List ℕ) : Type 0 where
  pub only : (k g : ℕ) → k < length out → Has out k g → MarkedAbove par marks keep k g
  pub each : (k g : ℕ) → k < length out → MarkedAbove par marks keep k g → Has out k g

abbrev pub IsShared : List ℕ → ℕ → ℕ → ℕ → ℕ → Type 0
IsShared old from to h g = Has old h g ⊎ ((bit_at from h ≡ 1) × (bit_at to g ≡ 1))

-- edges from the groups of one mask to those of the other were added, for the groups below `top`
pub record AddsEdges (top : ℕ) (old : List ℕ) (from to : ℕ) (new : List ℕ) : Type 0 where
  pub len : length new ≡ length old
  pub only : (h g : ℕ) → Has new h g → IsShared old from to h g
  pub keeps : (h g : ℕ) → Has old h g → Has new h g
  pub each : (h g : ℕ) → h < top → bit_at from h ≡ 1 → bit_at to g ≡ 1 → Has new h g

-- a group of the mask, whose number is below `top`, shares with the group
pub record SharedBy (top mask : ℕ) (sharing : List ℕ) (g : ℕ) : Type 0 where
  pub by : ℕ
  pub small : by < top
  pub has : bit_at mask by ≡ 1
  pub shared_now : Has sharing by g

pub record PropagatesShared (sharing old new : List ℕ) (changed : Bool) : Type 0 where
  pub len : length new ≡ length old
  pub only : (k g : ℕ) → Has new k g → Has old k g ⊎ SharedBy 64 (slice_index old k) sharing g
  pub still : changed ≡ false → (k g : ℕ) → k < length new → SharedBy 64 (slice_index new k) sharing g → Has new k g
  pub same : changed ≡ false → new ≡ old
  pub grows : (n : ℕ) → Within (slice_index old n) (slice_index new n)
  pub no_rise : room (2 ^ 64) new ≤ room (2 ^ 64) old
  pub falls : changed ≡ true → room (2 ^ 64) new + 1 ≤ room (2 ^ 64) old

-- the marks of the nodes before node k were given what their groups share
pub record PropagatingShared (k : ℕ) (sharing old new : List ℕ) (changed : Bool) : Type 0 where
  pub len : length new ≡ length old
  pub only : (n g : ℕ) → Has new n g → Has old n g ⊎ SharedBy 64 (slice_index old n) sharing g
  pub still : changed ≡ false → (n g : ℕ) → n < k → SharedBy 64 (slice_index old n) sharing g → Has old n g
  pub rest : (n : ℕ) → k ≤ n → slice_index new n ≡ slice_index old n
  pub same : changed ≡ false → new ≡ old
  pub grows : (n : ℕ) → Within (slice_index old n) (slice_index new n)
  pub no_rise : room (2 ^ 64) new ≤ room (2 ^ 64) old
  pub falls : changed ≡ true → room (2 ^ 64) new + 1 ≤ room (2 ^ 64) old
