-- To which groups all that a group has comes, round by round. A list of masks has for each group others.
use Rattle.std.specs.Prelude.{◌≡◌, ℕ, ◌+◌, ◌-◌, ◌<◌, ◌⊎◌, List, [], length, slice_index_or}
use Rattle.mm_flow.specs.Flow.{Has}

-- One group hands all that it has to another, if what each has of its own has come to these groups: they are linked; or
-- of two groups that meet what the one has has come to the first and what the other has to the second.
pub data Hands (links meets now : List ℕ) (h g : ℕ) : Type 0 where
  linked : Has links h g → Hands links meets now h g
  met : (a b : ℕ) → a < 64 → b < 64 → Has meets a b → Has now a h → Has now b g → Hands links meets now h g

-- the masks are those of the groups that hand to others
pub record IsHanding (links meets now edges : List ℕ) : Type 0 where
  pub len : length edges ≡ 64
  pub only : (h g : ℕ) → Has edges h g → Hands links meets now h g
  pub each : (h g : ℕ) → h < 64 → g < 64 → Hands links meets now h g → Has edges h g

-- a group to which all has come that the first has hands it on
pub record HandsOn (links meets now : List ℕ) (h g : ℕ) : Type 0 where
  pub by : ℕ
  pub small : by < 64
  pub has : Has now h by
  pub hands : Hands links meets now by g

-- what comes in a round had come before, or is handed on
abbrev pub IsStep : List ℕ → List ℕ → List ℕ → List ℕ → Type 0
IsStep links meets now after = (h g : ℕ) → Has after h g → Has now h g ⊎ HandsOn links meets now h g

abbrev pub round_at : List (List ℕ) → ℕ → List ℕ
round_at rounds p = slice_index_or rounds p []

-- the first rounds: in round 0 a group has what it has, and each further round is a step
pub record FirstRounds (links meets : List ℕ) (rounds : List (List ℕ)) : Type 0 where
  pub some : 0 < length rounds
  pub len : (p : ℕ) → p < length rounds → length (round_at rounds p) ≡ 64
  pub own : (p h : ℕ) → p < length rounds → h < 64 → Has (round_at rounds p) h h
  pub first : (h g : ℕ) → Has (round_at rounds 0) h g → h ≡ g
  pub step : (p : ℕ) → p + 1 < length rounds → IsStep links meets (round_at rounds p) (round_at rounds (p + 1))

-- all rounds: nothing is handed on after the last one
pub record AreRounds (links meets : List ℕ) (rounds : List (List ℕ)) : Type 0 where
  pub steps : FirstRounds links meets rounds
  pub end : (h g : ℕ) → h < 64 → g < 64 → HandsOn links meets (round_at rounds (length rounds - 1)) h g
      → Has (round_at rounds (length rounds - 1)) h g

-- edges of the links and of the groups before `top` that meet others
pub record HandingSoFar (links meets now : List ℕ) (top : ℕ) (edges : List ℕ) : Type 0 where
  pub len : length edges ≡ 64
  pub only : (h g : ℕ) → Has edges h g → Hands links meets now h g
  pub keeps : (h g : ℕ) → Has links h g → Has edges h g
  pub each : (a b h g : ℕ) → a < top → b < 64 → h < 64 → Has meets a b → Has now a h → Has now b g → Has edges h g

-- each group below `top` has itself, and nobody has another
pub record OwnSoFar (top : ℕ) (masks : List ℕ) : Type 0 where
  pub len : length masks ≡ 64
  pub own : (h : ℕ) → h < top → Has masks h h
  pub only : (h g : ℕ) → Has masks h g → h ≡ g
