-- Slots with handlers on the other side.
use Rattle.std.specs.Prelude.{◌≡◌, ◌≢◌, ℕ, ◌<◌, ◌≤◌, Bool, List, slice_index_or}
use Rattle.mm_model.specs.Audit.{Verdict, Verdict.{Yes, Handler, Writer}}
use Rattle.mm_audit.specs.declared.{handlers.Served.Served, apart_groups.Apart.Apart}
use Rattle.mm_audit.specs.declared.apart_groups.Apart.TheVariants as answers

abbrev pub served_at : List Served → ℕ → Served
served_at served k = slice_index_or served k (record { slot = 0; group = 0; by = 0 })

-- the slot at an index and its handler are on different sides
abbrev pub IsCrossing : List Served → (ℕ → Bool) → ℕ → Type 0
IsCrossing served c k = c (served_at served k).group ≢ c (served_at served k).by

-- the least slot that crosses, of those before an index
pub record LeastCrossing (served : List Served) (c : ℕ → Bool) (top n : ℕ) : Type 0 where
  pub at : ℕ
  pub small : at < top
  pub crosses : IsCrossing served c at
  pub is : (served_at served at).slot ≡ n
  pub least : (k : ℕ) → k < top → IsCrossing served c k → n ≤ (served_at served k).slot

abbrev pub NoCrossing : List Served → (ℕ → Bool) → ℕ → Type 0
NoCrossing served c top = (k : ℕ) → k < top → ¬ IsCrossing served c k

-- the meaning of an answer
abbrev pub verdict_of : Apart → Verdict
verdict_of answers.Yes = Yes
verdict_of (answers.Writer g w) = Writer g w
verdict_of (answers.Handler n) = Handler n
