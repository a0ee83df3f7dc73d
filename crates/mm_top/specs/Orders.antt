-- The items that are issued, given the schedule's file, if there is one.
use Rattle.std.specs.Prelude.{◌≡◌, ℕ, List, [], ◌∷◌, Option, None}
use Rattle.mm_model.specs.{Image.{Image, start}, State.State, Run.robin_from, Schedule.first_items}
use Rattle.mm_load.specs.Kinds.{Value, a_list}

-- the items that are issued from a state on: up to `cycles` cycles of round robin, after the slot that it issued last;
-- or the first `cycles` items of a list, or all if the list has fewer
abbrev pub AreIssuedFrom : State → (last : Option ℕ) → (cycles : ℕ) → (lists : List Value) → List ℕ → Type 0
AreIssuedFrom s last cycles [] items = items ≡ robin_from s last cycles
AreIssuedFrom s last cycles (a_list list ∷ []) items = items ≡ first_items list cycles
AreIssuedFrom s last cycles _ items = ⊥

-- the items that are issued from an image's start on
abbrev pub AreIssued : Image → (cycles : ℕ) → (lists : List Value) → List ℕ → Type 0
AreIssued i cycles lists items = AreIssuedFrom (start i) None cycles lists items
