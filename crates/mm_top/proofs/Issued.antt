-- What an order issues.
use Rattle.std.proofs.Common.{◌≡◌, ℕ, ◌≤◌, List, [], length, Option, None, refl, ap, ◌∙◌, subst}
use Rattle.mm_mem.specs.declared.memory.Memory.{Ghosts}
use Rattle.mm_model.specs.{State.State, Image.{Image, start}, Spelling.IsImage}
use Rattle.mm_machine.specs.{declared.machine.Machine.Machine, Machine.{state_of, StandsFor}}
use Rattle.mm_machine.specs.{Snapshot.{Parts, IsSnapshotOf}, Going.WentOn}
use Rattle.mm_machine.proofs.{Rounds.{robin_length, first_length}, Went.went_from_start}
use Rattle.mm_sched.specs.{declared.schedule.Order.Order, Orders.{items_of, items_from, last_from}}
use Rattle.mm_checkpoint.{specs.{Checkpoints.saved_of, Format.spelling}, proofs.Forms.have_forms}
use Rattle.mm_load.specs.Kinds.{values_of}
use Rattle.mm_top.{specs.{Saving.{last_issued, saved_after}, Orders.AreIssuedFrom}, proofs.Reported.start_state}
use Rattle.mm_sched.specs.declared.schedule.Order.TheVariants as order

-- behind no slot an order issues its items from the start on
pub items_from_start : (o : Order) (s : State) (count : ℕ) → items_from o s None count ≡ items_of o s count
items_from_start order.Robin s count = refl
items_from_start (order.List list) s count = refl

-- and its last slot is the one that is saved
pub last_from_start : (o : Order) (items : List ℕ) → last_from o None items ≡ last_issued (values_of o) items
last_from_start order.Robin items = refl
last_from_start (order.List list) items = refl

pub few_items : (o : Order) (s : State) (count : ℕ) → length (items_of o s count) ≤ count
few_items order.Robin s count = robin_length s None count
few_items (order.List list) s count = first_length list count

-- the further items of a run are those of its order
pub further : (o : Order) (s : State) (last : Option ℕ) (count : ℕ) → AreIssuedFrom s last count (values_of o) (items_from o s last count)
further order.Robin s last count = refl
further (order.List list) s last count = refl

module _ {M : Type 0} {memory : Ghosts M} where
  -- a machine at an image's start that went on with an order's items stands for the run of these
  pub issued_from_start : (i : Image) (o : Order) (count : ℕ) (old new : Machine M memory) → StandsFor i [] old
      → WentOn old new (items_from o (state_of old) None count) → StandsFor i (items_of o (start i) count) new
  issued_from_start i o count old new begun went =
      went_from_start i old new (items_of o (start i) count) begun
      (subst (λ (xs : List ℕ). WentOn old new xs) (items_from_start o (state_of old) count ∙ ap (λ (s : State). items_of o s count) (start_state i old begun)) went)

  -- and the slot that it issued last is the one that is saved
  pub last_issued_from_start : (i : Image) (o : Order) (count : ℕ) (old : Machine M memory) → StandsFor i [] old
      → last_from o None (items_from o (state_of old) None count) ≡ last_issued (values_of o) (items_of o (start i) count)
  last_issued_from_start i o count old begun =
      ap (last_from o None) (items_from_start o (state_of old) count ∙ ap (λ (s : State). items_of o s count) (start_state i old begun))
      ∙ last_from_start o (items_of o (start i) count)

  -- the bytes of its checkpoint are those of the run's
  pub saved_from_start : (i : Image) (o : Order) (count : ℕ) (old new : Machine M memory) (p : Parts) (last : Option ℕ) (bytes : List ℕ) → IsImage i → StandsFor i [] old
      → WentOn old new (items_from o (state_of old) None count) → last ≡ last_from o None (items_from o (state_of old) None count)
      → IsSnapshotOf (state_of new) p → bytes ≡ spelling i (saved_of p last)
      → bytes ≡ saved_after i (items_of o (start i) count) (last_issued (values_of o) (items_of o (start i) count))
  saved_from_start i o count old new p last bytes image begun went issued is spelled =
      let items = items_of o (start i) count in
      let stands = issued_from_start i o count old new begun went in
      spelled
      ∙ ap (spelling i) (have_forms i items p last image (subst (λ (s : State). IsSnapshotOf s p) stands.state is))
      ∙ ap (λ (x : Option ℕ). saved_after i items x) (issued ∙ last_issued_from_start i o count old begun)
