-- Sessions and points that stand for an image under an order.
use Rattle.std.specs.Prelude.{◌≡◌, ℕ, ◌≤◌, List, Option, None, ⊤}
use Rattle.mm_model.specs.{Image.{Image, start}, Limits.cycle_limit, Run.{run, last_item}}
use Rattle.mm_machine.specs.Snapshot.{Parts, IsSnapshotOf, CanRestore, restored}
use Rattle.mm_sched.specs.{declared.schedule.Order.Order, Orders.items_of}
use Rattle.mm_debug.specs.Session.{Session, total_of}
use Rattle.mm_sched.specs.declared.schedule.Order.TheVariants as order

-- the items that an image's run under an order issues, up to a count
abbrev pub run_items : Image → Order → ℕ → List ℕ
run_items i order total = items_of order (start i) total

-- round robin goes on after the last of these items, or begins with the least if there is none
abbrev pub GoesOnAfter : Order → (last : Option ℕ) → List ℕ → Type 0
GoesOnAfter order.Robin last items = last ≡ last_item None items
GoesOnAfter (order.List list) last items = ⊤

-- The session is in the state of the image's run after as many items of its order as it has issued.
pub record StandsFor (i : Image) (s : Session) : Type 0 where
  pub state : s.state ≡ run (start i) (run_items i s.order (total_of s))
  pub place : GoesOnAfter s.order s.last (run_items i s.order (total_of s))

-- A point: a state that is kept apart from its machine, and the last item of round robin.
pub record Point : Type 0 where
  pub snapshot : Parts
  pub last : Option ℕ

abbrev pub total_at : Point → ℕ
total_at p = p.snapshot.cycles

-- The point is in the state of the image's run after as many items of the order as its total says.
pub record PointStandsFor (i : Image) (order : Order) (p : Point) : Type 0 where
  pub state : IsSnapshotOf (run (start i) (run_items i order (total_at p))) p.snapshot
  pub place : GoesOnAfter order p.last (run_items i order (total_at p))

-- a point of the session
pub record IsPointOf (s : Session) (p : Point) : Type 0 where
  pub state : IsSnapshotOf s.state p.snapshot
  pub last : p.last ≡ s.last

-- a session can go to a point
pub record CanGo (s : Session) (p : Point) : Type 0 where
  pub restore : CanRestore s.state p.snapshot
  pub limit : total_at p ≤ cycle_limit

-- the session at a point, with its own order, breaks and watches
abbrev pub gone : Session → Point → Session
gone s p = record s { last = p.last; state = restored s.state p.snapshot }
