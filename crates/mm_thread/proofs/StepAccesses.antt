-- A step tells exactly the accesses that its turn made.
use Rattle.std.proofs.Common.{◌≡◌, ℕ, ◌≤◌, Bool, true, false, List, [], ◌∷◌, ◌++◌, Option, Some, None, refl, sym, ap}
use Rattle.std.proofs.Common.{subst, arith}
use Rattle.mm_word.specs.declared.{perm.Kind.Kind, cause.Cause.Cause}
use Rattle.mm_word.specs.{declared.word.{Pre.Pre, Word.{Word, TheVariants.Int}, Cell.Cell}, Access.AccessValue}
use Rattle.mm_isa.specs.declared.instr.Instr.{Instr}
use Rattle.mm_model.specs.{Memory.{Memory, cell_at, is_mapped}, Slot.Slot, State.Core, Uses.{Use, use_at, accesses}}
use Rattle.mm_model.specs.Ask.{Ask, ask, Ask.{Reach, UnmapPage}}
use Rattle.mm_model.specs.{Effect.{Effect, delivered, Effect.{Fault, Block, Deliver, Do}}, Fits.IsCore}
use Rattle.mm_model.specs.Turn.{Turned, removal_use, asked_use, touch_of, faulted, blocked, ended, executed, idle, turn}
use Rattle.mm_model.specs.declared.step.Step.{Step}
use Rattle.mm_model.proofs.TurnShapes.{fetch_uses, fetch_use, started_one, turn_by}
use Rattle.mm_model.proofs.Causes.{EndsExactly, core_orderly, ends_exactly}
use Rattle.mm_thread.specs.StepAccesses.{accesses_in, access_shown, accesses_shown}

pub record IsExact (t : Turned) : Type 0 where
  pub exact : accesses_in t.uses ≡ accesses_shown t.step
  pub few : accesses t.uses ≤ 2

exact_faulted : (core : Core) (m : Memory) (s : Slot) (c : Cause) (a v : Word) (f touched : Option AccessValue) (us : List Use) → accesses_in us ≡ access_shown f ++ access_shown touched
    → accesses us ≤ 2
    → IsExact (faulted core m s c a v f touched us)
unfolding faulted
exact_faulted core m s c a v f touched us exact few = record { exact = exact; few = few }

exact_blocked : (core : Core) (m : Memory) (s : Slot) (f : AccessValue) (touched : Option AccessValue) (us : List Use) → accesses_in us ≡ access_shown (Some f) ++ access_shown touched
    → accesses us ≤ 2
    → IsExact (blocked core m s f touched us)
unfolding blocked
exact_blocked core m s f touched us exact few = record { exact = exact; few = few }

exact_ended : (core : Core) (m : Memory) (s : Slot) (i : Instr) (f : AccessValue) (touched : Option AccessValue) (us : List Use)
    → accesses_in us ≡ access_shown (Some f) ++ access_shown touched → accesses us ≤ 2
    → (e : Effect) → IsExact (ended core m s i f touched us e)
unfolding ended
exact_ended core m s i f touched us exact few (Fault c) = exact_faulted core m s c _ _ (Some f) touched us exact few
exact_ended core m s i f touched us exact few Block = exact_blocked core m s f touched us exact few
exact_ended core m s i f touched us exact few (Deliver other) = exact_blocked _ m s f touched us exact few
exact_ended core m s i f touched us exact few (Do c) = record { exact = exact; few = few }

access_is : (a : AccessValue) (pre : Pre) (o : Option Cell) → accesses_in (use_at a.kind a.addr pre o ∷ []) ≡ (a.kind, a.addr) ∷ []
access_is a pre None = refl
access_is a pre (Some c) = refl

access_one : (a : AccessValue) (pre : Pre) (o : Option Cell) → accesses (use_at a.kind a.addr pre o ∷ []) ≤ 1
access_one a pre None = omega arith
access_one a pre (Some c) = omega arith

asked_is : (m : Memory) (a : Ask) → accesses_in (asked_use m a) ≡ access_shown (touch_of a)
asked_is m (Reach a pre) = access_is a pre (cell_at m a.addr)
asked_is m (UnmapPage page) = by (is_mapped m page)
  where
    by : (b : Bool) → accesses_in (removal_use page b) ≡ []
    by true = refl
    by false = refl
asked_is m _ = refl

asked_few : (m : Memory) (a : Ask) → accesses (asked_use m a) ≤ 1
asked_few m (Reach a pre) = access_one a pre (cell_at m a.addr)
asked_few m (UnmapPage page) = by (is_mapped m page)
  where
    by : (b : Bool) → accesses (removal_use page b) ≤ 1
    by true = omega arith
    by false = omega arith
asked_few m _ = omega arith

fetch_is : (f : Option AccessValue) (done : Bool) → accesses_in (fetch_uses f done) ≡ access_shown f ++ access_shown None
fetch_is None done = refl
fetch_is (Some f) done = refl

fetch_few : (f : Option AccessValue) (done : Bool) → accesses (fetch_uses f done) ≤ 2
fetch_few None done = omega arith
fetch_few (Some f) done = omega arith

pub turn_exact : (core : Core) (m : Memory) (n : ℕ) → IsExact (turn core m n)
unfolding idle executed
turn_exact core m n = turn_by core m n IsExact (record {
  idles = λ k none. record { exact = refl; few = omega arith };
  arrives_at = λ s p rest free port is. record { exact = refl; few = omega arith };
  starts = λ s r own. started_one core m s IsExact (record {
    faults = λ c f done aim. exact_faulted core m s c (Int 0) (Int 0) f None (fetch_uses f done) (fetch_is f done) (fetch_few f done);
    lacks_register = λ f i aim is lacking. exact_blocked core m (delivered s) f None (fetch_use f ∷ []) refl (omega arith);
    carries_out = λ f i aim is has. exact_ended core m s i f (touch_of (ask i s)) (fetch_use f ∷ asked_use m (ask i s))
        (ap (λ (xs : List (Kind × ℕ)). (f.kind, f.addr) ∷ xs) (asked_is m (ask i s)))
        (omega (arith, asked_few m (ask i s))) _;
  });
})

-- What comes of an item is exactly what the model says, of the core that contracts see.
pub turn_ends : (core seen : Core) (m : Memory) (n : ℕ) (step : Step) → IsCore core → core ≡ seen → step ≡ (turn core m n).step → EndsExactly seen m n step.tick
turn_ends core seen m n step whole same is =
    subst (λ k. EndsExactly k m n step.tick) same (subst (λ (x : Step). EndsExactly core m n x.tick) (sym is) (ends_exactly core m n (core_orderly core whole)))
