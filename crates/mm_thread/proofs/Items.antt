-- The turns of items.
use Rattle.std.proofs.Common.{◌≡◌, ℕ, ◌-◌, ◌<◌, ◌≤◌, ◌^◌, Bool, true, false, cond, leb, List, [], ◌∷◌, length, Option}
use Rattle.std.proofs.Common.{Some, None, refl, sym, ap, subst, ◌∙◌, arith}
use Rattle.std.{proofs.lemmas.{List.set-get_or, Bool.Decides.nat_tests}, specs.{Prelude.IfSome, List.AllByRecursion}}
use Rattle.mm_model.specs.declared.{slot.Pending.Pending, step.{Step.Step, Tick.{Tick, TheVariants.{Idle, Delivered}}}}
use Rattle.mm_model.specs.{Memory.Memory, Slot.Slot, State.{ThreadRow, Core, slot_at}}
use Rattle.mm_model.specs.{Uses.{Use, accesses, TakesUses, takes_none}, Effect.{delivered, delivers}}
use Rattle.mm_model.specs.Turn.{Turned, idle, arrives, port_of, taken_by, taken_by_port, turn, started, is_running}
use Rattle.mm_model.{specs.Fits.{IsCore, slots_of}, proofs.{CoreRows.slot_has, SlotSteps.delivered_from}}
use Rattle.mm_thread.specs.SlotIndices.{no_row, slot_in, with_slot, first_register}
use Rattle.mm_thread.specs.{Execution.{CanTurn, TakesTurn, AsksNothing}, Tables.AreNumbered}
use Rattle.mm_thread.specs.{Told.{Told, told_at, comes_to, told_by_port, told_by, told_of, shown}}
use Rattle.mm_thread.proofs.{RowIndex.apart_in, Index.{slot_found, put_slot-at}}

abbrev pub step_of : Tick → ℕ → Step
step_of tick n = record { tick = tick; slot = n; fetched = None; touched = None; entered = None }

-- 1. Ports.

pub port-slot : (core : Core) (n : ℕ) → core.split ≡ true → 128 ≤ n → port_of core n ≡ slot_at core (n - 128)
port-slot core n split high =
    let large : leb 128 n ≡ true = grind (arith, nat_tests) in
    rw (split, large) refl

module _ {W : Type 0} (tells : W → Step → W) (looks : W → Told → W) (w : W) where
  pub idles : (core : Core) (m : Memory) (n : ℕ) (watch : W) → watch ≡ tells w (step_of Idle n) → AsksNothing tells w (idle core m n) m core watch
  unfolding idle
  idles core m n watch is = record { core_is = refl; memory_is = refl; watch_is = is; uses_are = refl }

  pub port_idles : (core : Core) (m : Memory) (n : ℕ) (watch : W) → port_of core n ≡ None → watch ≡ tells w (step_of Idle n)
      → AsksNothing tells (shown looks w (told_by_port core m (port_of core n))) (taken_by_port core m n (port_of core n)) m core watch
  port_idles core m n watch none is = rw none (idles core m n watch is)

-- what is told of a port
abbrev pub arrival : Option ℕ → Tick
arrival None = Idle
arrival (Some register) = Delivered register

module _ {W : Type 0} (tells : W → Step → W) (looks : W → Told → W) (w : W) (core : Core) (apart : AreNumbered core.rows) (p : ℕ) (within : p < length core.rows) where
  abbrev s : Slot
  s = slot_in core p

  port_arrives : (m : Memory) (core' : Core) (seen watch : W) → core' ≡ with_slot core p (delivered s) → (ps : List Pending) → s.pending ≡ ps
      → watch ≡ tells seen (step_of (arrival (first_register ps)) s.number) → AsksNothing tells seen (arrives core m s ps) m core' watch
  unfolding delivered
  port_arrives m core' seen watch core_is [] none watch_is =
      idles_at (core_is ∙ ap (λ (ps : List Pending). with_slot core p (delivers s ps)) none
      ∙ ap (λ (rows : List ThreadRow). record core { rows = rows }) (set-get_or core.rows p no_row))
      (idles tells looks seen core m s.number watch watch_is)
    where
      idles_at : core' ≡ core → AsksNothing tells seen (idle core m s.number) m core watch → AsksNothing tells seen (idle core m s.number) m core' watch
      idles_at same h = record { core_is = same ∙ h.core_is; memory_is = h.memory_is; watch_is = h.watch_is; uses_are = h.uses_are }
  port_arrives m core' seen watch core_is (q ∷ qs) some watch_is = record {
    core_is = core_is ∙ sym (put_slot-at core apart p within (delivered s) (delivered_from s).number);
    memory_is = refl;
    watch_is = watch_is;
    uses_are = refl;
  }

  pub port_delivers : (m : Memory) (n : ℕ) (core' : Core) (seen watch : W) (tick : Tick) → port_of core n ≡ Some s
      → core' ≡ with_slot core p (delivered s) → tick ≡ arrival (first_register s.pending) → seen ≡ looks w (told_at core m s None)
      → watch ≡ tells seen (step_of tick s.number)
      → AsksNothing tells (shown looks w (told_by_port core m (port_of core n))) (taken_by_port core m n (port_of core n)) m core' watch
  port_delivers m n core' seen watch tick port core_is tick_is seen_is watch_is =
      rw port (port_arrives m core' (looks w (told_at core m s None)) watch core_is s.pending refl
      (watch_is ∙ ap (λ (v : W). tells v (step_of tick s.number)) seen_is ∙ ap (λ (t : Tick). tells (looks w (told_at core m s None)) (step_of t s.number)) tick_is))

-- 2. Items.

module _ {M : Type 0} (meaning : M → Memory) (uses : M → ℕ) (stands : M → List Use → Type 0) {W : Type 0} (tells : W → Step → W) (seen : W) where
  pub nothing_gives : (t : Turned) (old : M) (core' : Core) (watch : W) → AsksNothing tells seen t (meaning old) core' watch → TakesTurn meaning uses stands tells seen t old old core' watch
  nothing_gives t old core' watch h =
      let Takes : List Use → Type 0 = λ us. TakesUses stands old old us in
      record {
        core_is = h.core_is;
        memory_is = h.memory_is;
        watch_is = h.watch_is;
        takes = subst Takes (sym h.uses_are) (takes_none old);
        count = omega (arith, ap accesses h.uses_are);
      }

-- a running slot can take its turn
pub can_turn : (core : Core) → IsCore core → AllByRecursion (λ (t : Slot). t.turns < 2 ^ 61) (slots_of core)
    → (p : ℕ) → p < length core.rows → is_running (slot_in core p).state ≡ true → CanTurn core p
can_turn core whole turns p within runs =
    let few = slot_has (λ (t : Slot). t.turns < 2 ^ 61) core (slot_in core p).number (slot_in core p) turns (slot_found core (apart_in core whole) p within) in
    record { whole = whole; within = within; turns = omega (arith, few); runs = runs }

pub turn-none : (core : Core) (m : Memory) (n : ℕ) → slot_at core n ≡ None → turn core m n ≡ taken_by_port core m n (port_of core n)
unfolding turn
turn-none core m n none = ap (taken_by core m n) none

pub turn-running : (core : Core) (m : Memory) (n : ℕ) (s : Slot) → slot_at core n ≡ Some s → is_running s.state ≡ true → turn core m n ≡ started core m s
unfolding turn
turn-running core m n s some runs = ap (taken_by core m n) some ∙ ap (λ (b : Bool). cond b (started core m s) (idle core m n)) runs

pub turn-resting : (core : Core) (m : Memory) (n : ℕ) (s : Slot) → slot_at core n ≡ Some s → is_running s.state ≡ false → turn core m n ≡ idle core m n
unfolding turn
turn-resting core m n s some rests = ap (taken_by core m n) some ∙ ap (λ (b : Bool). cond b (started core m s) (idle core m n)) rests

-- what the turn of an item shows

pub told-none : (core : Core) (m : Memory) (n : ℕ) → slot_at core n ≡ None → told_of core m n ≡ told_by_port core m (port_of core n)
told-none core m n none = ap (told_by core m n) none

pub told-running : (core : Core) (m : Memory) (n : ℕ) (s : Slot) → slot_at core n ≡ Some s → is_running s.state ≡ true → told_of core m n ≡ Some (told_at core m s (comes_to m s))
told-running core m n s some runs = ap (told_by core m n) some ∙ ap (λ (b : Bool). cond b (Some (told_at core m s (comes_to m s))) None) runs

pub told-resting : (core : Core) (m : Memory) (n : ℕ) (s : Slot) → slot_at core n ≡ Some s → is_running s.state ≡ false → told_of core m n ≡ None
told-resting core m n s some rests = ap (told_by core m n) some ∙ ap (λ (b : Bool). cond b (Some (told_at core m s (comes_to m s))) None) rests

-- two facts of a value that may be there give a third
pub if_some_both : (o : Option ℕ) (P Q R : ℕ → Type 0) → ((p : ℕ) → P p → Q p → R p) → IfSome o P → IfSome o Q → IfSome o R
if_some_both None P Q R both h k = tt
if_some_both (Some p) P Q R both h k = both p h k
