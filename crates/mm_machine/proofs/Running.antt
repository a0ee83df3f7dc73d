-- The running slots of a machine, as bits of a mask.
use Rattle.std.proofs.Common.{◌≡◌, ◌≢◌, ◌↔◌, ℕ, zero, suc, ◌*◌, ◌<◌, ◌^◌, true, false, Option, None, Some, IsSome}
use Rattle.std.proofs.{Common.{IfSome, bit_and, refl, sym, ap, ◌∙◌, arith}, Props.props, Math.Logic.∥∥₁_elim}
use Rattle.std.proofs.lemmas.Nat.{pow_pos, Bits.{and_pow, bit_at-lt}}
use Rattle.std.specs.{Option.IsSomeAnd, Int.{bit_at, IsBitSet}}
use Rattle.mm_thread.proofs.RunningSlots.{runs_where}
use Rattle.mm_model.specs.{declared.slot.SlotState.{SlotState, TheVariants.Running}, Slot.Slot, State.{State, slot_at}}
use Rattle.mm_model.specs.{Turn.is_running, Run.next_running}
use Rattle.mm_machine.specs.Validity.{IsValid}
use Rattle.mm_sched.{specs.{Shown.{runs, Shows}, Following.IsNextBit}, proofs.Rounds.{next_shown, none_shown}}

-- 1. A slot runs where its state says so.

is_running_of : (state : SlotState) → state ≡ Running → is_running state ≡ true
is_running_of state same = ap is_running same

runs_means : (slot : Option Slot) → IsSomeAnd slot (λ (s : Slot). s.state ≡ Running) ↔ (runs slot ≡ true)
runs_means None = (λ none. absurd none, λ holds. cc)
runs_means (Some s) = (is_running_of s.state, runs_where s.state)

-- 2. Bits.

set_means : (masked bit weight : ℕ) → bit < 2 → 0 < weight → masked ≡ bit * weight → (masked ≢ 0) ↔ (bit ≡ 1)
set_means masked zero weight lt some is = (λ set. absurd (set (omega arith)), λ one. cc)
set_means masked (suc bit) weight lt some is =
    let none : bit ≡ 0 = omega arith in
    (λ set. omega arith, λ one is_zero. let whole : masked ≡ weight = is ∙ ap (λ b. suc b * weight) none ∙ omega arith in omega arith)

bit_means : (mask n : ℕ) → IsBitSet mask n ↔ (bit_at mask n ≡ 1)
bit_means mask n = set_means (bit_and mask (2 ^ n)) (bit_at mask n) (2 ^ n) (bit_at-lt mask n) (pow_pos n) (and_pow mask n)

-- 3. The mask of a machine shows its running slots.

abbrev pub Masks : State → ℕ → Type 0
Masks s mask = (n : ℕ) → IsBitSet mask n ↔ IsSomeAnd (slot_at s.core n) (λ (slot : Slot). slot.state ≡ Running)

shows : (s : State) (mask : ℕ) → Masks s mask → Shows s.core mask
shows s mask masks = record {
  each = λ n.
      let bit = bit_means mask n in
      let slot = runs_means (slot_at s.core n) in
      (λ one. slot.0 ((masks n).0 (bit.1 one)), λ holds. bit.0 ((masks n).1 (slot.1 holds)));
}

-- 4. What comes next in the mask is the next running slot, and where no bit is set none runs.

pub next_is : (s : State) (mask : ℕ) (last : Option ℕ) (n : ℕ) → ∥ IsValid s ∥₁ → Masks s mask → IsNextBit mask last n → next_running s.core.rows last ≡ Some n
next_is s mask last n kept masks next =
    ∥∥₁_elim kept (hlevel props) (λ k. next_shown s.core mask last n k.state.core.rising (shows s mask masks) next)

pub none_is : (s : State) (mask : ℕ) (last : Option ℕ) → ∥ IsValid s ∥₁ → Masks s mask → mask ≡ 0 → next_running s.core.rows last ≡ None
none_is s mask last kept masks none =
    ∥∥₁_elim kept (hlevel props) (λ k. none_shown s.core mask last k.state.core.rising (shows s mask masks) none)

pub zero_of : (n : ℕ) → (n ≢ 0 → false ≡ true) → n ≡ 0
zero_of zero none = refl
zero_of (suc n) none = let clash : false ≡ true = none (λ is. omega arith) in absurd (cc)

-- what comes next in the mask of the running slots is the next running slot
pub peeked : (s : State) (mask : ℕ) (last next : Option ℕ) → ∥ IsValid s ∥₁ → Masks s mask → (IsSome next ↔ (mask ≢ 0)) → IfSome next (IsNextBit mask last) → next ≡ next_running s.core.rows last
peeked s mask last None kept masks some is = sym (none_is s mask last kept masks (zero_of mask some.1))
peeked s mask last (Some n) kept masks some is = sym (next_is s mask last n kept masks is)
