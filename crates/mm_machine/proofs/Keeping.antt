-- A machine keeps what is true of it, and goes on with the run that it stands for.
use Rattle.std.proofs.Common.{◌≡◌, ℕ, ◌+◌, ◌<◌, ◌≤◌, ◌^◌, List, [], ◌∷◌, ◌++◌, refl, sym, ap, ◌∙◌, subst, arith}
use Rattle.std.proofs.{Common.{append_assoc, append-nil}, Props.props, Math.Logic.{∥∥₁_elim, ∥∥₁_map}}
use Rattle.std.specs.List.{AllByRecursion}
use Rattle.mm_model.specs.{Memory.{Memory, IsPaged}, Slot.Slot, State.{State, Core}, Image.{Image, start}}
use Rattle.mm_model.specs.{Spelling.IsImage, Uses.Use, Run.{turn_of, after, run, uses}, Fits.{slots_of, IsCore}}
use Rattle.mm_model.specs.{Outcomes.{StopsAt, FaultChanges}, declared.step.Step.Step}
use Rattle.mm_model.proofs.{Starts.{start_state, start_fits, start_kept, start_within}, Fitted.{paged_of, core_of}}
use Rattle.mm_model.proofs.StateKeeps.{after_state, after_fits, after_kept}
use Rattle.mm_model.proofs.Causes.{IsOrderly, EndsExactly, core_orderly, ends_exactly, fault_changes}
use Rattle.mm_model.proofs.TurnBounds.{after_within}
use Rattle.mm_word.specs.declared.cause.Cause.{Cause}
use Rattle.mm_machine.specs.Validity.{IsValid}

pub valid_start : (i : Image) → IsImage i → IsValid (start i)
valid_start i h = record { image = i; is_image = h; state = start_state i h; fits = start_fits i h; types = start_kept i h.rising h.fresh; turns = start_within i h }

pub valid_after : (s : State) (n : ℕ) → IsValid s → IsValid (after s n)
valid_after s n k = record {
  image = k.image;
  is_image = k.is_image;
  state = after_state s n k.state;
  fits = after_fits k.image s n k.is_image k.state k.fits;
  types = after_kept k.image s n k.is_image k.state k.fits k.types;
  turns = after_within s n k.state.core k.fits.matched k.turns;
}

-- its slots, queues and outputs are those of a machine
pub valid_core : (s : State) → IsValid s → IsCore s.core
valid_core s k = core_of k.image s k.is_image k.state k.fits k.types

pub valid_paged : (s : State) → IsValid s → IsPaged s.memory
valid_paged s k = paged_of k.image s k.state k.fits

fewer : (slots : List Slot) (n m : ℕ) → n < m → AllByRecursion (λ (s : Slot). s.turns ≤ n) slots → AllByRecursion (λ (s : Slot). s.turns < m) slots
fewer [] n m lt h = tt
fewer (s ∷ slots) n m lt h = (let le = h.0 in omega arith, fewer slots n m lt h.1)

pub valid_turns : (s : State) → s.cycles < 2 ^ 32 → IsValid s → AllByRecursion (λ (slot : Slot). slot.turns < 2 ^ 61) (slots_of s.core)
valid_turns s lt k = fewer (slots_of s.core) s.cycles (2 ^ 61) (omega arith) k.turns

-- one item more

pub run_more : (s : State) (items : List ℕ) (n : ℕ) → run s (items ++ n ∷ []) ≡ after (run s items) n
unfolding run
run_more s [] n = refl
run_more s (m ∷ items) n = run_more (after s m) items n

pub uses_more : (s : State) (items : List ℕ) (n : ℕ) → uses s (items ++ n ∷ []) ≡ uses s items ++ (turn_of (run s items) n).uses
unfolding run uses
uses_more s [] n = append-nil (turn_of s n).uses
uses_more s (m ∷ items) n = ap (λ (us : List Use). (turn_of s m).uses ++ us) (uses_more (after s m) items n)
    ∙ sym (append_assoc (turn_of s m).uses (uses (after s m) items) (turn_of (run (after s m) items) n).uses)

-- what is kept, from a state to the next

pub memory_paged : (s : State) → ∥ IsValid s ∥₁ → IsPaged s.memory
memory_paged s h = ∥∥₁_elim h (hlevel props) (λ k. valid_paged s k)

pub few_turns : (s : State) → s.cycles < 2 ^ 32 → ∥ IsValid s ∥₁ → AllByRecursion (λ (slot : Slot). slot.turns < 2 ^ 61) (slots_of s.core)
few_turns s lt h = ∥∥₁_elim h (hlevel props) (λ k. valid_turns s lt k)

pub goes_on : (s t : State) (n : ℕ) → t ≡ after s n → ∥ IsValid s ∥₁ → ∥ IsValid t ∥₁
goes_on s t n is h = ∥∥₁_map h (λ k. subst IsValid (sym is) (valid_after s n k))

pub state_made : (s : State) (n : ℕ) (core : Core) (memory : Memory) → core ≡ (turn_of s n).core → memory ≡ (turn_of s n).memory
    → record { core = core; memory = memory; cycles = s.cycles + 1 } ≡ after s n
unfolding after
state_made s n core memory c m =
    ap (λ (x : Core). let t : State = record { core = x; memory = memory; cycles = s.cycles + 1 } in t) c
    ∙ ap (λ (x : Memory). let t : State = record { core = (turn_of s n).core; memory = x; cycles = s.cycles + 1 } in t) m

-- what a fault changes, of a state that is kept
pub valid_orderly : (s : State) → ∥ IsValid s ∥₁ → IsOrderly s.core
valid_orderly s h = ∥∥₁_elim h (hlevel props) (λ k. core_orderly s.core (valid_core s k))

-- what comes of an item, by its step
pub exactly : (s : State) (n : ℕ) (step : Step) → ∥ IsValid s ∥₁ → step ≡ (turn_of s n).step → EndsExactly s.core s.memory n step.tick
exactly s n step kept is = subst (λ (x : Step). EndsExactly s.core s.memory n x.tick) (sym is) (ends_exactly s.core s.memory n (valid_orderly s kept))

pub fault_changed : (s t : State) (n : ℕ) → t ≡ after s n → ∥ IsValid s ∥₁ → (x : Slot) (c : Cause) → StopsAt s.core s.memory n x c → FaultChanges x c s t
fault_changed s t n is kept x c stops = subst (FaultChanges x c s) (sym is) (fault_changes s n x c (valid_orderly s kept) stops)
