-- States of slots that are tested to be the same are the same.
use Rattle.std.proofs.Common.{◌≡◌, true, Some, None, refl, ap, eq-eqb}
use Rattle.mm_word.{specs.Cause.number_of, proofs.Causes.causes_same}
use Rattle.mm_model.specs.declared.slot.SlotState.{SlotState, TheVariants.{Running, Waiting, Taken, Halted}}
use Rattle.mm_log.specs.Changes.{same_state}

pub states_same : (a b : SlotState) → same_state a b ≡ true → a ≡ b
states_same Running Running e = refl
states_same Running Waiting e = cc
states_same Running Taken e = cc
states_same Running (Halted d) e = cc
states_same Waiting Running e = cc
states_same Waiting Waiting e = refl
states_same Waiting Taken e = cc
states_same Waiting (Halted d) e = cc
states_same Taken Running e = cc
states_same Taken Waiting e = cc
states_same Taken Taken e = refl
states_same Taken (Halted d) e = cc
states_same (Halted None) Running e = cc
states_same (Halted (Some c)) Running e = cc
states_same (Halted None) Waiting e = cc
states_same (Halted (Some c)) Waiting e = cc
states_same (Halted None) Taken e = cc
states_same (Halted (Some c)) Taken e = cc
states_same (Halted None) (Halted None) e = refl
states_same (Halted None) (Halted (Some d)) e = cc
states_same (Halted (Some c)) (Halted None) e = cc
states_same (Halted (Some c)) (Halted (Some d)) e = ap (λ x. Halted (Some x)) (causes_same c d e)

pub state_self : (a : SlotState) → same_state a a ≡ true
state_self Running = refl
state_self Waiting = refl
state_self Taken = refl
state_self (Halted None) = refl
state_self (Halted (Some c)) = eq-eqb (number_of c) (number_of c) refl
