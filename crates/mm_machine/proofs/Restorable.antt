-- What a machine can be put back to, it can be put back to after cycles and after other states were put back.
use Rattle.std.proofs.Common.{◌≡◌, ℕ, ◌≤◌, inl, inr, List, [], length, map, refl, sym, ap, subst, ◌∙◌, arith}
use Rattle.std.proofs.{Props.props, lemmas.{Bool.cases_lt, List.get_or_past}, Math.Logic.∥∥₁_elim}
use Rattle.std.specs.List.{AllByRecursion}
use Rattle.mm_model.specs.{Slot.Slot, State.{State, output_of}, Image.output_limit, Run.after}
use Rattle.mm_model.specs.Fits.{identity_of, slots_of, LoadsAreConsistent, IsCore}
use Rattle.mm_model.proofs.{CoreRows.{each_map, each_get}, StateKeeps.after_fits}
use Rattle.mm_thread.{specs.Output.Output, proofs.Assigned.slots-with}
use Rattle.mm_machine.specs.{Validity.IsValid, Snapshot.{Parts, CanRestore, IsOutputOf, IsSnapshotOf, restored}}
use Rattle.mm_machine.proofs.Keeping.{valid_core}

-- two states of one machine
pub record IsSameMachine (s t : State) : Type 0 where
  pub slots : map identity_of (slots_of s.core) ≡ map identity_of (slots_of t.core)
  pub version : s.core.version ≡ t.core.version
  pub split : s.core.split ≡ t.core.split
  pub frames : s.memory.frames ≡ t.memory.frames

pub can_too : (s t : State) (p : Parts) → IsSameMachine s t → CanRestore s p → CanRestore t p
can_too s t p same can = record {
  slots = can.slots ∙ same.slots;
  mode = λ off. can.mode (same.split ∙ off);
  outputs = subst (λ (v : ℕ). AllByRecursion (λ (o : Output). length o.bytes ≤ output_limit v) p.outputs) same.version can.outputs;
  pages = subst (λ (n : ℕ). length p.pages ≤ n) same.frames can.pages;
}

same_after : (s : State) (n : ℕ) → IsValid s → IsSameMachine s (after s n)
same_after s n k =
    let later = after_fits k.image s n k.is_image k.state k.fits in
    record {
      slots = k.fits.same_slots ∙ sym later.same_slots;
      version = k.fits.version ∙ sym later.version;
      split = k.fits.split ∙ sym later.split;
      frames = k.fits.frames ∙ sym later.frames;
    }

-- after one more cycle
pub can_after : (s t : State) (n : ℕ) (p : Parts) → t ≡ after s n → ∥ IsValid s ∥₁ → CanRestore s p → CanRestore t p
can_after s t n p is kept can = subst (λ (u : State). CanRestore u p) (sym is) (∥∥₁_elim kept (hlevel props) (λ k. can_too s (after s n) p (same_after s n k) can))

-- after another state was put back
pub can_restored : (s t : State) (p q : Parts) → t ≡ restored s p → CanRestore s p → CanRestore s q → CanRestore t q
can_restored s t p q is first second =
    let same : IsSameMachine s (restored s p) = record {
      slots = sym (ap (map identity_of) (slots-with p.events p.slots) ∙ first.slots);
      version = refl;
      split = refl;
      frames = refl;
    } in
    subst (λ (u : State). CanRestore u q) (sym is) (can_too s (restored s p) q same second)

-- and to its own state
own_limit : (s : State) (o : Output) → IsCore s.core → IsOutputOf s.core o → length o.bytes ≤ output_limit s.core.version
unfolding output_of
own_limit s o whole is = elim (cases_lt o.group 64) as (λ _. length o.bytes ≤ output_limit s.core.version) [
  | inl inside ↦
      let one = each_get (λ (bytes : List ℕ). length bytes ≤ output_limit s.core.version) s.core.outputs o.group [] whole.kept.within (omega (arith, whole.formed.outputs)) in
      omega (arith, one, ap length is)
  | inr past ↦ omega (arith, ap length is, ap length (get_or_past s.core.outputs o.group [] (omega (arith, whole.formed.outputs))))
]

own : (s : State) (p : Parts) → IsSnapshotOf s p → IsValid s → CanRestore s p
own s p is k = record {
  slots = ap (map identity_of) is.slots;
  mode = λ off. subst (AllByRecursion (λ (x : Slot). x.pending ≡ [])) (sym is.slots)
      (each_map (LoadsAreConsistent s.core.split) (λ (x : Slot). x.pending ≡ []) (λ x one. one.mode off) (slots_of s.core) k.types.loads);
  outputs = each_map (IsOutputOf s.core) (λ (o : Output). length o.bytes ≤ output_limit s.core.version) (λ o said. own_limit s o (valid_core s k) said) p.outputs is.outputs;
  pages = let few = k.fits.mapped in let same = ap length is.pages in omega arith;
}

pub can_own : (s : State) (p : Parts) → ∥ IsValid s ∥₁ → IsSnapshotOf s p → CanRestore s p
can_own s p kept is = ∥∥₁_elim kept (hlevel props) (λ k. own s p is k)
