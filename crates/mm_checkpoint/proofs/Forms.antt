-- The saved form of a run's snapshot is that of the run's state, and parts that have it are such a snapshot.
use Rattle.std.proofs.Common.{◌≡◌, ℕ, List, [], ◌∷◌, map, Option, refl, ap, sym, subst, ◌∙◌}
use Rattle.std.specs.List.{AllByRecursion}
use Rattle.mm_model.proofs.{TurnKeeps.each_of, CoreRows.into_map}
use Rattle.mm_model.specs.{State.{Core, State, output_of}, Image.{Image, start}, Run.run, Spelling.IsImage}
use Rattle.mm_model.specs.Fits.{identity_of, slots_of}
use Rattle.mm_thread.specs.Output.{Output}
use Rattle.mm_machine.specs.Snapshot.{Parts, IsSnapshot, IsSnapshotOf, IsOutputOf}
use Rattle.mm_checkpoint.specs.{Checkpoints.{Saved, saved_of}, Reading.groups_of, States.saved_form}
use Rattle.mm_checkpoint.specs.{Laws.SnapshotsHaveSavedForms, Steps.put_out}
use Rattle.mm_checkpoint.proofs.{Reached.reached, Groups.{groups_same, groups_by}, Made.{made_outputs, parts_back}}

-- a group beside what a core says of it
abbrev pub told : Core → ℕ → ℕ × List ℕ
told core g = (g, output_of core g)

-- each output beside its group is what a core says of the group
said : (core : Core) (outputs : List Output) → AllByRecursion (IsOutputOf core) outputs
    → map put_out outputs ≡ map (told core) (map (λ (o : Output). o.group) outputs)
said core [] h = refl
said core (o ∷ outputs) h =
    ap (λ bytes. (o.group, bytes) ∷ map put_out outputs) h.0 ∙ ap (λ xs. told core o.group ∷ xs) (said core outputs h.1)

-- parts that are a snapshot of a state have its saved form, where their slots are the image's
pub have_form : (i : Image) (t : State) (p : Parts) (last : Option ℕ) → IsImage i
    → map identity_of p.slots ≡ map identity_of i.slots → IsSnapshotOf t p → saved_of p last ≡ saved_form t last
have_form i t p last image same is =
    let slots = is.slots in
    let events = is.events in
    let outputs = said t.core p.outputs is.outputs ∙ ap (map (told t.core)) (sym (groups_same i p image is.rules same)
    ∙ sym (groups_by p.slots i.slots same) ∙ ap groups_of is.slots) in
    let pages = is.pages in
    let cycles = is.cycles in
    cc

pub have_forms : SnapshotsHaveSavedForms
have_forms i items p last image is = have_form i (run (start i) items) p last image
    (ap (map identity_of) is.slots ∙ (reached i items image).fits.same_slots) is

-- outputs that a core says
pub groups_made : (core : Core) (groups : List ℕ)
    → map (λ (o : Output). o.group) (made_outputs (map (told core) groups)) ≡ groups
groups_made core [] = refl
groups_made core (g ∷ groups) = ap (λ gs. g ∷ gs) (groups_made core groups)

pub said_made : (core : Core) (groups : List ℕ)
    → AllByRecursion (IsOutputOf core) (made_outputs (map (told core) groups))
said_made core groups =
    into_map _ _ _
    (into_map _ _ _
    (each_of _ (λ g. refl) groups))

-- parts that have the saved form of a state are a snapshot of it
pub of_form : (s : State) (p : Parts) (last also : Option ℕ) → IsSnapshot p → saved_of p last ≡ saved_form s also
    → IsSnapshotOf s p
of_form s p last also rules e = record {
  rules = rules;
  slots = ap (λ (c : Saved). c.slots) e;
  events = ap (λ (c : Saved). c.events) e;
  outputs = subst (AllByRecursion (IsOutputOf s.core))
      (sym (ap (λ (c : Saved). made_outputs c.outputs) e) ∙ ap (λ (q : Parts). q.outputs) (parts_back p last))
      (said_made s.core (groups_of (slots_of s.core)));
  pages = ap (λ (c : Saved). c.pages) e;
  cycles = ap (λ (c : Saved). c.cycles) e;
}
