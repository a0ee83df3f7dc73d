-- Outputs and parts of a state that have given contents: a saved form has those of one state.
use Rattle.std.proofs.Common.{◌≡◌, ℕ, List, [], ◌∷◌, map, Option, refl, sym, ap, subst, ◌∙◌}
use Rattle.mm_thread.specs.Output.{Output}
use Rattle.mm_machine.specs.Snapshot.{Parts, parts_of}
use Rattle.mm_checkpoint.specs.{Checkpoints.{Saved, saved_of}, Laws.{SameStates, SavedFormsAreStates}, Steps.put_out}

abbrev pub made_output : ℕ × List ℕ → Output
made_output o = record { group = o.0; bytes = o.1 }

abbrev pub made_outputs : List (ℕ × List ℕ) → List Output
made_outputs outputs = map made_output outputs

made_again : (outputs : List (ℕ × List ℕ)) → map put_out (made_outputs outputs) ≡ outputs
made_again [] = refl
made_again (o ∷ outputs) = ap (λ (xs : List (ℕ × List ℕ)). o ∷ xs) (made_again outputs)

put_back : (outputs : List Output) → made_outputs (map put_out outputs) ≡ outputs
put_back [] = refl
put_back (o ∷ outputs) = ap (λ (xs : List Output). o ∷ xs) (put_back outputs)

-- parts of which this is saved
abbrev pub made_parts : Saved → Parts
made_parts c = parts_of c.slots c.events (made_outputs c.outputs) c.pages c.cycles

pub made_saved : (c : Saved) → saved_of (made_parts c) c.last ≡ c
made_saved c =
    let make : List (ℕ × List ℕ) → Saved = λ outputs. record {
      slots = c.slots;
      events = c.events;
      outputs = outputs;
      pages = c.pages;
      cycles = c.cycles;
      last = c.last;
    } in
    ap make (made_again c.outputs)

pub parts_back : (p : Parts) (last : Option ℕ) → made_parts (saved_of p last) ≡ p
parts_back p last = ap (λ (os : List Output). parts_of p.slots p.events os p.pages p.cycles) (put_back p.outputs)

-- so parts with one saved form are the same
pub same_states : SavedFormsAreStates
same_states p q last also rules e =
    let same : p ≡ q = sym (parts_back p last) ∙ ap made_parts e ∙ parts_back q also in
    (subst (SameStates p) same (record { of = λ t is. is; restored = λ s. refl }), ap (λ (c : Saved). c.last) e)
