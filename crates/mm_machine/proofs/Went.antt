-- Cycles of a machine: one more at a time, and for the run of an image.
use Rattle.std.proofs.Common.{◌≡◌, ℕ, List, [], ◌∷◌, ◌++◌, Option, Some, refl, sym, ap, ◌∙◌, subst, append_assoc}
use Rattle.mm_mem.specs.declared.memory.Memory.{Ghosts}
use Rattle.mm_model.specs.{Uses.{Use, takes_none, takes_both}, State.State, Image.{Image, start}}
use Rattle.mm_model.specs.Run.{after, run, uses, turn_of, last_item}
use Rattle.mm_machine.specs.{declared.machine.Machine.Machine, Machine.{state_of, Takes, StandsTo, StandsFor}}
use Rattle.mm_machine.{specs.Going.WentOn, proofs.Keeping.{run_more, uses_more}}

-- items behind items
pub run_both : (s : State) (front items : List ℕ) → run s (front ++ items) ≡ run (run s front) items
unfolding run
run_both s [] items = refl
run_both s (n ∷ front) items = run_both (after s n) front items

uses_both : (s : State) (front items : List ℕ) → uses s (front ++ items) ≡ uses s front ++ uses (run s front) items
unfolding run uses
uses_both s [] items = refl
uses_both s (n ∷ front) items =
    ap (λ (us : List Use). (turn_of s n).uses ++ us) (uses_both (after s n) front items)
    ∙ sym (append_assoc (turn_of s n).uses (uses (after s n) front) (uses (run (after s n) front) items))

module _ {M : Type 0} {memory : Ghosts M} where
  -- no item
  pub went_nowhere : (m : Machine M memory) → WentOn m m []
  unfolding run uses
  went_nowhere m = record { state = refl; takes = takes_none m.mem }

  -- one item more
  pub went_further : (old mid new : Machine M memory) (front : List ℕ) (n : ℕ) → WentOn old mid front → state_of new ≡ after (state_of mid) n
      → Takes mid new (turn_of (state_of mid) n).uses → WentOn old new (front ++ n ∷ [])
  went_further old mid new front n went is takes = record {
    state = is ∙ ap (λ (s : State). after s n) went.state ∙ sym (run_more (state_of old) front n);
    takes = subst (λ (us : List Use). Takes old new us) (sym (uses_more (state_of old) front n))
        (takes_both went.takes (subst (λ (s : State). Takes mid new (turn_of s n).uses) went.state takes));
  }

  -- where a machine stood for some items of an image, it stands for these too
  pub went_stands : (i : Image) (before items : List ℕ) (old new : Machine M memory) → StandsFor i before old → WentOn old new items → StandsFor i (before ++ items) new
  went_stands i before items old new stood went =
      let NewStands : List Use → Type 0 = λ us. StandsTo new us in
      record {
        state = went.state ∙ ap (λ (s : State). run s items) stood.state ∙ sym (run_both (start i) before items);
        uses_made = subst NewStands
            (ap (λ (s : State). uses (start i) before ++ uses s items) stood.state ∙ sym (uses_both (start i) before items))
            (went.takes.each (uses (start i) before) stood.uses_made);
      }

  -- from the start of an image
  pub went_from_start : (i : Image) (old new : Machine M memory) (items : List ℕ) → StandsFor i [] old → WentOn old new items → StandsFor i items new
  went_from_start i old new items begun went = went_stands i [] items old new begun went

-- the last item of a list with one behind it
pub last_more : (before : Option ℕ) (items : List ℕ) (n : ℕ) → last_item before (items ++ n ∷ []) ≡ Some n
last_more before [] n = refl
last_more before (m ∷ items) n = last_more (Some m) items n
