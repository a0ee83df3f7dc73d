-- Whatever a command does, a session can still go to each point to which it could go before.
use Rattle.std.proofs.Common.{◌≡◌, ℕ, List, refl, sym, subst}
use Rattle.mm_mem.specs.declared.memory.Memory.{Ghosts}
use Rattle.mm_model.specs.{State.State, Run.after}
use Rattle.mm_machine.specs.{Validity.IsValid, Snapshot.{Parts, CanRestore}}
use Rattle.mm_machine.proofs.{Keeping.goes_on, Restorable.can_after}
use Rattle.mm_debug.specs.{declared.{command.Command.Command, session.{Session.{Session as Held}}}, Commands.lines_of}
use Rattle.mm_debug.specs.{Session.{Session, answer, answer_to, dialogue, debugged}, Dialogues.{IsAnswer, Carried}}
use Rattle.mm_debug.specs.{Shown.session_of, Standing.{Point, CanGo}}
use Rattle.mm_debug.proofs.{AnswersKeep.{Keeps, answer_keeps, dialogue_keeps}, Dialogues.{IsDialogue, is_dialogue}}

-- a state of the same machine: it is kept where the first is, and can be put back to what the first can
record Follows (s t : State) : Type 0 where
  kept : ∥ IsValid s ∥₁ → ∥ IsValid t ∥₁
  can : ∥ IsValid s ∥₁ → (p : Parts) → CanRestore s p → CanRestore t p

itself : (s : State) → Follows s s
itself s = record { kept = λ k. k; can = λ k p can. can }

one_more : (s t : State) (item : ℕ) → Follows s t → Follows s (after t item)
one_more s t item f = record {
  kept = λ k. goes_on t (after t item) item refl (f.kept k);
  can = λ k p can. can_after t (after t item) item p refl (f.kept k) (f.can k p can);
}

each_follows : (s : State) → Keeps (λ (t : Session). Follows s t.state)
each_follows s = record {
  issues = λ t item is f. one_more s t.state item f;
  breaks = λ t entries f. f;
  watches = λ t words f. f;
}

answer_follows : (s : Session) (c : Command) → Follows s.state (answer s c).session.state
answer_follows s c = answer_keeps (λ (t : Session). Follows s.state t.state) (each_follows s.state) s c (itself s.state)

dialogue_follows : (s : Session) (lines : List (List ℕ)) → Follows s.state (dialogue s lines).session.state
dialogue_follows s lines = dialogue_keeps (λ (t : Session). Follows s.state t.state) (each_follows s.state) s lines (itself s.state)

can_go : (s t : Session) (p : Point) → Follows s.state t.state → ∥ IsValid s.state ∥₁ → CanGo s p → CanGo t p
can_go s t p f kept can = record { restore = f.can kept p.snapshot can.restore; limit = can.limit }

-- after a command

pub answer_goes : (s : Session) (c : Command) (p : Point) → ∥ IsValid s.state ∥₁ → CanGo s p → CanGo (answer s c).session p
answer_goes s c p kept can = can_go s (answer s c).session p (answer_follows s c) kept can

-- after lines

pub dialogue_goes : (s : Session) (lines : List (List ℕ)) (p : Point) → ∥ IsValid s.state ∥₁ → CanGo s p → CanGo (dialogue s lines).session p
dialogue_goes s lines p kept can = can_go s (dialogue s lines).session p (dialogue_follows s lines) kept can

-- and of sessions that code holds, whose machine is kept

module _ {M : Type 0} {memory : Ghosts M} where
  pub input_goes : (old new : Held M memory) (input : List ℕ) → session_of new ≡ (debugged (session_of old) input).session → (p : Point) → CanGo (session_of old) p → CanGo (session_of new) p
  input_goes old new input is p can = subst (λ (t : Session). CanGo t p) (sym is) (dialogue_goes (session_of old) (lines_of input) p old.machine.valid can)

  -- what carried out lines, each as a session answers it, is where its dialogue ended
  pub sessions_said : {old new : Held M memory} {lines : List (List ℕ)} {text : List ℕ}
      → Carried (λ (s : Held M memory) line reply (t : Held M memory) next. IsAnswer (answer_to (session_of s) line) reply (session_of t) next) old lines text new
      → IsDialogue (dialogue (session_of old) lines) text (session_of new)
  sessions_said carried = is_dialogue session_of answer_to (λ s. Unit {0}) (λ s t line reply next holds answer. (answer, tt)) tt carried
