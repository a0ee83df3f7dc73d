-- What comes of a run is found on the turns from a schedule of the list that leads to its configuration.
use Rattle.std.proofs.Common.{◌≡◌, inl, inr, ℕ, ◌==◌, Bool, true, false, ◌&&◌, List, refl, sym, ap, ◌∙◌, subst}
use Rattle.std.{proofs.lemmas.Bool.both_ways, specs.Prelude.{Contains, IsSome}}
use Rattle.mm_word.specs.{declared.perm.Kind.Kind, Access.AccessValue}
use Rattle.mm_model.specs.{declared.step.Step.Step, State.State, Image.{Image, start}, Turn.{Turned, idle}}
use Rattle.mm_model.specs.{Run.{turn_of, run}, Trace.{touches, group_in}}
use Rattle.mm_explore.specs.Moves.{moves}
use Rattle.mm_explore.specs.Explored.{leads_to}
use Rattle.mm_explore.specs.Findings.{Extension, turn_at, extensions, explored_turns, Reaches, has_fault}
use Rattle.mm_explore.specs.{Findings.{first_fault}, Laws.GoesOnAlike}
use Rattle.mm_span.proofs.Members.{none_in, in_map, in_flat, finds_some}
use Rattle.mm_explore.proofs.{Movings.moves_or_idles, Coverings.{alike}}

-- a cycle with an access, or with a fault, is that of a move
pub touching_moves : (s : State) (n : ℕ) (a : AccessValue) → Contains (touches (turn_of s n).step) a → Contains (moves s) n
unfolding idle
touching_moves s n a inside = elim (moves_or_idles s n) [
  | inl fault ↦ fault
  | inr k ↦ absurd (none_in a (subst (λ (t : Turned). Contains (touches t.step) a) k.1 inside))
]

no_fault : (a b : Bool) → b ≡ false → (a && b) ≡ true → ⊥
no_fault true b e f = both_ways b e f
no_fault false b e f = cc

idle_has_none : (s : State) (k slot cause : ℕ) → has_fault slot cause (idle s.core s.memory k).step ≡ true → ⊥
unfolding idle
idle_has_none s k slot cause e = no_fault (k == slot) false refl e

pub faulting_moves : (s : State) (n slot cause : ℕ) → has_fault slot cause (turn_of s n).step ≡ true → Contains (moves s) n
faulting_moves s n slot cause fault = elim (moves_or_idles s n) [
  | inl move ↦ move
  | inr k ↦ absurd (idle_has_none s k.0 slot cause (sym (ap (λ (t : Turned). has_fault slot cause t.step) k.1) ∙ fault))
]

-- a move from a schedule of the list is a turn explored
pub explores : (i : Image) (list : List (List ℕ)) (t : List ℕ) (n : ℕ) → Contains list t → Contains (moves (run (start i) t)) n
    → Contains (explored_turns i list) (record { schedule = t; item = n })
unfolding explored_turns
explores i list t n inside move =
    let make : ℕ → Extension = λ m. record { schedule = t; item = m } in
    in_flat (extensions i) list t (make n) inside (in_map make (moves (run (start i) t)) n move)

module _ (i : Image) (list : List (List ℕ)) (t s : List ℕ) (inside : Contains list t) (e : leads_to i t ≡ leads_to i s) where
  abbrev there : State
  there = run (start i) s

  on : (n : ℕ) → GoesOnAlike (run (start i) t) there n
  on n = (alike i t s e).each n

  move_of : (n : ℕ) → Contains (moves there) n → Contains (explored_turns i list) (record { schedule = t; item = n })
  move_of n move = explores i list t n inside (subst (λ l. Contains l n) (sym (alike i t s e).moves) move)

  pub reaches : (passes : Kind → Bool) (n : ℕ) (a : AccessValue) → Contains (touches (turn_of there n).step) a → passes a.kind ≡ true → Reaches passes i list (group_in (turn_of there n)) a.addr
  reaches passes n a made kind = record {
    turn = record { schedule = t; item = n };
    explored = move_of n (touching_moves there n a made);
    access = a;
    made = subst (λ (x : Step). Contains (touches x) a) (sym (on n).step) made;
    kind = kind;
    by = (on n).group;
    at = refl;
  }

  pub faults : (n slot cause : ℕ) → has_fault slot cause (turn_of there n).step ≡ true → IsSome (first_fault i list slot cause)
  faults n slot cause fault =
      finds_some (λ x. has_fault slot cause (turn_at i x).step) (explored_turns i list) (record { schedule = t; item = n })
      (move_of n (faulting_moves there n slot cause fault)) (ap (has_fault slot cause) (on n).step ∙ fault)
