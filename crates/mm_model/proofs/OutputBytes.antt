-- What a group has put out are bytes, in each state of a run.
use Rattle.std.proofs.Common.{ℕ, zero, suc, ◌<◌, ◌∷◌, ◌++◌, List, [], replicate, slice_index_or, sym, subst}
use Rattle.std.specs.List.{AllByRecursion}
use Rattle.mm_model.specs.{State.{Core, State, output_of}, Image.{Image, start}, Run.{after, run}, Turn.turn}
use Rattle.mm_model.proofs.{CoreRows.{each_push, each_set}, TurnChanges.{OutputMoves, turn_changes}}

abbrev pub AreBytes : List ℕ → Type 0
AreBytes bytes = AllByRecursion (λ b. b < 256) bytes

-- each group's output is bytes
abbrev pub PutsOutBytes : Core → Type 0
PutsOutBytes core = AllByRecursion AreBytes core.outputs

each_at : {A : Type 0} (P : A → Type 0) (xs : List A) (n : ℕ) (d : A) → AllByRecursion P xs → P d → P (slice_index_or xs n d)
each_at P [] n d h other = other
each_at P (x ∷ xs) zero d h other = h.0
each_at P (x ∷ xs) (suc n) d h other = each_at P xs n d h.1 other

pub group_bytes : (core : Core) → PutsOutBytes core → (g : ℕ) → AreBytes (output_of core g)
unfolding output_of
group_bytes core bytes g = each_at AreBytes core.outputs g [] bytes tt

moved_bytes : (was now : List (List ℕ)) → OutputMoves was now → AllByRecursion AreBytes was → AllByRecursion AreBytes now
moved_bytes was now (OutputMoves.Same e) h = subst (AllByRecursion AreBytes) (sym e) h
moved_bytes was now (OutputMoves.Puts p) h =
    subst (AllByRecursion AreBytes) (sym p.outputs)
    (each_set AreBytes was p.group (slice_index_or was p.group [] ++ p.byte ∷ []) h
    (each_push (λ b. b < 256) (slice_index_or was p.group []) p.byte (each_at AreBytes was p.group [] h tt) p.small))

pub after_bytes : (s : State) (n : ℕ) → PutsOutBytes s.core → PutsOutBytes (after s n).core
unfolding after
after_bytes s n h = moved_bytes s.core.outputs (turn s.core s.memory n).core.outputs (turn_changes s.core s.memory n).outputs h

none_bytes : (n : ℕ) → AllByRecursion AreBytes (replicate n [])
none_bytes zero = tt
none_bytes (suc n) = (tt, none_bytes n)

pub start_bytes : (i : Image) → PutsOutBytes (start i).core
unfolding start
start_bytes i = none_bytes 64

run_from : (s : State) (items : List ℕ) → PutsOutBytes s.core → PutsOutBytes (run s items).core
unfolding run
run_from s [] bytes = bytes
run_from s (n ∷ items) bytes = run_from (after s n) items (after_bytes s n bytes)

pub run_bytes : (i : Image) (items : List ℕ) → PutsOutBytes (run (start i) items).core
run_bytes i items = run_from (start i) items (start_bytes i)
