-- A net at its start.
use Rattle.std.proofs.Common.{◌≡◌, ℕ, zero, suc, ◌≤◌, List, [], ◌∷◌, length, map, slice_get, Some, refl, sym, ap, ◌∙◌}
use Rattle.std.proofs.Common.{subst, arith}
use Rattle.std.proofs.lemmas.{List.length-map, Option.{same_Some, slice_get_within, get_or_from_slice_get}}
use Rattle.std.specs.List.{All}
use Rattle.mm_mem.specs.declared.memory.Memory.{Ghosts}
use Rattle.mm_model.specs.{State.State, Image.{Image, start}, Run.{run, uses}}
use Rattle.mm_machine.specs.{declared.machine.Machine.Machine, Machine.{state_of, StandsTo}}
use Rattle.mm_net.specs.{declared.{link.Link.Link, net.Net.Net}, Nets.{nothing_carried, net_run, net_uses}}
use Rattle.mm_net.specs.{Wires.{Wired, link_list, carried_list}, Kept.{AreWithin, AreWired}}
use Rattle.mm_net.specs.Net.{links_of, IsUnused, HasNodes, AllStart, StandsFor}
use Rattle.mm_net.proofs.{ListPlaces.map_at, Stepping.{link_by, same_net}}

-- what is true of each element is true of the one at a place
each_at : {A : Type 0} (P : A → Type 0) (xs : List A) (k : ℕ) (x : A) → All P xs → slice_get xs k ≡ Some x → P x
each_at P xs k x h is = subst P (get_or_from_slice_get xs k x x is) (h k x (slice_get_within xs k x is))

nodes_of : (count : ℕ) (wires : List Wired) (links : List Link) (l : ℕ) (w : Wired) → link_list wires ≡ links → All (HasNodes count) links
    → slice_get wires l ≡ Some w → HasNodes count w.link
nodes_of count wires links l w same ends is =
    let at : slice_get links l ≡ Some w.link = ap (λ (xs : List Link). slice_get xs l) (sym same) ∙ map_at link_by wires l (Some w) is in
    each_at (HasNodes count) links l w.link ends at

pub begins_wired : (count least : ℕ) (wires : List Wired) (links : List Link) → link_list wires ≡ links → All (HasNodes count) links
    → All (λ (w : Wired). least ≤ w.room) wires → AreWired count least wires
begins_wired count least wires links same ends rooms = record {
  from = λ l w is. (nodes_of count wires links l w same ends is).0;
  to = λ l w is. (nodes_of count wires links l w same ends is).1;
  room = λ l w is. each_at (λ (x : Wired). least ≤ x.room) wires l w rooms is;
}

pub few_wires : (wires : List Wired) (links : List Link) → link_list wires ≡ links → length links ≤ 64 → length wires ≤ 64
few_wires wires links same few = omega (arith, length-map wires link_by, ap length same)

module _ {M : Type 0} {memory : Ghosts M} where
  pub begins_within : (nodes : List (Machine M memory)) → All IsUnused nodes → AreWithin 0 nodes
  begins_within nodes unused = record {
    cycles = λ n m is. let none = (each_at IsUnused nodes n m unused is).0 in omega arith;
    ports = λ n m is. let none = (each_at IsUnused nodes n m unused is).1 in omega arith;
  }

  states_start : (images : List Image) (nodes : List (Machine M memory)) → AllStart images nodes → map state_of nodes ≡ map start images
  unfolding run
  states_start [] [] h = refl
  states_start [] (m ∷ nodes) h = absurd h
  states_start (i ∷ images) [] h = absurd h
  states_start (i ∷ images) (m ∷ nodes) h = ap (λ (s : State). s ∷ map state_of nodes) h.0.state ∙ ap (λ (ss : List State). start i ∷ ss) (states_start images nodes h.1)

  unused_start : (images : List Image) (nodes : List (Machine M memory)) (n : ℕ) (m : Machine M memory) → AllStart images nodes → slice_get nodes n ≡ Some m → StandsTo m []
  unfolding uses
  unused_start [] [] n m h is = cc
  unused_start [] (x ∷ nodes) n m h is = absurd h
  unused_start (i ∷ images) [] n m h is = absurd h
  unused_start (i ∷ images) (x ∷ nodes) zero m h is = subst (λ (y : Machine M memory). StandsTo y []) (same_Some x m is) h.0.uses_made
  unused_start (i ∷ images) (x ∷ nodes) (suc n) m h is = unused_start images nodes n m h.1 is

  -- a net whose links carried nothing stands for its images
  pub begins : (net : Net M memory) (links : List Link) → links_of net ≡ links → carried_list net.wires.items ≡ map (λ (_ : Link). nothing_carried) links
      → (images : List Image) → AllStart images net.nodes.items → StandsFor images [] net
  unfolding net_run net_uses
  begins net links same nothing images h = record {
    state = same_net _ _ _ _ (states_start images net.nodes.items h) (nothing ∙ ap (map (λ (_ : Link). nothing_carried)) (sym same));
    uses_made = λ n m is. unused_start images net.nodes.items n m h is;
  }
