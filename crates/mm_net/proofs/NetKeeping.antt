-- A net keeps what is true of it.
use Rattle.std.proofs.Common.{◌≡◌, ℕ, ◌+◌, ◌<◌, ◌≤◌, Bool, true, false, eqb, List, length, slice_get, slice_set, Some}
use Rattle.std.proofs.Common.{sum_by, refl, sym, ap, ◌∙◌, subst, arith, length-set}
use Rattle.std.proofs.lemmas.{Option.{slice_get_within, get_or_from_slice_get}, List.Sums.get_or-le-sum_by}
use Rattle.std.proofs.lemmas.Bool.{eqb-true}
use Rattle.mm_model.{proofs.Memories.get_set_other, specs.{State.State, Run.after}}
use Rattle.mm_mem.specs.declared.memory.Memory.{Ghosts}
use Rattle.mm_machine.specs.{declared.machine.Machine.Machine, Machine.{state_of, ports_used}}
use Rattle.mm_net.specs.{declared.net.Net.Net, Nets.{Carried, taken_from, put_into}, Wires.Wired}
use Rattle.mm_net.{specs.Kept.{AreWithin, AreWired}, proofs.ListPlaces.{set_same, unequal}}

-- what is true of each element is true of each once one is set of which it is true
set_each : {A : Type 0} (P : A → Type 0) (xs : List A) (i : ℕ) (x y : A) → slice_get xs i ≡ Some x → P y → ((k : ℕ) (z : A) → slice_get xs k ≡ Some z → P z)
    → (k : ℕ) (z : A) → slice_get (slice_set xs i y) k ≡ Some z → P z
set_each {A} P xs i x y here py each k z is = by (eqb k i) refl
  where
    by : (test : Bool) → eqb k i ≡ test → P z
    by true same = subst P (sym (set_same xs i x y z here (subst (λ (n : ℕ). slice_get (slice_set xs i y) n ≡ Some z) (eqb-true k i same) is))) py
    by false other = each k z (sym (get_set_other xs i k y (unequal k i other)) ∙ is)

wired_set : (nodes least : ℕ) (wires : List Wired) (l : ℕ) (w v : Wired) → slice_get wires l ≡ Some w → v.link ≡ w.link → w.room ≤ v.room
    → AreWired nodes least wires → AreWired nodes least (slice_set wires l v)
wired_set nodes least wires l w v here link room h = record {
  from = set_each (λ (x : Wired). x.link.from < nodes) wires l w v here (rw link (h.from l w here)) h.from;
  to = set_each (λ (x : Wired). x.link.to < nodes) wires l w v here (rw link (h.to l w here)) h.to;
  room = set_each (λ (x : Wired). least ≤ x.room) wires l w v here (omega (arith, h.room l w here)) h.room;
}

-- what one link took is at most what all took
pub sent_below : (links : List Carried) (l : ℕ) (carried : Carried) → slice_get links l ≡ Some carried
    → length carried.sent ≤ sum_by (λ (c : Carried). length c.sent) links
sent_below links l carried is =
    let at = get_or-le-sum_by (λ (c : Carried). length c.sent) links l carried (slice_get_within links l carried is) in
    omega (arith, at, ap (λ (c : Carried). length c.sent) (get_or_from_slice_get links l carried carried is))

-- what one more integer needs
pub room_left : (links : List Carried) (l least room : ℕ) (carried : Carried) → slice_get links l ≡ Some carried
    → sum_by (λ (c : Carried). length c.sent) links < least → least ≤ room → length carried.sent < room
room_left links l least room carried is few most = let below = sent_below links l carried is in omega arith

module _ {M : Type 0} {memory : Ghosts M} where
  pub within_set : (steps : ℕ) (nodes : List (Machine M memory)) (n : ℕ) (m m' : Machine M memory) → slice_get nodes n ≡ Some m
      → (state_of m').cycles ≤ (state_of m).cycles + 1 → ports_used m' ≤ ports_used m + 1 → AreWithin steps nodes → AreWithin (steps + 1) (slice_set nodes n m')
  within_set steps nodes n m m' here cycles ports h = record {
    cycles = set_each (λ (x : Machine M memory). (state_of x).cycles ≤ steps + 1) nodes n m m' here (omega (arith, h.cycles n m here, cycles)) (λ k z is. omega (arith, h.cycles k z is));
    ports = set_each (λ (x : Machine M memory). ports_used x ≤ steps + 1) nodes n m m' here (omega (arith, h.ports n m here, ports)) (λ k z is. omega (arith, h.ports k z is));
  }

  -- a node after a port call
  port_within : (net : Net M memory) (n : ℕ) (m m' : Machine M memory) → slice_get net.nodes.items n ≡ Some m
      → (state_of m').cycles ≡ (state_of m).cycles → ports_used m' ≡ ports_used m + 1 → AreWithin (net.steps + 1) (slice_set net.nodes.items n m')
  port_within net n m m' here cycles ports = within_set net.steps net.nodes.items n m m' here (omega arith) (omega (arith, ports)) net.within

  pub take_within : (net : Net M memory) (n address : ℕ) (m m' : Machine M memory) → slice_get net.nodes.items n ≡ Some m
      → state_of m' ≡ taken_from (state_of m) address → ports_used m' ≡ ports_used m + 1 → AreWithin (net.steps + 1) (slice_set net.nodes.items n m')
  take_within net n address m m' here state ports = port_within net n m m' here (ap (λ (s : State). s.cycles) state) ports

  pub put_within : (net : Net M memory) (n address bits : ℕ) (m m' : Machine M memory) → slice_get net.nodes.items n ≡ Some m
      → state_of m' ≡ put_into (state_of m) address bits → ports_used m' ≡ ports_used m + 1 → AreWithin (net.steps + 1) (slice_set net.nodes.items n m')
  put_within net n address bits m m' here state ports = port_within net n m m' here (ap (λ (s : State). s.cycles) state) ports

  -- as many nodes as before, and the same links
  pub nodes_wired : (net : Net M memory) (n : ℕ) (m' : Machine M memory) → AreWired (length (slice_set net.nodes.items n m')) net.room net.wires.items
  nodes_wired net n m' = subst (λ (count : ℕ). AreWired count net.room net.wires.items) (sym (length-set net.nodes.items n m')) net.wired

  pub both_wired : (net : Net M memory) (n : ℕ) (m' : Machine M memory) (l : ℕ) (w v : Wired) → slice_get net.wires.items l ≡ Some w → v.link ≡ w.link → w.room ≤ v.room
      → AreWired (length (slice_set net.nodes.items n m')) net.room (slice_set net.wires.items l v)
  both_wired net n m' l w v here link room = wired_set (length (slice_set net.nodes.items n m')) net.room net.wires.items l w v here link room (nodes_wired net n m')
