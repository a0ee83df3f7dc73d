-- Steps of which nothing comes.
use Rattle.std.proofs.Common.{◌≡◌, ◌↔◌, ℕ, ◌+◌, Bool, true, false, List, [], ◌∷◌, ◌++◌, length, map, slice_get}
use Rattle.std.proofs.Common.{slice_set, Option, Some, None, refl, sym, ap, ◌∙◌, subst, arith}
use Rattle.std.proofs.lemmas.{List.length_push, Option.same_Some}
use Rattle.mm_mem.specs.declared.memory.Memory.{Ghosts}
use Rattle.mm_model.specs.{declared.step.Step.Step, Memory.cell_at, State.State, Outcomes.IsIdle}
use Rattle.mm_machine.specs.{declared.machine.Machine.Machine, Machine.state_of}
use Rattle.mm_net.specs.declared.{link.Link.Link, item.NetItem.{NetItem, TheVariants.{Send, Carry}}}
use Rattle.mm_net.specs.declared.{tick.NetTick.{NetTick, TheVariants.{Idle, Turned, Sent, Arrived}}, net.Net.Net}
use Rattle.mm_net.specs.Nets.{Carried, NetState, takes, takes_at, bits_in, with_sent, sent_tick, puts, puts_of, puts_at}
use Rattle.mm_net.specs.Nets.{due, is_free, with_arrived, arrived_tick, net_step, net_after}
use Rattle.mm_net.{specs.Net.{net_of, links_of, Steps, ComesToNothing}, proofs.ListPlaces.{set_here, set_found, map_at}}
use Rattle.mm_model.specs.declared.step.Tick.TheVariants as ticks

-- 1. Links.

-- where something else is set, the list is another
set_changes : (links : List Carried) (l : ℕ) (was now : Carried) → slice_get links l ≡ Some was → slice_set links l now ≡ links → now ≡ was
set_changes links l was now here same = same_Some now was (sym (set_here links l was now here) ∙ ap (λ (xs : List Carried). slice_get xs l) same ∙ here)

longer : (xs : List ℕ) (x : ℕ) → xs ++ x ∷ [] ≡ xs → ⊥
longer xs x same = let more : length xs + 1 ≡ length xs = sym (length_push xs x) ∙ ap length same in omega arith

took_idle : (links : List Carried) (l : ℕ) (carried : Carried) (bits : Option ℕ) → slice_get links l ≡ Some carried
    → (sent_tick bits ≡ Idle) ↔ (slice_set links l (with_sent carried bits) ≡ links)
took_idle links l carried None here = (λ _. set_found links l carried here, λ _. refl)
took_idle links l carried (Some bits) here = (
  λ is. let clash : Sent bits ≡ Idle = is in absurd cc,
  λ same. absurd (longer carried.sent bits (ap (λ (c : Carried). c.sent) (set_changes links l carried (with_sent carried (Some bits)) here same))),
)

put_idle : (links : List Carried) (l : ℕ) (carried : Carried) (bits : ℕ) (free : Bool) → slice_get links l ≡ Some carried
    → (arrived_tick bits free ≡ Idle) ↔ (slice_set links l (with_arrived carried bits free) ≡ links)
put_idle links l carried bits false here = (λ _. set_found links l carried here, λ _. refl)
put_idle links l carried bits true here = (
  λ is. let clash : Arrived bits ≡ Idle = is in absurd cc,
  λ same. absurd (longer carried.arrived bits (ap (λ (c : Carried). c.arrived) (set_changes links l carried (with_arrived carried bits true) here same))),
)

takes_idle : (s : NetState) (l : ℕ) (link : Link) (o : Option State) (p : Option Carried) → slice_get s.links l ≡ p
    → ((takes_at s l link o p).tick ≡ Idle) ↔ ((takes_at s l link o p).net.links ≡ s.links)
takes_idle s l link None p here = (λ _. refl, λ _. refl)
takes_idle s l link (Some node) None here = (λ _. refl, λ _. refl)
takes_idle s l link (Some node) (Some carried) here = took_idle s.links l carried (bits_in (cell_at node.memory link.take)) here

sends_idle : (s : NetState) (l : ℕ) (o : Option Link) → ((takes s l o).tick ≡ Idle) ↔ ((takes s l o).net.links ≡ s.links)
sends_idle s l None = (λ _. refl, λ _. refl)
sends_idle s l (Some link) = takes_idle s l link (slice_get s.nodes link.from) (slice_get s.links l) refl

puts_idle : (s : NetState) (l : ℕ) (link : Link) (carried : Carried) (o : Option State) (p : Option ℕ) → slice_get s.links l ≡ Some carried
    → ((puts_at s l link carried o p).tick ≡ Idle) ↔ ((puts_at s l link carried o p).net.links ≡ s.links)
puts_idle s l link carried None p here = (λ _. refl, λ _. refl)
puts_idle s l link carried (Some node) None here = (λ _. refl, λ _. refl)
puts_idle s l link carried (Some node) (Some bits) here = put_idle s.links l carried bits (is_free (cell_at node.memory link.put)) here

of_idle : (s : NetState) (l k : ℕ) (link : Link) (o : Option Carried) → slice_get s.links l ≡ o
    → ((puts_of s l k link o).tick ≡ Idle) ↔ ((puts_of s l k link o).net.links ≡ s.links)
of_idle s l k link None here = (λ _. refl, λ _. refl)
of_idle s l k link (Some carried) here = puts_idle s l link carried (slice_get s.nodes link.to) (due carried k) here

carries_idle : (s : NetState) (l k : ℕ) (o : Option Link) → ((puts s l k o).tick ≡ Idle) ↔ ((puts s l k o).net.links ≡ s.links)
carries_idle s l k None = (λ _. refl, λ _. refl)
carries_idle s l k (Some link) = of_idle s l k link (slice_get s.links l) refl

turned_idle : (told : Step) → Turned told ≡ Idle → ⊥
turned_idle told is = cc

module _ {M : Type 0} {memory : Ghosts M} where
  -- by the step's tick and links
  idle_by : (old new : Net M memory) (item : NetItem) (tick : NetTick) → Steps old new item tick
      → ((net_step (links_of old) (net_of old) item).tick ≡ Idle) ↔ ((net_after (links_of old) (net_of old) item).links ≡ (net_of old).links)
      → (tick ≡ Idle) ↔ ((net_of new).links ≡ (net_of old).links)
  idle_by old new item tick st both = (
    λ is. ap (λ (s : NetState). s.links) st.state ∙ both.0 (sym st.told ∙ is),
    λ same. st.told ∙ both.1 (sym (ap (λ (s : NetState). s.links) st.state) ∙ same),
  )

  pub send_nothing : (old new : Net M memory) (item : NetItem) (l : ℕ) (tick : NetTick) → item ≡ Send l → Steps old new (Send l) tick
      → (tick ≡ Idle) ↔ ComesToNothing (net_of old) (net_of new) item
  unfolding net_after net_step
  send_nothing old new item l tick is st =
      subst (λ (i : NetItem). (tick ≡ Idle) ↔ ComesToNothing (net_of old) (net_of new) i) (sym is) (idle_by old new (Send l) tick st (sends_idle (net_of old) l (slice_get (links_of old) l)))

  pub carry_nothing : (old new : Net M memory) (item : NetItem) (l k : ℕ) (tick : NetTick) → item ≡ Carry l k → Steps old new (Carry l k) tick
      → (tick ≡ Idle) ↔ ComesToNothing (net_of old) (net_of new) item
  unfolding net_after net_step
  carry_nothing old new item l k tick is st =
      subst (λ (i : NetItem). (tick ≡ Idle) ↔ ComesToNothing (net_of old) (net_of new) i) (sym is) (idle_by old new (Carry l k) tick st (carries_idle (net_of old) l k (slice_get (links_of old) l)))

  -- 2. Turns.

  pub some_turn : (nodes : List (Machine M memory)) (n item : ℕ) (m : Machine M memory) (told : Step) → slice_get nodes n ≡ Some m → (told.tick ≡ ticks.Idle → ⊥)
      → (told.tick ≡ ticks.Idle) ↔ IsIdle (state_of m).core item
      → (Turned told ≡ Idle) ↔ ((node : State) → slice_get (map state_of nodes) n ≡ Some node → IsIdle node.core item)
  some_turn nodes n item m told here never both = (
    λ is. absurd (turned_idle told is),
    λ idle. absurd (never (both.1 (idle (state_of m) (map_at state_of nodes n (Some m) here)))),
  )
