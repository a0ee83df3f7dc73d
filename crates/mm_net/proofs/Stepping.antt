-- What a step of a net leaves, by what its node and its link come to.
use Rattle.std.proofs.Common.{◌≡◌, ℕ, zero, suc, ◌+◌, Bool, true, false, eqb, if◌then◌else◌, List, [], ◌∷◌, map}
use Rattle.std.proofs.Common.{slice_get, slice_set, Option, Some, None, refl, sym, ap, ◌∙◌, subst}
use Rattle.std.proofs.lemmas.{List.map-set, Option.same_Some, Bool.eqb-true}
use Rattle.mm_word.specs.declared.perm.Kind.{Kind, TheVariants.{LoadSet, Store}}
use Rattle.mm_word.specs.{declared.word.{Pre.TheVariants.{Full, Empty}, Cell.Cell}, Access.AccessValue}
use Rattle.mm_mem.specs.{declared.memory.Memory.Ghosts, Answers.access_uses}
use Rattle.mm_model.specs.{declared.step.{Step.Step, Tick.Tick}, Memory.cell_at, State.State}
use Rattle.mm_model.specs.{Uses.{Use, use_at, takes_none}, Run.{turn_of, after}}
use Rattle.mm_machine.specs.{declared.machine.Machine.Machine, Machine.{state_of, Takes}}
use Rattle.mm_net.specs.declared.{link.Link.Link, item.NetItem.{NetItem, TheVariants.{Turn, Send, Carry}}}
use Rattle.mm_net.specs.declared.{tick.NetTick.{NetTick, TheVariants.{Idle, Turned}}, net.Net.Net}
use Rattle.mm_net.specs.Nets.{Carried, NetState, NetStep, idles, turns, turn_tick, takes, takes_at, bits_in, with_sent}
use Rattle.mm_net.specs.Nets.{sent_tick, taken_from, puts, puts_of, puts_at, due, is_free, with_arrived, arrived_tick}
use Rattle.mm_net.specs.{Nets.{put_into, net_step, net_after, asked_of}, Wires.{Wired, Reaches}}
use Rattle.mm_net.specs.Net.{net_of, links_of, room_of, steps_of, NodesTake, Steps}
use Rattle.mm_net.proofs.ListPlaces.{set_same, set_other, map_at, unequal}
use Rattle.mm_model.specs.declared.step.Tick.TheVariants as ticks

abbrev pub carried_by : Wired → Carried
carried_by w = w.carried

abbrev pub link_by : Wired → Link
link_by w = w.link

-- a link stays the same beside what it carries
pub links_kept : (wires : List Wired) (l : ℕ) (w v : Wired) → slice_get wires l ≡ Some w → v.link ≡ w.link → map link_by (slice_set wires l v) ≡ map link_by wires
links_kept [] l w v is same = refl
links_kept (x ∷ wires) zero w v is same = ap (λ (link : Link). link ∷ map link_by wires) (same ∙ ap link_by (sym (same_Some x w is)))
links_kept (x ∷ wires) (suc l) w v is same = ap (λ (links : List Link). link_by x ∷ links) (links_kept wires l w v is same)

abbrev pub net_by : List State → List Carried → NetState
net_by nodes links = record { nodes = nodes; links = links }

pub same_net : (nodes nodes' : List State) (links links' : List Carried) → nodes ≡ nodes' → links ≡ links' → net_by nodes links ≡ net_by nodes' links'
same_net nodes nodes' links links' n l = ap (λ (x : List State). net_by x links) n ∙ ap (net_by nodes') l

-- the integer of this number is not due
nothing_due : (s : NetState) (l : ℕ) (link : Link) (carried : Carried) (o : Option State) → puts_at s l link carried o None ≡ idles s
nothing_due s l link carried None = refl
nothing_due s l link carried (Some state) = refl

-- the tick of a turn
pub idle_tick : (told step : Step) → told ≡ step → told.tick ≡ ticks.Idle → Idle ≡ turn_tick step step.tick
idle_tick told step is idle = subst (λ (x : Step). Idle ≡ turn_tick x x.tick) is (ap (turn_tick told) (sym idle))

turned_by : (told : Step) (tick : Tick) → (tick ≡ ticks.Idle → ⊥) → Turned told ≡ turn_tick told tick
turned_by told ticks.Idle not = absurd (not refl)
turned_by told ticks.Blocked not = refl
turned_by told ticks.Did not = refl
turned_by told (ticks.Faulted cause) not = refl
turned_by told (ticks.Delivered reg) not = refl

pub turned_tick : (told step : Step) → told ≡ step → (told.tick ≡ ticks.Idle → ⊥) → Turned told ≡ turn_tick step step.tick
turned_tick told step is not = subst (λ (x : Step). Turned told ≡ turn_tick x x.tick) is (turned_by told told.tick not)

module _ {M : Type 0} {memory : Ghosts M} where
  -- 1. What the nodes are asked.

  no_uses : (test : Bool) (m : Machine M memory) → Takes m m (if test then [] else [])
  no_uses true m = takes_none m.mem
  no_uses false m = takes_none m.mem

  same_takes : (m m' b a : Machine M memory) (us : List Use) → b ≡ m → a ≡ m' → Takes m m' us → Takes b a us
  same_takes m m' b a us eb ea t = subst (λ (x : Machine M memory). Takes x a us) (sym eb) (subst (λ (x : Machine M memory). Takes m x us) (sym ea) t)

  takes_at_place : (nodes : List (Machine M memory)) (n k : ℕ) (m m' b a : Machine M memory) (us : List Use) (test : Bool) → eqb k n ≡ test
      → slice_get nodes n ≡ Some m → Takes m m' us → slice_get nodes k ≡ Some b → slice_get (slice_set nodes n m') k ≡ Some a
      → Takes b a (if test then us else [])
  takes_at_place nodes n k m m' b a us true is here t was now =
      let same : k ≡ n = eqb-true k n is in
      let was' : slice_get nodes n ≡ Some b = subst (λ (x : ℕ). slice_get nodes x ≡ Some b) same was in
      let now' : slice_get (slice_set nodes n m') n ≡ Some a = subst (λ (x : ℕ). slice_get (slice_set nodes n m') x ≡ Some a) same now in
      same_takes m m' b a us (same_Some b m (sym was' ∙ here)) (set_same nodes n m m' a here now') t
  takes_at_place nodes n k m m' b a us false is here t was now =
      same_takes b b b a [] refl (set_other nodes n k m' b a (unequal k n is) was now) (takes_none b.mem)

  nodes_take : (old new : Net M memory) (n : ℕ) (m m' : Machine M memory) (t : NetStep)
      → slice_get old.nodes.items n ≡ Some m → new.nodes.items ≡ slice_set old.nodes.items n m' → t.node ≡ n → Takes m m' t.uses → NodesTake old new t
  nodes_take old new n m m' t here set node took = record {
    each = λ k b a was now.
        let now' : slice_get (slice_set old.nodes.items n m') k ≡ Some a = subst (λ (xs : List (Machine M memory)). slice_get xs k ≡ Some a) set now in
        subst (λ (x : ℕ). Takes b a (if eqb k x then t.uses else [])) (sym node) (takes_at_place old.nodes.items n k m m' b a t.uses (eqb k n) refl here took was now');
  }

  -- 2. Steps that change nothing.

  idle_steps : (old new : Net M memory) (item : NetItem) → new.nodes.items ≡ old.nodes.items → new.wires.items ≡ old.wires.items
      → room_of new ≡ room_of old → steps_of new ≡ steps_of old + 1
      → net_step (links_of old) (net_of old) item ≡ idles (net_of old) → Steps old new item Idle
  unfolding net_after
  idle_steps old new item nodes wires room steps is = record {
    state = same_net _ _ _ _ (ap (map state_of) nodes) (ap (map carried_by) wires) ∙ ap (λ (t : NetStep). t.net) (sym is);
    told = ap (λ (t : NetStep). t.tick) (sym is);
    takes = record {
      each = λ k b a was now.
          let same : a ≡ b = same_Some a b (sym now ∙ ap (λ (xs : List (Machine M memory)). slice_get xs k) nodes ∙ was) in
          subst (λ (t : NetStep). Takes b a (asked_of k t)) (sym is)
          (subst (λ (x : Machine M memory). Takes b x (if eqb k 0 then [] else [])) (sym same) (no_uses (eqb k 0) b));
    };
    links = ap (map link_by) wires;
    room = room;
    steps = steps;
  }

  -- 3. A step at a node.

  steps_by : (old new : Net M memory) (item : NetItem) (tick : NetTick) (n : ℕ) (m m' : Machine M memory) (t : NetStep)
      → slice_get old.nodes.items n ≡ Some m → new.nodes.items ≡ slice_set old.nodes.items n m'
      → net_step (links_of old) (net_of old) item ≡ t → net_of new ≡ t.net → tick ≡ t.tick → t.node ≡ n → Takes m m' t.uses
      → links_of new ≡ links_of old → room_of new ≡ room_of old → steps_of new ≡ steps_of old + 1 → Steps old new item tick
  unfolding net_after
  steps_by old new item tick n m m' t here set is net told node took links room steps = record {
    state = net ∙ ap (λ (x : NetStep). x.net) (sym is);
    told = told ∙ ap (λ (x : NetStep). x.tick) (sym is);
    takes = subst (NodesTake old new) (sym is) (nodes_take old new n m m' t here set node took);
    links = links;
    room = room;
    steps = steps;
  }

  states_set : (old new : Net M memory) (n : ℕ) (m' : Machine M memory) (state : State) → new.nodes.items ≡ slice_set old.nodes.items n m' → state_of m' ≡ state
      → map state_of new.nodes.items ≡ slice_set (map state_of old.nodes.items) n state
  states_set old new n m' state set is = ap (map state_of) set ∙ map-set state_of old.nodes.items n m' ∙ ap (slice_set (map state_of old.nodes.items) n) is

  pub turn_steps : (old new : Net M memory) (n item : ℕ) (tick : NetTick) (m m' : Machine M memory)
      → slice_get old.nodes.items n ≡ Some m → new.nodes.items ≡ slice_set old.nodes.items n m' → new.wires.items ≡ old.wires.items
      → room_of new ≡ room_of old → steps_of new ≡ steps_of old + 1
      → state_of m' ≡ after (state_of m) item → Takes m m' (turn_of (state_of m) item).uses
      → tick ≡ turn_tick (turn_of (state_of m) item).step (turn_of (state_of m) item).step.tick
      → Steps old new (Turn n item) tick
  unfolding net_step
  turn_steps old new n item tick m m' here set wires room steps state took told =
      steps_by old new (Turn n item) tick n m m' (turns (net_of old) n item (Some (state_of m))) here set
      (ap (turns (net_of old) n item) (map_at state_of old.nodes.items n (Some m) here))
      (same_net _ _ _ _ (states_set old new n m' _ set state) (ap (map carried_by) wires)) told refl took (ap (map link_by) wires) room steps

  pub no_turn : (old new : Net M memory) (n item : ℕ) → slice_get old.nodes.items n ≡ None → new.nodes.items ≡ old.nodes.items → new.wires.items ≡ old.wires.items
      → room_of new ≡ room_of old → steps_of new ≡ steps_of old + 1 → Steps old new (Turn n item) Idle
  unfolding net_step
  no_turn old new n item none nodes wires room steps =
      idle_steps old new (Turn n item) nodes wires room steps (ap (turns (net_of old) n item) (map_at state_of old.nodes.items n None none))

  -- 4. A link that takes.

  abbrev taken_cell : Wired → Machine M memory → Option Cell
  taken_cell w m = cell_at (state_of m).memory w.link.take

  send_steps : (old new : Net M memory) (l : ℕ) (tick : NetTick) (w v : Wired) (m m' : Machine M memory)
      → slice_get old.wires.items l ≡ Some w → slice_get old.nodes.items w.link.from ≡ Some m
      → new.nodes.items ≡ slice_set old.nodes.items w.link.from m' → new.wires.items ≡ slice_set old.wires.items l v
      → room_of new ≡ room_of old → steps_of new ≡ steps_of old + 1
      → state_of m' ≡ taken_from (state_of m) w.link.take → Takes m m' (use_at LoadSet w.link.take Full (taken_cell w m) ∷ [])
      → v.link ≡ w.link → v.carried ≡ with_sent w.carried (bits_in (taken_cell w m)) → tick ≡ sent_tick (bits_in (taken_cell w m))
      → Steps old new (Send l) tick
  unfolding net_step
  send_steps old new l tick w v m m' wire here set wires room steps state took link carried told =
      steps_by old new (Send l) tick w.link.from m m' (takes_at (net_of old) l w.link (Some (state_of m)) (Some w.carried)) here set
      (ap (takes (net_of old) l) (map_at link_by old.wires.items l (Some w) wire)
      ∙ ap (λ (o : Option State). takes_at (net_of old) l w.link o (slice_get (net_of old).links l)) (map_at state_of old.nodes.items w.link.from (Some m) here)
      ∙ ap (takes_at (net_of old) l w.link (Some (state_of m))) (map_at carried_by old.wires.items l (Some w) wire))
      (same_net _ _ _ _ (states_set old new w.link.from m' _ set state)
      (ap (map carried_by) wires ∙ map-set carried_by old.wires.items l v ∙ ap (slice_set (map carried_by old.wires.items) l) carried))
      told refl took (ap (map link_by) wires ∙ links_kept old.wires.items l w v wire link) room steps

  -- the same, by what an access takes
  pub sends : (old new : Net M memory) (l : ℕ) (tick : NetTick) (w v : Wired) (link : Link) (m m' : Machine M memory) (a : AccessValue)
      → link ≡ w.link → slice_get old.wires.items l ≡ Some w → slice_get old.nodes.items link.from ≡ Some m
      → new.nodes.items ≡ slice_set old.nodes.items link.from m' → new.wires.items ≡ slice_set old.wires.items l v
      → room_of new ≡ room_of old → steps_of new ≡ steps_of old + 1 → Reaches a LoadSet w.link.take
      → state_of m' ≡ taken_from (state_of m) a.addr → Takes m m' (access_uses (state_of m).memory a Full)
      → v.link ≡ w.link → v.carried ≡ with_sent w.carried (bits_in (cell_at (state_of m).memory a.addr)) → tick ≡ sent_tick (bits_in (cell_at (state_of m).memory a.addr))
      → Steps old new (Send l) tick
  sends old new l tick w v link m m' a same wire here set wires room steps reach state took kept carried told =
      let nodes = old.nodes.items in
      let mem = (state_of m).memory in
      send_steps old new l tick w v m m' wire
      (subst (λ (x : Link). slice_get nodes x.from ≡ Some m) same here)
      (subst (λ (x : Link). new.nodes.items ≡ slice_set nodes x.from m') same set)
      wires room steps
      (subst (λ (x : ℕ). state_of m' ≡ taken_from (state_of m) x) reach.at state)
      (subst (λ (x : ℕ). Takes m m' (use_at LoadSet x Full (cell_at mem x) ∷ [])) reach.at (subst (λ (x : Kind). Takes m m' (use_at x a.addr Full (cell_at mem a.addr) ∷ [])) reach.of_kind took))
      kept
      (subst (λ (x : ℕ). v.carried ≡ with_sent w.carried (bits_in (cell_at mem x))) reach.at carried)
      (subst (λ (x : ℕ). tick ≡ sent_tick (bits_in (cell_at mem x))) reach.at told)

  pub no_send : (old new : Net M memory) (l : ℕ) → slice_get old.wires.items l ≡ None → new.nodes.items ≡ old.nodes.items → new.wires.items ≡ old.wires.items
      → room_of new ≡ room_of old → steps_of new ≡ steps_of old + 1 → Steps old new (Send l) Idle
  unfolding net_step
  no_send old new l none nodes wires room steps =
      idle_steps old new (Send l) nodes wires room steps (ap (takes (net_of old) l) (map_at link_by old.wires.items l None none))

  -- 5. A link that carries.

  abbrev put_cell : Wired → Machine M memory → Option Cell
  put_cell w m = cell_at (state_of m).memory w.link.put

  carry_steps : (old new : Net M memory) (l k bits : ℕ) (tick : NetTick) (w v : Wired) (m m' : Machine M memory)
      → slice_get old.wires.items l ≡ Some w → due w.carried k ≡ Some bits → slice_get old.nodes.items w.link.to ≡ Some m
      → new.nodes.items ≡ slice_set old.nodes.items w.link.to m' → new.wires.items ≡ slice_set old.wires.items l v
      → room_of new ≡ room_of old → steps_of new ≡ steps_of old + 1
      → state_of m' ≡ put_into (state_of m) w.link.put bits → Takes m m' (use_at Store w.link.put Empty (put_cell w m) ∷ [])
      → v.link ≡ w.link → v.carried ≡ with_arrived w.carried bits (is_free (put_cell w m)) → tick ≡ arrived_tick bits (is_free (put_cell w m))
      → Steps old new (Carry l k) tick
  unfolding net_step
  carry_steps old new l k bits tick w v m m' wire is_due here set wires room steps state took link carried told =
      steps_by old new (Carry l k) tick w.link.to m m' (puts_at (net_of old) l w.link w.carried (Some (state_of m)) (Some bits)) here set
      (ap (puts (net_of old) l k) (map_at link_by old.wires.items l (Some w) wire)
      ∙ ap (puts_of (net_of old) l k w.link) (map_at carried_by old.wires.items l (Some w) wire)
      ∙ ap (λ (o : Option State). puts_at (net_of old) l w.link w.carried o (due w.carried k)) (map_at state_of old.nodes.items w.link.to (Some m) here)
      ∙ ap (puts_at (net_of old) l w.link w.carried (Some (state_of m))) is_due)
      (same_net _ _ _ _ (states_set old new w.link.to m' _ set state)
      (ap (map carried_by) wires ∙ map-set carried_by old.wires.items l v ∙ ap (slice_set (map carried_by old.wires.items) l) carried))
      told refl took (ap (map link_by) wires ∙ links_kept old.wires.items l w v wire link) room steps

  -- the same, by what an access puts
  pub carries : (old new : Net M memory) (l k bits : ℕ) (tick : NetTick) (w v : Wired) (link : Link) (m m' : Machine M memory) (a : AccessValue)
      → link ≡ w.link → slice_get old.wires.items l ≡ Some w → due w.carried k ≡ Some bits → slice_get old.nodes.items link.to ≡ Some m
      → new.nodes.items ≡ slice_set old.nodes.items link.to m' → new.wires.items ≡ slice_set old.wires.items l v
      → room_of new ≡ room_of old → steps_of new ≡ steps_of old + 1 → Reaches a Store w.link.put
      → state_of m' ≡ put_into (state_of m) a.addr bits → Takes m m' (access_uses (state_of m).memory a Empty)
      → v.link ≡ w.link → v.carried ≡ with_arrived w.carried bits (is_free (cell_at (state_of m).memory a.addr)) → tick ≡ arrived_tick bits (is_free (cell_at (state_of m).memory a.addr))
      → Steps old new (Carry l k) tick
  carries old new l k bits tick w v link m m' a same wire is_due here set wires room steps reach state took kept carried told =
      let nodes = old.nodes.items in
      let mem = (state_of m).memory in
      carry_steps old new l k bits tick w v m m' wire is_due
      (subst (λ (x : Link). slice_get nodes x.to ≡ Some m) same here)
      (subst (λ (x : Link). new.nodes.items ≡ slice_set nodes x.to m') same set)
      wires room steps
      (subst (λ (x : ℕ). state_of m' ≡ put_into (state_of m) x bits) reach.at state)
      (subst (λ (x : ℕ). Takes m m' (use_at Store x Empty (cell_at mem x) ∷ [])) reach.at (subst (λ (x : Kind). Takes m m' (use_at x a.addr Empty (cell_at mem a.addr) ∷ [])) reach.of_kind took))
      kept
      (subst (λ (x : ℕ). v.carried ≡ with_arrived w.carried bits (is_free (cell_at mem x))) reach.at carried)
      (subst (λ (x : ℕ). tick ≡ arrived_tick bits (is_free (cell_at mem x))) reach.at told)

  pub no_carry : (old new : Net M memory) (l k : ℕ) → slice_get old.wires.items l ≡ None → new.nodes.items ≡ old.nodes.items → new.wires.items ≡ old.wires.items
      → room_of new ≡ room_of old → steps_of new ≡ steps_of old + 1 → Steps old new (Carry l k) Idle
  unfolding net_step
  no_carry old new l k none nodes wires room steps =
      idle_steps old new (Carry l k) nodes wires room steps (ap (puts (net_of old) l k) (map_at link_by old.wires.items l None none))

  pub not_due : (old new : Net M memory) (l k : ℕ) (w : Wired) → slice_get old.wires.items l ≡ Some w → due w.carried k ≡ None
      → new.nodes.items ≡ old.nodes.items → new.wires.items ≡ old.wires.items
      → room_of new ≡ room_of old → steps_of new ≡ steps_of old + 1 → Steps old new (Carry l k) Idle
  unfolding net_step
  not_due old new l k w wire none nodes wires room steps =
      idle_steps old new (Carry l k) nodes wires room steps
      (ap (puts (net_of old) l k) (map_at link_by old.wires.items l (Some w) wire)
      ∙ ap (puts_of (net_of old) l k w.link) (map_at carried_by old.wires.items l (Some w) wire)
      ∙ ap (puts_at (net_of old) l w.link w.carried (slice_get (net_of old).nodes w.link.to)) none
      ∙ nothing_due (net_of old) l w.link w.carried (slice_get (net_of old).nodes w.link.to))
