-- What a link does at an item, exactly: it takes, puts, or changes nothing.
use Rattle.std.proofs.Common.{◌≡◌, ℕ, Bool, true, false, ◌==◌, if◌then◌else◌, List, [], ◌∷◌, ◌++◌, length, slice_get}
use Rattle.std.proofs.Common.{slice_set, Option, Some, None, refl, sym, ap, ◌∙◌, subst, eqb-true, eq-eqb}
use Rattle.mm_net.proofs.{ListPlaces.set_found, PortCalls.replaced, Steps.{take_cases, put_cases}}
use Rattle.mm_net.specs.declared.{link.Link.Link, item.NetItem.TheVariants.{Send, Carry}}
use Rattle.mm_net.specs.declared.tick.NetTick.TheVariants.{Idle, Sent, Arrived}
use Rattle.mm_net.specs.Nets.{Carried, NetState, NetStep, with_both, bits_in, with_sent, sent_tick, takes_at, takes}
use Rattle.mm_net.specs.Nets.{due, is_free, with_arrived, arrived_tick, puts_at, puts_of, puts, net_step, net_after}
use Rattle.mm_net.specs.Moves.{IdleStep, StaysIdle, ChangesOneCell, ChangesOneEnd, CanTake, Took, CanPut, Put}
use Rattle.mm_net.specs.Moves.{LinksActExactly}
use Rattle.mm_word.specs.declared.word.{Pre.TheVariants.{Full, Empty}, Word.{Word, TheVariants.Int}, Cell.Cell}
use Rattle.mm_word.specs.Word.{word_bits}
use Rattle.mm_model.specs.{Memory.cell_at, State.State}
use Rattle.mm_model.proofs.Memories.{aligned, get_set_same, get_set_other, put_frames, cell_at-put_same}
use Rattle.mm_model.proofs.Memories.{cell_at-put_other}
use Rattle.mm_mem.specs.Answers.{put_where, set_where}
use Rattle.mm_word.specs.declared.word.Post.TheVariants as leaves

-- 1. Steps of links where all that a link needs is there.

module _ (links : List Link) (s : NetState) (l : ℕ) where
  take_there : (link : Link) (node : State) (carried : Carried) → slice_get links l ≡ Some link → slice_get s.nodes link.from ≡ Some node → slice_get s.links l ≡ Some carried
      → net_step links s (Send l) ≡ takes_at s l link (Some node) (Some carried)
  unfolding net_step
  take_there link node carried at is has =
      ap (takes s l) at ∙ ap (λ (o : Option State). takes_at s l link o (slice_get s.links l)) is ∙ ap (takes_at s l link (Some node)) has

  put_there : (k : ℕ) (link : Link) (node : State) (carried : Carried) (bits : ℕ) → slice_get links l ≡ Some link → slice_get s.nodes link.to ≡ Some node → slice_get s.links l ≡ Some carried
      → due carried k ≡ Some bits → net_step links s (Carry l k) ≡ puts_at s l link carried (Some node) (Some bits)
  unfolding net_step
  put_there k link node carried bits at is has next =
      ap (puts s l k) at ∙ ap (puts_of s l k link) has ∙ ap (λ (o : Option State). puts_at s l link carried o (due carried k)) is ∙ ap (puts_at s l link carried (Some node)) next

-- 2. What a link finds.

abbrev cell_of : Word → Bool → Cell
cell_of word full = record { word = word; full = full }

record Holds (o : Option Cell) (bits : ℕ) : Type 0 where
  word : Word
  is : o ≡ Some (cell_of word true)
  spelled : word_bits word ≡ bits

held : (o : Option Cell) (bits : ℕ) → sent_tick (bits_in o) ≡ Sent bits → Holds o bits
held None bits e = cc
held (Some c) bits e = by c.word c.full e
  where
    by : (word : Word) (full : Bool) → sent_tick (bits_in (Some (cell_of word full))) ≡ Sent bits → Holds (Some (cell_of word full)) bits
    by word true e = let same : word_bits word ≡ bits = cc in record { word = word; is = refl; spelled = same }
    by word false e = cc

record IsFree (o : Option Cell) : Type 0 where
  word : Word
  is : o ≡ Some (cell_of word false)

free : (o : Option Cell) (bits found : ℕ) → arrived_tick found (is_free o) ≡ Arrived bits → IsFree o × (found ≡ bits)
free None bits found e = cc
free (Some c) bits found e = by c.word c.full e
  where
    by : (word : Word) (full : Bool) → arrived_tick found (is_free (Some (cell_of word full))) ≡ Arrived bits → IsFree (Some (cell_of word full)) × (found ≡ bits)
    by word true e = cc
    by word false e = let same : found ≡ bits = cc in (record { word = word; is = refl }, same)

-- the integer that is due is the first that has not arrived
due_is : (carried : Carried) (k bits : ℕ) → due carried k ≡ Some bits → (k ≡ length carried.arrived) × (slice_get carried.sent k ≡ Some bits)
due_is carried k bits next = by (k == length carried.arrived) refl next
  where
    by : (b : Bool) → (k == length carried.arrived) ≡ b → (if b then slice_get carried.sent k else None) ≡ Some bits → (k ≡ length carried.arrived) × (slice_get carried.sent k ≡ Some bits)
    by true is e = (eqb-true k (length carried.arrived) is, e)
    by false is e = cc

is_due : (carried : Carried) (k bits : ℕ) → k ≡ length carried.arrived → slice_get carried.sent k ≡ Some bits → due carried k ≡ Some bits
is_due carried k bits next integer = ap (λ (b : Bool). if b then slice_get carried.sent k else None) (eq-eqb k (length carried.arrived) next) ∙ integer

-- 3. What changes.

both_back : (s : NetState) (n l : ℕ) (node : State) (carried : Carried) → slice_get s.nodes n ≡ Some node → slice_get s.links l ≡ Some carried → with_both s n node l carried ≡ s
both_back s n l node carried is has =
    ap (λ nodes. record { nodes = nodes; links = slice_set s.links l carried }) (set_found s.nodes n node is)
    ∙ ap (λ links. record { nodes = s.nodes; links = links }) (set_found s.links l carried has)

replaced_one : (node : State) (w : ℕ) (c old : Cell) → cell_at node.memory w ≡ Some old → ChangesOneCell node (replaced node w c) w
replaced_one node w c old is = record {
  core = refl;
  cycles = refl;
  frames = put_frames node.memory w c;
  others = λ v apart. cell_at-put_other node.memory w v c (aligned node.memory w old is) apart;
}

one_end : (s : NetState) (n l : ℕ) (node : State) (carried : Carried) → ChangesOneEnd s (with_both s n node l carried) n l
one_end s n l node carried = record { nodes = λ m apart. get_set_other s.nodes n m node apart; links = λ k apart. get_set_other s.links l k carried apart }

-- 4. A take.

module _ (links : List Link) (s : NetState) (l bits : ℕ) where
  can_take : (net_step links s (Send l)).tick ≡ Sent bits → CanTake links s l bits
  can_take = take_cases links s l (λ t. t.tick ≡ Sent bits → CanTake links s l bits) (λ e. cc) (λ link node carried at is has e.
      let found = held (cell_at node.memory link.take) bits e in
      record { link = link; there = at; carried = carried; carries = has; node = node; at = is; word = found.word; full = found.is; spelled = found.spelled })

  module _ (can : CanTake links s l bits) where
    take_found : bits_in (cell_at can.node.memory can.link.take) ≡ Some bits
    take_found = ap bits_in can.full ∙ ap (λ b. Some b) can.spelled

    take_step : net_step links s (Send l) ≡ takes_at s l can.link (Some can.node) (Some can.carried)
    take_step = take_there links s l can.link can.node can.carried can.there can.at can.carries

    take_tells : (net_step links s (Send l)).tick ≡ Sent bits
    take_tells = ap (λ (t : NetStep). t.tick) take_step ∙ ap sent_tick take_found

    abbrev emptied : State
    emptied = replaced can.node can.link.take (cell_of can.word false)

    abbrev sent_on : Carried
    sent_on = record { sent = can.carried.sent ++ bits ∷ []; arrived = can.carried.arrived }

    take_leaves : net_after links s (Send l) ≡ with_both s can.link.from emptied l sent_on
    unfolding net_after
    take_leaves =
        let left : Option Cell → State = λ o. record can.node { memory = set_where can.node.memory can.link.take Full leaves.Empty o } in
        ap (λ (t : NetStep). t.net) take_step
        ∙ ap (λ (o : Option Cell). with_both s can.link.from (left o) l (with_sent can.carried (bits_in o))) can.full
        ∙ ap (λ n. with_both s can.link.from emptied l (with_sent can.carried (Some n))) can.spelled

    took : Took links s (net_after links s (Send l)) l bits
    took = subst (λ t. Took links s t l bits) (sym take_leaves) (record {
      can = can;
      node = emptied;
      at = get_set_same s.nodes can.link.from emptied can.node can.at;
      cell = cell_at-put_same can.node.memory can.link.take (cell_of can.word false) (cell_of can.word true) can.full;
      one_cell = replaced_one can.node can.link.take (cell_of can.word false) (cell_of can.word true) can.full;
      sent = get_set_same s.links l sent_on can.carried can.carries;
      one_end = one_end s can.link.from l emptied sent_on;
    })

-- 5. A put.

module _ (links : List Link) (s : NetState) (l k bits : ℕ) where
  can_put : (net_step links s (Carry l k)).tick ≡ Arrived bits → CanPut links s l k bits
  can_put = put_cases links s l k (λ t. t.tick ≡ Arrived bits → CanPut links s l k bits) (λ e. cc) (λ link node carried found at is has next e.
      let cell = free (cell_at node.memory link.put) bits found e in
      let first = due_is carried k found next in
      record {
        link = link;
        there = at;
        carried = carried;
        carries = has;
        node = node;
        at = is;
        next = first.0;
        integer = first.1 ∙ ap (λ b. Some b) cell.1;
        word = cell.0.word;
        empty = cell.0.is;
      })

  module _ (can : CanPut links s l k bits) where
    put_step : net_step links s (Carry l k) ≡ puts_at s l can.link can.carried (Some can.node) (Some bits)
    put_step = put_there links s l k can.link can.node can.carried bits can.there can.at can.carries (is_due can.carried k bits can.next can.integer)

    put_tells : (net_step links s (Carry l k)).tick ≡ Arrived bits
    put_tells = ap (λ (t : NetStep). t.tick) put_step ∙ ap (λ (o : Option Cell). arrived_tick bits (is_free o)) can.empty

    abbrev filled : State
    filled = replaced can.node can.link.put (cell_of (Int bits) true)

    abbrev arrived_on : Carried
    arrived_on = record { sent = can.carried.sent; arrived = can.carried.arrived ++ bits ∷ [] }

    put_leaves : net_after links s (Carry l k) ≡ with_both s can.link.to filled l arrived_on
    unfolding net_after
    put_leaves =
        let left : Option Cell → State = λ o. record can.node { memory = put_where can.node.memory can.link.put Empty o (λ c. cell_of (Int bits) true) } in
        ap (λ (t : NetStep). t.net) put_step ∙ ap (λ (o : Option Cell). with_both s can.link.to (left o) l (with_arrived can.carried bits (is_free o))) can.empty

    put : Put links s (net_after links s (Carry l k)) l k bits
    put = subst (λ t. Put links s t l k bits) (sym put_leaves) (record {
      can = can;
      node = filled;
      at = get_set_same s.nodes can.link.to filled can.node can.at;
      cell = cell_at-put_same can.node.memory can.link.put (cell_of (Int bits) true) (cell_of can.word false) can.empty;
      one_cell = replaced_one can.node can.link.put (cell_of (Int bits) true) (cell_of can.word false) can.empty;
      arrived = get_set_same s.links l arrived_on can.carried can.carries;
      one_end = one_end s can.link.to l filled arrived_on;
    })

-- 6. Neither.

module _ (s : NetState) (n l : ℕ) (node : State) (carried : Carried) (is : slice_get s.nodes n ≡ Some node) (has : slice_get s.links l ≡ Some carried) where
  abbrev taken_net : ℕ → Option Cell → NetState
  taken_net w o = with_both s n (record node { memory = set_where node.memory w Full leaves.Empty o }) l (with_sent carried (bits_in o))

  nothing_taken : (w : ℕ) (o : Option Cell) → sent_tick (bits_in o) ≡ Idle → taken_net w o ≡ s
  nothing_taken w None e = both_back s n l node carried is has
  nothing_taken w (Some c) e = by c.word c.full e
    where
      by : (word : Word) (full : Bool) → sent_tick (bits_in (Some (cell_of word full))) ≡ Idle → taken_net w (Some (cell_of word full)) ≡ s
      by word true e = cc
      by word false e = both_back s n l node carried is has

  abbrev put_net : ℕ → ℕ → Option Cell → NetState
  put_net w bits o = with_both s n (record node { memory = put_where node.memory w Empty o (λ c. cell_of (Int bits) true) }) l (with_arrived carried bits (is_free o))

  nothing_put : (w bits : ℕ) (o : Option Cell) → arrived_tick bits (is_free o) ≡ Idle → put_net w bits o ≡ s
  nothing_put w bits None e = both_back s n l node carried is has
  nothing_put w bits (Some c) e = by c.word c.full e
    where
      by : (word : Word) (full : Bool) → arrived_tick bits (is_free (Some (cell_of word full))) ≡ Idle → put_net w bits (Some (cell_of word full)) ≡ s
      by word true e = both_back s n l node carried is has
      by word false e = cc

no_bits : (o : Option ℕ) → ((bits : ℕ) → sent_tick o ≡ Sent bits → ⊥) → sent_tick o ≡ Idle
no_bits None h = refl
no_bits (Some bits) h = absurd (h bits refl)

not_free : (bits : ℕ) (b : Bool) → ((found : ℕ) → arrived_tick bits b ≡ Arrived found → ⊥) → arrived_tick bits b ≡ Idle
not_free bits true h = absurd (h bits refl)
not_free bits false h = refl

take_none : (links : List Link) (s : NetState) (l : ℕ) → ((bits : ℕ) → CanTake links s l bits → ⊥) → StaysIdle links s (Send l)
unfolding net_after
take_none links s l none =
    take_cases links s l (λ t. ((bits : ℕ) → t.tick ≡ Sent bits → ⊥) → IdleStep s t) (λ h. record { tick = refl; net = refl })
    (λ link node carried at is has h.
    let tick = no_bits (bits_in (cell_at node.memory link.take)) h in
    record { tick = tick; net = nothing_taken s link.from l node carried is has link.take (cell_at node.memory link.take) tick })
    (λ bits e. none bits (can_take links s l bits e))

put_none : (links : List Link) (s : NetState) (l k : ℕ) → ((bits : ℕ) → CanPut links s l k bits → ⊥) → StaysIdle links s (Carry l k)
unfolding net_after
put_none links s l k none =
    put_cases links s l k (λ t. ((bits : ℕ) → t.tick ≡ Arrived bits → ⊥) → IdleStep s t) (λ h. record { tick = refl; net = refl })
    (λ link node carried bits at is has next h.
    let tick = not_free bits (is_free (cell_at node.memory link.put)) h in
    record { tick = tick; net = nothing_put s link.to l node carried is has link.put bits (cell_at node.memory link.put) tick })
    (λ bits e. none bits (can_put links s l k bits e))

-- 7. The law.

pub act_exactly : LinksActExactly
act_exactly = record {
  takes = λ links s l bits. (can_take links s l bits, take_tells links s l bits);
  took = took;
  puts = λ links s l k bits. (can_put links s l k bits, put_tells links s l k bits);
  put = put;
  takes_none = take_none;
  puts_none = put_none;
}
