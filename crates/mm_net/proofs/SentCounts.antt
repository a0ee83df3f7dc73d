-- How many integers the links of a net took.
use Rattle.std.proofs.Common.{◌≡◌, ℕ, ◌+◌, ◌≤◌, Bool, true, false, List, [], ◌∷◌, length, map, get_or, slice_get}
use Rattle.std.proofs.Common.{slice_set, sum_by, Option, Some, None, refl, ap, arith}
use Rattle.std.proofs.lemmas.List.{length_push, Sums.{sum_by-set, sum_by-cons}}
use Rattle.std.proofs.lemmas.Option.{slice_get_within, get_or_from_slice_get}
use Rattle.mm_model.specs.{Memory.cell_at, State.State}
use Rattle.mm_net.specs.declared.{link.Link.Link, item.NetItem.{NetItem, TheVariants.{Turn, Send, Carry}}}
use Rattle.mm_net.specs.Nets.{Carried, NetState, nothing_carried, turns, takes, takes_at, bits_in, with_sent, puts}
use Rattle.mm_net.specs.Nets.{puts_of, puts_at, due, is_free, with_arrived, net_step, net_after, net_run}
use Rattle.mm_net.specs.Net.{sent_count}

-- how many integers an item sends at most
abbrev pub sends : NetItem → ℕ
sends (Turn n item) = 0
sends (Send l) = 1
sends (Carry l k) = 0

abbrev sent_by : Carried → ℕ
sent_by carried = length carried.sent

pub begun_sent : (links : List Link) → sum_by sent_by (map (λ (_ : Link). nothing_carried) links) ≡ 0
begun_sent [] = refl
begun_sent (link ∷ links) = omega (arith, sum_by-cons sent_by nothing_carried (map (λ (_ : Link). nothing_carried) links), begun_sent links)

-- one link is set
set_sent : (links : List Carried) (l : ℕ) (was now : Carried) (more : ℕ) → slice_get links l ≡ Some was → sent_by now ≤ sent_by was + more
    → sum_by sent_by (slice_set links l now) ≤ sum_by sent_by links + more
set_sent links l was now more here grows =
    let sum = sum_by-set sent_by links l now was (slice_get_within links l was here) in
    let at : sent_by (get_or links l was) ≡ sent_by was = ap sent_by (get_or_from_slice_get links l was was here) in
    omega arith

took_more : (carried : Carried) (bits : Option ℕ) → sent_by (with_sent carried bits) ≤ sent_by carried + 1
took_more carried None = omega arith
took_more carried (Some bits) = omega (arith, length_push carried.sent bits)

put_same : (carried : Carried) (bits : ℕ) (free : Bool) → sent_by (with_arrived carried bits free) ≤ sent_by carried + 0
put_same carried bits false = omega arith
put_same carried bits true = omega arith

turn_sent : (s : NetState) (n item : ℕ) (o : Option State) → sent_count (turns s n item o).net ≤ sent_count s + 0
turn_sent s n item None = omega arith
turn_sent s n item (Some state) = omega arith

takes_sent : (s : NetState) (l : ℕ) (link : Link) (o : Option State) (p : Option Carried) → slice_get s.links l ≡ p → sent_count (takes_at s l link o p).net ≤ sent_count s + 1
takes_sent s l link None p here = omega arith
takes_sent s l link (Some node) None here = omega arith
takes_sent s l link (Some node) (Some carried) here =
    set_sent s.links l carried (with_sent carried (bits_in (cell_at node.memory link.take))) 1 here (took_more carried (bits_in (cell_at node.memory link.take)))

send_sent : (s : NetState) (l : ℕ) (o : Option Link) → sent_count (takes s l o).net ≤ sent_count s + 1
send_sent s l None = omega arith
send_sent s l (Some link) = takes_sent s l link (slice_get s.nodes link.from) (slice_get s.links l) refl

puts_sent : (s : NetState) (l : ℕ) (link : Link) (carried : Carried) (o : Option State) (p : Option ℕ)
    → slice_get s.links l ≡ Some carried → sent_count (puts_at s l link carried o p).net ≤ sent_count s + 0
puts_sent s l link carried None p here = omega arith
puts_sent s l link carried (Some node) None here = omega arith
puts_sent s l link carried (Some node) (Some bits) here =
    set_sent s.links l carried (with_arrived carried bits (is_free (cell_at node.memory link.put))) 0 here (put_same carried bits (is_free (cell_at node.memory link.put)))

of_sent : (s : NetState) (l k : ℕ) (link : Link) (o : Option Carried) → slice_get s.links l ≡ o → sent_count (puts_of s l k link o).net ≤ sent_count s + 0
of_sent s l k link None here = omega arith
of_sent s l k link (Some carried) here = puts_sent s l link carried (slice_get s.nodes link.to) (due carried k) here

carry_sent : (s : NetState) (l k : ℕ) (o : Option Link) → sent_count (puts s l k o).net ≤ sent_count s + 0
carry_sent s l k None = omega arith
carry_sent s l k (Some link) = of_sent s l k link (slice_get s.links l) refl

pub after_sent : (links : List Link) (s : NetState) (item : NetItem) → sent_count (net_after links s item) ≤ sent_count s + sends item
unfolding net_after net_step
after_sent links s (Turn n item) = turn_sent s n item (slice_get s.nodes n)
after_sent links s (Send l) = send_sent s l (slice_get links l)
after_sent links s (Carry l k) = carry_sent s l k (slice_get links l)

-- after a list of items: as many as these send at most
pub run_sent : (links : List Link) (s : NetState) (items : List NetItem) → sent_count (net_run links s items) ≤ sent_count s + sum_by sends items
unfolding net_run
run_sent links s [] = omega arith
run_sent links s (item ∷ items) = omega (arith, run_sent links (net_after links s item) items, after_sent links s item, sum_by-cons sends item items)
