-- A net goes on with the run that it stands for.
use Rattle.std.proofs.Common.{◌≡◌, ℕ, List, [], ◌∷◌, ◌++◌, length, get_or, slice_get, Option, Some, None, refl, sym, ap}
use Rattle.std.proofs.Common.{◌∙◌, subst, arith, append_assoc, append-nil, length-set}
use Rattle.std.proofs.lemmas.{List.length-map, Option.{slice_get_within, slice_get-get_or}}
use Rattle.mm_mem.specs.declared.memory.Memory.{Ghosts}
use Rattle.mm_model.specs.{State.State, Image.Image, Uses.Use, Run.after}
use Rattle.mm_machine.specs.{declared.machine.Machine.Machine, Machine.{state_of, StandsTo}}
use Rattle.mm_net.specs.declared.{link.Link.Link, item.NetItem.{NetItem, TheVariants.{Turn, Send, Carry}}}
use Rattle.mm_net.specs.declared.{tick.NetTick.NetTick, net.Net.Net}
use Rattle.mm_net.specs.Nets.{NetState, Carried, net_start, turns, takes, takes_at, taken_from, puts, puts_of, puts_at}
use Rattle.mm_net.specs.Nets.{put_into, due, net_step, net_after, net_run, asked_of, net_uses}
use Rattle.mm_net.specs.Net.{net_of, links_of, node_in, Steps, StandsFor}

-- one item more
pub run_more : (links : List Link) (s : NetState) (items : List NetItem) (item : NetItem) → net_run links s (items ++ item ∷ []) ≡ net_after links (net_run links s items) item
unfolding net_run
run_more links s [] item = refl
run_more links s (x ∷ items) item = run_more links (net_after links s x) items item

pub uses_more : (links : List Link) (s : NetState) (items : List NetItem) (item : NetItem) (n : ℕ)
    → net_uses links s (items ++ item ∷ []) n ≡ net_uses links s items n ++ asked_of n (net_step links (net_run links s items) item)
unfolding net_run net_uses
uses_more links s [] item n = append-nil (asked_of n (net_step links s item))
uses_more links s (x ∷ items) item n =
    ap (λ (us : List Use). asked_of n (net_step links s x) ++ us) (uses_more links (net_after links s x) items item n)
    ∙ sym (append_assoc (asked_of n (net_step links s x)) (net_uses links (net_after links s x) items n) (asked_of n (net_step links (net_run links (net_after links s x) items) item)))

-- as many nodes as before
turns_count : (s : NetState) (n item : ℕ) (o : Option State) → length (turns s n item o).net.nodes ≡ length s.nodes
turns_count s n item None = refl
turns_count s n item (Some state) = length-set s.nodes n (after state item)

takes_count : (s : NetState) (l : ℕ) (link : Link) (o : Option State) (p : Option Carried) → length (takes_at s l link o p).net.nodes ≡ length s.nodes
takes_count s l link None p = refl
takes_count s l link (Some state) None = refl
takes_count s l link (Some state) (Some carried) = length-set s.nodes link.from (taken_from state link.take)

sends_count : (s : NetState) (l : ℕ) (o : Option Link) → length (takes s l o).net.nodes ≡ length s.nodes
sends_count s l None = refl
sends_count s l (Some link) = takes_count s l link (slice_get s.nodes link.from) (slice_get s.links l)

puts_count : (s : NetState) (l : ℕ) (link : Link) (carried : Carried) (o : Option State) (p : Option ℕ) → length (puts_at s l link carried o p).net.nodes ≡ length s.nodes
puts_count s l link carried None p = refl
puts_count s l link carried (Some state) None = refl
puts_count s l link carried (Some state) (Some bits) = length-set s.nodes link.to (put_into state link.put bits)

of_count : (s : NetState) (l k : ℕ) (link : Link) (o : Option Carried) → length (puts_of s l k link o).net.nodes ≡ length s.nodes
of_count s l k link None = refl
of_count s l k link (Some carried) = puts_count s l link carried (slice_get s.nodes link.to) (due carried k)

carries_count : (s : NetState) (l k : ℕ) (o : Option Link) → length (puts s l k o).net.nodes ≡ length s.nodes
carries_count s l k None = refl
carries_count s l k (Some link) = of_count s l k link (slice_get s.links l)

pub after_count : (links : List Link) (s : NetState) (item : NetItem) → length (net_after links s item).nodes ≡ length s.nodes
unfolding net_after net_step
after_count links s (Turn n item) = turns_count s n item (slice_get s.nodes n)
after_count links s (Send l) = sends_count s l (slice_get links l)
after_count links s (Carry l k) = carries_count s l k (slice_get links l)

module _ {M : Type 0} {memory : Ghosts M} where
  node_before : (old new : Net M memory) (n : ℕ) (m : Machine M memory) → length new.nodes.items ≡ length old.nodes.items → node_in new n ≡ Some m
      → (was : Machine M memory) × (node_in old n ≡ Some was)
  node_before old new n m count is = (get_or old.nodes.items n m, slice_get-get_or old.nodes.items n m (omega (arith, count, slice_get_within new.nodes.items n m is)))

  -- whatever the net stood for, it stands for with one item more
  goes_on : (old new : Net M memory) (item : NetItem) (tick : NetTick) → Steps old new item tick
      → (images : List Image) (items : List NetItem) → StandsFor images items old → StandsFor images (items ++ item ∷ []) new
  goes_on old new item tick st images items h =
      let links = links_of old in
      let begun = net_start images links in
      let more = items ++ item ∷ [] in
      let state : net_of new ≡ net_run links begun more = st.state ∙ ap (λ (s : NetState). net_after links s item) h.state ∙ sym (run_more links begun items item) in
      let count : length new.nodes.items ≡ length old.nodes.items =
      sym (length-map new.nodes.items state_of) ∙ ap (λ (s : NetState). length s.nodes) st.state ∙ after_count links (net_of old) item ∙ length-map old.nodes.items state_of in
      let uses : (n : ℕ) (m : Machine M memory) → node_in new n ≡ Some m → StandsTo m (net_uses links begun more n) = λ n m is.
      let (was, here) = node_before old new n m count is in
      let asked : net_uses links begun items n ++ asked_of n (net_step links (net_of old) item) ≡ net_uses links begun more n =
      ap (λ (s : NetState). net_uses links begun items n ++ asked_of n (net_step links s item)) h.state ∙ sym (uses_more links begun items item n) in
      subst (λ (us : List Use). StandsTo m us) asked ((st.takes.each n was m here is).each (net_uses links begun items n) (h.uses_made n was here)) in
      record {
        state = subst (λ (x : List Link). net_of new ≡ net_run x (net_start images x) more) (sym st.links) state;
        uses_made = λ n m is. subst (λ (x : List Link). StandsTo m (net_uses x (net_start images x) more n)) (sym st.links) (uses n m is);
      }

  -- the same of an item that is known by what it is
  pub goes_on_with : (old new : Net M memory) (item known : NetItem) (tick : NetTick) → item ≡ known → Steps old new known tick
      → (images : List Image) (items : List NetItem) → StandsFor images items old → StandsFor images (items ++ item ∷ []) new
  goes_on_with old new item known tick is st = goes_on old new item tick (subst (λ (i : NetItem). Steps old new i tick) (sym is) st)
