-- What the graph of a search tells of a configuration, and which slots are busy in endless sets.
use Rattle.std.proofs.Common.{◌≡◌, ℕ, ◌+◌, ◌<◌, ◌^◌, Bool, true, false, nat_eq, List, [], ◌∷◌, ◌++◌, length, take, slice_get, slice_index_or}
use Rattle.std.proofs.Common.{Option, Some, None, refl, sym, ap, ◌∙◌, subst, bit_or, arith}
use Rattle.std.specs.{Prelude.{unwrap_or}, List.{AllByRecursion}, Map.lookup}
use Rattle.indexmap.specs.IndexMap.{insert_entry}
use Rattle.mm_endless.{specs.Graphs.{children, AreNodes, IsTold, AreClosedSets}, proofs.Walking.leads_self}
use Rattle.mm_model.specs.{Fits.slots_of, Flags.flags, Image.Image, State.State}
use Rattle.mm_explore.specs.{Closed.{IsFirstEndless}, Explored.{IsExplored, IsAll}, Findings.{explored_turns, IsFinal}}
use Rattle.mm_explore.specs.{Outcomes.slots_at, declared.search.Search.Search}
use Rattle.mm_explore.specs.Searching.{HasCome, IsBusyBy, AreBusyBy, IsSeenBy, AreSeenBy, IsSetSeen, AreSetsSeen, IsBusySet, AreBusySets}
use Rattle.mm_config.specs.Machines.{AreApart}
use Rattle.mm_explore.proofs.{Notings.zip_to, SetsSeen.{seen_skip, seen_first, seen_again}, Steps.{list_few, take_whole, searched}}
use Rattle.mm_explore.proofs.GraphRuns.{graph_long as graph_length, nodes as graph_nodes, children_few as graph_few, first_is, first_on, two_turn, end_recurrent, stays_final, final_stays_by}

-- 1. A configuration of the list.

module _ (i : Image) (s : Search) (h : HasCome i s (explored_turns i s.found) [] s.found) (full : s.all ≡ true) where
  explored : IsExplored i s.limit s.found
  explored = (searched i h.image s h).0

  all : IsAll i s.found
  all = (searched i h.image s h).1 full

  pub long : length s.graph ≡ length s.found
  long = graph_length i s.limit s.found s.graph explored all (h.graph full)

  pub few : length s.graph < 2 ^ 32
  few =
      let same = long in
      let some = list_few i s.all s.limit s.found (explored_turns i s.found) [] h.goes in
      let room = h.room in
      omega (arith, same, some, room)

  pub nodes : AreNodes s.graph
  nodes = graph_nodes i s.limit s.found s.graph explored all (h.graph full)

  pub children_few : (a : ℕ) → length (children s.graph a) < 256
  children_few = graph_few i h.image s.limit s.found s.graph explored all (h.graph full)

  module _ (a : ℕ) (lt : a < length s.found) (firsts : List (Option ℕ)) (sets : AreClosedSets s.graph firsts) where
    abbrev at : ℕ → List ℕ
    at n = slice_index_or s.found n []

    inside : a < length s.graph
    inside = let same = long in omega (arith, same, lt)

    told : (o : Option ℕ) → o ≡ slice_index_or firsts a None → IsTold s.graph a o
    told o is = subst (IsTold s.graph a) (sym is) (sets.each a inside)

    module _ (entries : List (ℕ × ℕ)) (was : AreSetsSeen i s.found (take a s.found) entries) where
      abbrev Next : List (ℕ × ℕ) → Type 0
      Next = AreSetsSeen i s.found (take (a + 1) s.found)

      -- the configuration is in no closed set
      pub member_none : None ≡ slice_index_or firsts a None → Next entries
      member_none is = seen_skip i s.limit s.found explored a lt entries was (λ endless.
          told None is (end_recurrent i s.limit s.found s.graph explored all (h.graph full) a lt endless.0))

      -- the configuration is final
      pub member_final : (f : ℕ) → f ≡ a → AllByRecursion (λ child. child ≡ f) (children s.graph a) → Next entries
      member_final f same stay = seen_skip i s.limit s.found explored a lt entries was (λ endless.
          endless.1 (stays_final i s.limit s.found s.graph explored all (h.graph full) a lt (subst (λ n. AllByRecursion (λ child. child ≡ n) (children s.graph a)) same stay)))

      -- the configuration is the first of an endless set
      pub member_first : (f : ℕ) → Some f ≡ slice_index_or firsts a None → f ≡ a → (AllByRecursion (λ child. child ≡ f) (children s.graph a) → ⊥)
          → Next (insert_entry nat_eq entries f (bit_or (unwrap_or (lookup (nat_eq f) entries) 0) 0))
      member_first f is same turns =
          let t = told (Some f) is in
          let not_final : IsFinal i (at f) → ⊥ = λ final. turns (subst (λ n. AllByRecursion (λ child. child ≡ n) (children s.graph a)) (sym same)
          (final_stays_by i s.limit s.found s.graph explored all (h.graph full) a lt (subst (λ n. IsFinal i (at n)) same final))) in
          let first : IsFirstEndless i (at f) = first_is i s.limit s.found s.graph explored all (h.graph full) a f lt t.0 t.1 not_final in
          subst (λ n. Next (insert_entry nat_eq entries n (bit_or (unwrap_or (lookup (nat_eq n) entries) 0) 0))) (sym same)
          (seen_first i s.limit s.found explored a lt entries was (subst (λ n. IsFirstEndless i (at n)) same first))

      -- the configuration is a later one of an endless set
      pub member_other : (f : ℕ) → Some f ≡ slice_index_or firsts a None → (f ≡ a → ⊥) → (mask : ℕ)
          → AreApart (flags (length (slots_at i (at f))) mask) (slots_at i (at f)) (slots_at i (at a))
          → Next (insert_entry nat_eq entries f (bit_or (unwrap_or (lookup (nat_eq f) entries) 0) mask))
      member_other f is other mask apart =
          let t = told (Some f) is in
          let up = t.1.least a (leads_self s.graph a) in
          let low : f < a = omega (arith, up, other) in
          let first = first_is i s.limit s.found s.graph explored all (h.graph full) a f lt t.0 t.1
          (two_turn i s.limit s.found s.graph explored all (h.graph full) a f lt t.0 t.1 other) in
          let on = first_on i s.limit s.found s.graph explored all (h.graph full) a f lt t.0 t.1 in
          seen_again i s.limit s.found explored a lt entries was f low first on mask apart

    -- the index of the first is one of the list
    pub first_low : (f : ℕ) → Some f ≡ slice_index_or firsts a None → f < length s.found
    first_low f is =
        let t = told (Some f) is in
        let up = t.1.least a (leads_self s.graph a) in
        omega (arith, up, lt)

-- 2. All were seen.

module _ (i : Image) (list : List (List ℕ)) (all : IsAll i list) (t : List ℕ) where
  busy_by : (k : ℕ) (b : Bool) → IsSeenBy b i list t k → IsBusyBy b i t k
  busy_by k true h = λ steady. h.2 (ap (λ (c : State). slice_get (slots_of c.core) k) (sym h.1.leads) ∙ steady h.1.items)
  busy_by k false h = λ items.
      let there = all (t ++ items) in
      ap (λ (c : State). slice_get (slots_of c.core) k) (sym there.2) ∙ h there.0 there.1 (record { items = items; leads = sym there.2 })

  busy_all : (k : ℕ) (busy : List Bool) → AreSeenBy i list t k busy → AreBusyBy i t k busy
  busy_all k [] h = tt
  busy_all k (b ∷ busy) h = (busy_by k b h.0, busy_all (k + 1) busy h.1)

-- where all schedules of a list that is all were seen, the sets are known
pub sets_busy : (i : Image) (list : List (List ℕ)) → IsAll i list → (n : ℕ) → n ≡ length list → (entries : List (ℕ × ℕ)) → AreSetsSeen i list (take n list) entries → AreBusySets i list entries
sets_busy i list all n is entries was =
    let h = subst (λ l. AreSetsSeen i list l entries) (take_whole list n (sym is)) was in
    record {
      firsts = h.firsts;
      are = h.are;
      sets = zip_to (IsSetSeen i list list) (IsBusySet i list) (λ t entry k. record { at = k.at; slots = busy_all i list all t 0 (flags (length (slots_at i t)) entry.1) k.slots }) h.firsts entries h.sets;
    }

pub none_seen : (i : Image) (list : List (List ℕ)) (entries : List (ℕ × ℕ)) → entries ≡ [] → AreSetsSeen i list (take 0 list) entries
none_seen i list entries none = subst (AreSetsSeen i list []) (sym none) (record { firsts = []; are = refl; sets = tt })
