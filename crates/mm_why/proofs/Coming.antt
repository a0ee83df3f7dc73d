-- What a group reaches is what some owner reaches of its own, where all that the owner has comes to the group.
use Rattle.std.proofs.Common.{◌≡◌, ℕ, zero, suc, ◌-◌, ◌<◌, ◌⊎◌, inl, inr, List, length, sym, subst, arith}
use Rattle.std.specs.Int.{bit_at}
use Rattle.mm_model.specs.Image.{Image}
use Rattle.mm_flow.specs.Edges.{SharingEdges, enters_at}
use Rattle.mm_flow.specs.Flow.{Has, Flows, Flows.{from as flows_from, along as flows_along, through as flows_through}}
use Rattle.mm_flow.specs.Reached.{Reached}
use Rattle.mm_flow.specs.Reached.Reached.{from as reached_from, along as reached_along, through as reached_through}
use Rattle.mm_flow.specs.Reached.Reached.{linked as reached_linked, shared as reached_shared}
use Rattle.mm_flow.{specs.Reached.Reached.by_maker as reached_by_maker}
use Rattle.mm_graph.specs.declared.graph.Graph.{Graph}
use Rattle.mm_why.specs.{declared.rounds.Rounds.Rounds, Rounds.{Hands, HandsOn, round_at, Hands.{linked, met}}}
use Rattle.mm_why.specs.{Graphs.edges_of, Giving.{Meets, IsContext, Meets.{by_words, by_maker}}}

abbrev sharing_of : Graph → SharingEdges
sharing_of g = record { nodes = g.nodes.items; parents = g.parents.items; links = g.links }

own_reached : (g : Graph) (h k : ℕ) → Flows (edges_of g) g.start.items h k → Reached (edges_of g) (sharing_of g) g.start.items h k
own_reached g h k (flows_from x) = reached_from x
own_reached g h k (flows_along a j f lt low high at) = reached_along a j (own_reached g h a f) lt low high at
own_reached g h k (flows_through a f lt enters at) = reached_through a (own_reached g h a f) lt enters at

module _ (i : Image) (g : Graph) (r : Rounds) (c : IsContext i g r) (size : length g.keys.items ≡ length g.start.items) where
  abbrev Reaches : ℕ → ℕ → Type 0
  Reaches h k = Reached (edges_of g) (sharing_of g) g.start.items h k

  -- what comes in a round whose masks are these is reached
  abbrev Come : List ℕ → Type 0
  Come now = (h t k : ℕ) → h < 64 → Has now h t → Flows (edges_of g) g.start.items h k → Reaches t k

  by_meeting : (now : List ℕ) → Come now → (b t k x y : ℕ) → b < 64 → Reaches b k → x < 64 → y < 64 → Has now x b → Has now y t → Meets g x y → Reaches t k
  by_meeting now below b t k x y sb reach sx sy come_b come_t (by_words m) =
      reached_shared b m.at m.store m.load sb reach (let s = m.small in omega (arith, s, size)) (below x b m.store sx come_b m.reaches_store) m.stores m.above_store
      (below y t m.load sy come_t m.reaches_load) m.loads m.above_load
  by_meeting now below b t k x y sb reach sx sy come_b come_t (by_maker u v) =
      reached_by_maker b u.node v.node sb reach (let s = u.small in omega (arith, s, size)) (below x b u.node sx come_b u.reached) u.has (let s = v.small in omega (arith, s, size))
      (below y t v.node sy come_t v.reached) v.has

  by_hand : (now : List ℕ) → Come now → (b t k : ℕ) → b < 64 → Reaches b k → Hands r.links r.meets now b t → Reaches t k
  by_hand now below b t k sb reach (linked x) = reached_linked b sb reach (subst (λ v. Has v b t) c.links x)
  by_hand now below b t k sb reach (met x y sx sy meets come_b come_t) = by_meeting now below b t k x y sb reach sx sy come_b come_t (c.meets x y meets)

  handed : (now : List ℕ) → Come now → (h t k : ℕ) → h < 64 → Flows (edges_of g) g.start.items h k → Has now h t ⊎ HandsOn r.links r.meets now h t → Reaches t k
  handed now below h t k small f (inl had) = below h t k small had f
  handed now below h t k small f (inr on) = by_hand now below on.by t k on.small (below h on.by k small on.has f) on.hands

  pub came : (p : ℕ) → p < length r.rounds.items → Come (round_at r.rounds.items p)
  came zero lt h t k small has f = subst (λ v. Reaches v k) (c.rounds.steps.first h t has) (own_reached g h k f)
  came (suc q) lt h t k small has f =
      handed (round_at r.rounds.items q) (came q (omega (arith, lt))) h t k small f
      (c.rounds.steps.step q (omega (arith, lt)) h t (subst (λ v. Has (round_at r.rounds.items v) h t) (omega arith) has))

  -- some owner has it of its own, and all that the owner has comes to the group in the last round
  pub record Owned (t k : ℕ) : Type 0 where
    pub owner : ℕ
    pub small : owner < 64
    pub comes : Has (round_at r.rounds.items (length r.rounds.items - 1)) owner t
    pub flows : Flows (edges_of g) g.start.items owner k

  module _ (meets : (x y : ℕ) → x < 64 → y < 64 → Meets g x y → Has r.meets x y) (enters : (a x y : ℕ) → x < 64 → bit_at (enters_at (edges_of g) a) y ≡ 1 → bit_at (enters_at (edges_of g) a) x ≡ 1)
    where
      ends : (o h t k : ℕ) → h < 64 → t < 64 → o < 64 → Has (round_at r.rounds.items (length r.rounds.items - 1)) o h → Flows (edges_of g) g.start.items o k
          → Hands r.links r.meets (round_at r.rounds.items (length r.rounds.items - 1)) h t → Owned t k
      ends o h t k sh st so has f hands = record { owner = o; small = so; comes = c.rounds.end o t so st (record { by = h; small = sh; has = has; hands = hands }); flows = f }

      pub owned : (t k : ℕ) → t < 64 → Reaches t k → Owned t k
      owned t k st (reached_from x) = record {
        owner = t;
        small = st;
        comes = c.rounds.steps.own
            (length r.rounds.items - 1) t (let s = c.rounds.steps.some in omega (arith, s)) st;
        flows = flows_from x;
      }
      owned t k st (reached_along a j x lt low high at) =
          let o = owned t a st x in
          record { owner = o.owner; small = o.small; comes = o.comes; flows = flows_along a j o.flows lt low high at }
      owned t k st (reached_through a x lt entered at) =
          let o = owned t a st x in
          record { owner = o.owner; small = o.small; comes = o.comes; flows = flows_through a o.flows lt (enters a o.owner t o.small entered) at }
      owned t k st (reached_linked h sh x has) =
          let o = owned h k sh x in
          ends o.owner h t k sh st o.small o.comes o.flows (linked (subst (λ v. Has v h t) (sym c.links) has))
      owned t k st (reached_shared h m a b sh x lt xa stores up xb loads down) =
          let o = owned h k sh x in
          let u = owned h a sh xa in
          let v = owned t b st xb in
          ends o.owner h t k sh st o.small o.comes o.flows (met u.owner v.owner u.small v.small (meets u.owner v.owner u.small v.small (by_words (record {
            at = m;
            store = a;
            load = b;
            small = omega (arith, lt, size);
            reaches_store = u.flows;
            stores = stores;
            above_store = up;
            reaches_load = v.flows;
            loads = loads;
            above_load = down;
          }))) u.comes v.comes)
      owned t k st (reached_by_maker h a b sh x lta xa makes ltb xb loads) =
          let o = owned h k sh x in
          let u = owned h a sh xa in
          let v = owned t b st xb in
          ends o.owner h t k sh st o.small o.comes o.flows (met u.owner v.owner u.small v.small (meets u.owner v.owner u.small v.small (by_maker
          (record { node = a; small = omega (arith, lta, size); reached = u.flows; has = makes })
          (record { node = b; small = omega (arith, ltb, size); reached = v.flows; has = loads }))) u.comes v.comes)
