-- Where all configurations are in a list, every run can go on into a closed set: the configurations are the nodes of a
-- graph, the moves its edges.
use Rattle.std.proofs.Common.{◌≡◌, ◌⊎◌, inl, inr, ℕ, zero, suc, ◌<◌, Bool, true, false, nat_eq, List, [], ◌∷◌, ◌++◌, map, length}
use Rattle.std.proofs.Common.{slice_index_or, refl, sym, ap, ◌∙◌, subst, append_assoc, append-nil, arith}
use Rattle.std.proofs.lemmas.{Bool.{cases_Bool, cases_lt}, List.{get_or_past, get_or_default, length-map}}
use Rattle.std.specs.{Prelude.Contains, List.AllByRecursion}
use lib.Pointwise.{pointwise, pointwise_decides}
use Rattle.mm_endless.{specs.Graphs.{children, AreNodes, IsWalk, Leads, IsRecurrent}, proofs.Descending.walks_end}
use Rattle.mm_model.specs.{Image.{Image, start}, Run.run}
use Rattle.mm_span.proofs.Members.{none_in, in_cases, all_at, map_in, in_map}
use Rattle.mm_explore.specs.Closed.{LeadsOn, IsAtEnd}
use Rattle.mm_explore.specs.Moves.{moves}
use Rattle.mm_explore.specs.Explored.{leads_to, IsLeast, IsAll}
use Rattle.mm_explore.specs.{Findings.IsFinal, Laws.{EndsOrTurns, RunsEndOrTurn}}
use Rattle.mm_explore.proofs.{Movings.{moves_or_idles, idle_leads}, Coverings.{leads_more}, Orders.{before_cases, more}}
use Rattle.mm_explore.proofs.ClosedSets.{all_alike, on_same, on_trans, recurrent_ends, end_alike}

numbers_decide : (a b : ℕ) → (nat_eq a b ≡ true → a ≡ b) × (a ≡ b → nat_eq a b ≡ true)
numbers_decide a b = (Rattle.std.proofs.Common.eqb-true a b, Rattle.std.proofs.Common.eq-eqb a b)

module _ (i : Image) (list : List (List ℕ)) (least : AllByRecursion (IsLeast i) list) (all : IsAll i list) where
  -- 1. The graph.

  -- the schedule of a node
  abbrev pub at : ℕ → List ℕ
  at a = slice_index_or list a []

  -- the node of a schedule's configuration
  abbrev pub node : List ℕ → ℕ
  node s = (all s).1.0

  pub node_inside : (s : List ℕ) → node s < length list
  node_inside s = (all s).1.1

  at_node : (s : List ℕ) → at (node s) ≡ (all s).0
  at_node s = get_or_default list (node s) [] (all s).0 (node_inside s) ∙ (all s).1.2

  pub leads_node : (s : List ℕ) → leads_to i (at (node s)) ≡ leads_to i s
  leads_node s = ap (leads_to i) (at_node s) ∙ (all s).2

  abbrev row : List ℕ → List ℕ
  row t = map (λ m. node (more t m)) (moves (run (start i) t))

  abbrev pub graph : List (List ℕ)
  graph = map row list

  pub graph_long : length graph ≡ length list
  graph_long = length-map list row

  row_at : (ts : List (List ℕ)) (a : ℕ) → a < length ts → slice_index_or (map row ts) a [] ≡ row (slice_index_or ts a [])
  row_at [] a lt = absurd (omega (arith, lt))
  row_at (t ∷ ts) zero lt = refl
  row_at (t ∷ ts) (suc a) lt = row_at ts a (omega (arith, lt))

  children_at : (a : ℕ) → a < length list → children graph a ≡ row (at a)
  children_at a lt = row_at list a lt

  pub nodes : AreNodes graph
  nodes a c edge = elim (cases_lt a (length list)) [
    | inl lt ↦
        let from = map_in (λ m. node (more (at a) m)) (moves (run (start i) (at a))) c (subst (λ l. Contains l c) (children_at a lt) edge) in
        let low = node_inside (more (at a) from.source) in
        let e = from.gives in
        let long = graph_long in
        omega (arith, low, e, long)
    | inr past ↦ absurd (none_in c (subst (λ l. Contains l c) (get_or_past graph a [] (let long = graph_long in omega (arith, long, past))) edge))
  ]

  -- an edge is a move
  edge_on : (a c : ℕ) → a < length list → Contains (children graph a) c → LeadsOn i (at a) (at c)
  edge_on a c lt edge =
      let from = map_in (λ m. node (more (at a) m)) (moves (run (start i) (at a))) c (subst (λ l. Contains l c) (children_at a lt) edge) in
      record { items = from.source ∷ []; leads = sym (leads_node (more (at a) from.source)) ∙ ap (λ k. leads_to i (at k)) from.gives }

  pub walk_on : (a b : ℕ) (walk : List ℕ) → a < length list → IsWalk graph a walk b → LeadsOn i (at a) (at b)
  walk_on a b [] lt e = on_same i (at a) (at b) (ap (λ k. leads_to i (at k)) e)
  walk_on a b (c ∷ walk) lt w =
      let inside = nodes a c w.0 in
      let long = graph_long in
      on_trans i (at a) (at c) (at b) (edge_on a c lt w.0) (walk_on c b walk (omega (arith, inside, long)) w.1)

  -- a node to which the node leads, with the configuration to which items lead
  pub record Followed (a : ℕ) (items : List ℕ) : Type 0 where
    pub to : ℕ
    pub inside : to < length list
    pub led : Leads graph a to
    pub same : leads_to i (at to) ≡ leads_to i (at a ++ items)

  pub follow : (a : ℕ) (items : List ℕ) → a < length list → Followed a items
  follow a [] lt = record { to = a; inside = lt; led = record { nodes = []; walk = refl }; same = ap (leads_to i) (sym (append-nil (at a))) }
  follow a (x ∷ items) lt = elim (moves_or_idles (run (start i) (at a)) x) [
    | inl move ↦
        let c = node (more (at a) x) in
        let edge : Contains (children graph a) c = subst (λ l. Contains l c) (sym (children_at a lt)) (in_map (λ m. node (more (at a) m)) (moves (run (start i) (at a))) x move) in
        let rest = follow c items (node_inside (more (at a) x)) in
        record {
          to = rest.to;
          inside = rest.inside;
          led = record { nodes = c ∷ rest.led.nodes; walk = (edge, rest.led.walk) };
          same = rest.same ∙ all_alike i (at c) (more (at a) x) items (leads_node (more (at a) x)) ∙ ap (leads_to i) (append_assoc (at a) (x ∷ []) items);
        }
    | inr k ↦
        let rest = follow a items lt in
        let stays : leads_to i (more (at a) x) ≡ leads_to i (at a) = leads_more i (at a) x ∙ idle_leads (run (start i) (at a)) x k.0 k.1 in
        record {
          to = rest.to;
          inside = rest.inside;
          led = rest.led;
          same = rest.same ∙ all_alike i (at a) (more (at a) x) items (sym stays) ∙ ap (leads_to i) (append_assoc (at a) (x ∷ []) items);
        }
  ]

  -- 2. Ends.

  recurrent_end : (b : ℕ) → b < length list → IsRecurrent graph b → IsAtEnd i (at b)
  recurrent_end b lt back = recurrent_ends i (at b) (λ items.
      let f = follow b items lt in
      let l = back f.to f.led in
      on_trans i (at b ++ items) (at f.to) (at b) (on_same i (at b ++ items) (at f.to) (sym f.same)) (walk_on f.to b l.nodes f.inside l.walk))

  -- whether a configuration is final is decided
  pub same_least : (s t : List ℕ) → Contains list s → Contains list t → leads_to i s ≡ leads_to i t → s ≡ t
  same_least s t hs ht e = elim (before_cases s t) [
    | inl before ↦ absurd (all_at (IsLeast i) list t least ht s before e)
    | inr other ↦ elim other [
      | inl same ↦ same
      | inr before ↦ absurd (all_at (IsLeast i) list s least hs t before (sym e))
    ]
  ]

  abbrev Stays : List ℕ → ℕ → Type 0
  Stays t m = leads_to i (more t m) ≡ leads_to i t

  stays_or : (t : List ℕ) (m : ℕ) → Stays t m ⊎ (Stays t m → ⊥)
  stays_or t m = elim (cases_Bool (pointwise nat_eq (all (more t m)).0 (all t).0)) [
    | inl same ↦ inl (sym (all (more t m)).2 ∙ ap (leads_to i) ((pointwise_decides numbers_decide (all (more t m)).0 (all t).0).0 same) ∙ (all t).2)
    | inr other ↦ inr (λ e.
        let same = same_least (all (more t m)).0 (all t).0 (all (more t m)).1 (all t).1 ((all (more t m)).2 ∙ e ∙ sym (all t).2) in
        Rattle.std.proofs.lemmas.Bool.both_ways (pointwise nat_eq (all (more t m)).0 (all t).0) other ((pointwise_decides numbers_decide (all (more t m)).0 (all t).0).1 same))
  ]

  all_or : (t : List ℕ) (ms : List ℕ) → ((m : ℕ) → Contains ms m → Stays t m) ⊎ (((m : ℕ) → Contains ms m → Stays t m) → ⊥)
  all_or t [] = inl (λ m inside. absurd (none_in m inside))
  all_or t (x ∷ ms) = elim (stays_or t x) [
    | inr other ↦ inr (λ h. other (h x (Rattle.mm_span.proofs.Members.in_first x ms)))
    | inl here ↦ elim (all_or t ms) [
      | inl rest ↦ inl (λ m inside. elim (in_cases x ms m inside) [ inl e ↦ subst (Stays t) e here | inr later ↦ rest m later ])
      | inr other ↦ inr (λ h. other (λ m inside. h m (Rattle.mm_span.proofs.Members.in_rest x ms m inside)))
    ]
  ]

  pub final_or : (t : List ℕ) → IsFinal i t ⊎ (IsFinal i t → ⊥)
  final_or t = all_or t (moves (run (start i) t))

  pub goes_on : (s : List ℕ) → EndsOrTurns i s
  goes_on s =
      let a = node s in
      let long = graph_long in
      let low = node_inside s in
      let found = walks_end graph a nodes (omega (arith, long, low)) in
      let b = found.0 in
      let on = walk_on a b found.1.nodes low found.1.walk in
      let inside : b < length list = by_walk a b found.1.nodes low found.1.walk in
      let same : leads_to i (at b) ≡ leads_to i (s ++ on.items) = sym on.leads ∙ all_alike i (at a) s on.items (leads_node s) in
      let end = end_alike i (at b) (s ++ on.items) same (recurrent_end b inside found.2) in
      record {
        items = on.items;
        closed = end;
        kind = elim (final_or (s ++ on.items)) [ inl final ↦ inl final | inr turns ↦ inr (end, turns) ];
      }
    where
      by_walk : (a b : ℕ) (walk : List ℕ) → a < length list → IsWalk graph a walk b → b < length list
      by_walk a b [] lt e = subst (λ k. k < length list) e lt
      by_walk a b (c ∷ walk) lt w = by_walk c b walk (let inside = nodes a c w.0 in let long = graph_long in omega (arith, inside, long)) w.1

pub runs_end_or_turn : RunsEndOrTurn
runs_end_or_turn i limit list k all s = goes_on i list k.least all s
