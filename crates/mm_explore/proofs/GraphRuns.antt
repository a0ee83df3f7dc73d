-- Where all configurations are in a list, the graph of moves that a search keeps tells which of them are in closed sets.
use Rattle.std.proofs.Common.{◌≡◌, inl, inr, ℕ, zero, suc, ◌+◌, ◌*◌, ◌<◌, ◌≤◌, Bool, true, false, if◌then◌else◌, List, [], ◌∷◌, ◌++◌, map, length}
use Rattle.std.proofs.Common.{slice_index_or, refl, sym, ap, ◌∙◌, subst, append_assoc, append-nil, length-append, arith}
use Rattle.std.proofs.lemmas.{Bool.cases_lt, List.{get_or_past, length-map}, Option.slice_get_within}
use Rattle.std.proofs.lemmas.List.Elements.{Contains-get_or}
use Rattle.std.proofs.lemmas.List.Sums.{length-filter, count_by-le-length}
use Rattle.std.specs.{Prelude.{Contains}, List.{AllByRecursion, AllZip, filter}}
use Rattle.mm_endless.{specs.Graphs.{children, AreNodes, IsWalk, Leads, IsRecurrent, IsLeast as IsLeastNode}, proofs.Walking.leads_self}
use Rattle.mm_model.specs.{Image.{Image, start}, Run.run, Spelling.IsImage, State.{State, ThreadRow}}
use Rattle.mm_span.{specs.Pairs.EachPair, proofs.Members.{none_in, in_first, in_rest, in_cases, all_at, all_of}}
use Rattle.mm_explore.specs.Closed.{LeadsOn, IsAtEnd, IsFirstEndless}
use Rattle.mm_config.specs.Configurations.{uncounted_slot}
use Rattle.mm_explore.specs.Moves.{moves, running_slots, loaded_ports, runs, has_load}
use Rattle.mm_explore.specs.Explored.{leads_to, IsLeast, IsExplored, IsAll}
use Rattle.mm_explore.specs.{Findings.IsFinal, Schedules.Before, Searching.{IsChild, AreChildren, IsGraph}}
use Rattle.mm_explore.proofs.{AllFound.at_index, HeldEnds.{few_slots, slots_count}, FirstOnes.index_one, HeldEnds.slots_bare, Movings.{moves_or_idles, idle_leads}, Coverings.leads_more}
use Rattle.mm_explore.proofs.Orders.{before_self, before_through, before_cases, more}
use Rattle.mm_explore.proofs.ClosedSets.{all_alike, on_same, on_trans, recurrent_ends, ends_back, end_led, final_stays_all}
use Rattle.mm_explore.proofs.Turning.{node, node_inside, leads_node, same_least}

-- 1. Lists.

zip_left : {A B : Type 0} (R : A → B → Type 0) (xs : List A) (ys : List B) → AllZip R xs ys → (y : B) → Contains ys y → (x : A) × Contains xs x × R x y
zip_left R [] [] h y inside = absurd (none_in y inside)
zip_left R [] (z ∷ ys) h y inside = absurd h
zip_left R (x ∷ xs) [] h y inside = absurd h
zip_left R (x ∷ xs) (z ∷ ys) h y inside = elim (in_cases z ys y inside) [
  | inl e ↦ (x, in_first x xs, subst (R x) e h.0)
  | inr later ↦ let k = zip_left R xs ys h.1 y later in (k.0, in_rest x xs k.0 k.1, k.2)
]

zip_right : {A B : Type 0} (R : A → B → Type 0) (xs : List A) (ys : List B) → AllZip R xs ys → (x : A) → Contains xs x → (y : B) × Contains ys y × R x y
zip_right R [] [] h x inside = absurd (none_in x inside)
zip_right R [] (y ∷ ys) h x inside = absurd h
zip_right R (z ∷ xs) [] h x inside = absurd h
zip_right R (z ∷ xs) (y ∷ ys) h x inside = elim (in_cases z xs x inside) [
  | inl e ↦ (y, in_first y ys, subst (λ w. R w y) e h.0)
  | inr later ↦ let k = zip_right R xs ys h.1 x later in (k.0, in_rest y ys k.0 k.1, k.2)
]

zip_long : {A B : Type 0} (R : A → B → Type 0) (xs : List A) (ys : List B) → AllZip R xs ys → length ys ≡ length xs
zip_long R [] [] h = refl
zip_long R [] (y ∷ ys) h = absurd h
zip_long R (x ∷ xs) [] h = absurd h
zip_long R (x ∷ xs) (y ∷ ys) h = ap suc (zip_long R xs ys h.1)

-- schedules that ascend stand in the order of their indexes
pub ascends : (ts : List (List ℕ)) → EachPair Before ts → (a b : ℕ) → a < b → b < length ts → Before (slice_index_or ts a []) (slice_index_or ts b [])
ascends [] up a b lt inside = absurd (omega (arith, inside))
ascends (t ∷ ts) up a zero lt inside = absurd (omega (arith, lt))
ascends (t ∷ ts) up zero (suc b) lt inside = all_at (Before t) ts (slice_index_or ts b []) up.0 (Contains-get_or ts b [] (omega (arith, inside)))
ascends (t ∷ ts) up (suc a) (suc b) lt inside = ascends ts up.1 a b (omega (arith, lt)) (omega (arith, inside))

row_of : (i : Image) (list past rows : List (List ℕ)) → IsGraph i list past rows → (a : ℕ) → a < length past → AreChildren i list (slice_index_or past a []) (slice_index_or rows a [])
row_of i list [] rows h a lt = absurd (omega (arith, lt))
row_of i list (t ∷ past) [] h a lt = absurd h
row_of i list (t ∷ past) (row ∷ rows) h zero lt = h.0
row_of i list (t ∷ past) (row ∷ rows) h (suc a) lt = row_of i list past rows h.1 a (omega (arith, lt))

module _ (i : Image) (limit : ℕ) (list g : List (List ℕ)) (k : IsExplored i limit list) (all : IsAll i list) (graph : IsGraph i list list g) where
  -- the schedule of a node
  abbrev pub spelled : ℕ → List ℕ
  spelled a = slice_index_or list a []

  -- 2. Edges are moves.

  pub graph_long : length g ≡ length list
  graph_long = zip_long (AreChildren i list) list g graph

  -- where an edge leads
  child_leads : (c : ℕ) (t : List ℕ) (m : ℕ) → IsChild i list t m c → (c < length list) × (leads_to i (spelled c) ≡ leads_to i (t ++ m ∷ []))
  child_leads c t m h = (slice_get_within list c h.schedule h.at, ap (leads_to i) (at_index list c h.schedule [] h.at) ∙ h.leads)

  -- the move of an edge
  pub record Edge (a c : ℕ) : Type 0 where
    pub item : ℕ
    pub move : Contains (moves (run (start i) (spelled a))) item
    pub edge : Contains (children g a) c
    pub inside : c < length list
    pub leads : leads_to i (spelled c) ≡ leads_to i (more (spelled a) item)

  pub edge_move : (a c : ℕ) → a < length list → Contains (children g a) c → Edge a c
  edge_move a c lt edge =
      let from = zip_left (IsChild i list (spelled a)) (moves (run (start i) (spelled a))) (children g a) (row_of i list list g graph a lt) c edge in
      let is = child_leads c (spelled a) from.0 from.2 in
      record { item = from.0; move = from.1; edge = edge; inside = is.0; leads = is.1 }

  pub move_edge : (a m : ℕ) → a < length list → Contains (moves (run (start i) (spelled a))) m
      → (c : ℕ) × Contains (children g a) c × (c < length list) × (leads_to i (spelled c) ≡ leads_to i (more (spelled a) m))
  move_edge a m lt move =
      let to = zip_right (IsChild i list (spelled a)) (moves (run (start i) (spelled a))) (children g a) (row_of i list list g graph a lt) m move in
      let is = child_leads to.0 (spelled a) m to.2 in
      (to.0, to.1, is.0, is.1)

  pub nodes : AreNodes g
  nodes a c edge = elim (cases_lt a (length list)) [
    | inl lt ↦ let e = edge_move a c lt edge in let inside = e.inside in let long = graph_long in omega (arith, inside, long)
    | inr past ↦ absurd (none_in c (subst (λ l. Contains l c) (get_or_past g a [] (let long = graph_long in omega (arith, long, past))) edge))
  ]

  walk_on : (a b : ℕ) (walk : List ℕ) → a < length list → IsWalk g a walk b → (b < length list) × LeadsOn i (spelled a) (spelled b)
  walk_on a b [] lt e = (subst (λ n. n < length list) e lt, on_same i (spelled a) (spelled b) (ap (λ n. leads_to i (spelled n)) e))
  walk_on a b (c ∷ walk) lt w =
      let one = edge_move a c lt w.0 in
      let rest = walk_on c b walk one.inside w.1 in
      (rest.0, on_trans i (spelled a) (spelled c) (spelled b) (record { items = one.item ∷ []; leads = sym one.leads }) rest.1)

  -- what a node leads to, its schedule leads on to
  pub leads_on : (a b : ℕ) → a < length list → Leads g a b → (b < length list) × LeadsOn i (spelled a) (spelled b)
  leads_on a b lt l = walk_on a b l.nodes lt l.walk

  -- a node to which the node leads, with the configuration to which items lead
  record Followed (a : ℕ) (items : List ℕ) : Type 0 where
    to : ℕ
    inside : to < length list
    led : Leads g a to
    same : leads_to i (spelled to) ≡ leads_to i (spelled a ++ items)

  follow : (a : ℕ) (items : List ℕ) → a < length list → Followed a items
  follow a [] lt = record { to = a; inside = lt; led = leads_self g a; same = ap (leads_to i) (sym (append-nil (spelled a))) }
  follow a (x ∷ items) lt = elim (moves_or_idles (run (start i) (spelled a)) x) [
    | inl move ↦
        let to = move_edge a x lt move in
        let rest = follow to.0 items to.2 in
        record {
          to = rest.to;
          inside = rest.inside;
          led = record { nodes = to.0 ∷ rest.led.nodes; walk = (to.1, rest.led.walk) };
          same = rest.same ∙ all_alike i (spelled to.0) (more (spelled a) x) items to.3 ∙ ap (leads_to i) (append_assoc (spelled a) (x ∷ []) items);
        }
    | inr idle ↦
        let rest = follow a items lt in
        let stays : leads_to i (more (spelled a) x) ≡ leads_to i (spelled a) =
        leads_more i (spelled a) x ∙ idle_leads (run (start i) (spelled a)) x idle.0 idle.1 in
        record {
          to = rest.to;
          inside = rest.inside;
          led = rest.led;
          same = rest.same ∙ all_alike i (spelled a) (more (spelled a) x) items (sym stays) ∙ ap (leads_to i) (append_assoc (spelled a) (x ∷ []) items);
        }
  ]

  -- nodes of one configuration are one
  pub node_one : (a b : ℕ) → a < length list → b < length list → leads_to i (spelled a) ≡ leads_to i (spelled b) → a ≡ b
  node_one a b la lb e =
      index_one list k.in_order a b la lb (same_least i list k.least all (spelled a) (spelled b) (Contains-get_or list a [] la) (Contains-get_or list b [] lb) e)

  -- what its schedule leads on to, a node leads to
  pub led_to : (a b : ℕ) → a < length list → b < length list → LeadsOn i (spelled a) (spelled b) → Leads g a b
  led_to a b la lb on =
      let f = follow a on.items la in
      subst (Leads g a) (node_one f.to b f.inside lb (f.same ∙ on.leads)) f.led

  -- 3. Closed sets.

  pub recurrent_end : (a : ℕ) → a < length list → IsRecurrent g a → IsAtEnd i (spelled a)
  recurrent_end a lt back = recurrent_ends i (spelled a) (λ items.
      let f = follow a items lt in
      on_trans i (spelled a ++ items) (spelled f.to) (spelled a) (on_same i (spelled a ++ items) (spelled f.to) (sym f.same)) (leads_on f.to a f.inside (back f.to f.led)).1)

  pub end_recurrent : (a : ℕ) → a < length list → IsAtEnd i (spelled a) → IsRecurrent g a
  end_recurrent a lt end b l =
      let on = leads_on a b lt l in
      led_to b a on.0 lt (ends_back i (spelled a) end (spelled b) on.1)

  lower : (a b : ℕ) → a < length list → b < length list → Before (spelled a) (spelled b) → a < b
  lower a b la lb before = elim (cases_lt a b) [
    | inl lt ↦ lt
    | inr ge ↦ elim (cases_lt b a) [
      | inl lt ↦ absurd (before_self (spelled a) (before_through (spelled a) (spelled b) (spelled a) before (ascends list k.in_order b a lt la)))
      | inr le ↦
          let same : a ≡ b = omega (arith, ge, le) in
          absurd (before_self (spelled b) (subst (λ n. Before (spelled n) (spelled b)) same before))
    ]
  ]

  -- the least schedule of a configuration comes before whatever another one does not come before
  least_first : (s u : List ℕ) → Before s u → Before (spelled (node i list k.least all s)) u
  least_first s u before =
      let b = node i list k.least all s in
      elim (before_cases (spelled b) s) [
        | inl earlier ↦ before_through (spelled b) s u earlier before
        | inr other ↦ elim other [
          | inl e ↦ subst (λ x. Before x u) (sym e) before
          | inr behind ↦ absurd (all_at (IsLeast i) list (spelled b) k.least (Contains-get_or list b [] (node_inside i list k.least all s)) s behind (sym (leads_node i list k.least all s)))
        ]
      ]

  module _ (a f : ℕ) (lt : a < length list) (back : IsRecurrent g a) (least : IsLeastNode g a f) where
    pub first_inside : f < length list
    first_inside = (leads_on a f lt least.led).0

    on_first : LeadsOn i (spelled a) (spelled f)
    on_first = (leads_on a f lt least.led).1

    end_here : IsAtEnd i (spelled a)
    end_here = recurrent_end a lt back

    -- the least node of a set leads to the others
    pub first_on : LeadsOn i (spelled f) (spelled a)
    first_on = ends_back i (spelled a) end_here (spelled f) on_first

    none_before : (s : List ℕ) → Before s (spelled f) → LeadsOn i (spelled f) s → ⊥
    none_before s before on =
        let b = node i list k.least all s in
        let inside = node_inside i list k.least all s in
        let there : LeadsOn i (spelled f) (spelled b) = on_trans i (spelled f) s (spelled b) on (on_same i s (spelled b) (sym (leads_node i list k.least all s))) in
        let low = lower b f inside first_inside (least_first s (spelled f) before) in
        let high = least.least b (led_to a b lt inside (on_trans i (spelled a) (spelled f) (spelled b) on_first there)) in
        omega (arith, low, high)

    -- its schedule is the first of the set
    pub first_is : (IsFinal i (spelled f) → ⊥) → IsFirstEndless i (spelled f)
    first_is turns = record { endless = (end_led i (spelled a) (spelled f) end_here on_first, turns); first = none_before }

    -- a set with two nodes is not final
    pub two_turn : (f ≡ a → ⊥) → IsFinal i (spelled f) → ⊥
    two_turn apart final = apart (node_one f a first_inside lt (sym (final_stays_all i (spelled f) first_on.items final) ∙ first_on.leads))

  -- 4. Final configurations.

  -- a configuration all of whose edges lead back to it is final
  pub stays_final : (a : ℕ) → a < length list → AllByRecursion (λ child. child ≡ a) (children g a) → IsFinal i (spelled a)
  stays_final a lt h m move =
      let to = move_edge a m lt move in
      sym to.3 ∙ ap (λ n. leads_to i (spelled n)) (all_at (λ child. child ≡ a) (children g a) to.0 h to.1)

  pub final_stays_by : (a : ℕ) → a < length list → IsFinal i (spelled a) → AllByRecursion (λ child. child ≡ a) (children g a)
  final_stays_by a lt final = all_of (λ child. child ≡ a) (children g a) (λ c edge.
      let e = edge_move a c lt edge in
      node_one c a e.inside lt (e.leads ∙ final e.item e.move))

-- 5. How many edges a node has.

filter_few : {X : Type 0} (p : X → Bool) (xs : List X) → length (filter p xs) ≤ length xs
filter_few p xs = let e = length-filter p xs in let few = count_by-le-length p xs in omega (arith, e, few)

moves_few : (s : State) → length (moves s) ≤ 2 * length s.core.rows
unfolding moves
moves_few s =
    let two = length-append (running_slots s.core.rows) (if s.core.split then loaded_ports s.core.rows else []) in
    let ones = length-map (filter runs s.core.rows) (λ (row : ThreadRow). row.slot.number) in
    let run_few = filter_few runs s.core.rows in
    let ports = ports_few s.core.split in
    omega (arith, two, ones, run_few, ports)
  where
    ports_few : (split : Bool) → length (if split then loaded_ports s.core.rows else []) ≤ length s.core.rows
    ports_few true =
        let loads = length-map (filter has_load s.core.rows) (λ (row : ThreadRow). 128 + row.slot.number) in
        let few = filter_few has_load s.core.rows in
        omega (arith, loads, few)
    ports_few false = omega arith

rows_few : (i : Image) → IsImage i → (t : List ℕ) → length (run (start i) t).core.rows ≤ 64
rows_few i img t =
    let s = run (start i) t in
    let count = slots_count i img t in
    let bare = ap length (slots_bare s) in
    let slots = length-map (map (λ (row : ThreadRow). row.slot) s.core.rows) uncounted_slot in
    let rows = length-map s.core.rows (λ (row : ThreadRow). row.slot) in
    let few = few_slots i img in
    omega (arith, count, bare, slots, rows, few)

module _ (i : Image) (img : IsImage i) (limit : ℕ) (list g : List (List ℕ)) (k : IsExplored i limit list) (all : IsAll i list) (graph : IsGraph i list list g) where
  pub children_few : (a : ℕ) → length (children g a) < 256
  children_few a = elim (cases_lt a (length list)) [
    | inl lt ↦
        let t = slice_index_or list a [] in
        let long = zip_long (IsChild i list t) (moves (run (start i) t)) (children g a) (row_of i list list g graph a lt) in
        let few = moves_few (run (start i) t) in
        let rows = rows_few i img t in
        omega (arith, long, few, rows)
    | inr past ↦
        let none = ap length (get_or_past g a [] (let long = graph_long i limit list g k all graph in omega (arith, long, past))) in
        omega (arith, none)
  ]
