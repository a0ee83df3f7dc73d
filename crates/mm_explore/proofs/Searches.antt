-- A search that goes through the turns explored in their order finds the first least schedules, and whether they are all.
use Rattle.std.proofs.Common.{◌≡◌, ◌⊎◌, inl, inr, ℕ, ◌<◌, ◌≤◌, List, [], ◌∷◌, ◌++◌, length, refl, sym, ap, ◌∙◌, subst}
use Rattle.std.proofs.Common.{arith, append_assoc, append-nil, length-append}
use Rattle.std.proofs.lemmas.List.Elements.{Contains-append_left, Contains-append_cases, Contains-push}
use Rattle.std.proofs.lemmas.List.Elements.{Contains-push_cases}
use Rattle.std.specs.{Prelude.Contains, List.{AllByRecursion, flat_map}}
use Rattle.mm_model.{proofs.CoreRows.each_push, specs.{Image.{Image, start}, Spelling.IsImage, Run.run}}
use Rattle.mm_span.specs.Pairs.{EachPair}
use Rattle.mm_explore.specs.Moves.{moves}
use Rattle.mm_explore.specs.Schedules.{Before}
use Rattle.mm_explore.specs.Explored.{leads_to, IsLeast, IsAll}
use Rattle.mm_explore.specs.Findings.{Extension, extended, extensions, explored_turns}
use Rattle.mm_explore.specs.Searching.{UpTo, Cover, Open, IsSearched}
use Rattle.mm_explore.proofs.Orders.{before_self, before_through, before_cases, before_more, up_to_before, up_to_both}
use Rattle.mm_explore.proofs.Orders.{up_to_through, nothing_before, before_rec, more, length_more}
use Rattle.mm_span.proofs.Members.{none_in, in_first, in_rest, in_cases, all_of, map_in, pairs_both}
use Rattle.mm_explore.proofs.{Movings.{moves_or_idles, idle_leads}, Coverings.{leads_alike, leads_more}}
use Rattle.mm_explore.proofs.{FoundOnRuns.explores, Earliest.{Earlier, turns_in_order}, Selections.pairs_behind}

-- 1. What is covered.

-- a list is empty, or has a last item
record Last (u : List ℕ) : Type 0 where
  front : List ℕ
  item : ℕ
  is : u ≡ more front item

last_of : (a : ℕ) (u : List ℕ) → Last (a ∷ u)
last_of a [] = record { front = []; item = a; is = refl }
last_of a (b ∷ u) = let k = last_of b u in record { front = a ∷ k.front; item = k.item; is = ap (λ l. a ∷ l) k.is }

-- Let the list have the empty schedule, and let each move from a schedule of the list lead to what is covered, if it is
-- within a bound. Then each schedule within the bound is covered.
module _ (i : Image) (list : List (List ℕ)) (begins : Contains list []) (Within : List ℕ → Type 0)
    (down : (s t : List ℕ) → Before s t → Within t → Within s)
    (closed : (v : List ℕ) (m : ℕ) → Contains list v → Contains (moves (run (start i) v)) m → Within (more v m) → Cover i list (more v m)) where
  abbrev Covered : List ℕ → Type 0
  Covered u = Within u → Cover i list u

  up_to_within : (s t : List ℕ) → UpTo s t → Within t → Within s
  up_to_within s t (inl e) h = subst Within (sym e) h
  up_to_within s t (inr before) h = down s t before h

  by_front : (s : List ℕ) (x : ℕ) → Cover i list s → Within (more s x) → Cover i list (more s x)
  by_front s x c within =
      let early = up_to_both c.by s x c.early in
      let same = leads_alike i c.by s x c.same in
      elim (moves_or_idles (run (start i) c.by) x) [
        | inl move ↦
            let d = closed c.by x c.inside move (up_to_within (more c.by x) (more s x) early within) in
            record { by = d.by; inside = d.inside; early = up_to_through d.by (more c.by x) (more s x) d.early early; same = d.same ∙ same }
        | inr k ↦
            let stays : leads_to i (more c.by x) ≡ leads_to i c.by = leads_more i c.by x ∙ idle_leads (run (start i) c.by) x k.0 k.1 in
            record { by = c.by; inside = c.inside; early = inr (up_to_before c.by s (more s x) c.early (before_more s x)); same = sym stays ∙ same }
      ]

  covers_step : (u : List ℕ) → ((s : List ℕ) → Before s u → Covered s) → Covered u
  covers_step [] lesser within = record { by = []; inside = begins; early = inl refl; same = refl }
  covers_step (a ∷ u) lesser within =
      let k = last_of a u in
      let before : Before k.front (a ∷ u) = subst (Before k.front) (sym k.is) (before_more k.front k.item) in
      subst (Cover i list) (sym k.is) (by_front k.front k.item (lesser k.front before (down k.front (a ∷ u) before within)) (subst Within k.is within))

  pub covers_all : (u : List ℕ) → Covered u
  covers_all = before_rec Covered covers_step

-- 2. A search that has found a list, gone through some of its turns, and met nothing that had no room (Open).

-- none of the list leads where a schedule leads
abbrev pub IsNew : Image → List (List ℕ) → List ℕ → Type 0
IsNew i list t = (v : List ℕ) → Contains list v → leads_to i v ≡ leads_to i t → ⊥

-- a least schedule that is covered is in the list
least_inside : (i : Image) (list : List (List ℕ)) (t : List ℕ) → IsLeast i t → Cover i list t → Contains list t
least_inside i list t least c = elim c.early [
  | inl e ↦ subst (Contains list) e c.inside
  | inr before ↦ absurd (least c.by before c.same)
]

wider : (i : Image) (list : List (List ℕ)) (p : List ℕ) (t : List ℕ) → Cover i list t → Cover i (list ++ p ∷ []) t
wider i list p t c = record { by = c.by; inside = Contains-append_left list (p ∷ []) c.by c.inside; early = c.early; same = c.same }

turns_more : (i : Image) (list : List (List ℕ)) (p : List ℕ) → flat_map (extensions i) (list ++ p ∷ []) ≡ flat_map (extensions i) list ++ extensions i p
turns_more i [] p = append-nil (extensions i p)
turns_more i (t ∷ list) p = ap (λ l. extensions i t ++ l) (turns_more i list p) ∙ sym (append_assoc (extensions i t) (flat_map (extensions i) list) (extensions i p))

module _ (i : Image) (img : IsImage i) (limit : ℕ) where
  pub search_begins : 1 ≤ limit → Open i limit ([] ∷ []) [] (explored_turns i ([] ∷ []))
  search_begins room = record {
    begins = in_first [] [];
    split = refl;
    in_order = (tt, tt);
    least = ((λ s before same. nothing_before s before), tt);
    few = room;
    covered = λ y inside. absurd (none_in y inside);
    ahead = λ v y inside left. elim (in_cases [] [] v inside) [
      | inl e ↦ let long = length_more y.schedule y.item in subst (λ z. Before z (extended y)) e (inl (omega (arith, long)))
      | inr never ↦ absurd (none_in v never)
    ];
  }

  module _ (list : List (List ℕ)) (done : List Extension) where
    turns_split : (left : List Extension) → Open i limit list done left → EachPair Earlier (done ++ left)
    unfolding explored_turns
    turns_split left o = subst (EachPair Earlier) o.split (turns_in_order i img list o.in_order)

    -- 3. The next turn.

    module _ (x : Extension) (left : List Extension) (o : Open i limit list done (x ∷ left)) where
      abbrev next : List ℕ
      next = extended x

      later : (y : Extension) → Contains left y → Before next (extended y)
      later y inside = pairs_behind Earlier done x left (turns_split (x ∷ left) o) y inside

      closed_before : (v : List ℕ) (m : ℕ) → Contains list v → Contains (moves (run (start i) v)) m → Before (more v m) next → Cover i list (more v m)
      closed_before v m inside move before =
          let y : Extension = record { schedule = v; item = m } in
          let there = subst (λ l. Contains l y) o.split (explores i list v m inside move) in
          elim (Contains-append_cases done (x ∷ left) y there) [
            | inl was ↦ o.covered y was
            | inr coming ↦ elim (in_cases x left y coming) [
              | inl e ↦ absurd (before_self next (subst (λ (z : Extension). Before (extended z) next) (sym e) before))
              | inr behind ↦ absurd (before_self next (before_through next (extended y) next (later y behind) before))
            ]
          ]

      covers_before : (u : List ℕ) → Before u next → Cover i list u
      covers_before = covers_all i list o.begins (λ u. Before u next) (λ s t before within. before_through s t next before within) closed_before

      split_next : explored_turns i list ≡ (done ++ x ∷ []) ++ left
      split_next = o.split ∙ sym (append_assoc done (x ∷ []) left)

      -- it leads where a schedule of the list leads
      pub search_known : (v : List ℕ) → Contains list v → leads_to i v ≡ leads_to i next → Open i limit list (done ++ x ∷ []) left
      search_known v inside same = record {
        begins = o.begins;
        split = split_next;
        in_order = o.in_order;
        least = o.least;
        few = o.few;
        covered = λ y there. elim (Contains-push_cases done x y there) [
          | inl was ↦ o.covered y was
          | inr e ↦ subst (λ (z : Extension). Cover i list (extended z)) e (record { by = v; inside = inside; early = inr (o.ahead v x inside (in_first x left)); same = same })
        ];
        ahead = λ w y there behind. o.ahead w y there (in_rest x left y behind);
      }

      before_next : (v : List ℕ) → Contains list v → Before v next
      before_next v inside = o.ahead v x inside (in_first x left)

      own_schedule : (y : Extension) → Contains (extensions i next) y → next ≡ y.schedule
      own_schedule y inside =
          let make : ℕ → Extension = λ m. record { schedule = next; item = m } in
          let from = map_in make (moves (run (start i) next)) y inside in
          ap (λ (z : Extension). z.schedule) from.gives

      own_later : (y : Extension) → Contains (extensions i next) y → Before next (extended y)
      own_later y inside = subst (λ s. Before s (extended y)) (sym (own_schedule y inside)) (before_more y.schedule y.item)

      -- it leads elsewhere, and there is room
      module _ (new : IsNew i list next) (room : length list < limit) where
        wider_split : explored_turns i (list ++ next ∷ []) ≡ (done ++ x ∷ []) ++ (left ++ extensions i next)
        unfolding explored_turns
        wider_split =
            turns_more i list next ∙ ap (λ l. l ++ extensions i next) split_next ∙ append_assoc (done ++ x ∷ []) left (extensions i next)

        next_least : IsLeast i next
        next_least s before same = let c = covers_before s before in new c.by c.inside (c.same ∙ same)

        wider_ahead : (v : List ℕ) (y : Extension) → Contains (list ++ next ∷ []) v → Contains (left ++ extensions i next) y → Before v (extended y)
        wider_ahead v y there behind = elim (Contains-append_cases left (extensions i next) y behind) [
          | inl before ↦ elim (Contains-push_cases list next v there) [
            | inl was ↦ o.ahead v y was (in_rest x left y before)
            | inr e ↦ subst (λ s. Before s (extended y)) e (later y before)
          ]
          | inr own ↦ elim (Contains-push_cases list next v there) [
            | inl was ↦ before_through v next (extended y) (before_next v was) (own_later y own)
            | inr e ↦ subst (λ s. Before s (extended y)) e (own_later y own)
          ]
        ]

        pub search_new : Open i limit (list ++ next ∷ []) (done ++ x ∷ []) (left ++ extensions i next)
        search_new = record {
          begins = Contains-append_left list (next ∷ []) [] o.begins;
          split = wider_split;
          in_order = pairs_both Before list (next ∷ []) o.in_order (tt, tt) (λ v w inside last. elim (in_cases next [] w last) [
            | inl e ↦ subst (Before v) e (before_next v inside)
            | inr never ↦ absurd (none_in w never)
          ]);
          least = each_push (IsLeast i) list next o.least next_least;
          few = let long = length-append list (next ∷ []) in omega (arith, long, room);
          covered = λ y there. elim (Contains-push_cases done x y there) [
            | inl was ↦ wider i list next (extended y) (o.covered y was)
            | inr e ↦ subst (λ (z : Extension). Cover i (list ++ next ∷ []) (extended z)) e (record { by = next; inside = Contains-push list next; early = inl refl; same = refl })
          ];
          ahead = wider_ahead;
        }

      -- it leads elsewhere, and there is no room
      module _ (new : IsNew i list next) (full : length list ≡ limit) where
        none_missing : (t : List ℕ) → IsLeast i t → Contains list t ⊎ ((length list ≡ limit) × AllByRecursion (λ s. Before s t) list)
        none_missing t least = elim (before_cases t next) [
          | inl before ↦ inl (least_inside i list t least (covers_before t before))
          | inr other ↦ inr (
            full,
            all_of (λ s. Before s t) list (λ s inside. elim other [
              | inl e ↦ subst (Before s) (sym e) (before_next s inside)
              | inr behind ↦ before_through s next t (before_next s inside) behind
            ]),
          )
        ]

        pub search_full : IsSearched i limit list (IsAll i list → ⊥)
        search_full = record {
          explored = record { in_order = o.in_order; least = o.least; few = o.few; first = none_missing };
          answer = λ all. let one = all next in new one.0 one.1 one.2;
        }

    -- 4. The end.

    module _ (o : Open i limit list done []) where
      abbrev Anywhere : List ℕ → Type 0
      Anywhere s = Unit {0}

      closed_all : (v : List ℕ) (m : ℕ) → Contains list v → Contains (moves (run (start i) v)) m → Anywhere (more v m) → Cover i list (more v m)
      closed_all v m inside move h =
          let y : Extension = record { schedule = v; item = m } in
          o.covered y (subst (λ l. Contains l y) (o.split ∙ append-nil done) (explores i list v m inside move))

      covers_each : (u : List ℕ) → Cover i list u
      covers_each u = covers_all i list o.begins Anywhere (λ s t before h. tt) closed_all u tt

      pub search_ends : IsSearched i limit list (IsAll i list)
      search_ends = record {
        explored = record { in_order = o.in_order; least = o.least; few = o.few; first = λ t least. inl (least_inside i list t least (covers_each t)) };
        answer = λ s. let c = covers_each s in (c.by, c.inside, c.same);
      }
