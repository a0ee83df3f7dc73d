-- One more turn of a search.
use Rattle.std.proofs.Common.{◌≡◌, inl, inr, ℕ, zero, suc, ◌+◌, ◌^◌, ◌<◌, ◌≤◌, Bool, true, false, ◌&&◌, Vec, Global, List, []}
use Rattle.std.proofs.Common.{◌∷◌, ◌++◌, map, length, take, drop, slice_index_or, Option, None, refl, sym, ap, ◌∙◌, subst, arith, eqb-true, eq-eqb}
use Rattle.std.proofs.{Common.{append_assoc, append-nil, length-append}, lemmas.{Bool.both_ways, List.length-map, Option.slice_get_within}}
use Rattle.std.specs.Prelude.{◌==◌, Contains, Some, slice_get}
use Rattle.std.specs.List.{AllByRecursion, AllZip, flat_map}
use Rattle.mm_config.specs.declared.configs.{Configs.Configs, Looked.{Looked, TheVariants.{Known, New, Full}}}
use Rattle.mm_config.specs.{Configurations.{configuration, uncounted}, Keeping.Stands, Machines.{Configs as ConfigsValue, Keeps, AreApart}}
use Rattle.mm_model.proofs.CoreRows.{each_push}
use Rattle.mm_model.specs.{declared.step.Step.Step, Fits.slots_of, Flags.flags, Limits.state_limit, Image.{Image, start}, Report.groups_of, Spelling.IsImage}
use Rattle.mm_model.specs.{State.{Core, State, slot_at}, Run.{after, run, turn_of}, Trace.group_of}
use Rattle.mm_span.{specs.Pairs.EachPair, proofs.Members.{in_map, map_in, all_at}}
use Rattle.mm_explore.proofs.AllFound.{at_index}
use Rattle.mm_explore.proofs.{Notings.{noted_more, ended_more, ended_skip, children_more, graph_more}, Spelled.map_push}
use Rattle.mm_explore.proofs.Searches.{IsNew, search_begins, search_known, search_new, search_full, search_ends}
use Rattle.mm_explore.proofs.{HeldEnds.slots_count, FirstOnes.index_one, Orders.before_cases, Selections.select_more}
use Rattle.mm_explore.specs.declared.{findings.Findings.Findings, found.Origin.Origin, search.{Made.Made, Search.Search}}
use Rattle.mm_explore.specs.Laws.{GoesOnAlike}
use Rattle.mm_explore.proofs.{Coverings.leads_more, Goings.{configurations_go_on, group_bare}, Uncounted.uncounted_again}
use Rattle.mm_explore.specs.{Moves.moves, Explored.{leads_to, IsLeast, IsExplored, IsAll}, Schedules.Before}
use Rattle.mm_explore.specs.Findings.{Extension, extended, extensions, explored_turns, IsFinal}
use Rattle.mm_explore.specs.{FoundLists.{led_by, with_configs, IsAt, HasKept, Looks}, Noting.{Noted, AreNoted}, Outcomes.{Outcome, End, IsOutcome, Selects, slots_at}}
use Rattle.mm_explore.specs.Searching.{GoesOn, IsFull, IsChild, IsGraph, Ended, HasCome, IsBefore, IsWithin, schedule_at, turns_before}
use Rattle.mm_explore.specs.Searching.{turns_from, StaysBy, AllStay, index_of, IsMade, Makes, Met, IsNotedIfFinal}

-- 1. Lists up to an index and from it on.

one_more : (k : ℕ) → k + 1 ≡ suc k
one_more k = omega arith

module _ {X : Type 0} where
  take_suc : (xs : List X) (k : ℕ) (d : X) → k < length xs → take (suc k) xs ≡ take k xs ++ slice_index_or xs k d ∷ []
  take_suc [] k d lt = absurd (omega (arith, lt))
  take_suc (x ∷ xs) zero d lt = refl
  take_suc (x ∷ xs) (suc k) d lt = ap (λ l. x ∷ l) (take_suc xs k d (omega (arith, lt)))

  pub take_one : (xs : List X) (k : ℕ) (d : X) → k < length xs → take (k + 1) xs ≡ take k xs ++ slice_index_or xs k d ∷ []
  take_one xs k d lt = ap (λ n. take n xs) (one_more k) ∙ take_suc xs k d lt

  drop_suc : (xs : List X) (k : ℕ) (d : X) → k < length xs → drop k xs ≡ slice_index_or xs k d ∷ drop (suc k) xs
  drop_suc [] k d lt = absurd (omega (arith, lt))
  drop_suc (x ∷ xs) zero d lt = refl
  drop_suc (x ∷ xs) (suc k) d lt = drop_suc xs k d (omega (arith, lt))

  pub drop_one : (xs : List X) (k : ℕ) (d : X) → k < length xs → drop k xs ≡ slice_index_or xs k d ∷ drop (k + 1) xs
  drop_one xs k d lt = drop_suc xs k d lt ∙ ap (λ n. slice_index_or xs k d ∷ drop n xs) (sym (one_more k))

  pub take_front : (xs ys : List X) (k : ℕ) → k ≤ length xs → take k (xs ++ ys) ≡ take k xs
  take_front xs ys zero le = refl
  take_front [] ys (suc k) le = absurd (omega (arith, le))
  take_front (x ∷ xs) ys (suc k) le = ap (λ l. x ∷ l) (take_front xs ys k (omega (arith, le)))

  pub drop_front : (xs ys : List X) (k : ℕ) → k ≤ length xs → drop k (xs ++ ys) ≡ drop k xs ++ ys
  drop_front xs ys zero le = refl
  drop_front [] ys (suc k) le = absurd (omega (arith, le))
  drop_front (x ∷ xs) ys (suc k) le = drop_front xs ys k (omega (arith, le))

  pub take_whole : (xs : List X) (k : ℕ) → length xs ≡ k → take k xs ≡ xs
  take_whole [] zero e = refl
  take_whole [] (suc k) e = absurd (omega (arith, e))
  take_whole (x ∷ xs) zero e = absurd (omega (arith, e))
  take_whole (x ∷ xs) (suc k) e = ap (λ l. x ∷ l) (take_whole xs k (omega (arith, e)))

  pub drop_whole : (xs : List X) (k : ℕ) → length xs ≡ k → drop k xs ≡ []
  drop_whole [] zero e = refl
  drop_whole [] (suc k) e = refl
  drop_whole (x ∷ xs) zero e = absurd (omega (arith, e))
  drop_whole (x ∷ xs) (suc k) e = drop_whole xs k (omega (arith, e))

  at_front : (xs ys : List X) (k : ℕ) (d : X) → k < length xs → slice_index_or (xs ++ ys) k d ≡ slice_index_or xs k d
  at_front [] ys k d lt = absurd (omega (arith, lt))
  at_front (x ∷ xs) ys zero d lt = refl
  at_front (x ∷ xs) ys (suc k) d lt = at_front xs ys k d (omega (arith, lt))

  got_in : (xs : List X) (k : ℕ) (d : X) → k < length xs → slice_get xs k ≡ Some (slice_index_or xs k d)
  got_in [] k d lt = absurd (omega (arith, lt))
  got_in (x ∷ xs) zero d lt = refl
  got_in (x ∷ xs) (suc k) d lt = got_in xs k d (omega (arith, lt))

  at_any : (xs : List X) (k : ℕ) (d e : X) → k < length xs → slice_index_or xs k e ≡ slice_index_or xs k d
  at_any [] k d e lt = absurd (omega (arith, lt))
  at_any (x ∷ xs) zero d e lt = refl
  at_any (x ∷ xs) (suc k) d e lt = at_any xs k d e (omega (arith, lt))

  pub get_inside : (xs : List X) (k : ℕ) (d : X) → k < length xs → slice_get xs k ≡ Some (slice_index_or xs k d)
  get_inside = got_in

flat_push : {X Y : Type 0} (f : X → List Y) (xs : List X) (x : X) → flat_map f (xs ++ x ∷ []) ≡ flat_map f xs ++ f x
flat_push f [] x = append-nil (f x)
flat_push f (y ∷ xs) x = ap (λ l. f y ++ l) (flat_push f xs x) ∙ sym (append_assoc (f y) (flat_map f xs) (f x))

map_at : {X Y : Type 0} (f : X → Y) (xs : List X) (k : ℕ) (d : X) (e : Y) → k < length xs → slice_index_or (map f xs) k e ≡ f (slice_index_or xs k d)
map_at f [] k d e lt = absurd (omega (arith, lt))
map_at f (x ∷ xs) zero d e lt = refl
map_at f (x ∷ xs) (suc k) d e lt = map_at f xs k d e (omega (arith, lt))

-- 2. The turns before and after one.

module _ (i : Image) (list : List (List ℕ)) (at k : ℕ) where
  abbrev here : List ℕ
  here = slice_index_or list at []

  abbrev pub turn_here : Extension
  turn_here = record { schedule = slice_index_or list at []; item = slice_index_or (moves (run (start i) (slice_index_or list at []))) k 0 }

  make : ℕ → Extension
  make m = record { schedule = here; item = m }

  long : length (extensions i here) ≡ length (moves (run (start i) here))
  long = length-map (moves (run (start i) here)) (λ m. let x : Extension = record { schedule = here; item = m } in x)

  module _ (move : k < length (moves (run (start i) here))) where
    is_here : slice_index_or (extensions i here) k turn_here ≡ turn_here
    is_here = map_at (λ m. let x : Extension = record { schedule = here; item = m } in x) (moves (run (start i) here)) k 0 turn_here move

    in_turns : k < length (extensions i here)
    in_turns = let e = long in omega (arith, e, move)

    pub turns_next : turns_from i list at k ≡ turn_here ∷ turns_from i list at (k + 1)
    turns_next =
        let rest = flat_map (extensions i) (drop (at + 1) list) in
        ap (λ l. l ++ rest) (drop_one (extensions i here) k turn_here in_turns)
        ∙ ap (λ (x : Extension). x ∷ (drop (k + 1) (extensions i here) ++ rest)) is_here

    pub turns_made : turns_before i list at (k + 1) ≡ turns_before i list at k ++ turn_here ∷ []
    turns_made =
        let front = flat_map (extensions i) (take at list) in
        ap (λ l. front ++ l) (take_one (extensions i here) k turn_here in_turns ∙ ap (λ (x : Extension). take k (extensions i here) ++ x ∷ []) is_here)
        ∙ sym (append_assoc front (take k (extensions i here)) (turn_here ∷ []))

module _ (i : Image) (list more : List (List ℕ)) (at : ℕ) (inside : at < length list) where
  pub same_here : slice_index_or (list ++ more) at [] ≡ slice_index_or list at []
  same_here = at_front list more at [] inside

  pub same_front : take at (list ++ more) ≡ take at list
  same_front = take_front list more at (omega (arith, inside))

  pub before_more : (k : ℕ) → turns_before i (list ++ more) at k ≡ turns_before i list at k
  before_more k =
      ap (λ l. flat_map (extensions i) l ++ take k (extensions i (slice_index_or (list ++ more) at []))) same_front
      ∙ ap (λ t. flat_map (extensions i) (take at list) ++ take k (extensions i t)) same_here

from_push : (i : Image) (list : List (List ℕ)) (n : List ℕ) (at k : ℕ) → at < length list → turns_from i (list ++ n ∷ []) at k ≡ turns_from i list at k ++ extensions i n
from_push i list n at k inside =
    let own = drop k (extensions i (slice_index_or list at [])) in
    ap (λ t. drop k (extensions i t) ++ flat_map (extensions i) (drop (at + 1) (list ++ n ∷ []))) (same_here i list (n ∷ []) at inside)
    ∙ ap (λ l. own ++ flat_map (extensions i) l) (drop_front list (n ∷ []) (at + 1) (omega (arith, inside)))
    ∙ ap (λ l. own ++ l) (flat_push (extensions i) (drop (at + 1) list) n)
    ∙ sym (append_assoc own (flat_map (extensions i) (drop (at + 1) list)) (extensions i n))

-- 3. The search itself.

module _ (i : Image) (img : IsImage i) (limit : ℕ) (list : List (List ℕ)) (done : List Extension) (x : Extension) (left : List Extension) where
  full_next : IsFull i limit list done (x ∷ left) → IsFull i limit list (done ++ x ∷ []) left
  full_next h = record { searched = h.searched; split = h.split ∙ sym (append_assoc done (x ∷ []) left); full = h.full }

  goes_known : (all : Bool) → GoesOn all i limit list done (x ∷ left) → (v : List ℕ) → Contains list v → leads_to i v ≡ leads_to i (extended x) → GoesOn all i limit list (done ++ x ∷ []) left
  goes_known true o v inside same = search_known i img limit list done x left o v inside same
  goes_known false h v inside same = full_next h

  goes_new : (all : Bool) → GoesOn all i limit list done (x ∷ left) → IsNew i list (extended x) → length list < limit
      → GoesOn all i limit (list ++ extended x ∷ []) (done ++ x ∷ []) (left ++ extensions i (extended x))
  goes_new true o new room = search_new i img limit list done x left o new room
  goes_new false h new room = let full = h.full in absurd (omega (arith, full, room))

  goes_full : (all : Bool) → GoesOn all i limit list done (x ∷ left) → IsNew i list (extended x) → length list ≡ limit → IsFull i limit list (done ++ x ∷ []) left
  goes_full true o new full = record { searched = search_full i img limit list done x left o new full; split = o.split ∙ sym (append_assoc done (x ∷ []) left); full = full }
  goes_full false h new full = full_next h

pub list_few : (i : Image) (all : Bool) (limit : ℕ) (list : List (List ℕ)) (done left : List Extension) → GoesOn all i limit list done left → length list ≤ limit
list_few i true limit list done left o = o.few
list_few i false limit list done left h = let full = h.full in omega (arith, full)

-- 4. What a look-up tells.

known_leads : (i : Image) (list : List (List ℕ)) (t : List ℕ) → Contains (map (leads_to i) list) (leads_to i t) → (v : List ℕ) × Contains list v × (leads_to i v ≡ leads_to i t)
known_leads i list t inside =
    let from = map_in (leads_to i) list (leads_to i t) inside in
    (from.source, from.inside, from.gives)

new_leads : (i : Image) (list : List (List ℕ)) (t : List ℕ) → (Contains (map (leads_to i) list) (leads_to i t) → ⊥) → IsNew i list t
new_leads i list t none v inside same = none (subst (Contains (map (leads_to i) list)) same (in_map (leads_to i) list v inside))

-- 5. What a look-up leaves.

pub record Grown (list now : List (List ℕ)) : Type 0 where
  pub more : List (List ℕ)
  pub grows : now ≡ list ++ more

grown : (i : Image) (limit : ℕ) (looked : Looked) (o : Origin) (list now : List (List ℕ)) → Looks i limit looked o list now → Grown list now
grown i limit (Known c) o list now h = record { more = []; grows = h.1 ∙ sym (append-nil list) }
grown i limit New o list now h = record { more = led_by list o ∷ []; grows = h.2 }
grown i limit Full o list now h = record { more = []; grows = h.2 ∙ sym (append-nil list) }

-- the schedule at an index leads to the configuration there
pub record HasConfig (i : Image) (list : List (List ℕ)) (c : ℕ) (s : State) : Type 0 where
  pub schedule : List ℕ
  pub at : slice_get list c ≡ Some schedule
  pub leads : leads_to i schedule ≡ s

has_config : (i : Image) (list : List (List ℕ)) (c : ℕ) (s : State) → slice_get (map (leads_to i) list) c ≡ Some s → HasConfig i list c s
has_config i [] c s e = cc
has_config i (t ∷ list) zero s e = record { schedule = t; at = refl; leads = cc }
has_config i (t ∷ list) (suc c) s e = let k = has_config i list c s e in record { schedule = k.schedule; at = k.at; leads = k.leads }

get_in : {X : Type 0} (xs : List X) (k : ℕ) (x : X) → slice_get xs k ≡ Some x → Contains xs x
get_in [] k x e = cc
get_in (y ∷ xs) zero x e = (0, omega arith, cc)
get_in (y ∷ xs) (suc k) x e = let h = get_in xs k x e in (suc h.0, let lt = h.1 in omega (arith, lt), h.2)

get_last : {X : Type 0} (xs : List X) (x : X) → slice_get (xs ++ x ∷ []) (length xs) ≡ Some x
get_last [] x = refl
get_last (y ∷ xs) x = get_last xs x

-- where the look-up of a move's configuration is, the move leads
child_of : (i : Image) (limit : ℕ) (looked : Looked) (c : ℕ) (t : List ℕ) (m : ℕ) (o : Origin) (list now : List (List ℕ)) → led_by list o ≡ t ++ m ∷ []
    → Looks i limit looked o list now → Some c ≡ index_of looked list → IsChild i now t m c
child_of i limit (Known a) c t m o list now led h is =
    let same : c ≡ a = cc in
    let k = has_config i list a (leads_to i (led_by list o)) h.0 in
    record { schedule = k.schedule; at = ap (slice_get now) same ∙ ap (λ l. slice_get l a) h.1 ∙ k.at; leads = k.leads ∙ ap (leads_to i) led }
child_of i limit New c t m o list now led h is =
    let same : c ≡ length list = cc in
    record {
      schedule = led_by list o;
      at = ap (slice_get now) same ∙ ap (λ l. slice_get l (length list)) h.2 ∙ get_last list (led_by list o);
      leads = ap (leads_to i) led;
    }
child_of i limit Full c t m o list now led h is = cc

-- whether there was room for all, after a look-up
abbrev pub all_after : Bool → Option ℕ → Bool
all_after all (Some c) = all
all_after all None = false

-- the children, with that of a move
abbrev pub child_more : List ℕ → Option ℕ → List ℕ
child_more row (Some c) = row ++ c ∷ []
child_more row None = row

module _ (i : Image) (img : IsImage i) (limit : ℕ) (list now : List (List ℕ)) (at k : ℕ) (inside : at < length list) (x : Extension) (o : Origin) (led : led_by list o ≡ extended x)
    (ahead : turns_from i list at k ≡ x ∷ turns_from i list at (k + 1)) (made : turns_before i list at (k + 1) ≡ turns_before i list at k ++ x ∷ []) where
  abbrev ComesTo : List (List ℕ) → Bool → Type 0
  ComesTo l all = GoesOn all i limit l (turns_before i l at (k + 1)) (turns_from i l at (k + 1))

  abbrev done : List Extension
  done = turns_before i list at k

  abbrev left : List Extension
  left = turns_from i list at (k + 1)

  comes_to : (looked : Looked) (all : Bool) → GoesOn all i limit list (turns_before i list at k) (turns_from i list at k)
      → Looks i limit looked o list now → ComesTo now (all_after all (index_of looked list))
  comes_to looked all goes h = by looked h
    where
      next : GoesOn all i limit list done (x ∷ left)
      next = subst (GoesOn all i limit list done) ahead goes

      new : (Contains (map (leads_to i) list) (leads_to i (led_by list o)) → ⊥) → IsNew i list (extended x)
      new none = new_leads i list (extended x) (subst (λ u. Contains (map (leads_to i) list) (leads_to i u) → ⊥) led none)

      by : (l : Looked) → Looks i limit l o list now → ComesTo now (all_after all (index_of l list))
      by (Known c) h =
          let v = known_leads i list (led_by list o) (get_in (map (leads_to i) list) c (leads_to i (led_by list o)) h.0) in
          subst (λ l. ComesTo l all) (sym h.1)
          (subst (λ d. GoesOn all i limit list d left) (sym made) (goes_known i img limit list done x left all next v.0 v.1 (v.2 ∙ ap (leads_to i) led)))
      by Full h =
          let few = list_few i all limit list done (x ∷ left) next in
          let most = h.1 in
          subst (λ l. ComesTo l false) (sym h.2)
          (subst (λ d. IsFull i limit list d left) (sym made) (goes_full i img limit list done x left all next (new h.0) (omega (arith, few, most))))
      by New h =
          let longer = list ++ extended x ∷ [] in
          let went = goes_new i img limit list done x left all next (new h.0) h.1 in
          let before : done ++ x ∷ [] ≡ turns_before i longer at (k + 1) = sym made ∙ sym (before_more i list (extended x ∷ []) at inside (k + 1)) in
          let after : left ++ extensions i (extended x) ≡ turns_from i longer at (k + 1) = sym (from_push i list (extended x) at (k + 1) inside) in
          let there : ComesTo longer all =
          subst (λ d. GoesOn all i limit longer d (turns_from i longer at (k + 1))) before (subst (GoesOn all i limit longer (done ++ x ∷ [])) after went) in
          subst (λ l. ComesTo l all) (sym (h.2 ∙ ap (λ u. list ++ u ∷ []) led)) there

pub zip_push : {A B : Type 0} (R : A → B → Type 0) (xs : List A) (ys : List B) (x : A) (y : B) → AllZip R xs ys → R x y → AllZip R (xs ++ x ∷ []) (ys ++ y ∷ [])
zip_push R [] [] x y h k = (k, tt)
zip_push R [] (b ∷ ys) x y h k = absurd h
zip_push R (a ∷ xs) [] x y h k = absurd h
zip_push R (a ∷ xs) (b ∷ ys) x y h k = (h.0, zip_push R xs ys x y h.1 k)

-- the index of a move's configuration is that of the node
abbrev pub leads_back : ℕ → Option ℕ → Bool
leads_back at (Some c) = c == at
leads_back at None = false

-- the list that a search has found
pub record IsListed (i : Image) (list : List (List ℕ)) : Type 0 where
  pub in_order : EachPair Before list
  pub least : AllByRecursion (IsLeast i) list

pub listed : (i : Image) (all : Bool) (limit : ℕ) (list : List (List ℕ)) (done left : List Extension) → GoesOn all i limit list done left → IsListed i list
listed i true limit list was coming o = record { in_order = o.in_order; least = o.least }
listed i false limit list was coming h = record { in_order = h.searched.explored.in_order; least = h.searched.explored.least }

-- schedules of the list that lead to one configuration are at one index
one_index : (i : Image) (list : List (List ℕ)) → IsListed i list → (a b : ℕ) (s t : List ℕ) → slice_get list a ≡ Some s → slice_get list b ≡ Some t → leads_to i s ≡ leads_to i t → a ≡ b
one_index i list k a b s t at_a at_b e =
    let la = slice_get_within list a s at_a in
    let lb = slice_get_within list b t at_b in
    let same : s ≡ t = elim (before_cases s t) [
      | inl before ↦ absurd (all_at (IsLeast i) list t k.least (get_in list b t at_b) s before e)
      | inr other ↦ elim other [
        | inl is ↦ is
        | inr behind ↦ absurd (all_at (IsLeast i) list s k.least (get_in list a s at_a) t behind (sym e))
      ]
    ] in
    index_one list k.in_order a b la lb (at_index list a s [] at_a ∙ same ∙ sym (at_index list b t [] at_b))

module _ (i : Image) (limit : ℕ) (list : List (List ℕ)) (at : ℕ) (inside : at < length list) (k : IsListed i list) where
  abbrev t : List ℕ
  t = slice_index_or list at []

  at_here : slice_get list at ≡ Some t
  at_here = get_inside list at [] inside

  kept_there : (m : ℕ) → leads_to i (t ++ m ∷ []) ≡ leads_to i t → Contains (map (leads_to i) list) (leads_to i (t ++ m ∷ []))
  kept_there m e = subst (Contains (map (leads_to i) list)) (sym e) (in_map (leads_to i) list t (get_in list at t at_here))

  stays_so : (looked : Looked) (m : ℕ) (now : List (List ℕ)) → Looks i limit looked (record { from = at; item = m }) list now → StaysBy (leads_back at (index_of looked list)) i t m
  stays_so (Known c) m now h = by (c == at) refl
    where
      there : HasConfig i list c (leads_to i (t ++ m ∷ []))
      there = has_config i list c (leads_to i (t ++ m ∷ [])) h.0

      by : (b : Bool) → (c == at) ≡ b → StaysBy b i t m
      by true e =
          let same = eqb-true c at e in
          let two : Some there.schedule ≡ Some t = sym there.at ∙ ap (slice_get list) same ∙ at_here in
          let is : there.schedule ≡ t = cc in
          sym there.leads ∙ ap (leads_to i) is
      by false e = λ back.
          let same = one_index i list k c at there.schedule t there.at at_here (there.leads ∙ back) in
          both_ways (c == at) e (eq-eqb c at same)
  stays_so New m now h = by (length list == at) refl
    where
      by : (b : Bool) → (length list == at) ≡ b → StaysBy b i t m
      by true e = let same = eqb-true (length list) at e in absurd (omega (arith, same, inside))
      by false e = λ back. h.0 (kept_there m back)
  stays_so Full m now h = λ back. h.0 (kept_there m back)

-- 6. A move.

-- the turn of a move of the configuration at an index
abbrev pub turn_at_index : Search → ℕ → ℕ → Extension
turn_at_index s at k = record { schedule = schedule_at s at; item = slice_index_or s.moves.items k 0 }

module _ (i : Image) (s : Search) (at k : ℕ) (w : IsWithin i s at k) (move : k < length s.moves.items) where
  abbrev x : Extension
  x = turn_at_index s at k

  abbrev u : List ℕ
  u = schedule_at s at

  same_turn : turn_here i s.found at k ≡ x
  same_turn = λ j. record { schedule = u; item = slice_index_or (sym w.moves j) k 0 }

  is_move : k < length (moves (run (start i) u))
  is_move = subst (λ (l : List ℕ). k < length l) w.moves move

  ahead : turns_from i s.found at k ≡ x ∷ turns_from i s.found at (k + 1)
  ahead = turns_next i s.found at k is_move ∙ ap (λ (y : Extension). y ∷ turns_from i s.found at (k + 1)) same_turn

  made : turns_before i s.found at (k + 1) ≡ turns_before i s.found at k ++ x ∷ []
  made = turns_made i s.found at k is_move ∙ ap (λ (y : Extension). turns_before i s.found at k ++ y ∷ []) same_turn

  pub move_inside : Contains (moves (run (start i) u)) (slice_index_or s.moves.items k 0)
  move_inside = subst (λ l. Contains l (slice_index_or s.moves.items k 0)) w.moves (k, move, at_any s.moves.items k 0 (slice_index_or s.moves.items k 0) move)

  -- what is left by a look-up of where the move leads
  module _ (b : Configs) (f : Findings) (mid : Search) (child : Option ℕ)
      (noted : Noted i s.found (turns_before i s.found at k ++ x ∷ []) f) (ended : Ended i s.found (take at s.found) f)
      (met : Met i (record { from = at; item = slice_index_or s.moves.items k 0 }) child (record s { configs = b; findings = f }) mid) where
    more : Grown s.found mid.found
    more = grown i s.limit met.looked (record { from = at; item = slice_index_or s.moves.items k 0 }) s.found mid.found met.looks

    same_schedule : schedule_at mid at ≡ u
    same_schedule = ap (λ l. slice_index_or l at []) more.grows ∙ same_here i s.found more.more at w.inside

    same_turns : turns_before i mid.found at (k + 1) ≡ turns_before i s.found at k ++ x ∷ []
    same_turns = ap (λ l. turns_before i l at (k + 1)) more.grows ∙ before_more i s.found more.more at w.inside (k + 1) ∙ made

    same_past : take at mid.found ≡ take at s.found
    same_past = ap (take at) more.grows ∙ same_front i s.found more.more at w.inside

    longer : at < length mid.found
    longer =
        let long = ap length more.grows in
        let both = length-append s.found more.more in
        let low = w.inside in
        omega (arith, long, both, low)

    was_all : (c : Option ℕ) → all_after s.all c ≡ true → s.all ≡ true
    was_all None e = cc
    was_all (Some c) e = e

    children_now : (c : Option ℕ) → c ≡ child → all_after s.all c ≡ true → AllZip (IsChild i mid.found u) (take (k + 1) s.moves.items) (child_more s.children.items c)
    children_now None is e = cc
    children_now (Some c) is e =
        let m = slice_index_or s.moves.items k 0 in
        subst (λ l. AllZip (IsChild i mid.found u) l (s.children.items ++ c ∷ [])) (sym (take_one s.moves.items k 0 move))
        (zip_push (IsChild i mid.found u) (take k s.moves.items) s.children.items m c
        (subst (λ l. AllZip (IsChild i l u) (take k s.moves.items) s.children.items) (sym more.grows) (children_more i s.found more.more u (take k s.moves.items) s.children.items (w.children e)))
        (child_of i s.limit met.looked c u m (record { from = at; item = m }) s.found mid.found refl met.looks (is ∙ met.child)))

    -- a search that has only what the look-up left, and where the move leads
    module _ (all : Bool) (row : Vec ℕ Global) (is_all : all ≡ all_after s.all child) (is_row : row.items ≡ child_more s.children.items child) where
      abbrev there : Search
      there = record s { configs = mid.configs; found = mid.found; findings = f; all = all; children = row }

      within : IsWithin i there at (k + 1)
      within = record {
        inside = longer;
        moves = w.moves ∙ ap (λ t. moves (run (start i) t)) (sym same_schedule);
        come = record {
          image = w.come.image;
          groups = w.come.groups;
          kept = met.kept;
          room = w.come.room;
          goes = subst (λ b. GoesOn b i s.limit mid.found (turns_before i mid.found at (k + 1)) (turns_from i mid.found at (k + 1)))
              (ap (all_after s.all) (sym met.child) ∙ sym is_all)
              (comes_to i w.come.image s.limit s.found mid.found at k w.inside x (record { from = at; item = slice_index_or s.moves.items k 0 }) refl ahead made met.looked s.all w.come.goes met.looks);
          noted = subst (λ d. Noted i mid.found d f) (sym same_turns)
              (subst (λ l. Noted i l (turns_before i s.found at k ++ x ∷ []) f) (sym more.grows)
              (noted_more i s.found more.more (turns_before i s.found at k ++ x ∷ []) f noted));
          ended = subst (λ p. Ended i mid.found p f) (sym same_past)
              (subst (λ l. Ended i l (take at s.found) f) (sym more.grows) (ended_more i s.found more.more (take at s.found) f ended));
          graph = λ e. subst (λ p. IsGraph i mid.found p s.graph) (sym same_past)
              (subst (λ l. IsGraph i l (take at s.found) s.graph) (sym more.grows)
              (graph_more i s.found more.more (take at s.found) s.graph (w.come.graph (was_all child (sym is_all ∙ e)))));
        };
        children = λ e. subst (λ t. AllZip (IsChild i mid.found t) (take (k + 1) s.moves.items) row.items) (sym same_schedule)
            (subst (AllZip (IsChild i mid.found u) (take (k + 1) s.moves.items)) (sym is_row) (children_now child refl (sym is_all ∙ e)));
      }

      pub makes : (stays : Bool) → stays ≡ leads_back at child → Makes i stays s there at k
      makes stays e = record {
        within = within;
        schedule = same_schedule;
        moves = refl;
        limit = refl;
        back = subst (λ c. StaysBy c i u (slice_index_or s.moves.items k 0)) (ap (leads_back at) (sym met.child) ∙ sym e)
            (stays_so i s.limit s.found at w.inside (listed i s.all s.limit s.found (turns_before i s.found at k) (turns_from i s.found at k) w.come.goes) met.looked
            (slice_index_or s.moves.items k 0) mid.found met.looks);
      }

    -- if there was room for where it leads, and if there was none
    pub makes_child : (c : ℕ) → child ≡ Some c → (row : Vec ℕ Global) → row.items ≡ mid.children.items ++ c ∷ [] → (stays : Bool) → stays ≡ (c == at) → Makes i stays s (record mid { children = row }) at k
    makes_child c e row items stays is =
        let rest = met.rest in
        subst (λ (z : Search). Makes i stays s (record z { children = row }) at k) (sym rest)
        (makes s.all row (ap (all_after s.all) (sym e))
        (items ∙ ap (λ (z : Search). z.children.items ++ c ∷ []) rest ∙ ap (child_more s.children.items) (sym e)) stays (is ∙ ap (leads_back at) (sym e)))

    pub makes_none : child ≡ None → Makes i false s (record mid { all = false }) at k
    makes_none e =
        let rest = met.rest in
        subst (λ (z : Search). Makes i false s (record z { all = false }) at k) (sym rest)
        (makes false s.children (ap (all_after s.all) (sym e)) (ap (child_more s.children.items) (sym e)) false (ap (leads_back at) (sym e)))

-- the ends that were noted stay noted
pub ended_as : (i : Image) (list past : List (List ℕ)) (f g : Findings) → ((ends : List End) → AreNoted i list ends f → AreNoted i list ends g) → Ended i list past f → Ended i list past g
ended_as i list past f g h e = record { finals = e.finals; are = e.are; ends = e.ends; of = e.of; noted = h e.ends e.noted }

pub take_few : {X : Type 0} (n : ℕ) (xs : List X) → length (take n xs) ≤ length xs
take_few zero xs = omega arith
take_few (suc n) [] = omega arith
take_few (suc n) (x ∷ xs) = let rest = take_few n xs in omega (arith, rest)

-- there are no more ends than schedules that were gone through
pub ended_few : (i : Image) (list past : List (List ℕ)) (f : Findings) (e : Ended i list past f) → length e.ends ≤ length past
ended_few i list past f e =
    let few = selects_few (IsFinal i) past e.finals e.are in
    let same = ap length e.of.schedules in
    let long = length-map e.ends (λ (x : End). x.schedule) in
    omega (arith, few, same, long)
  where
    selects_few : (P : List ℕ → Type 0) (ts some : List (List ℕ)) → Selects P ts some → length some ≤ length ts
    selects_few P [] some h = let e = ap length h in omega (arith, e)
    selects_few P (t ∷ ts) some (inl h) = let e = ap length h.1.1 in let rest = selects_few P ts h.1.0 h.1.2 in omega (arith, e, rest)
    selects_few P (t ∷ ts) some (inr h) = let rest = selects_few P ts some h.1 in omega (arith, rest)

-- one final schedule more was noted
pub ended_one : (i : Image) (list past : List (List ℕ)) (t : List ℕ) (o : Outcome) (f g : Findings) (e : Ended i list past f) → IsFinal i t → IsOutcome i t o
    → AreNoted i list (e.ends ++ (record { schedule = t; outcome = o }) ∷ []) g → Ended i list (past ++ t ∷ []) g
ended_one i list past t o f g e final is noted = record {
  finals = e.finals ++ t ∷ [];
  are = select_more (IsFinal i) past e.finals t final e.are;
  ends = e.ends ++ (record { schedule = t; outcome = o }) ∷ [];
  of = record {
    schedules = map_push (λ (x : End). x.schedule) e.ends (record { schedule = t; outcome = o }) ∙ ap (λ l. l ++ t ∷ []) e.of.schedules;
    outcomes = each_push (λ (x : End). IsOutcome i x.schedule x.outcome) e.ends (record { schedule = t; outcome = o }) e.of.outcomes is;
  };
  noted = noted;
}

-- an item that is read is that of its index
pub item_is : (xs : List ℕ) (k x : ℕ) → k < length xs → x ≡ slice_index_or xs k x → x ≡ slice_index_or xs k 0
item_is xs k x lt e = e ∙ at_any xs k 0 x lt

-- 7. All moves of a node.

pub stay_more : (i : Image) (t : List ℕ) (ms : List ℕ) (m : ℕ) (stay stays : Bool) → Contains (moves (run (start i) t))
    m → AllStay stay i t ms → StaysBy stays i t m → AllStay (stay && stays) i t (ms ++ m ∷ [])
stay_more i t ms m true true move h k = each_push (λ n. leads_to i (t ++ n ∷ []) ≡ leads_to i t) ms m h k
stay_more i t ms m true false move h k = λ final. k (final m move)
stay_more i t ms m false stays move h k = h

pub final_so : (i : Image) (t : List ℕ) (ms : List ℕ) → ms ≡ moves (run (start i) t) → AllStay true i t ms → IsFinal i t
final_so i t ms e h m inside = all_at (λ n. leads_to i (t ++ n ∷ []) ≡ leads_to i t) ms m h (subst (λ l. Contains l m) (sym e) inside)

module _ (i : Image) (s : Search) (at : ℕ) (w : IsWithin i s at (length s.moves.items)) where
  abbrev own : List Extension
  own = extensions i (schedule_at s at)

  own_long : length own ≡ length s.moves.items
  own_long =
      let m : ℕ → Extension = λ n. record { schedule = schedule_at s at; item = n } in
      length-map (moves (run (start i) (schedule_at s at))) m ∙ ap length (sym w.moves)

  pub past_more : take at s.found ++ schedule_at s at ∷ [] ≡ take (at + 1) s.found
  past_more = sym (take_one s.found at [] w.inside)

  turns_all : turns_before i s.found at (length s.moves.items) ≡ flat_map (extensions i) (take (at + 1) s.found)
  turns_all =
      ap (λ l. flat_map (extensions i) (take at s.found) ++ l) (take_whole own (length s.moves.items) own_long)
      ∙ sym (flat_push (extensions i) (take at s.found) (schedule_at s at)) ∙ ap (flat_map (extensions i)) past_more

  none_left : turns_from i s.found at (length s.moves.items) ≡ flat_map (extensions i) (drop (at + 1) s.found)
  none_left = ap (λ l. l ++ flat_map (extensions i) (drop (at + 1) s.found)) (drop_whole own (length s.moves.items) own_long)

  -- the graph, with the children of the configuration
  graph_made : s.all ≡ true → IsGraph i s.found (take at s.found ++ schedule_at s at ∷ []) (s.graph ++ s.children.items ∷ [])
  graph_made e =
      zip_push (λ t row. AllZip (IsChild i s.found t) (moves (run (start i) t)) row) (take at s.found) s.graph (schedule_at s at) s.children.items (w.come.graph e)
      (subst (λ ms. AllZip (IsChild i s.found (schedule_at s at)) ms s.children.items) (take_whole s.moves.items (length s.moves.items) refl ∙ w.moves) (w.children e))

  -- the next configuration
  pub all_made : (now : Search) (g : List (List ℕ)) → IsNotedIfFinal i s now at → now ≡ record s { configs = now.configs; findings = now.findings }
      → (now.all ≡ true → g ≡ now.graph ++ now.children.items ∷ []) → IsBefore i (record now { graph = g }) (at + 1)
  all_made now g h rest is = subst (λ (z : Search). IsBefore i (record z { graph = g }) (at + 1)) (sym rest) (record {
    image = w.come.image;
    groups = w.come.groups;
    kept = h.kept;
    room = w.come.room;
    goes = subst (λ l. GoesOn s.all i s.limit s.found l (flat_map (extensions i) (drop (at + 1) s.found))) turns_all
        (subst (GoesOn s.all i s.limit s.found (turns_before i s.found at (length s.moves.items))) none_left w.come.goes);
    noted = subst (λ l. Noted i s.found l now.findings) turns_all h.noted;
    ended = h.ended;
    graph = λ e.
        let same = is (ap (λ (z : Search). z.all) rest ∙ e) ∙ ap (λ (z : Search). z.graph ++ z.children.items ∷ []) rest in
        subst (λ l. IsGraph i s.found l g) past_more (subst (IsGraph i s.found (take at s.found ++ schedule_at s at ∷ [])) (sym same) (graph_made e));
  })

  -- the configuration is noted as an end, or is none
  pub noted_final : (now : Search) (o : Outcome) → HasKept i s.found now.configs → Noted i s.found (turns_before i s.found at (length s.moves.items)) now.findings
      → IsFinal i (schedule_at s at) → IsOutcome i (schedule_at s at) o
      → AreNoted i s.found (w.come.ended.ends ++ (record { schedule = schedule_at s at; outcome = o }) ∷ []) now.findings → IsNotedIfFinal i s now at
  noted_final now o kept noted final is ends = record {
    kept = kept;
    noted = noted;
    ended = subst (λ l. Ended i s.found l now.findings) past_more
        (ended_one i s.found (take at s.found) (schedule_at s at) o s.findings now.findings w.come.ended final is ends);
  }

  pub not_final : (IsFinal i (schedule_at s at) → ⊥) → IsNotedIfFinal i s s at
  not_final none = record {
    kept = w.come.kept;
    noted = w.come.noted;
    ended = subst (λ l. Ended i s.found l s.findings) past_more (ended_skip i s.found (take at s.found) (schedule_at s at) s.findings w.come.ended none);
  }

  -- there is room for one end more
  pub ends_room : length w.come.ended.ends < 2 ^ 32
  ends_room =
      let few = ended_few i s.found (take at s.found) s.findings w.come.ended in
      let past = take_few at s.found in
      let all = list_few i s.all s.limit s.found (turns_before i s.found at (length s.moves.items)) (turns_from i s.found at (length s.moves.items)) w.come.goes in
      let room = w.come.room in
      omega (arith, few, past, all, room)

-- 8. The start and the end.

-- no move of a configuration is made yet
pub none_made : (i : Image) (s now : Search) (at : ℕ) → IsBefore i s at → at < length s.found → HasKept i s.found now.configs
    → now ≡ record s { configs = now.configs; moves = now.moves; children = now.children } → now.moves.items ≡ moves (run (start i) (schedule_at s at)) → now.children.items ≡ []
    → IsWithin i now at 0
none_made i s now at b inside kept rest is none = subst (λ (z : Search). IsWithin i z at 0) (sym rest) (record {
  inside = inside;
  moves = is;
  come = record {
    image = b.image;
    groups = b.groups;
    kept = kept;
    room = b.room;
    goes = subst (λ l. GoesOn s.all i s.limit s.found l (turns_from i s.found at 0)) (sym (append-nil (flat_map (extensions i) (take at s.found))))
        (subst (GoesOn s.all i s.limit s.found (flat_map (extensions i) (take at s.found)))
        (ap (flat_map (extensions i)) (drop_one s.found at [] inside)) b.goes);
    noted = subst (λ l. Noted i s.found l s.findings) (sym (append-nil (flat_map (extensions i) (take at s.found)))) b.noted;
    ended = b.ended;
    graph = b.graph;
  };
  children = λ e. subst (AllZip (IsChild i s.found (schedule_at s at)) []) (sym none) tt;
})

-- no end was noted
pub ended_begins : (i : Image) (list : List (List ℕ)) (f : Findings) → AreNoted i list [] f → Ended i list [] f
ended_begins i list f h = record { finals = []; are = refl; ends = []; of = record { schedules = refl; outcomes = tt }; noted = h }

pub begins : (i : Image) (img : IsImage i) (limit : ℕ) → 1 ≤ limit → limit ≤ state_limit
    → (s : Search) → s.found ≡ [] ∷ [] → s.limit ≡ limit → s.all ≡ true
    → s.groups.items ≡ groups_of (start i).core → HasKept i ([] ∷ []) s.configs → ((list : List (List ℕ)) → Noted i list [] s.findings)
    → ((list : List (List ℕ)) → Ended i list [] s.findings) → s.graph ≡ [] → IsBefore i s 0
unfolding explored_turns
begins i img limit room few s found is all groups kept noted ended graph = record {
  image = img;
  groups = groups;
  kept = subst (λ l. HasKept i l s.configs) (sym found) kept;
  room = omega (arith, is, few);
  goes = subst (λ n. GoesOn s.all i n s.found (flat_map (extensions i) (take 0 s.found)) (flat_map (extensions i) (drop 0 s.found))) (sym is)
      (subst (λ l. GoesOn s.all i limit l (flat_map (extensions i) (take 0 l)) (flat_map (extensions i) (drop 0 l))) (sym found)
      (subst (λ b. GoesOn b i limit ([] ∷ []) [] (explored_turns i ([] ∷ []))) (sym all) (search_begins i img limit room)));
  noted = noted s.found;
  ended = ended s.found;
  graph = λ e. subst (IsGraph i s.found []) (sym graph) tt;
}

module _ (i : Image) (img : IsImage i) (s : Search) (h : HasCome i s (explored_turns i s.found) [] s.found) where
  ends : (all : Bool) → GoesOn all i s.limit s.found (explored_turns i s.found) []
      → IsExplored i s.limit s.found × (all ≡ true → IsAll i s.found) × (all ≡ false → IsAll i s.found → ⊥)
  ends true o = let k = search_ends i img s.limit s.found (explored_turns i s.found) o in (k.explored, λ e. k.answer, λ e. cc)
  ends false o = (o.searched.explored, λ e. cc, λ e. o.searched.answer)

  pub searched : IsExplored i s.limit s.found × (s.all ≡ true → IsAll i s.found) × (s.all ≡ false → IsAll i s.found → ⊥)
  searched = ends s.all h.goes

-- 9. The machine with its configurations.

module _ (i : Image) (list : List (List ℕ)) where
  -- an index of the list is that of a configuration
  pub can_put : (c : Configs) → HasKept i list c → (at : ℕ) → at < length list → (j : Image) × (v : ConfigsValue) × Stands j v c × (at < length v.kept)
  can_put c h at inside = let long = length-map list (leads_to i) in (i, with_configs i list h.machine, h.stands, omega (arith, long, inside))

  pub is_put : (c : Configs) (at : ℕ) → at < length list → (s : State) × (slice_get (map (leads_to i) list) at ≡ Some s) × Stands i (with_configs i list s) c → IsAt i list (slice_index_or list at []) c
  is_put c at inside h =
      let long = length-map list (leads_to i) in
      let t = slice_index_or list at [] in
      let two : Some h.0 ≡ Some (leads_to i t) =
      sym h.1 ∙ get_inside (map (leads_to i) list) at (leads_to i t) (omega (arith, long, inside)) ∙ ap (λ (x : State). Some x) (map_at (leads_to i) list at [] (leads_to i t) inside) in
      let one : h.0 ≡ leads_to i t = cc in
      subst (λ s. Stands i (with_configs i list s) c) one h.2

  -- two indices are
  pub can_differ : (c : Configs) → HasKept i list c → (a b : ℕ) → a < length list → b < length list
      → (j : Image) × (v : ConfigsValue) × Stands j v c × (a < length v.kept) × (b < length v.kept)
  can_differ c h a b low inside = let long = length-map list (leads_to i) in (i, with_configs i list h.machine, h.stands, omega (arith, long, low), omega (arith, long, inside))

  -- where the slots of two configurations differ
  pub are_apart : IsImage i → (a b : ℕ) → a < length list → b < length list → (machine : State) (mask : ℕ)
      → AreApart (flags (length i.slots) mask) (slots_of (slice_index_or (map (leads_to i) list) a machine).core) (slots_of (slice_index_or (map (leads_to i) list) b machine).core)
      → let t = slice_index_or list a [] in AreApart (flags (length (slots_at i t)) mask) (slots_at i t) (slots_at i (slice_index_or list b []))
  are_apart img a b low inside machine mask h =
      let t = slice_index_or list a [] in
      let u = slice_index_or list b [] in
      subst (λ n. AreApart (flags n mask) (slots_at i t) (slots_at i u)) (sym (slots_count i img t))
      (subst (λ (x : State). AreApart (flags (length i.slots) mask) (slots_of x.core) (slots_at i u)) (map_at (leads_to i) list a [] machine low)
      (subst (λ (x : State). AreApart (flags (length i.slots) mask) (slots_of (slice_index_or (map (leads_to i) list) a machine).core) (slots_of x.core)) (map_at (leads_to i) list b [] machine inside) h))

  pub is_kept : (t : List ℕ) (c : Configs) → IsAt i list t c → HasKept i list c
  is_kept t c h = record { machine = leads_to i t; stands = h }

-- a turn from a configuration is that after its schedule
configuration_again : (s : State) → configuration (configuration s) ≡ configuration s
unfolding configuration
configuration_again s = ap (λ (core : Core). let u : State = record { core = core; memory = s.memory; cycles = 0 } in u) (uncounted_again s.core)

module _ (i : Image) (t : List ℕ) (item : ℕ) where
  alike : GoesOnAlike (leads_to i t) (run (start i) t) item
  alike = (configurations_go_on (leads_to i t) (run (start i) t) (configuration_again (run (start i) t))).each item

  pub turn_leads : (c : Configs) (list : List (List ℕ)) → Stands i (with_configs i list (configuration (after (leads_to i t) item))) c → IsAt i list (t ++ item ∷ []) c
  turn_leads c list h = subst (λ s. Stands i (with_configs i list s) c) (alike.leads ∙ sym (leads_more i t item)) h

  pub turn_made : (m : Made) → m.step ≡ (turn_of (leads_to i t) item).step → m.group ≡ group_of (slot_at (configuration (after (leads_to i t) item)).core m.step.slot) → IsMade i t item m
  unfolding configuration after
  turn_made m step group = record {
    step = step ∙ alike.step;
    group = group ∙ ap (λ (n : ℕ). group_of (slot_at (uncounted (turn_of (leads_to i t) item).core) n)) (ap (λ (x : Step). x.slot) step) ∙ group_bare (turn_of (leads_to i t) item) ∙ alike.group;
  }

-- what keeping leaves of a search
module _ (i : Image) (s : Search) (o : Origin) (at : IsAt i s.found (led_by s.found o) s.configs) where
  abbrev was : ConfigsValue
  was = with_configs i s.found (leads_to i (led_by s.found o))

  pub met_known : (c : Configs) (k : ℕ) (now : ConfigsValue) → Stands i now c → Keeps s.limit (Known k) was now → Met i o (Some k) s (record s { configs = c })
  met_known c k now stands h = record {
    looked = Known k;
    looks = (h.0, refl);
    kept = record { machine = leads_to i (led_by s.found o); stands = subst (λ v. Stands i v c) h.1 stands };
    child = refl;
    rest = refl;
  }

  pub met_full : (c : Configs) (now : ConfigsValue) → Stands i now c → Keeps s.limit Full was now → Met i o None s (record s { configs = c })
  met_full c now stands h = record {
    looked = Full;
    looks = let long = length-map s.found (leads_to i) in let few = h.1 in (h.0, omega (arith, long, few), refl);
    kept = record { machine = leads_to i (led_by s.found o); stands = subst (λ v. Stands i v c) h.2 stands };
    child = refl;
    rest = refl;
  }

  pub met_new : (c : Configs) (now : ConfigsValue) (found : List (List ℕ)) (k : ℕ) → Stands i now c → Keeps s.limit New was now → found ≡ s.found ++ led_by s.found o ∷ [] → k ≡ length s.found
      → Met i o (Some k) s (record s { configs = c; found = found })
  met_new c now found k stands h is at_end = record {
    looked = New;
    looks = let long = length-map s.found (leads_to i) in let few = h.1 in (h.0, omega (arith, long, few), is);
    kept = record {
      machine = leads_to i (led_by s.found o);
      stands = subst (λ v. Stands i v c)
          (h.2 ∙ ap (λ l. let v : ConfigsValue = record { kept = l; machine = leads_to i (led_by s.found o) } in v) (sym (map_push (leads_to i) s.found (led_by s.found o)) ∙ ap (map (leads_to i)) (sym is))) stands;
    };
    child = ap (λ (n : ℕ). Some n) at_end;
    rest = refl;
  }
