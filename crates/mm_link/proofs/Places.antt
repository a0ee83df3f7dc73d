-- A map from names to places as the list of sites.
use Rattle.std.proofs.Common.{◌≡◌, ℕ, zero, suc, ◌+◌, ◌^◌, ◌<◌, Bool, true, false, cond, if◌then◌else◌, List, [], ◌∷◌}
use Rattle.std.proofs.Common.{◌++◌, length, get_or, drop, take, map, Some, None, refl, sym, ap, ◌∙◌, arith}
use Rattle.std.proofs.Common.{append_assoc, lit<}
use Rattle.std.specs.{Option.option_map, List.{AllByRecursion, IsDistinct}, Str.bytes_eq, Map.lookup}
use Rattle.mm_model.proofs.Bytes.SpelledSlots.{all_at}
use Rattle.indexmap.specs.IndexMap.{insert_entry}
use denote.Ref.{Bor}
use Rattle.mm_link.specs.declared.sites.Placement.{Placement}
use Rattle.mm_link.specs.Placing.{Part, Site, site_in, site_named, site_or_none, sites_from}
use Rattle.mm_link.specs.Steps.{entries_of, place_of, FitsSite, part_names, same_part}
use Rattle.mm_link.proofs.{Again.same_turned, Lists.rest_at}

abbrev pub Entries : Type 0
Entries = List (Bor (List ℕ) × Placement)

abbrev site_of : Bor (List ℕ) × Placement → Site
site_of e = record { name = e.0.now; log = e.1.log; base = e.1.base }

-- what the map has under a name is where its segment stands
pub found : (es : Entries) (name : List ℕ) → lookup (λ y. bytes_eq name y.now) es ≡ option_map place_of (site_in (entries_of es) name)
found [] name = refl
found (e ∷ es) name = by (bytes_eq name e.0.now) (found es name)
  where
    by : (b : Bool) → lookup (λ y. bytes_eq name y.now) es ≡ option_map place_of (site_in (entries_of es) name)
        → cond b (Some e.1) (lookup (λ y. bytes_eq name y.now) es) ≡ option_map place_of (if b then Some (site_of e) else site_in (entries_of es) name)
    by true rest = refl
    by false rest = rest

-- a new name goes last
pub inserted : (es : Entries) (k : Bor (List ℕ)) (v : Placement) → site_in (entries_of es) k.now ≡ None
    → entries_of (insert_entry (λ x y. bytes_eq x.now y.now) es k v) ≡ entries_of es ++ site_of (k, v) ∷ []
inserted [] k v h = refl
inserted (e ∷ es) k v h = by (bytes_eq k.now e.0.now) h (inserted es k v)
  where
    by : (b : Bool) → (if b then Some (site_of e) else site_in (entries_of es) k.now) ≡ None
        → (site_in (entries_of es) k.now ≡ None → entries_of (insert_entry (λ x y. bytes_eq x.now y.now) es k v) ≡ entries_of es ++ site_of (k, v) ∷ [])
        → entries_of (if b then (e.0, v) ∷ es else e ∷ insert_entry (λ x y. bytes_eq x.now y.now) es k v) ≡ site_of e ∷ (entries_of es ++ site_of (k, v) ∷ [])
    by true n rest = absurd (let impossible : Some (site_of e) ≡ None = n in cc)
    by false n rest = ap (λ r. site_of e ∷ r) (rest n)

pub fits_push : (sites : List Site) (s : Site) → AllByRecursion FitsSite sites → FitsSite s → AllByRecursion FitsSite (sites ++ s ∷ [])
fits_push [] s all here = (here, tt)
fits_push (x ∷ sites) s all here = (all.0, fits_push sites s all.1 here)

none_fits : FitsSite (site_or_none None)
none_fits = record { length_fits = omega arith; base_fits = lit< tt }

pub named_fits : (sites : List Site) (name : List ℕ) → AllByRecursion FitsSite sites → FitsSite (site_named sites name)
named_fits [] name all = none_fits
named_fits (s ∷ sites) name all = by (bytes_eq name s.name) (named_fits sites name all.1)
  where
    by : (b : Bool) → FitsSite (site_or_none (site_in sites name)) → FitsSite (site_or_none (if b then Some s else site_in sites name))
    by true rest = all.0
    by false rest = rest

-- 2. One segment after another.

abbrev pub site_names : List Site → List (List ℕ)
site_names sites = map (λ (s : Site). s.name) sites

-- a name that no site has
absent : (sites : List Site) (name : List ℕ) → AllByRecursion (λ (s : Site). bytes_eq name s.name ≡ false) sites → site_in sites name ≡ None
absent [] name h = refl
absent (s ∷ sites) name h = ap (λ b. if b then Some s else site_in sites name) h.0 ∙ absent sites name h.1

earlier : (parts : List Part) (i : ℕ) (p : Part) → IsDistinct same_part parts → i < length parts → p ≡ get_or parts i p
    → AllByRecursion (λ (q : Part). bytes_eq p.segment.name q.segment.name ≡ false) (take i parts)
unfolding IsDistinct
earlier [] i p apart lt is = absurd (omega arith)
earlier (q ∷ parts) zero p apart lt is = tt
earlier (q ∷ parts) (suc i) p apart lt is =
    let at : same_part q (get_or parts i p) ≡ false = all_at (λ (r : Part). same_part q r ≡ false) parts apart.0 i p (omega arith) in
    (same_turned p.segment.name q.segment.name ∙ ap (λ (r : Part). same_part q r) is ∙ at, earlier parts i p apart.1 (omega arith) is)

-- the name of a segment is none of those before it
pub not_yet : (parts : List Part) (i : ℕ) (p : Part) (sites : List Site) → IsDistinct same_part parts → i < length parts → p ≡ get_or parts i p
    → site_names sites ≡ part_names (take i parts) → site_in sites p.segment.name ≡ None
not_yet parts i p sites apart lt is names = absent sites p.segment.name (others sites (take i parts) names (earlier parts i p apart lt is))
  where
    others : (sites : List Site) (parts : List Part) → site_names sites ≡ part_names parts
        → AllByRecursion (λ (q : Part). bytes_eq p.segment.name q.segment.name ≡ false) parts → AllByRecursion (λ (s : Site). bytes_eq p.segment.name s.name ≡ false) sites
    others [] parts e h = tt
    others (s ∷ sites) [] e h = absurd cc
    others (s ∷ sites) (q ∷ parts) e h =
        let head : s.name ≡ q.segment.name = cc in
        let tail : site_names sites ≡ part_names parts = cc in
        (ap (bytes_eq p.segment.name) head ∙ h.0, others sites parts tail h.1)

pub names_more : (sites new : List Site) (s : Site) (parts : List Part) (i : ℕ) (p : Part) → i < length parts → p ≡ get_or parts i p
    → site_names sites ≡ part_names (take i parts) → new ≡ sites ++ s ∷ [] → s.name ≡ p.segment.name
    → site_names new ≡ part_names (take (i + 1) parts)
names_more sites new s parts i p lt is so_far now name = ap site_names now ∙ pushed sites ∙ ap (λ names. names ++ s.name ∷ []) so_far
    ∙ ap (λ n. part_names (take i parts) ++ n ∷ []) name ∙ sym (taken parts i p lt is)
  where
    pushed : (sites : List Site) → site_names (sites ++ s ∷ []) ≡ site_names sites ++ s.name ∷ []
    pushed [] = refl
    pushed (x ∷ sites) = ap (λ names. x.name ∷ names) (pushed sites)

    taken : (parts : List Part) (i : ℕ) (p : Part) → i < length parts → p ≡ get_or parts i p → part_names (take (i + 1) parts) ≡ part_names (take i parts) ++ p.segment.name ∷ []
    taken [] i p lt is = absurd (omega arith)
    taken (q ∷ parts) zero p lt is = ap (λ (r : Part). r.segment.name ∷ []) (sym is)
    taken (q ∷ parts) (suc i) p lt is =
        let next : suc i + 1 ≡ suc (i + 1) = omega arith in
        ap (λ n. part_names (take n (q ∷ parts))) next ∙ ap (λ names. q.segment.name ∷ names) (taken parts i p (omega arith) is)

-- one segment more
pub placed_more : (sites new all : List Site) (parts : List Part) (i at : ℕ) (p : Part) → i < length parts → p ≡ get_or parts i p → sites ++ sites_from at (drop i parts) ≡ all
    → new ≡ sites ++ record { name = p.segment.name; log = p.segment.log; base = at } ∷ [] → new ++ sites_from (at + 2 ^ p.segment.log) (drop (i + 1) parts) ≡ all
placed_more sites new all parts i at p lt is so_far now =
    ap (λ ss. ss ++ sites_from (at + 2 ^ p.segment.log) (drop (i + 1) parts)) now
    ∙ append_assoc sites (record { name = p.segment.name; log = p.segment.log; base = at } ∷ []) (sites_from (at + 2 ^ p.segment.log) (drop (i + 1) parts))
    ∙ ap (λ ps. sites ++ sites_from at ps) (sym (rest_at parts i p lt is)) ∙ so_far

-- the same, by what the code reads
pub placed_next : (sites new all : List Site) (parts : List Part) (i at : ℕ) (p : Part) (name : List ℕ) (log size : ℕ) → i < length parts → p ≡ get_or parts i p
    → sites ++ sites_from at (drop i parts) ≡ all → name ≡ p.segment.name → log ≡ p.segment.log
    → size ≡ 2 ^ p.segment.log → new ≡ sites ++ record { name = name; log = log; base = at } ∷ [] → new ++ sites_from (at + size) (drop (i + 1) parts) ≡ all
placed_next sites new all parts i at p name log size lt is so_far named logged sized now =
    ap (λ n. new ++ sites_from (at + n) (drop (i + 1) parts)) sized
    ∙ placed_more sites new all parts i at p lt is so_far (now ∙ ap (λ n. let s : Site = record { name = n; log = log; base = at } in sites ++ s ∷ []) named
    ∙ ap (λ n. let s : Site = record { name = p.segment.name; log = n; base = at } in sites ++ s ∷ []) logged)
