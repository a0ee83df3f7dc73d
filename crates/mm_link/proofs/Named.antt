-- Segments without two of one name: the site of a name is that of the segment that has it.
use Rattle.std.proofs.Common.{◌≡◌, ℕ, ◌+◌, ◌^◌, ◌≤◌, Bool, true, false, List, [], ◌∷◌, ◌++◌, map, sum_by, Some, None}
use Rattle.std.proofs.Common.{refl, sym, ap, ◌∙◌, subst, inl, inr, arith, zero-add, bytes_eq}
use Rattle.std.proofs.lemmas.{Bool.{or_left, or_right}, List.{Sorted.sum_by-IsPermutation, Sums.sum_by-cons}}
use Rattle.std.{proofs.lemmas.Slice.Eq.bytes_eq-Decides, specs.{Prelude.if◌then◌else◌, List.AllByRecursion}}
use Rattle.mm_model.specs.Flags.{one_if}
use Rattle.mm_object.{specs.Objects.{Object, IsObject, is_among}, proofs.Members.{In, in_either}}
use Rattle.mm_link.specs.declared.fault.LinkFault.TheVariants.{Twice}
use Rattle.mm_link.specs.Placing.{Part, Site, parts_of, by_length, sites_from, site_in, bytes_of}
use Rattle.mm_link.{specs.Faults.{names_of, first_again}, proofs.{Parts.{are_parts, placed}, Clean.{IsClean, unmapped}}}

-- 1. Each name once.

-- how many of these names are this one
abbrev pub times : List ℕ → List (List ℕ) → ℕ
times name [] = 0
times name (x ∷ names) = one_if (bytes_eq name x) + times name names

-- names of which none is among those before it: each stands once, and none that stands before
abbrev pub StandsOnce : List ℕ → List (List ℕ) → List (List ℕ) → Type 0
StandsOnce name before names = (times name names ≤ 1) × (is_among name before ≡ true → times name names ≡ 0)

names_once : (before names : List (List ℕ)) (name : List ℕ) → first_again before names ≡ None → StandsOnce name before names
names_once before [] name none = (omega arith, λ is. refl)
names_once before (x ∷ names) name none = by (is_among x before) refl none (λ h. names_once (x ∷ before) names name h) (bytes_eq name x) refl
  where
    by : (b : Bool) → is_among x before ≡ b → (if b then Some x else first_again (x ∷ before) names) ≡ None
        → (first_again (x ∷ before) names ≡ None → StandsOnce name (x ∷ before) names) → (c : Bool) → bytes_eq name x ≡ c
        → (one_if c + times name names ≤ 1) × (is_among name before ≡ true → one_if c + times name names ≡ 0)
    by true e none later c f = absurd cc
    by false e none later true f =
        let gone = (later none).1 (or_left (bytes_eq name x) (is_among name before) f) in
        let is : name ≡ x = (bytes_eq-Decides name x).0 f in
        (omega arith, λ among. absurd (cc (ap (λ y. is_among y before) is, among, e)))
    by false e none later false f =
        let rest = later none in
        (omega (arith, rest.0), λ among. zero-add (times name names) ∙ rest.1 (or_right (bytes_eq name x) (is_among name before) among))

-- how many parts have this name
abbrev pub named : List ℕ → List Part → ℕ
named name [] = 0
named name (p ∷ parts) = one_if (bytes_eq name p.segment.name) + named name parts

named_times : (name : List ℕ) (parts : List Part) → named name parts ≡ times name (map (λ (p : Part). p.segment.name) parts)
named_times name [] = refl
named_times name (p ∷ parts) = ap (λ n. one_if (bytes_eq name p.segment.name) + n) (named_times name parts)

named_sum : (name : List ℕ) (parts : List Part) → named name parts ≡ sum_by (λ (p : Part). one_if (bytes_eq name p.segment.name)) parts
named_sum name [] = refl
named_sum name (p ∷ parts) = ap (λ n. one_if (bytes_eq name p.segment.name) + n) (named_sum name parts) ∙ sym (sum_by-cons (λ (x : Part). one_if (bytes_eq name x.segment.name)) p parts)

pub named_more : (name : List ℕ) (xs ys : List Part) → named name (xs ++ ys) ≡ named name xs + named name ys
named_more name [] ys = omega arith
named_more name (p ∷ xs) ys = let e = named_more name xs ys in omega arith

pub named_in : (name : List ℕ) (p : Part) (parts : List Part) → In p parts → bytes_eq name p.segment.name ≡ true → 1 ≤ named name parts
named_in name p [] h e = absurd h
named_in name p (x ∷ parts) (inl is) e = let one : one_if (bytes_eq name x.segment.name) ≡ 1 = ap one_if (ap (λ (y : Part). bytes_eq name y.segment.name) (sym is) ∙ e) in omega arith
named_in name p (x ∷ parts) (inr h) e = let more = named_in name p parts h e in omega arith

-- no name is two segments'
pub once_named : (objects : List Object) → AllByRecursion IsObject objects → IsClean objects → (name : List ℕ) → named name (by_length (parts_of objects)) ≤ 1
once_named objects are clean name =
    let parts = parts_of objects in
    let once = (names_once [] (names_of objects) name (unmapped Twice (first_again [] (names_of objects)) clean.names)).0 in
    let shuffled = sum_by-IsPermutation (λ (p : Part). one_if (bytes_eq name p.segment.name)) parts (by_length parts) (placed parts (are_parts objects are)) in
    let same = named_sum name (by_length parts) ∙ shuffled ∙ sym (named_sum name parts) ∙ named_times name parts in
    omega arith

-- 2. The site of a name.

-- the parts before and behind the one that has a name, and its site
pub record Splits (at : ℕ) (parts : List Part) (name : List ℕ) (s : Site) : Type 0 where
  pub before : List Part
  pub part : Part
  pub after : List Part
  pub whole : parts ≡ before ++ part ∷ after
  pub same : bytes_eq name part.segment.name ≡ true
  pub base : s.base ≡ at + bytes_of before

pub splits : (at : ℕ) (parts : List Part) (name : List ℕ) (s : Site) → site_in (sites_from at parts) name ≡ Some s → Splits at parts name s
splits at [] name s e = absurd cc
splits at (p ∷ parts) name s e = by (bytes_eq name p.segment.name) refl e (splits (at + 2 ^ p.segment.log) parts name s)
  where
    by : (b : Bool) → bytes_eq name p.segment.name ≡ b
        → (if b then Some (record { name = p.segment.name; log = p.segment.log; base = at }) else site_in (sites_from (at + 2 ^ p.segment.log) parts) name) ≡ Some s
        → (site_in (sites_from (at + 2 ^ p.segment.log) parts) name ≡ Some s → Splits (at + 2 ^ p.segment.log) parts name s) → Splits at (p ∷ parts) name s
    by true f e later =
        let here : record { name = p.segment.name; log = p.segment.log; base = at } ≡ s = cc in
        record { before = []; part = p; after = parts; whole = refl; same = f; base = sym (ap (λ (x : Site). x.base) here) ∙ omega arith }
    by false f e later =
        let r = later e in
        record { before = p ∷ r.before; part = r.part; after = r.after; whole = ap (λ ys. p ∷ ys) r.whole; same = r.same; base = r.base ∙ omega arith }

-- where the name is only one part's, that is the part that was split off
pub is_split : (parts before after : List Part) (p q : Part) → parts ≡ before ++ q ∷ after → (name : List ℕ) → named name parts ≤ 1 → bytes_eq name q.segment.name ≡ true
    → In p parts → bytes_eq name p.segment.name ≡ true → p ≡ q
is_split parts before after p q whole name few is among same =
    let count : named name parts ≡ named name before + named name (q ∷ after) = ap (named name) whole ∙ named_more name before (q ∷ after) in
    let one : one_if (bytes_eq name q.segment.name) ≡ 1 = ap one_if is in
    elim (in_either p before (q ∷ after) (subst (In p) whole among)) [
      | inl early ↦ let more = named_in name p before early same in absurd (omega arith)
      | inr (inl here) ↦ here
      | inr (inr late) ↦ let more = named_in name p after late same in absurd (omega arith)
    ]

-- the site that the name of a part is found at
pub found_site : (at : ℕ) (before after : List Part) (p : Part) → named p.segment.name before ≡ 0
    → site_in (sites_from at (before ++ p ∷ after)) p.segment.name ≡ Some (record { name = p.segment.name; log = p.segment.log; base = at + bytes_of before })
found_site at [] after p none =
    let itself : bytes_eq p.segment.name p.segment.name ≡ true = (bytes_eq-Decides p.segment.name p.segment.name).1 refl in
    let start : at ≡ at + 0 = omega arith in
    let here : Site = record { name = p.segment.name; log = p.segment.log; base = at } in
    let rest = site_in (sites_from (at + 2 ^ p.segment.log) after) p.segment.name in
    let found : (if bytes_eq p.segment.name p.segment.name then Some here else rest) ≡ Some here = ap (λ b. if b then Some here else rest) itself in
    found ∙ ap (λ n. Some (record { name = p.segment.name; log = p.segment.log; base = n })) start
found_site at (x ∷ before) after p none =
    let name = p.segment.name in
    let next = at + 2 ^ x.segment.log in
    let first : Site = record { name = x.segment.name; log = x.segment.log; base = at } in
    let rest = site_in (sites_from next (before ++ p ∷ after)) name in
    let other : bytes_eq name x.segment.name ≡ false = is_zero (bytes_eq name x.segment.name) (omega arith) in
    let passed : (if bytes_eq name x.segment.name then Some first else rest) ≡ rest = ap (λ b. if b then Some first else rest) other in
    let sum : next + bytes_of before ≡ at + (2 ^ x.segment.log + bytes_of before) = omega arith in
    passed ∙ found_site next before after p (omega arith) ∙ ap (λ n. Some (record { name = name; log = p.segment.log; base = n })) sum
  where
    is_zero : (b : Bool) → one_if b ≡ 0 → b ≡ false
    is_zero true e = absurd (omega arith)
    is_zero false e = refl
