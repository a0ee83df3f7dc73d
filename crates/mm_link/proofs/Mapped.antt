-- Segments are found by their names, and each of their bytes is in a page.
use Rattle.std.proofs.Common.{◌≡◌, ℕ, ◌+◌, ◌-◌, ◌*◌, ◌^◌, ◌<◌, ◌≤◌, true, List, [], ◌∷◌, ◌++◌, Option, Some, None, refl}
use Rattle.std.proofs.{Common.{sym, ap, ◌∙◌, inl, inr, arith}, lemmas.{Bool.cases_lt, Slice.Eq.bytes_eq-Decides}}
use Rattle.std.specs.{Prelude.is_some, List.AllByRecursion, Ordering.nat_cmp, FinMap.find}
use Rattle.mm_model.{specs.{Memory.{is_mapped, page_of}, Image.Image}, proofs.Causes.some_of}
use Rattle.mm_object.{specs.Objects.{Object, IsObject}, proofs.Members.{In, each_in, contained, from_contained}}
use Rattle.mm_link.specs.Placing.{Part, Site, parts_of, by_length, sites_from, sites_of, site_in, bytes_of, origin}
use Rattle.mm_link.specs.{Faults.page_count, Linked.{cells_of, pages_of, first_page, image_of}}
use Rattle.mm_link.specs.Laws.{SegmentsAreFound, PagesAreThoseOfSegments, SegmentsAreMapped, PagesHoldSegments}
use Rattle.mm_link.proofs.{Parts.{are_parts, in_by_length, bytes_placed}, Clean.{IsClean, clean, few_bytes}}
use Rattle.mm_link.proofs.Named.{named, named_more, named_in, once_named, found_site}
use Rattle.mm_link.proofs.Celled.{page_there, page_within}

-- 1. Names.

-- an item stands between those before it and those behind it
pub around : {A : Type 0} (x : A) (xs : List A) → In x xs → (before : List A) × (after : List A) × (xs ≡ before ++ x ∷ after)
around x [] h = absurd h
around x (y ∷ xs) (inl e) = ([], xs, ap (λ z. z ∷ xs) (sym e))
around x (y ∷ xs) (inr h) = let r = around x xs h in (y ∷ r.0, r.1, ap (λ zs. y ∷ zs) r.2)

-- the site of a part that is placed behind others
pub site_behind : (objects : List Object) → AllByRecursion IsObject objects → IsClean objects → (before after : List Part) (p : Part) → by_length (parts_of objects) ≡ before ++ p ∷ after
    → site_in (sites_of objects) p.segment.name ≡ Some (record { name = p.segment.name; log = p.segment.log; base = origin + bytes_of before })
unfolding sites_of
site_behind objects are clean before after p whole =
    let name = p.segment.name in
    let once = once_named objects are clean name in
    let count : named name (by_length (parts_of objects)) ≡ named name before + named name (p ∷ after) = ap (named name) whole ∙ named_more name before (p ∷ after) in
    let here = named_in name p (p ∷ after) (inl refl) ((bytes_eq-Decides name name).1 refl) in
    ap (λ ps. site_in (sites_from origin ps) name) whole ∙ found_site origin before after p (omega arith)

pub part_found : (objects : List Object) → AllByRecursion IsObject objects → IsClean objects → (p : Part) → In p (parts_of objects)
    → (s : Site) × (site_in (sites_of objects) p.segment.name ≡ Some s) × (s.log ≡ p.segment.log)
part_found objects are clean p is =
    let r = around p (by_length (parts_of objects)) (in_by_length p (parts_of objects) (are_parts objects are) is) in
    (record { name = p.segment.name; log = p.segment.log; base = origin + bytes_of r.0 }, site_behind objects are clean r.0 r.1 p r.2, refl)

pub segments_are_found : SegmentsAreFound
segments_are_found objects i are linked p is = part_found objects are (clean objects linked.clean) p (from_contained p (parts_of objects) is)

-- 2. Pages.

page_mapped : (objects : List Object) (page : ℕ) → first_page ≤ page → page < first_page + page_count objects → is_mapped (image_of objects).memory page ≡ true
unfolding image_of pages_of
page_mapped objects page low high =
    let same : page ≡ first_page + (page - first_page) = omega arith in
    ap (λ n. is_some (find nat_cmp n (pages_of objects))) same ∙ ap is_some (page_there (page_count objects) first_page (page - first_page) (cells_of objects) (omega arith))

mapped_page : (objects : List Object) (page : ℕ) → is_mapped (image_of objects).memory page ≡ true → (first_page ≤ page) × (page < first_page + page_count objects)
unfolding image_of pages_of
mapped_page objects page is = let r = some_of (find nat_cmp page (pages_of objects)) is in page_within (page_count objects) first_page page (cells_of objects) r.0 r.1

pub pages_are_those_of_segments : PagesAreThoseOfSegments
pages_are_those_of_segments objects i are linked page =
    let same = ap (λ (x : Image). is_mapped x.memory page) linked.image in
    (λ is. mapped_page objects page (sym same ∙ is), λ within. same ∙ page_mapped objects page within.0 within.1)

-- 3. Bytes.

-- a site from an address on that ends at another at the latest
abbrev pub IsBetween : (least most : ℕ) → Site → Type 0
IsBetween least most s = (least ≤ s.base) × (s.base + 2 ^ s.log ≤ most)

between_from : (least most at : ℕ) (parts : List Part) → least ≤ at → at + bytes_of parts ≤ most → AllByRecursion (IsBetween least most) (sites_from at parts)
between_from least most at [] low high = tt
between_from least most at (p ∷ parts) low high = ((low, omega arith), between_from least most (at + 2 ^ p.segment.log) parts (omega arith) (omega arith))

pub site_between : (objects : List Object) → AllByRecursion IsObject objects → (s : Site) → In s (sites_of objects) → IsBetween origin (origin + bytes_of (parts_of objects)) s
unfolding sites_of
site_between objects are s is =
    let most = origin + bytes_of (parts_of objects) in
    let same = bytes_placed (parts_of objects) (are_parts objects are) in
    each_in (IsBetween origin most) s (sites_of objects) (between_from origin most origin (by_length (parts_of objects)) (omega arith) (omega arith)) is

pub segments_are_mapped : SegmentsAreMapped
segments_are_mapped objects i are linked s is a low high =
    let between = site_between objects are s (from_contained s (sites_of objects) is) in
    let first = between.0 in
    let last = between.1 in
    let few = few_bytes objects in
    ap (λ (x : Image). is_mapped x.memory (page_of a)) linked.image ∙ page_mapped objects (page_of a) (omega arith) (omega arith)

-- 4. Pages that hold them.

-- each address from the first one on is in a segment, as far as segments reach
covered : (at : ℕ) (parts : List Part) (a : ℕ) → at ≤ a → a < at + bytes_of parts → (s : Site) × In s (sites_from at parts) × (s.base ≤ a) × (a < s.base + 2 ^ s.log)
covered at [] a low high = absurd (omega arith)
covered at (p ∷ parts) a low high = elim (cases_lt a (at + 2 ^ p.segment.log)) [
  | inl here ↦ (record { name = p.segment.name; log = p.segment.log; base = at }, inl refl, low, here)
  | inr later ↦ let r = covered (at + 2 ^ p.segment.log) parts a later (omega arith) in (r.0, inr r.1, r.2, r.3)
]

pub pages_hold_segments : PagesHoldSegments
unfolding sites_of
pages_hold_segments objects i are linked page is =
    let within = mapped_page objects page (sym (ap (λ (x : Image). is_mapped x.memory page) linked.image) ∙ is) in
    let low = within.0 in
    let high = within.1 in
    let same = bytes_placed (parts_of objects) (are_parts objects are) in
    let r = covered origin (by_length (parts_of objects)) (4096 * page) (omega arith) (omega arith) in
    (r.0, contained r.0 (sites_of objects) r.1, 4096 * page, r.2, r.3, omega arith)
