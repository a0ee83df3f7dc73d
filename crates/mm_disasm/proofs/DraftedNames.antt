-- What the names of an object's targets stand for in its draft.
use Rattle.std.proofs.Common.{◌≡◌, ◌⊎◌, ℕ, zero, suc, ◌+◌, ◌^◌, ◌<◌, ◌-◌, Bool, true, false, not, nat_lt, if◌then◌else◌}
use Rattle.std.proofs.Common.{List, [], ◌∷◌, ◌++◌, length, get_or, slice_get, Option, Some, None, bytes_eq, refl, sym}
use Rattle.std.proofs.Common.{ap, ◌∙◌, inl, inr, arith}
use Rattle.std.proofs.lemmas.{List.{get_or_append_left, get_or-append-add, length-map}, Option.slice_get_cases}
use Rattle.std.proofs.lemmas.{Bool.{not-true, or_parts, and_parts, Decides.nat_tests}, Slice.Eq.bytes_eq-Decides}
use Rattle.mm_object.proofs.{Apartness.turn, Bools.none_at}
use Rattle.mm_object.specs.{declared.target.Target.Target, Lookups.name_of_target}
use Rattle.mm_object.specs.Objects.{Segment, Object, IsObject, greatest_log, is_among, are_apart, names_of, is_within}
use Rattle.mm_object.specs.Objects.{is_target}
use Rattle.mm_draft.specs.Drafts.{Entry, Draft, place_in, place_of}
use Rattle.mm_asm.proofs.Order.{same_itself}
use Rattle.mm_disasm.proofs.{Saying.IsTargetOf, DraftedSegments.{entry_of, entries_from, AreSegmentsOf}}
use Rattle.mm_disasm.proofs.Drafted.{IsDraftOf}
use Rattle.mm_line.specs.declared.statement.Target as text
use Rattle.mm_draft.specs.Drafts as draft

-- 1. Names that stand for the first words of segments.

entries_named : ℕ → List (List ℕ) → List Entry
entries_named k [] = []
entries_named k (name ∷ names) = entry_of k name ∷ entries_named (k + 1) names

-- a name that is none of these stands for nothing
place_none : (k : ℕ) (names : List (List ℕ)) (name : List ℕ) → is_among name names ≡ false → place_in (entries_named k names) name ≡ None
unfolding entries_named
place_none k [] name h = refl
place_none k (x ∷ names) name h =
    let parts = or_parts (bytes_eq name x) (is_among name names) h in
    by (bytes_eq name x) refl parts.0 (place_none (k + 1) names name parts.1)
  where
    by : (b : Bool) → bytes_eq name x ≡ b → bytes_eq name x ≡ false → place_in (entries_named (k + 1) names) name ≡ None →
        (if b then Some (entry_of k x).location else place_in (entries_named (k + 1) names) name) ≡ None
    by true e f later = absurd (let same : name ≡ x = (bytes_eq-Decides name x).0 e in let g : bytes_eq name x ≡ true = ap (bytes_eq name) (sym same) ∙ same_itself name in cc (f, g))
    by false e f later = later

none_later : (names : List (List ℕ)) (x : List ℕ) → is_among x names ≡ false → (i : ℕ) → i < length names → bytes_eq x (get_or names i []) ≡ false
none_later [] x none i lt = absurd (omega arith)
none_later (y ∷ names) x none zero lt = (or_parts _ _ none).0
none_later (y ∷ names) x none (suc i) lt = none_later names x (or_parts _ _ none).1 i (omega arith)

-- and one at a place, for the segment there
place_some : (k i : ℕ) (names : List (List ℕ)) → are_apart names ≡ true → i < length names →
    place_in (entries_named k names) (get_or names i []) ≡ Some (record { segment = k + i; word = 0; is_label = false })
unfolding entries_named
place_some k i [] apart lt = absurd (omega arith)
place_some k zero (x ∷ names) apart lt = by (bytes_eq x x) ((bytes_eq-Decides x x).1 refl)
  where
    same : k ≡ k + 0
    same = omega arith

    by : (b : Bool) → b ≡ true → (if b then Some (entry_of k x).location else place_in (entries_named (k + 1) names) x) ≡ Some (record { segment = k + 0; word = 0; is_label = false })
    by true e = ap (λ (n : ℕ). Some (entry_of n x).location) same
    by false e = absurd cc
place_some k (suc i) (x ∷ names) apart lt =
    by (bytes_eq (get_or names i []) x) (turn x (get_or names i []) (none_later names x (not-true _ parts.0) i (omega arith)))
    (place_some (k + 1) i names parts.1 (omega arith))
  where
    parts : (not (is_among x names) ≡ true) × (are_apart names ≡ true)
    parts = and_parts (not (is_among x names)) (are_apart names) apart

    same : k + 1 + i ≡ k + suc i
    same = omega arith

    by : (b : Bool) → b ≡ false → place_in (entries_named (k + 1) names) (get_or names i []) ≡ Some (record { segment = k + 1 + i; word = 0; is_label = false }) →
        (if b then Some (entry_of k x).location else place_in (entries_named (k + 1) names) (get_or names i [])) ≡ Some (record { segment = k + suc i; word = 0; is_label = false })
    by true e later = absurd cc
    by false e later = later ∙ ap (λ (n : ℕ). Some (entry_of n x).location) same

-- 2. The names of an object.

module _ (o : Object) where
  same_entries : (k n : ℕ) (segments : List Segment) (xs : List draft.Segment) → AreSegmentsOf o n segments xs → entries_from k xs ≡ entries_named k (names_of segments)
  unfolding entries_named
  same_entries k n [] [] h = refl
  same_entries k n [] (x ∷ xs) h = absurd h
  same_entries k n (s ∷ segments) [] h = absurd h
  same_entries k n (s ∷ segments) (x ∷ xs) h =
      let name = h.0.name in
      let rest = same_entries (k + 1) (n + 1) segments xs h.1 in
      λ i. entry_of k (name i) ∷ rest i

  -- a target in a segment of the object
  pub record IsOwn (t : Target) : Type 0 where
    pub segment : Segment
    pub is : slice_get o.segments t.index ≡ Some segment
    pub inside : t.addend < 2 ^ segment.log
    pub low : t.index < length o.segments

  -- and one that is an external
  pub record IsForeign (t : Target) : Type 0 where
    pub place : ℕ
    pub is : t.index ≡ length o.segments + place
    pub low : place < length o.externals

  pub own_or_foreign : (t : Target) → is_target o.segments (length o.externals) t ≡ true → IsOwn t ⊎ IsForeign t
  own_or_foreign t h =
      elim (slice_get_cases o.segments t.index).1 [
        | inl some ↦
            inl (record { segment = some.0; is = some.2; inside = own some.0 (ap (λ (found : Option Segment). is_within found all t.index t.addend) (sym some.2) ∙ h); low = some.1 })
        | inr none ↦
            let high = none.0 in
            let lt : t.index < all = foreign (ap (λ (found : Option Segment). is_within found all t.index t.addend) (sym none.1) ∙ h) in
            inr (record { place = t.index - length o.segments; is = omega (arith, high); low = omega (arith, high, lt) })
      ]
    where
      all : ℕ
      all = length o.segments + length o.externals

      own : (s : Segment) → is_within (Some s) all t.index t.addend ≡ true → t.addend < 2 ^ s.log
      own s e = grind (arith, nat_tests)

      foreign : is_within None all t.index t.addend ≡ true → t.index < all
      foreign e = let parts = and_parts (nat_lt t.index all) (nat_lt t.addend (2 ^ greatest_log)) e in grind (arith, nat_tests, parts.0)

  module _ (is : IsObject o) (d : Draft) (drafted : IsDraftOf o d) where
    names_are : d.names ≡ entries_named 0 (names_of o.segments)
    names_are = drafted.names ∙ same_entries 0 0 o.segments d.segments drafted.segments

    own_name : (t : Target) → IsOwn t → name_of_target o t ≡ get_or (names_of o.segments) t.index []
    unfolding name_of_target
    own_name t h = get_or_append_left (names_of o.segments) o.externals [] t.index (omega (arith, h.low, length-map o.segments (λ (s : Segment). s.name)))

    pub foreign_name : (t : Target) (h : IsForeign t) → name_of_target o t ≡ get_or o.externals h.place []
    unfolding name_of_target
    foreign_name t h =
        let at : t.index ≡ length (names_of o.segments) + h.place = omega (arith, h.is, length-map o.segments (λ (s : Segment). s.name)) in
        ap (λ (i : ℕ). get_or (names_of o.segments ++ o.externals) i []) at ∙ get_or-append-add (names_of o.segments) o.externals h.place []

    -- a segment's name stands for its first word
    pub own_place : (t : Target) (written : text.Target) → IsOwn t → IsTargetOf o t written →
        place_of d written.mark.name ≡ Some (record { segment = t.index; word = 0; is_label = false })
    own_place t written h same =
        let zero_more : 0 + t.index ≡ t.index = omega arith in
        ap (λ (entries : List Entry). place_in entries written.mark.name) names_are
        ∙ ap (place_in (entries_named 0 (names_of o.segments))) (same.0 ∙ own_name t h)
        ∙ place_some 0 t.index (names_of o.segments) is.names (omega (arith, h.low, length-map o.segments (λ (s : Segment). s.name)))
        ∙ ap (λ (n : ℕ). Some (entry_of n []).location) zero_more

    -- an external's for nothing
    pub foreign_place : (t : Target) (written : text.Target) → IsForeign t → IsTargetOf o t written → place_of d written.mark.name ≡ None
    foreign_place t written h same =
        ap (λ (entries : List Entry). place_in entries written.mark.name) names_are
        ∙ ap (place_in (entries_named 0 (names_of o.segments))) (same.0 ∙ foreign_name t h)
        ∙ place_none 0 (names_of o.segments) (get_or o.externals h.place []) (none_at (λ name. is_among name (names_of o.segments)) o.externals is.foreign h.place [] h.low)
