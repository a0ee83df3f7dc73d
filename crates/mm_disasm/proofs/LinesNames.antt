-- The names of an object are names of the language, and its targets have them.
use Rattle.std.proofs.Common.{◌≡◌, ℕ, zero, suc, ◌+◌, ◌^◌, ◌<◌, ◌≤◌, Bool, true, false, cond, ◌||◌, ◌==◌, nat_lt}
use Rattle.std.proofs.Common.{nat_le, List, [], ◌∷◌, ◌++◌, length, slice_get, Some, ◌⊎◌, inl, inr, refl, subst, arith}
use Rattle.std.proofs.Math.Pow.{pow_mono}
use Rattle.std.proofs.lemmas.{Bool.{ltb-true, leb-true, and_parts, Decides.nat_tests}, List.{length-append, length-map}}
use Rattle.std.specs.{List.{list_all, find, slice_index_or, AllByRecursion}, Char.is_ascii_alphabetic}
use Rattle.mm_line.specs.Forms.{is_name}
use Rattle.mm_object.specs.{declared.target.{Target.Target, Reloc.Reloc}, Lookups.{name_of_target, reloc_at}}
use Rattle.mm_object.specs.Objects.{Segment, Object, IsSegment, IsObject, names_of, is_within, is_target, is_reloc}
use Rattle.mm_disasm.proofs.LinesTokens.{all_append, name_byte}
use Rattle.mm_object.specs.Names as names

-- 1. Names.

letter : (b : ℕ) → names.begins_name b ≡ true → (is_ascii_alphabetic b || b == 95) ≡ true
letter b h = grind (arith, nat_tests, h)

byte : (b : ℕ) → names.goes_on b ≡ true → name_byte b ≡ true
byte b h = grind (arith, nat_tests, h)

bytes : (bs : List ℕ) → list_all names.goes_on bs ≡ true → list_all name_byte bs ≡ true
bytes [] h = refl
bytes (b ∷ bs) h = let two = and_parts (names.goes_on b) (list_all names.goes_on bs) h in rw (byte b two.0, bytes bs two.1) refl

form : (name : List ℕ) → names.has_form name ≡ true → is_name name ≡ true
form [] h = cc
form (b ∷ bs) h = let two = and_parts (names.begins_name b) (list_all names.goes_on bs) h in rw (letter b two.0) (bytes bs two.1)

-- a name of at most 31 bytes
pub record IsWord (name : List ℕ) : Type 0 where
  pub form : is_name name ≡ true
  pub short : length name ≤ 31

pub is_word : (name : List ℕ) → names.is_name name ≡ true → IsWord name
is_word name h =
    let two = and_parts (names.has_form name) (nat_le (length name) 31) h in
    record { form = form name two.0; short = leb-true (length name) 31 two.1 }

-- 2. Targets.

at : (all : List (List ℕ)) (i : ℕ) → list_all names.is_name all ≡ true → i < length all → names.is_name (slice_index_or all i []) ≡ true
at [] i h lt = absurd (omega arith)
at (name ∷ all) zero h lt = (and_parts (names.is_name name) (list_all names.is_name all) h).0
at (name ∷ all) (suc i) h lt = at all i (and_parts (names.is_name name) (list_all names.is_name all) h).1 (omega arith)

segments_named : (segments : List Segment) → AllByRecursion IsSegment segments → list_all names.is_name (names_of segments) ≡ true
segments_named [] h = refl
segments_named (s ∷ segments) h = rw (h.0.name) (segments_named segments h.1)

-- all names of an object are names
pub all_named : (o : Object) → IsObject o → list_all names.is_name (names_of o.segments ++ o.externals) ≡ true
all_named o h = all_append names.is_name (names_of o.segments) o.externals (segments_named o.segments h.segments) h.externals

within : (segments : List Segment) (i all n addend : ℕ) → AllByRecursion IsSegment segments → is_within (slice_get segments i) all n addend ≡ true
    → ((i < length segments) ⊎ (n < all)) × (addend < 2 ^ 20)
within [] i all n addend h e =
    let two = and_parts (nat_lt n all) (nat_lt addend (2 ^ 20)) e in
    (inr (ltb-true n all two.0), ltb-true addend (2 ^ 20) two.1)
within (s ∷ segments) zero all n addend h e =
    let small = ltb-true addend (2 ^ s.log) e in
    let most = pow_mono h.0.greatest in
    (inl (omega arith), omega arith)
within (s ∷ segments) (suc i) all n addend h e =
    let w = within segments i all n addend h.1 e in
    (elim w.0 [ inl lt ↦ inl (omega arith) | inr lt ↦ inr lt ], w.1)

pub record IsKnown (o : Object) (t : Target) : Type 0 where
  pub name : IsWord (name_of_target o t)
  pub addend : t.addend < 2 ^ 20

-- a target of an object has a name, and an addend below 2^20
pub known : (o : Object) (t : Target) → IsObject o → is_target o.segments (length o.externals) t ≡ true → IsKnown o t
unfolding name_of_target
known o t h e =
    let w = within o.segments t.index (length o.segments + length o.externals) t.index t.addend h.segments e in
    let all : length (names_of o.segments ++ o.externals) ≡ length o.segments + length o.externals =
    omega (arith, length-append (names_of o.segments) o.externals, length-map o.segments (λ (s : Segment). s.name)) in
    let inside : t.index < length (names_of o.segments ++ o.externals) = elim w.0 [ inl lt ↦ omega arith | inr lt ↦ omega arith ] in
    record { name = is_word (name_of_target o t) (at (names_of o.segments ++ o.externals) t.index (all_named o h) inside); addend = w.1 }

-- 3. Relocations.

found : (test good : Reloc → Bool) (relocs : List Reloc) (r : Reloc) → list_all good relocs ≡ true → find test relocs ≡ Some r → good r ≡ true
found test good [] r h e = cc
found test good (x ∷ relocs) r h e =
    let two = and_parts (good x) (list_all good relocs) h in
    of (test x) two.0 (found test good relocs r two.1) e
  where
    of : (b : Bool) → good x ≡ true → (find test relocs ≡ Some r → good r ≡ true) → cond b (Some x) (find test relocs) ≡ Some r → good r ≡ true
    of true here next e = let same : x ≡ r = cc in subst (λ y. good y ≡ true) same here
    of false here next e = next e

-- the relocation of a word has a target of the object
pub relocated : (o : Object) (segment k : ℕ) (r : Reloc) → IsObject o → reloc_at o segment k ≡ Some r → IsKnown o r.target
unfolding reloc_at
relocated o segment k r h e =
    let good = found _ (is_reloc o.segments (length o.externals)) o.relocs r h.relocs e in
    known o r.target h (and_parts _ (is_target o.segments (length o.externals) r.target) good).1
