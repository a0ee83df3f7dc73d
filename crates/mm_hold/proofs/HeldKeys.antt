-- The pointers for which a key stands, and those that bits spell.
use Rattle.std.proofs.Common.{◌≡◌, ℕ, ◌<◌, ◌/◌, ◌^◌, length, inl, inr, Bool, true, false, if◌then◌else◌, List, [], Option, Some, None}
use Rattle.std.proofs.Common.{refl, sym, ap, ◌∙◌, subst}
use Rattle.std.proofs.lemmas.{List.get_or_default, Bool.{and_from, le-leb}}
use Rattle.std.specs.Prelude.{Contains, MatchOption}
use Rattle.mm_word.specs.declared.word.{Word.{Word, TheVariants.{Int, Ptr}}, Cell.Cell}
use Rattle.mm_word.specs.Pointer.{Pointer, IsBelow, IsWellFormed, SpellsPointer, pointer_of, spells_pointer}
use Rattle.mm_model.proofs.Bytes.{CleanWords.{spells, well_formed as spelled_fits}, SpelledRecords.known_codes}
use Rattle.mm_graph.specs.declared.{canonical_ptr.CanonicalPtr.CanonicalPtr, found.Found.Found, seed.Seed.Seed}
use Rattle.mm_graph.specs.{Key.{key_at, key_of, no_key, pointer_at, standing_key}, Found.{found_at, seed_at}, Summary.IsPowerless}
use Rattle.mm_graph.proofs.Representatives.{pointer_at-key_of, stands_from, stands_above, stands_below, standing_none}
use Rattle.mm_kernel.specs.Segments.{Segment, is_door, is_kept}
use Rattle.mm_hold.specs.{Finding.{cell_found, held_key, held_word}, Graphs.{BitsAt, IsBitsNode, bits_key}}
use Rattle.mm_span.proofs.Members.{none_in, in_first, in_cases}

-- 1. What a key stands for.

same_key : {x y : CanonicalPtr} → ◌≡◌ {A = Option CanonicalPtr} (Some x) (Some y) → x ≡ y
same_key h = cc

module _ (kept : List Segment) (q : Pointer) where
  pub held_none : held_key kept q ≡ None → (is_door kept q ≡ false) × IsPowerless q
  held_none = by (is_door kept q) refl
    where
      by : (b : Bool) → is_door kept q ≡ b → (if b then Some (key_of q) else standing_key q) ≡ None → (is_door kept q ≡ false) × IsPowerless q
      by true d e = cc
      by false d e = (d, standing_none q e)

  pub held_above : (k : CanonicalPtr) → IsWellFormed q → held_key kept q ≡ Some k → IsBelow q (pointer_at k)
  held_above k w = by (is_door kept q)
    where
      by : (b : Bool) → (if b then Some (key_of q) else standing_key q) ≡ Some k → IsBelow q (pointer_at k)
      by true e = inl (sym (pointer_at-key_of q w) ∙ ap pointer_at (same_key e))
      by false e = stands_above q k w (stands_from q k e)

  pub held_below : (k : CanonicalPtr) → IsWellFormed q → held_key kept q ≡ Some k → IsBelow (pointer_at k) q
  held_below k w = by (is_door kept q)
    where
      by : (b : Bool) → (if b then Some (key_of q) else standing_key q) ≡ Some k → IsBelow (pointer_at k) q
      by true e = inl (sym (ap pointer_at (same_key e)) ∙ pointer_at-key_of q w)
      by false e = stands_below q k w (stands_from q k e)

-- the pointer of a word that has a key
pub word_pointer : (kept : List Segment) (o : Word) (k : CanonicalPtr) → held_word kept o ≡ Some k → (q : Pointer) × (o ≡ Ptr q) × (held_key kept q ≡ Some k)
word_pointer kept (Int v) k h = cc
word_pointer kept (Ptr q) k h = (q, refl, h)

-- 2. Lists of one or none.

pub found_there : (w : ℕ) (o : Option CanonicalPtr) (k : CanonicalPtr) → o ≡ Some k → Contains (found_at w o) (record { word = w; key = k })
found_there w o k e = subst (λ v. Contains (found_at w v) (record { word = w; key = k })) (sym e) (in_first _ [])

pub found_from : (w : ℕ) (o : Option CanonicalPtr) (f : Found) → Contains (found_at w o) f → (o ≡ Some f.key) × (f.word ≡ w)
found_from w None f m = absurd (none_in f m)
found_from w (Some k) f m = elim (in_cases (record { word = w; key = k }) [] f m) [
  | inl e ↦ (ap (λ (v : Found). Some v.key) e, ap (λ (v : Found). v.word) (sym e))
  | inr none ↦ absurd (none_in f none)
]

pub seed_there : (g : ℕ) (o : Option CanonicalPtr) (k : CanonicalPtr) → o ≡ Some k → Contains (seed_at g o) (record { group = g; key = k })
seed_there g o k e = subst (λ v. Contains (seed_at g v) (record { group = g; key = k })) (sym e) (in_first _ [])

pub seed_from : (g : ℕ) (o : Option CanonicalPtr) (s : Seed) → Contains (seed_at g o) s → (o ≡ Some s.key) × (s.group ≡ g)
seed_from g None s m = absurd (none_in s m)
seed_from g (Some k) s m = elim (in_cases (record { group = g; key = k }) [] s m) [
  | inl e ↦ (ap (λ (v : Seed). Some v.key) e, ap (λ (v : Seed). v.group) (sym e))
  | inr none ↦ absurd (none_in s none)
]

module _ (kept : List Segment) (w : ℕ) (c : Cell) where
  -- a cell that is not kept
  pub cell_there : (k : CanonicalPtr) → is_kept kept w ≡ false → held_word kept c.word ≡ Some k → Contains (cell_found kept w c) (record { word = w; key = k })
  cell_there k out e =
      subst (λ b. Contains (if b then [] else found_at w (held_word kept c.word)) (record { word = w; key = k })) (sym out) (found_there w (held_word kept c.word) k e)

  pub cell_from : (f : Found) → Contains (cell_found kept w c) f → (is_kept kept w ≡ false) × (held_word kept c.word ≡ Some f.key) × (f.word ≡ w)
  cell_from f = by (is_kept kept w)
    where
      by : (b : Bool) → Contains (if b then [] else found_at w (held_word kept c.word)) f → (b ≡ false) × (held_word kept c.word ≡ Some f.key) × (f.word ≡ w)
      by true m = absurd (none_in f m)
      by false m = let e = found_from w (held_word kept c.word) f m in (refl, e.0, e.1)

-- 3. Bits.

pub spells_test : (bits : ℕ) → SpellsPointer bits → spells_pointer bits ≡ true
spells_test bits s = and_from _ _ (known_codes (bits / 2 ^ 60) s.some_code s.known_code) (le-leb _ _ s.log_in_range)

pub spelled_well_formed : (bits : ℕ) → SpellsPointer bits → IsWellFormed (pointer_of bits)
spelled_well_formed bits s = spelled_fits bits (spells_test bits s)

module _ (kept : List Segment) (bits : ℕ) where
  pub key_there : SpellsPointer bits → bits_key kept bits ≡ held_key kept (pointer_of bits)
  key_there s = ap (λ b. if b then held_key kept (pointer_of bits) else None) (spells_test bits s)

  pub key_from : (k : CanonicalPtr) → bits_key kept bits ≡ Some k → SpellsPointer bits × (held_key kept (pointer_of bits) ≡ Some k)
  key_from k = by (spells_pointer bits) refl
    where
      by : (b : Bool) → spells_pointer bits ≡ b → (if b then held_key kept (pointer_of bits) else None) ≡ Some k → SpellsPointer bits × (held_key kept (pointer_of bits) ≡ Some k)
      by true t e = (spells bits t, e)
      by false t e = cc

  pub node_none : (keys : List CanonicalPtr) → bits_key kept bits ≡ None → (k : ℕ) → BitsAt kept keys bits k → ⊥
  node_none keys e k at = let there = key_there at.spells in let is = at.is in absurd (cc)

  pub node_found : (keys : List CanonicalPtr) (key : CanonicalPtr) → bits_key kept bits ≡ Some key → (o : Option ℕ)
      → MatchOption o (Contains keys key → ⊥) (λ k. (k < length keys) × (key_at keys k ≡ key)) → IsBitsNode kept keys bits o
  node_found keys key e None h = λ k at.
      let own = (key_from key e).1 in
      let is = at.is in
      let same : key_at keys k ≡ key = cc in
      h (k, at.small, get_or_default keys k key no_key at.small ∙ same)
  node_found keys key e (Some k) h = let own = key_from key e in record { spells = own.0; small = h.0; is = own.1 ∙ ap Some (sym h.1) }
