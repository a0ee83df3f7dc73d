-- The masks of those who may enter.
use Rattle.std.proofs.Common.{◌≡◌, ℕ, ◌+◌, ◌-◌, ◌^◌, ◌<◌, inl, inr, List, [], ◌∷◌, ◌++◌, length, take, replicate}
use Rattle.std.proofs.Common.{get_or, sym, ap, ◌∙◌, subst, arith}
use Rattle.std.proofs.lemmas.{List.{get_or-replicate, length-replicate, take_more}, Nat.Bits.bit_at_ones}
use Rattle.std.specs.{Int.bit_at, List.{Contains, All, AllZip}}
use Rattle.mm_word.specs.Pointer.{Pointer, pointer_of, bits_of, SpellsPointer}
use Rattle.mm_model.specs.{Reach.{Entries.{All as AnyEntry, These as TheseEntries}}}
use Rattle.mm_graph.specs.declared.{canonical_ptr.CanonicalPtr.CanonicalPtr, seed.Seed.Seed}
use Rattle.mm_graph.specs.{Key.{IsKey, key_at, key_of, pointer_at, no_key}, Nodes.IsMarks}
use Rattle.mm_graph.specs.Masks.{IsEntryMasks, IsEntrySeed}
use Rattle.mm_graph.proofs.{KeyLists.{contains_here, contains_rest, contains_cases}, Rising.same_fields}
use Rattle.mm_graph.proofs.Marking.{same_seed}

pub any_masks : (keys : List CanonicalPtr) → IsEntryMasks AnyEntry keys (replicate (length keys) (2 ^ 64 - 1))
any_masks keys = record {
  len = length-replicate (length keys) (2 ^ 64 - 1);
  only = λ k g lt h. tt;
  each = λ k g lt small may. ap (λ v. bit_at v g) (get_or-replicate (length keys) k (2 ^ 64 - 1) 0 lt) ∙ bit_at_ones 64 g small;
}

-- a key is that of its pointer
pub key_of-pointer_at : (k : CanonicalPtr) → IsKey k → bits_of (pointer_of k.bits) ≡ k.bits → key_of (pointer_at k) ≡ k
key_of-pointer_at k h same = same_fields (key_of (pointer_at k)) k (sym h.base) (let e = h.narrow in omega arith) same

record EntryOf (list : List (ℕ × Pointer)) (s : Seed) : Type 0 where
  from : ℕ × Pointer
  is_in : Contains list from
  is : IsEntrySeed from s

record SeedOf (seeds : List Seed) (p : ℕ × Pointer) : Type 0 where
  seed : Seed
  is_in : Contains seeds seed
  is : IsEntrySeed p seed

seed_to_entry : (list : List (ℕ × Pointer)) (seeds : List Seed) (s : Seed) → AllZip IsEntrySeed list seeds → Contains seeds s → EntryOf list s
seed_to_entry [] [] s z m = absurd (let lt = m.1 in omega arith)
seed_to_entry [] (y ∷ ys) s z m = absurd z
seed_to_entry (x ∷ xs) [] s z m = absurd z
seed_to_entry (x ∷ xs) (y ∷ ys) s z m = elim (contains_cases y s ys m) [
  | inl e ↦ record { from = x; is_in = contains_here x xs; is = subst (IsEntrySeed x) e z.0 }
  | inr old ↦ let f = seed_to_entry xs ys s z.1 old in record { from = f.from; is_in = contains_rest x f.from xs f.is_in; is = f.is }
]

entry_to_seed : (list : List (ℕ × Pointer)) (seeds : List Seed) (p : ℕ × Pointer) → AllZip IsEntrySeed list seeds → Contains list p → SeedOf seeds p
entry_to_seed [] [] p z m = absurd (let lt = m.1 in omega arith)
entry_to_seed [] (y ∷ ys) p z m = absurd z
entry_to_seed (x ∷ xs) [] p z m = absurd z
entry_to_seed (x ∷ xs) (y ∷ ys) p z m = elim (contains_cases x p xs m) [
  | inl e ↦ record { seed = y; is_in = contains_here y ys; is = subst (λ v. IsEntrySeed v y) e z.0 }
  | inr old ↦ let f = entry_to_seed xs ys p z.1 old in record { seed = f.seed; is_in = contains_rest y f.seed ys f.is_in; is = f.is }
]

pub list_masks : (list : List (ℕ × Pointer)) (seeds : List Seed) (keys : List CanonicalPtr) (masks : List ℕ)
    → ((k : CanonicalPtr) → SpellsPointer k.bits → bits_of (pointer_of k.bits) ≡ k.bits) → AllZip IsEntrySeed list seeds
    → All IsKey keys → IsMarks keys seeds masks → IsEntryMasks (TheseEntries list) keys masks
list_masks list seeds keys masks bits z all m = record {
  len = m.len;
  only = λ k g lt h.
      let c = m.only k g h in
      let f = seed_to_entry list seeds _ z c.1 in
      let same : f.from ≡ (g, pointer_at (key_at keys k)) = λ i. (sym f.is.group i, sym f.is.pointer i) in
      subst (Contains list) same f.is_in;
  each = λ k g lt small may.
      let f = entry_to_seed list seeds (g, pointer_at (key_at keys k)) z may in
      let key = all k no_key lt in
      let is = same_seed f.seed g (key_at keys k) f.is.group (f.is.key ∙ key_of-pointer_at (key_at keys k) key (bits (key_at keys k) key.spells)) in
      m.each k g lt small (subst (Contains seeds) is f.is_in);
}

zip_push : {A B : Type 0} (R : A → B → Type 0) (xs : List A) (ys : List B) (x : A) (y : B) → AllZip R xs ys → R x y → AllZip R (xs ++ x ∷ []) (ys ++ y ∷ [])
zip_push R [] [] x y z r = (r, tt)
zip_push R [] (v ∷ vs) x y z r = absurd z
zip_push R (u ∷ us) [] x y z r = absurd z
zip_push R (u ∷ us) (v ∷ vs) x y z r = (z.0, zip_push R us vs x y z.1 r)

pub zip_more : {A B : Type 0} (R : A → B → Type 0) (xs : List A) (ys : List B) (k : ℕ) (d : A) (y : B) → k < length xs
    → AllZip R (take k xs) ys → R (get_or xs k d) y → AllZip R (take (k + 1) xs) (ys ++ y ∷ [])
zip_more R xs ys k d y lt z r = rw (take_more xs k d lt) (zip_push R (take k xs) ys (get_or xs k d) y z r)
