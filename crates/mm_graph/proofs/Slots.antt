-- Seeds are the pointers of slots.
use Rattle.std.proofs.Common.{◌≡◌, ℕ, ◌⊎◌, inl, inr, List, [], ◌∷◌, Option, Some, None, sym, ap, ◌∙◌, subst, arith}
use Rattle.std.proofs.lemmas.List.Elements.{Contains-append_left, Contains-append_right, Contains-append_cases}
use Rattle.std.specs.List.{Contains}
use Rattle.mm_word.specs.{declared.word.Word.{Word, TheVariants.{Int, Ptr}}, Pointer.Pointer}
use Rattle.mm_model.specs.Slot.{Slot}
use Rattle.mm_graph.specs.declared.{canonical_ptr.CanonicalPtr.CanonicalPtr, seed.Seed.Seed}
use Rattle.mm_graph.specs.{Key.{word_key, standing_key}, Found.{seed_at, word_seeds, slot_seeds, seeds_of}}
use Rattle.mm_graph.proofs.{KeyLists.{contains_here, contains_rest, contains_cases}, Cells.{in_flat_map, from_flat_map}}

at_seed : (g : ℕ) (o : Option CanonicalPtr) (key : CanonicalPtr) → o ≡ Some key → Contains (seed_at g o) (record { group = g; key = key })
at_seed g o key e = subst (λ v. Contains (seed_at g v) (record { group = g; key = key })) (sym e) (contains_here _ [])

in_words : (g : ℕ) (ws : List Word) (w : Word) (key : CanonicalPtr) → Contains ws w → word_key w ≡ Some key → Contains (word_seeds g ws) (record { group = g; key = key })
in_words g [] w key m e = absurd (let lt = m.1 in omega arith)
in_words g (x ∷ xs) w key m e = elim (contains_cases x w xs m) [
  | inl same ↦ Contains-append_left (seed_at g (word_key x)) (word_seeds g xs) _ (at_seed g (word_key x) key (ap word_key same ∙ e))
  | inr old ↦ Contains-append_right (seed_at g (word_key x)) (word_seeds g xs) _ (in_words g xs w key old e)
]

-- the word of a seed
pub record WordOf (g : ℕ) (ws : List Word) (s : Seed) : Type 0 where
  pub word : Word
  pub is_in : Contains ws word
  pub holds : word_key word ≡ Some s.key
  pub group : s.group ≡ g

from_seed : (g : ℕ) (o : Option CanonicalPtr) (s : Seed) → Contains (seed_at g o) s → (o ≡ Some s.key) × (s.group ≡ g)
from_seed g None s m = absurd (let lt = m.1 in omega arith)
from_seed g (Some key) s m = elim (contains_cases (record { group = g; key = key }) s [] m) [
  | inl e ↦ (ap (λ (v : Seed). Some v.key) e, ap (λ (v : Seed). v.group) (sym e))
  | inr no_one ↦ absurd (let lt = no_one.1 in omega arith)
]

from_words : (g : ℕ) (ws : List Word) (s : Seed) → Contains (word_seeds g ws) s → WordOf g ws s
from_words g [] s m = absurd (let lt = m.1 in omega arith)
from_words g (x ∷ xs) s m = elim (Contains-append_cases (seed_at g (word_key x)) (word_seeds g xs) s m) [
  | inl here ↦ let e = from_seed g (word_key x) s here in record { word = x; is_in = contains_here x xs; holds = e.0; group = e.1 }
  | inr later ↦ let r = from_words g xs s later in record { word = r.word; is_in = contains_rest x r.word xs r.is_in; holds = r.holds; group = r.group }
]

pub held_seed : (slots : List Slot) (s : Slot) (q : Pointer) (key : CanonicalPtr) → Contains slots s → Contains s.regs
    (Ptr q) → standing_key q ≡ Some key → Contains (seeds_of slots) (record { group = s.group; key = key })
held_seed slots s q key m r e = in_flat_map slot_seeds slots s _ m (in_words s.group (Ptr s.ip ∷ s.regs) (Ptr q) key (contains_rest (Ptr s.ip) (Ptr q) s.regs r) e)

pub run_seed : (slots : List Slot) (s : Slot) (key : CanonicalPtr) → Contains slots s → standing_key s.ip ≡ Some key → Contains (seeds_of slots) (record { group = s.group; key = key })
run_seed slots s key m e = in_flat_map slot_seeds slots s _ m (in_words s.group (Ptr s.ip ∷ s.regs) (Ptr s.ip) key (contains_here (Ptr s.ip) s.regs) e)

-- the slot and the pointer of a seed
pub record SeedFrom (slots : List Slot) (x : Seed) : Type 0 where
  pub slot : Slot
  pub pointer : Pointer
  pub is_in : Contains slots slot
  pub group : slot.group ≡ x.group
  pub holds : (slot.ip ≡ pointer) ⊎ Contains slot.regs (Ptr pointer)
  pub stands : standing_key pointer ≡ Some x.key

pub seed_from : (slots : List Slot) (x : Seed) → Contains (seeds_of slots) x → SeedFrom slots x
seed_from slots x m =
    let f = from_flat_map slot_seeds slots x m in
    let w = from_words f.from.group (Ptr f.from.ip ∷ f.from.regs) x f.part in
    at f.from f.is_in w.word w.is_in w.holds w.group
  where
    at : (s : Slot) → Contains slots s → (w : Word) → Contains (Ptr s.ip ∷ s.regs) w → word_key w ≡ Some x.key → x.group ≡ s.group → SeedFrom slots x
    at s n (Int v) c h g = cc
    at s n (Ptr q) c h g = record {
      slot = s;
      pointer = q;
      is_in = n;
      group = sym g;
      holds = elim (contains_cases (Ptr s.ip) (Ptr q) s.regs c) [ inl e ↦ inl cc | inr r ↦ inr r ];
      stands = h;
    }
