-- Keys of pointers: a pointer with the base of its segment, ordered by base, the longer segment first.
use Rattle.std.specs.Prelude.{◌≡◌, ℕ, ◌+◌, ◌-◌, ◌<◌, Bool, true, false, ◌==◌, ◌&&◌, nat_lt, nat_le, if◌then◌else◌, List}
use Rattle.std.specs.Prelude.{length, slice_index_or, Option, Some, None, option_and_then}
use Rattle.std.specs.{declared.cmp.Ordering.{Ordering, TheVariants.Less}, Ordering.{nat_cmp, ordering_then}}
use Rattle.mm_word.specs.declared.perm.{Perm.{Perm, TheVariants.{Xp, Eu, Ep, Key as KeyPerm}}}
use Rattle.mm_word.specs.{declared.word.Word.{Word, TheVariants.{Int, Ptr}}, Perm.{can_move, can_load, can_store}}
use Rattle.mm_word.specs.Pointer.{Pointer, SpellsPointer, IsWellFormed, pointer_of, bits_of, base_of, enter_result}
use Rattle.mm_graph.specs.declared.canonical_ptr.CanonicalPtr.{CanonicalPtr}

abbrev pub key_of : Pointer → CanonicalPtr
key_of p = record { base = base_of p; narrow = 54 - p.log; bits = bits_of p }

-- the pointer of a key
abbrev pub pointer_at : CanonicalPtr → Pointer
pointer_at k = pointer_of k.bits

pub record IsKey (k : CanonicalPtr) : Type 0 where
  pub spells : SpellsPointer k.bits
  pub well_formed : IsWellFormed (pointer_at k)
  pub base : k.base ≡ base_of (pointer_at k)
  pub narrow : k.narrow + (pointer_at k).log ≡ 54

abbrev pub key_cmp : CanonicalPtr → CanonicalPtr → Ordering
key_cmp x y = ordering_then (nat_cmp x.base y.base) (ordering_then (nat_cmp x.narrow y.narrow) (nat_cmp x.bits y.bits))

abbrev pub key_eq : CanonicalPtr → CanonicalPtr → Bool
key_eq x y = (x.base == y.base) && ((x.narrow == y.narrow) && (x.bits == y.bits))

-- the key past the end of a list of keys
abbrev pub no_key : CanonicalPtr
no_key = record { base = 0; narrow = 0; bits = 0 }

abbrev pub key_at : List CanonicalPtr → ℕ → CanonicalPtr
key_at keys k = slice_index_or keys k no_key

-- the keys ascend
pub record IsRising (keys : List CanonicalPtr) : Type 0 where
  pub rise : (i j : ℕ) → i < j → j < length keys → key_cmp (key_at keys i) (key_at keys j) ≡ Less

-- a pointer that permits nothing, and of which nothing can be made that permits something
abbrev pub is_powerless_at : Perm → ℕ → Bool
is_powerless_at KeyPerm log = true
is_powerless_at Xp log = false
is_powerless_at Ep log = false
is_powerless_at _ log = nat_lt log 3

abbrev pub is_powerless : Pointer → Bool
is_powerless p = is_powerless_at p.perm p.log

-- the pointer that stands for all that can be made of this one: at its segment's base if it can be moved
abbrev pub standing_for : Pointer → Pointer
standing_for p = if can_move p.perm then record p { addr = base_of p } else p

abbrev pub standing_key : Pointer → Option CanonicalPtr
standing_key p = if is_powerless p then None else Some (key_of (standing_for p))

abbrev pub word_key : Word → Option CanonicalPtr
word_key (Int n) = None
word_key (Ptr p) = standing_key p

-- the key of the pointer that an entry by this one gives
abbrev pub entry_key : CanonicalPtr → Option CanonicalPtr
entry_key k = option_and_then standing_key (enter_result (pointer_at k))

-- the pointer loads at least one word
abbrev pub loads_words : Pointer → Bool
loads_words p = can_load p.perm && nat_le 3 p.log

abbrev pub stores_words : Pointer → Bool
stores_words p = can_store p.perm && nat_le 3 p.log

abbrev pub is_entry : Perm → Bool
is_entry Eu = true
is_entry Ep = true
is_entry _ = false
