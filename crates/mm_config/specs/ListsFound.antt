-- How lists of numbers are found: by a hash that most have for themselves, and else one by one.
use Rattle.std.specs.Prelude.{ℕ, suc, ◌*◌, ◌^◌, ◌%◌, ◌/◌, List, Vec, bit_xor, nat_eq, fold}
use Rattle.std.specs.declared.alloc.Global.{Global}
use Rattle.std.specs.Option.{option_map_or}
use Rattle.indexmap.specs.IndexMap.{IndexMap, get, get_by}
use Rattle.mm_pairs.specs.Found.{AreFound}
use lib.Pointwise.{pointwise}

-- the bits of a number, mixed
abbrev pub mixed_of : ℕ → ℕ → ℕ
mixed_of hash number = bit_xor hash number * 0x9e3779b97f4a7c15 % 2 ^ 64

-- the hash of one number more
abbrev pub hash_with : ℕ → ℕ → ℕ
hash_with hash number = bit_xor (mixed_of hash number) (mixed_of hash number / 2 ^ 29)

-- the hash of a list of numbers
unfoldable pub hash_of : List ℕ → ℕ
hash_of numbers = fold hash_with 0x9e3779b97f4a7c15 numbers

-- one more than the index that is noted for a hash; 0 if there is none
abbrev pub first_of : {S : Type 0} → IndexMap ℕ ℕ S → ℕ → ℕ
first_of earliest hash = option_map_or suc (get nat_eq earliest hash) 0

-- lists are found by their hash
abbrev pub AreListsFound : {S T : Type 0} → List (List ℕ) → IndexMap ℕ ℕ S → IndexMap (Vec ℕ Global) ℕ T → Type 0
AreListsFound lists earliest later = AreFound hash_of lists (first_of earliest) (λ numbers. get_by (λ v. pointwise nat_eq numbers v.items) later)
