-- Names of segments and of externals.
use Rattle.std.specs.Prelude.{ℕ, Bool, false, ◌&&◌, ◌||◌, ◌==◌, nat_le, List, [], ◌∷◌, length}
use Rattle.std.specs.{Ordering.{is_lt, nat_cmp}, Cmp.Lexicographic.slice_cmp, List.list_all}

abbrev pub is_between : ℕ → ℕ → ℕ → Bool
is_between low high b = nat_le low b && nat_le b high

-- a byte that a name may begin with: a letter or `_`
abbrev pub begins_name : ℕ → Bool
begins_name b = is_between 65 90 b || is_between 97 122 b || b == 95

-- a byte that a name may go on with: a letter, a digit or `_`
abbrev pub goes_on : ℕ → Bool
goes_on b = begins_name b || is_between 48 57 b

abbrev pub has_form : List ℕ → Bool
has_form [] = false
has_form (b ∷ bytes) = begins_name b && list_all goes_on bytes

-- a letter or `_`, then letters, digits or `_`, and 31 bytes at most
abbrev pub is_name : List ℕ → Bool
is_name bytes = has_form bytes && nat_le (length bytes) 31

-- one list of bytes is before another in their order
abbrev pub is_before : List ℕ → List ℕ → Bool
is_before a b = is_lt (slice_cmp nat_cmp a b)
