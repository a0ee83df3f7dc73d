-- Equal items at the start of a list.
use Rattle.std.specs.{Prelude.{ℕ, ◌==◌, List}, List.prefix_len}

-- the count of items at the start that are this one
abbrev pub leading : ℕ → List ℕ → ℕ
leading n items = prefix_len (λ x. x == n) items
