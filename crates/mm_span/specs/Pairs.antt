-- The elements of a list in pairs.
use Rattle.std.specs.{Prelude.{List, [], ◌∷◌}, List.AllByRecursion}

-- each element stands in a relation to all that follow it
abbrev pub EachPair : {X : Type 0} → (X → X → Type 0) → List X → Type 0
EachPair R [] = Unit {0}
EachPair R (x ∷ xs) = AllByRecursion (R x) xs × EachPair R xs
