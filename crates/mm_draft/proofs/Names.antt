-- A map's entries as the list of names.
use Rattle.std.proofs.Common.{◌≡◌, ℕ, Bool, true, false, cond, List, [], ◌∷◌, ◌++◌, Some, None, refl, ap}
use Rattle.std.specs.{Str.bytes_eq, Map.lookup}
use Rattle.indexmap.specs.IndexMap.{insert_entry}
use denote.Ref.{Bor}
use Rattle.mm_draft.specs.{declared.location.Location.Location, Drafts.place_in, Counts.entries_of}

-- what the map has under a name is what the name stands for
pub found : (es : List (Bor (List ℕ) × Location)) (name : List ℕ) → lookup (λ y. bytes_eq name y.now) es ≡ place_in (entries_of es) name
found [] name = refl
found (e ∷ es) name = ap (λ r. cond (bytes_eq name e.0.now) (Some e.1) r) (found es name)

-- a new name goes last
pub inserted : (es : List (Bor (List ℕ) × Location)) (k : Bor (List ℕ)) (v : Location) → place_in (entries_of es) k.now ≡ None
    → entries_of (insert_entry (λ x y. bytes_eq x.now y.now) es k v) ≡ entries_of es ++ record { name = k.now; location = v } ∷ []
inserted [] k v h = refl
inserted (e ∷ es) k v h = by (bytes_eq k.now e.0.now) (inserted es k v) h
  where
    by : (b : Bool) → (place_in (entries_of es) k.now ≡ None → entries_of (insert_entry (λ x y. bytes_eq x.now y.now) es k v) ≡ entries_of es ++ record { name = k.now; location = v } ∷ [])
        → cond b (Some e.1) (place_in (entries_of es) k.now) ≡ None
        → entries_of (cond b ((e.0, v) ∷ es) (e ∷ insert_entry (λ x y. bytes_eq x.now y.now) es k v)) ≡
        record { name = e.0.now; location = e.1 } ∷ (entries_of es ++ record { name = k.now; location = v } ∷ [])
    by true rest n = cc
    by false rest n = ap (λ r. record { name = e.0.now; location = e.1 } ∷ r) (rest n)
