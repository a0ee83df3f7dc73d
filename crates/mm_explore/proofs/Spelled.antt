-- The schedules that origins spell.
use Rattle.std.proofs.Common.{◌≡◌, ℕ, zero, suc, ◌+◌, ◌-◌, ◌<◌, List, [], ◌∷◌, ◌++◌, map, length, slice_index_or, reverse}
use Rattle.std.proofs.Common.{refl, sym, ap, ◌∙◌, subst, arith, append_assoc, length-append}
use Rattle.std.proofs.lemmas.List.{reverse-append}
use Rattle.mm_explore.specs.{declared.found.Origin.Origin, FoundLists.{led_by, spelled, AreEarlier}}

pub map_push : {X Y : Type 0} (f : X → Y) (xs : List X) (x : X) → map f (xs ++ x ∷ []) ≡ map f xs ++ f x ∷ []
map_push f [] x = refl
map_push f (y ∷ xs) x = ap (λ l. f y ∷ l) (map_push f xs x)

-- 1. The schedules of origins.

pub spelled_push : (list : List (List ℕ)) (os : List Origin) (o : Origin) → spelled list (os ++ o ∷ []) ≡ spelled list os ++ led_by (spelled list os) o ∷ []
spelled_push list [] o = refl
spelled_push list (p ∷ os) o = spelled_push (list ++ led_by list p ∷ []) os o

pub length_spelled : (list : List (List ℕ)) (os : List Origin) → length (spelled list os) ≡ length list + length os
length_spelled list [] = omega arith
length_spelled list (o ∷ os) =
    let k = length_spelled (list ++ led_by list o ∷ []) os in
    let long = length-append list (led_by list o ∷ []) in
    omega (arith, k, long)

pub earlier_push : (n : ℕ) (os : List Origin) (o : Origin) → AreEarlier n os → o.from < n + length os → AreEarlier n (os ++ o ∷ [])
earlier_push n [] o h lt = (omega (arith, lt), tt)
earlier_push n (p ∷ os) o h lt = (h.0, earlier_push (n + 1) os o h.1 (omega (arith, lt)))

at_front : {X : Type 0} (xs ys : List X) (k : ℕ) (d : X) → k < length xs → slice_index_or (xs ++ ys) k d ≡ slice_index_or xs k d
at_front [] ys k d lt = absurd (omega (arith, lt))
at_front (x ∷ xs) ys zero d lt = refl
at_front (x ∷ xs) ys (suc k) d lt = at_front xs ys k d (omega (arith, lt))

at_seam : {X : Type 0} (xs : List X) (y : X) (d : X) → slice_index_or (xs ++ y ∷ []) (length xs) d ≡ y
at_seam [] y d = refl
at_seam (x ∷ xs) y d = at_seam xs y d

spelled_front : (list : List (List ℕ)) (os : List Origin) (k : ℕ) → k < length list → slice_index_or (spelled list os) k [] ≡ slice_index_or list k []
spelled_front list [] k lt = refl
spelled_front list (o ∷ os) k lt =
    let long = length-append list (led_by list o ∷ []) in
    spelled_front (list ++ led_by list o ∷ []) os k (omega (arith, lt, long)) ∙ at_front list (led_by list o ∷ []) k [] lt

-- each schedule but the first is that of its origin
pub spelled_at : (list : List (List ℕ)) (os : List Origin) (n : ℕ) → n ≡ length list → AreEarlier n os → (k : ℕ) (d : Origin) → k < length os
    → (slice_index_or (spelled list os) (n + k) [] ≡ led_by (spelled list os) (slice_index_or os k d)) × ((slice_index_or os k d).from < n + k)
spelled_at list [] n e h k d lt = absurd (omega (arith, lt))
spelled_at list (o ∷ os) n e h zero d lt =
    let more = list ++ led_by list o ∷ [] in
    let long = length-append list (led_by list o ∷ []) in
    let first = h.0 in
    let here : slice_index_or (spelled more os) (n + 0) [] ≡ led_by list o =
    ap (λ j. slice_index_or (spelled more os) j []) (let z : n + 0 ≡ length list = omega (arith, e) in z)
    ∙ spelled_front more os (length list) (omega (arith, long)) ∙ at_seam list (led_by list o) [] in
    let from : slice_index_or (spelled more os) o.from [] ≡ slice_index_or list o.from [] =
    spelled_front more os o.from (omega (arith, long, first, e)) ∙ at_front list (led_by list o ∷ []) o.from [] (omega (arith, first, e)) in
    (here ∙ sym (ap (λ s. s ++ o.item ∷ []) from), omega (arith, first))
spelled_at list (o ∷ os) n e h (suc k) d lt =
    let more = list ++ led_by list o ∷ [] in
    let long = length-append list (led_by list o ∷ []) in
    let rest = spelled_at more os (n + 1) (omega (arith, long, e)) h.1 k d (omega (arith, lt)) in
    let low = rest.1 in
    let same : n + suc k ≡ (n + 1) + k = omega arith in
    (ap (λ j. slice_index_or (spelled more os) j []) same ∙ rest.0, omega (arith, low))

-- 2. A schedule, from its last item to its first.

-- what is left of a schedule, before the items that were read from its end
abbrev pub before_items : List (List ℕ) → ℕ → List ℕ → List ℕ
before_items list at items = slice_index_or list at [] ++ reverse items

reverse_push : (items : List ℕ) (n : ℕ) → reverse (items ++ n ∷ []) ≡ n ∷ reverse items
reverse_push items n = reverse-append items (n ∷ [])

-- the last item is that of the origin
pub one_read : (list : List (List ℕ)) (os : List Origin) → spelled ([] ∷ []) os ≡ list → AreEarlier 1 os → (at : ℕ) (o : Origin) → 0 < at → at < length list
    → o ≡ slice_index_or os (at - 1) o → (items now : List ℕ) → now ≡ items ++ o.item ∷ []
    → (before_items list o.from now ≡ before_items list at items) × (o.from < at)
one_read list os view rising at o some low is items now e =
    let long = length_spelled ([] ∷ []) os in
    let same = ap length view in
    let k = spelled_at ([] ∷ []) os 1 refl rising (at - 1) o (omega (arith, some, low, long, same)) in
    let index : 1 + (at - 1) ≡ at = omega (arith, some) in
    let less = k.1 in
    let from = ap (λ (q : Origin). q.from) is in
    let led : slice_index_or list at [] ≡ led_by list o =
    subst (λ l. slice_index_or l at [] ≡ led_by l o) view
    (subst (λ j. slice_index_or (spelled ([] ∷ []) os) j [] ≡ led_by (spelled ([] ∷ []) os) o) index
    (k.0 ∙ ap (led_by (spelled ([] ∷ []) os)) (sym is))) in (
      ap (λ l. slice_index_or list o.from [] ++ reverse l) e ∙ ap (λ l. slice_index_or list o.from [] ++ l) (reverse_push items o.item)
          ∙ sym (append_assoc (slice_index_or list o.from []) (o.item ∷ []) (reverse items)) ∙ ap (λ l. l ++ reverse items) (sym led),
      omega (arith, less, index, from),
    )

pub all_read : (list : List (List ℕ)) (os : List Origin) → spelled ([] ∷ []) os ≡ list → (at : ℕ) → at ≡ 0 → (items : List ℕ) → before_items list at items ≡ reverse items
all_read list os view at e items =
    ap (λ k. slice_index_or list k [] ++ reverse items) e ∙ ap (λ l. l ++ reverse items) (sym (ap (λ l. slice_index_or l 0 []) view) ∙ spelled_front ([] ∷ []) os 0 (omega arith))
