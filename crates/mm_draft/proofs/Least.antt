-- The first fault of a text is the least of all its faults.
use Rattle.std.proofs.Common.{◌≡◌, ℕ, ◌+◌, ◌-◌, ◌<◌, ◌≤◌, Bool, true, false, ◌&&◌, ◌||◌, if◌then◌else◌, List, [], ◌∷◌}
use Rattle.std.proofs.Common.{◌++◌, map, length, Option, Some, None, refl, sym, ap, ◌∙◌, arith}
use Rattle.std.{proofs.lemmas.Bool.Decides.nat_tests, specs.{Prelude.{nat_lt, ◌==◌, option_map}, Option.option_or}}
use Rattle.mm_line.specs.{declared.fault.Problem.Problem, Faults.number_of, Statements.line_of}
use Rattle.mm_draft.specs.Drafts.{Draft, nothing, add_line}
use Rattle.mm_draft.specs.Faults.{is_before, lesser, first_of, line_faults, source_of, step, step_by, lines_from}
use Rattle.mm_draft.specs.Faults.{lines_of, draft_of, ◌then◌}
use Rattle.mm_draft.specs.Laws.{Pair, pair_of, all_from, early_faults, precedes, sooner, least, fault_of}
use Rattle.mm_draft.proofs.Positions.{EachIs, Within, line_within}

-- 1. The least of two lists of pairs, one of a line and one of later lines.

abbrev EachOn : ℕ → List Pair → Type 0
EachOn n [] = Unit {0}
EachOn n (p ∷ ps) = (p.line ≡ n) × EachOn n ps

abbrev EachFrom : ℕ → List Pair → Type 0
EachFrom n [] = Unit {0}
EachFrom n (p ∷ ps) = (n ≤ p.line) × EachFrom n ps

later : (p q : Pair) → p.line < q.line → precedes q p ≡ false
later p q h = grind (arith, nat_tests)

abbrev From : ℕ → Option Pair → Type 0
From n None = Unit {0}
From n (Some p) = n ≤ p.line

sooner_from : (n : ℕ) (p : Pair) (o : Option Pair) → n ≤ p.line → From n o → From n (sooner p o)
sooner_from n p None h f = h
sooner_from n p (Some q) h f = by (precedes q p)
  where
    by : (b : Bool) → From n (if b then Some q else Some p)
    by true = f
    by false = h

least_from : (n : ℕ) (ps : List Pair) → EachFrom n ps → From n (least ps)
least_from n [] e = tt
least_from n (p ∷ ps) e = sooner_from n p (least ps) e.0 (least_from n ps e.1)

here : (n : ℕ) (p : Pair) (o : Option Pair) → p.line ≡ n → From (n + 1) o → sooner p o ≡ Some p
here n p None h f = refl
here n p (Some q) h f = let b = later p q (omega arith) in rw b refl

joined : (n : ℕ) (p : Pair) (o r : Option Pair) → p.line ≡ n → From (n + 1) r → sooner p (option_or o r) ≡ option_or (sooner p o) r
joined n p None r h f = here n p r h f
joined n p (Some q) r h f = by (precedes q p)
  where
    by : (b : Bool) → (if b then Some q else Some p) ≡ option_or (if b then Some q else Some p) r
    by true = refl
    by false = refl

least_append : (n : ℕ) (ps qs : List Pair) → EachOn n ps → EachFrom (n + 1) qs → least (ps ++ qs) ≡ option_or (least ps) (least qs)
least_append n [] qs on from = refl
least_append n (p ∷ ps) qs on from = ap (sooner p) (least_append n ps qs on.1 from) ∙ joined n p (least ps) (least qs) on.0 (least_from (n + 1) qs from)

weaker : (n : ℕ) (qs : List Pair) → EachFrom (n + 1) qs → EachFrom n qs
weaker n [] h = tt
weaker n (q ∷ qs) h = (omega (arith, h.0), weaker n qs h.1)

from_append : (n : ℕ) (ps qs : List Pair) → EachOn n ps → EachFrom (n + 1) qs → EachFrom n (ps ++ qs)
from_append n [] qs on from = weaker n qs from
from_append n (p ∷ ps) qs on from = (omega (arith, on.0), from_append n ps qs on.1 from)

-- 2. The pairs of a line, and of the lines from a number on.

pairs_on : (number size : ℕ) (ps : List Problem) → EachOn (number + 1) (map (pair_of number size) ps)
pairs_on number size [] = tt
pairs_on number size (p ∷ ps) = (refl, pairs_on number size ps)

all_are_from : (number : ℕ) (d : Draft) (lines : List (List ℕ)) → EachFrom (number + 1) (all_from number d lines)
all_are_from number d [] = tt
all_are_from number d (bytes ∷ more) =
    from_append (number + 1) (map (pair_of number (length bytes)) (line_faults d (line_of bytes))) _ (pairs_on number (length bytes) (line_faults d (line_of bytes)))
    (all_are_from (number + 1) (add_line (source_of number bytes) (line_of bytes) d) more)

-- in a line, the order of pairs is that of places and numbers
same_order : (n size a b i j : ℕ) → a ≤ size → b ≤ size
    → (nat_lt n n || n == n && (nat_lt (size - a + 1) (size - b + 1) || size - a + 1 == size - b + 1 && nat_lt i j)) ≡ (nat_lt b a || a == b && nat_lt i j)
same_order n size a b i j la lb = grind (arith, nat_tests)

precedes_is : (number size : ℕ) (p q : Problem) → q.left ≤ size → p.left ≤ size → precedes (pair_of number size q) (pair_of number size p) ≡ is_before q p
precedes_is number size p q lq lp = same_order (number + 1) size q.left p.left (number_of q.fault) (number_of p.fault) lq lp

abbrev Fits : ℕ → Option Problem → Type 0
Fits size None = Unit {0}
Fits size (Some p) = p.left ≤ size

lesser_fits : (size : ℕ) (p : Problem) (o : Option Problem) → p.left ≤ size → Fits size o → Fits size (lesser p o)
lesser_fits size p None h f = h
lesser_fits size p (Some q) h f = by (is_before q p)
  where
    by : (b : Bool) → Fits size (if b then Some q else Some p)
    by true = f
    by false = h

first_fits : (size : ℕ) (ps : List Problem) → EachIs (Within size) ps → Fits size (first_of ps)
first_fits size [] h = tt
first_fits size (p ∷ ps) h = lesser_fits size p (first_of ps) h.0 (first_fits size ps h.1)

sooner_is : (number size : ℕ) (p : Problem) (o : Option Problem) → p.left ≤ size → Fits size o
    → sooner (pair_of number size p) (option_map (pair_of number size) o) ≡ option_map (pair_of number size)
    (lesser p o)
sooner_is number size p None h f = refl
sooner_is number size p (Some q) h f = ap (λ b. if b then Some (pair_of number size q) else Some (pair_of number size p)) (precedes_is number size p q f h) ∙ by (is_before q p)
  where
    by : (b : Bool) → (if b then Some (pair_of number size q) else Some (pair_of number size p)) ≡ option_map (pair_of number size) (if b then Some q else Some p)
    by true = refl
    by false = refl

least_is : (number size : ℕ) (ps : List Problem) → EachIs (Within size) ps → least (map (pair_of number size) ps) ≡ option_map (pair_of number size) (first_of ps)
least_is number size [] h = refl
least_is number size (p ∷ ps) h = ap (sooner (pair_of number size p)) (least_is number size ps h.1) ∙ sooner_is number size p (first_of ps) h.0 (first_fits size ps h.1)

-- 3. The whole text.

stops_or_goes : (number : ℕ) (bytes : List ℕ) (o : Option Problem) (d : Draft) (more : List (List ℕ)) (r : Option Pair)
    → fault_of (lines_from (number + 1) (add_line (source_of number bytes) (line_of bytes) d) more) ≡ r
    → fault_of (step_by o (source_of number bytes) (line_of bytes) d then λ e. lines_from (number + 1) e more) ≡ option_or (option_map (pair_of number (length bytes)) o) r
stops_or_goes number bytes None d more r h = h
stops_or_goes number bytes (Some p) d more r h = refl

lines_least : (number : ℕ) (d : Draft) (lines : List (List ℕ)) → fault_of (lines_from number d lines) ≡ least (all_from number d lines)
unfolding lines_from step
lines_least number d [] = refl
lines_least number d (bytes ∷ more) =
    let ps = line_faults d (line_of bytes) in
    let next = add_line (source_of number bytes) (line_of bytes) d in
    let rest = all_from (number + 1) next more in
    let size = length bytes in
    stops_or_goes number bytes (first_of ps) d more _ (lines_least (number + 1) next more)
    ∙ ap (λ o. option_or o (least rest)) (sym (least_is number size ps (line_within d bytes)))
    ∙ sym (least_append (number + 1) (map (pair_of number size) ps) rest (pairs_on number size ps) (all_are_from (number + 1) next more))

pub first_is_least : (text : List ℕ) → fault_of (draft_of text) ≡ least (early_faults text)
unfolding draft_of
first_is_least text = lines_least 0 nothing (lines_of text)
