-- What counts sum to.
use Rattle.std.proofs.Common.{◌≡◌, ℕ, ◌+◌, ◌≤◌, Bool, true, false, not, nat_eq, if◌then◌else◌, List, [], ◌∷◌, ◌++◌}
use Rattle.std.{proofs.Common.{length, reverse, take, Option, Some, None, refl, ap, arith}, specs.Prelude.is_some}
use mathlib.Core.List.{reverse_aux}
use Rattle.mm_model.specs.{Uses.{Use, Accessed, Removed}, Flags.one_if}
use Rattle.mm_model.specs.Counted.{block_of, line_of, page_of_block, latest, written, is_block, is_hit, given_back}
use Rattle.mm_model.specs.Counted.{written_back, page_of_old, looked_up, look_ups, has, distinct, buffer_hits}
use Rattle.mm_model.specs.Counted.{buffer_misses, total, hit_at, miss_at, back_at, found_at, sought_at, counts_of}
use Rattle.mm_laws.specs.Counts.{counted}

one_or_other : (b : Bool) → one_if b + one_if (not b) ≡ 1
one_or_other true = refl
one_or_other false = refl

hits_misses : (us : List Use) → total hit_at us + total miss_at us ≡ counted us
hits_misses [] = refl
hits_misses (Accessed kind addr true done ∷ us) = let rest = hits_misses us in let this = one_or_other (is_hit (block_of addr) us) in omega arith
hits_misses (Accessed kind addr false done ∷ us) = hits_misses us
hits_misses (Removed page ∷ us) = hits_misses us

-- the block of a hit is the line's own, which is not given back
back_for : (o : Option ℕ) (w : Bool) (block : ℕ) → one_if (is_some (given_back o w block)) ≤ one_if (not (is_block o block))
back_for None w block = omega arith
back_for (Some old) w block = by (nat_eq old block)
  where
    dirty : (w : Bool) → one_if (is_some (if w then Some old else None)) ≤ 1
    dirty true = omega arith
    dirty false = omega arith

    by : (b : Bool) → one_if (is_some (if b then None else (if w then Some old else None))) ≤ one_if (not b)
    by true = omega arith
    by false = dirty w

backs_few : (us : List Use) → total back_at us ≤ total miss_at us
backs_few [] = omega arith
backs_few (Accessed kind addr true done ∷ us) =
    let rest = backs_few us in
    let this = back_for (latest (line_of (block_of addr)) us) (written (line_of (block_of addr)) us) (block_of addr) in
    omega arith
backs_few (Accessed kind addr false done ∷ us) = backs_few us
backs_few (Removed page ∷ us) = backs_few us

-- each look-up is found or sought
found_or_sought : (ps before : List ℕ) → buffer_hits ps before + buffer_misses ps before ≡ length ps
found_or_sought [] before = refl
found_or_sought (p ∷ ps) before = let rest = found_or_sought ps before in let this = one_or_other (has p (take 16 (distinct (ps ++ before)))) in omega arith

old_pages : (o : Option ℕ) → length (page_of_old o) ≡ one_if (is_some o)
old_pages None = refl
old_pages (Some block) = refl

looks : (block : ℕ) (us : List Use) → length (looked_up block us) ≡ miss_at block us + back_at block us
looks block us = by (is_hit block us) refl
  where
    by : (b : Bool) → is_hit block us ≡ b → length (if b then [] else page_of_block block ∷ page_of_old (written_back block us)) ≡ one_if (not b) + one_if (is_some (written_back block us))
    by true e =
        let few = back_for (latest (line_of block) us) (written (line_of block) us) block in
        let none : one_if (not (is_block (latest (line_of block) us) block)) ≡ 0 = ap (λ b. one_if (not b)) e in
        omega arith
    by false e = let old = old_pages (written_back block us) in omega arith

look_ups_sum : (us : List Use) → total found_at us + total sought_at us ≡ total miss_at us + total back_at us
look_ups_sum [] = refl
look_ups_sum (Accessed kind addr true done ∷ us) =
    let rest = look_ups_sum us in
    let this = found_or_sought (looked_up (block_of addr) us) (look_ups us) in
    let here = looks (block_of addr) us in
    omega arith
look_ups_sum (Accessed kind addr false done ∷ us) = look_ups_sum us
look_ups_sum (Removed page ∷ us) = look_ups_sum us

-- counted accesses are as many in either order
counted-turned : (us vs : List Use) → counted (reverse_aux us vs) ≡ counted us + counted vs
counted-turned [] vs = omega arith
counted-turned (Accessed kind addr true done ∷ us) vs = let rest = counted-turned us (Accessed kind addr true done ∷ vs) in omega arith
counted-turned (Accessed kind addr false done ∷ us) vs = counted-turned us (Accessed kind addr false done ∷ vs)
counted-turned (Removed page ∷ us) vs = counted-turned us (Removed page ∷ vs)

pub accesses_sum : (us : List Use) → (counts_of us).hits + (counts_of us).misses ≡ counted us
accesses_sum us = let all = hits_misses (reverse us) in let turned = counted-turned us [] in omega arith

pub few_writebacks : (us : List Use) → (counts_of us).writebacks ≤ (counts_of us).misses
few_writebacks us = backs_few (reverse us)

pub look_ups_add : (us : List Use) → (counts_of us).tlb_hits + (counts_of us).tlb_misses ≡ (counts_of us).misses + (counts_of us).writebacks
look_ups_add us = look_ups_sum (reverse us)
