-- Blocks after a write.
use Rattle.std.proofs.Common.{◌≡◌, ◌≢◌, ℕ, ◌+◌, ◌*◌, ◌<◌, ◌≤◌, Bool, true, false, cond, nat_eq, T, List, ◌++◌, length}
use Rattle.std.proofs.Common.{take, drop, Option, None, Some, is_some, refl, sym, ap, subst, ◌∙◌, arith, append_assoc}
use Rattle.std.proofs.Common.{nat_lt, ◌-◌, eqb-true, eq-eqb}
use Rattle.std.proofs.lemmas.Cmp.{nat_cmp_total}
use Rattle.std.proofs.lemmas.List.{length-append, length-take-le, length-drop, take_at, drop_at, take-append-le}
use Rattle.std.proofs.lemmas.{List.{drop-append-le, drop-drop, take-append-drop}, Bool.Decides.nat_tests}
use Rattle.std.specs.{Ordering.nat_cmp, FinMap.{put, is_sorted, Entries.{is_sorted-put, length-put}}}
use Rattle.mm_word.specs.declared.word.Cell.{Cell}
use Rattle.mm_model.specs.{Memory.{Memory, IsPaged, page_at, is_mapped}, Counted.page_of_block}
use Rattle.mm_model.proofs.Memories.{find_put_same, find_put_other, page_whole, truth, put_whole}
use Rattle.mm_mem.specs.Blocks.{place_of_block, with_block, block_of_page, block_at, put_in_page, put_block}

-- 1. In a page.

eight_in_front : {X : Type 0} (xs ys : List X) (n : ℕ) → n + 8 ≤ length xs → take 8 (drop n (xs ++ ys)) ≡ take 8 (drop n xs)
eight_in_front xs ys n le =
    ap (take 8) (drop-append-le n xs ys (omega arith)) ∙ take-append-le 8 (drop n xs) ys (omega (arith, length-drop n xs))

module _ {X : Type 0} (cells new : List X) (block_index : ℕ) (whole : length cells ≡ 512) (eight : length new ≡ 8) (within : block_index < 64) where
  abbrev front : List X
  front = take (block_index * 8) cells

  abbrev rest : List X
  rest = drop (block_index * 8 + 8) cells

  abbrev after : List X
  after = front ++ new ++ rest

  front_length : length front ≡ block_index * 8
  front_length = length-take-le (block_index * 8) cells (omega (arith, whole))

  up_to_block : length (front ++ new) ≡ block_index * 8 + 8
  up_to_block = omega (arith, front_length, eight, length-append front new)

  pub length_with_block : length after ≡ 512
  length_with_block = omega (arith, up_to_block, whole, length-append (front ++ new) rest, length-drop (block_index * 8 + 8) cells)

  -- the block that was written
  pub block_written : take 8 (drop (block_index * 8) after) ≡ new
  block_written =
      ap (λ xs. take 8 (drop (block_index * 8) xs)) (append_assoc front new rest)
      ∙ ap (take 8) (drop_at front (new ++ rest) (block_index * 8) front_length)
      ∙ take_at new rest 8 eight

  -- one before it
  block_before : (q : ℕ) → q < block_index → take 8 (drop (q * 8) after) ≡ take 8 (drop (q * 8) cells)
  block_before q lt =
      ap (λ xs. take 8 (drop (q * 8) xs)) (append_assoc front new rest)
      ∙ eight_in_front front (new ++ rest) (q * 8) (omega (arith, front_length))
      ∙ sym (eight_in_front front (drop (block_index * 8) cells) (q * 8) (omega (arith, front_length)))
      ∙ ap (λ xs. take 8 (drop (q * 8) xs)) (take-append-drop (block_index * 8) cells)

  -- one after it
  block_behind : (q : ℕ) → block_index < q → take 8 (drop (q * 8) after) ≡ take 8 (drop (q * 8) cells)
  block_behind q lt =
      let k : ℕ = block_index * 8 + 8 in
      let sum : k + (q * 8 - k) ≡ q * 8 = omega arith in
      ap (λ n. take 8 (drop n after)) (sym sum)
      ∙ ap (take 8) (sym (drop-drop (q * 8 - k) k after) ∙ ap (drop (q * 8 - k)) (drop_at (front ++ new) rest k up_to_block) ∙ drop-drop (q * 8 - k) k cells)
      ∙ ap (λ n. take 8 (drop n cells)) sum

  pub other_block : (q : ℕ) → (q ≡ block_index → ⊥) → take 8 (drop (q * 8) after) ≡ take 8 (drop (q * 8) cells)
  other_block q ne = go (nat_lt q block_index) refl
    where
      go : (b : Bool) → nat_lt q block_index ≡ b → take 8 (drop (q * 8) after) ≡ take 8 (drop (q * 8) cells)
      go true y = block_before q (grind (arith, nat_tests, y))
      go false n = block_behind q (grind (arith, nat_tests, n, ne))

-- 2. In a memory.

-- a write where no page is mapped changes nothing
pub put_block-unmapped : (m : Memory) (block : ℕ) (new : List Cell) → page_at m (page_of_block block) ≡ None → put_block m block new ≡ m
unfolding put_block
put_block-unmapped m block new e = ap (λ o. put_in_page m o block new) e

-- a write where it is mapped
pub put_block-mapped : (m : Memory) (block : ℕ) (new cells : List Cell) → page_at m (page_of_block block) ≡ Some cells
    → put_block m block new ≡ record m { pages = put nat_cmp (page_of_block block) (with_block cells (place_of_block block) new) m.pages }
unfolding put_block
put_block-mapped m block new cells e = ap (λ o. put_in_page m o block new) e

pub page_at-written : (m : Memory) (block : ℕ) (new cells : List Cell) → page_at m (page_of_block block) ≡ Some cells
    → page_at (put_block m block new) (page_of_block block) ≡ Some (with_block cells (place_of_block block) new)
page_at-written m block new cells e =
    ap (λ n. page_at n (page_of_block block)) (put_block-mapped m block new cells e) ∙ find_put_same m.pages (page_of_block block) (with_block cells (place_of_block block) new)

written_other : (m : Memory) (block : ℕ) (new : List Cell) (q : ℕ) → (q ≡ page_of_block block → ⊥) → (o : Option (List Cell)) → page_at m (page_of_block block) ≡ o
    → page_at (put_block m block new) q ≡ page_at m q
written_other m block new q ne None e = ap (λ n. page_at n q) (put_block-unmapped m block new e)
written_other m block new q ne (Some cells) e =
    ap (λ n. page_at n q) (put_block-mapped m block new cells e) ∙ find_put_other m.pages (page_of_block block) (with_block cells (place_of_block block) new) q ne

pub page_at-other : (m : Memory) (block : ℕ) (new : List Cell) (q : ℕ) → (q ≡ page_of_block block → ⊥) → page_at (put_block m block new) q ≡ page_at m q
page_at-other m block new q ne = written_other m block new q ne (page_at m (page_of_block block)) refl

mapped_stays : (m : Memory) (block : ℕ) (new : List Cell) (q : ℕ) (b : Bool) → nat_eq q (page_of_block block) ≡ b → (o : Option (List Cell)) → page_at m (page_of_block block) ≡ o
    → is_mapped (put_block m block new) q ≡ is_mapped m q
mapped_stays m block new q true y None e = ap (λ n. is_mapped n q) (put_block-unmapped m block new e)
mapped_stays m block new q true y (Some cells) e =
    let s = eqb-true q (page_of_block block) y in
    ap (is_mapped (put_block m block new)) s ∙ ap is_some (page_at-written m block new cells e) ∙ sym (ap (is_mapped m) s ∙ ap is_some e)
mapped_stays m block new q false n o e = ap is_some (page_at-other m block new q (λ s. cc (eq-eqb q (page_of_block block) s)))

pub is_mapped-put_block : (m : Memory) (block : ℕ) (new : List Cell) (q : ℕ) → is_mapped (put_block m block new) q ≡ is_mapped m q
is_mapped-put_block m block new q = mapped_stays m block new q (nat_eq q (page_of_block block)) refl (page_at m (page_of_block block)) refl

-- 3. The law.

own_block : (m : Memory) (block : ℕ) (new : List Cell) → IsPaged m → length new ≡ 8 → (o : Option (List Cell)) → page_at m (page_of_block block) ≡ o → is_some o ≡ true
    → block_at (put_block m block new) block ≡ Some new
own_block m block new paged eight None e some = cc
own_block m block new paged eight (Some cells) e some =
    ap (λ o. block_of_page o block) (page_at-written m block new cells e)
    ∙ ap Some (block_written cells new (place_of_block block) (page_whole m paged (page_of_block block) cells e).cells eight (omega arith))

pub own : (m : Memory) (block : ℕ) (new : List Cell) → IsPaged m → is_mapped m (page_of_block block) ≡ true → length new ≡ 8 → block_at (put_block m block new) block ≡ Some new
own m block new paged mapped eight = own_block m block new paged eight (page_at m (page_of_block block)) refl mapped

other_place : (m : Memory) (block b : ℕ) (new : List Cell) → IsPaged m → length new ≡ 8 → b ≢ block → page_of_block b ≡ page_of_block block
    → (o : Option (List Cell)) → page_at m (page_of_block block) ≡ o → block_at (put_block m block new) b ≡ block_at m b
other_place m block b new paged eight ne s None e = ap (λ n. block_at n b) (put_block-unmapped m block new e)
other_place m block b new paged eight ne s (Some cells) e =
    let apart : (place_of_block b ≡ place_of_block block → ⊥) = λ p. ne (omega (arith, p, s)) in
    ap (λ o. block_of_page o b) (ap (page_at (put_block m block new)) s ∙ page_at-written m block new cells e)
    ∙ ap Some (other_block cells new (place_of_block block) (page_whole m paged (page_of_block block) cells e).cells eight (omega arith) (place_of_block b) apart)
    ∙ sym (ap (λ o. block_of_page o b) (ap (page_at m) s ∙ e))

pub other : (m : Memory) (block b : ℕ) (new : List Cell) → IsPaged m → length new ≡ 8 → b ≢ block → block_at (put_block m block new) b ≡ block_at m b
other m block b new paged eight ne = go (nat_eq (page_of_block b) (page_of_block block)) refl
  where
    go : (t : Bool) → nat_eq (page_of_block b) (page_of_block block) ≡ t → block_at (put_block m block new) b ≡ block_at m b
    go true y = other_place m block b new paged eight ne (eqb-true (page_of_block b) (page_of_block block) y) (page_at m (page_of_block block)) refl
    go false n = ap (λ o. block_of_page o b) (page_at-other m block new (page_of_block b) (λ s. cc (eq-eqb (page_of_block b) (page_of_block block) s)))

-- pages in which one is replaced
replaced : (m : Memory) (k : ℕ) (cells v : List Cell) → IsPaged m → page_at m k ≡ Some cells → length v ≡ 512 → IsPaged (record m { pages = put nat_cmp k v m.pages })
replaced m k cells v paged e long =
    let rising = subst T (sym paged.pages.rising) tt in
    let count : length (put nat_cmp k v m.pages) ≡ length m.pages = length-put nat_cmp nat_cmp_total k v m.pages rising ∙ ap (λ o. cond (is_some o) (length m.pages) (length m.pages + 1)) e in
    record {
      pages = record {
        rising = truth (is_sorted nat_cmp (put nat_cmp k v m.pages)) (is_sorted-put nat_cmp nat_cmp_total k v m.pages rising);
        whole = put_whole k v m.pages (record { number = (page_whole m paged k cells e).number; cells = long }) paged.pages.whole;
      };
      fitting = omega (arith, count, paged.fitting);
    }

block_paged : (m : Memory) (block : ℕ) (new : List Cell) → IsPaged m → length new ≡ 8 → (o : Option (List Cell)) → page_at m (page_of_block block) ≡ o → IsPaged (put_block m block new)
block_paged m block new paged eight None e = subst IsPaged (sym (put_block-unmapped m block new e)) paged
block_paged m block new paged eight (Some cells) e =
    let old = page_whole m paged (page_of_block block) cells e in
    subst IsPaged (sym (put_block-mapped m block new cells e))
    (replaced m (page_of_block block) cells (with_block cells (place_of_block block) new) paged e (length_with_block cells new (place_of_block block) old.cells eight (omega arith)))

pub put_block_paged : (m : Memory) (block : ℕ) (new : List Cell) → IsPaged m → length new ≡ 8 → IsPaged (put_block m block new)
put_block_paged m block new paged eight = block_paged m block new paged eight (page_at m (page_of_block block)) refl
