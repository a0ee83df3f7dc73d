-- What is generated is an image.
use Rattle.std.proofs.Common.{◌≡◌, ℕ, ◌+◌, ◌*◌, ◌^◌, ◌<◌, ◌≤◌, false, List, [], ◌∷◌, map, replicate, refl, ap, sym}
use Rattle.std.proofs.Common.{subst, inl, arith, lit<, lit≤}
use Rattle.std.proofs.lemmas.List.Elements.{All-replicate, recursion_from_All}
use Rattle.std.proofs.lemmas.List.FromFn.{length-range_with_len, length-map-range_with_len, get_or-range_with_len}
use Rattle.std.specs.List.{flat_map, range_with_len, Sorted.IsStrictlyIncreasing}
use Rattle.mm_word.specs.{declared.{perm.Perm.Perm, word.{Word.TheVariants.Int, Cell.Cell}}, Pointer.IsWellFormed}
use Rattle.mm_word.specs.Word.{IsWord}
use Rattle.mm_model.specs.{Slot.Slot, Memory.{IsPage, IsPaged}, Spelling.{numbers_of, IsFresh, HoldsWords, IsImage}}
use Rattle.mm_model.proofs.Bytes.Rising.{sorted_from}
use Rattle.mm_image.specs.Images.{image_from}
use Rattle.mm_gen.specs.Generated.{code_page, data_page, slot_pages, page_pointer, slot_at, generated}
use Rattle.mm_gen.proofs.PageLists.{length-code_cells, length-data_cells, code_words, data_words, each_in_range}
use Rattle.mm_gen.proofs.PageLists.{each_page, length-pages, pages_rise}

-- 1. Slots.

numbers_are : (numbers : List ℕ) → numbers_of (map slot_at numbers) ≡ numbers
unfolding slot_at
numbers_are [] = refl
numbers_are (n ∷ numbers) = ap (λ ns. n ∷ ns) (numbers_are numbers)

range_rises : (size : ℕ) → IsStrictlyIncreasing (range_with_len 0 size)
range_rises size k lt =
    let inside : k + 1 < size = omega (arith, length-range_with_len 0 size) in
    omega (arith, get_or-range_with_len 0 size k 0 (omega arith), get_or-range_with_len 0 size (k + 1) 0 inside)

pointer_fits : (perm : Perm) (page : ℕ) → page < 2 ^ 42 → IsWellFormed (page_pointer perm page)
pointer_fits perm page lt = record { log_in_range = lit≤ tt; addr_in_range = omega arith }

fresh : (slots : List Slot) (k : ℕ) → k < 16 → IsFresh 16 slots (slot_at k)
unfolding slot_at
fresh slots k lt = record {
  number = lt;
  group = lt;
  handler = tt;
  begins = tt;
  executable = refl;
  ip = pointer_fits _ (code_page k) (omega arith);
  registers = refl;
  words = (lit< tt, (pointer_fits _ (data_page k) (omega arith), recursion_from_All IsWord (replicate 14 (Int 0)) (All-replicate IsWord 14 (Int 0) (lit< tt))));
  past = refl;
  turns = refl;
  empty = refl;
  pending = refl;
}

-- 2. Memory.

paged : (number size : ℕ) → size ≤ 16 → IsPaged (record { pages = flat_map (slot_pages number) (range_with_len 0 size); frames = 2 * size })
paged number size few = record {
  pages = record {
    rising = sorted_from 0 (flat_map (slot_pages number) (range_with_len 0 size)) (pages_rise number 0 0 size (omega arith));
    whole = each_page IsPage number 0 size (λ k lt. record { number = omega arith; cells = length-code_cells }) (λ k lt. record { number = omega arith; cells = length-data_cells number k });
  };
  fitting = omega (arith, length-pages number 0 size);
}

-- 3. Images.

pub generated_is_image : (number size : ℕ) → number < 2 ^ 64 → 1 ≤ size → size ≤ 16 → IsImage (generated number size)
unfolding generated
generated_is_image number size fits some few =
    let slots = map slot_at (range_with_len 0 size) in
    record {
      version = inl refl;
      mode = λ _. refl;
      some_slots = omega (arith, length-map-range_with_len slot_at 0 size);
      few_slots = omega (arith, length-map-range_with_len slot_at 0 size);
      rising = subst IsStrictlyIncreasing (sym (numbers_are (range_with_len 0 size))) (range_rises size);
      fresh = each_in_range (IsFresh 16 slots) slot_at 0 size (λ k lt. fresh slots k (omega arith));
      some_frames = omega arith;
      few_frames = omega arith;
      paged = paged number size few;
      words = each_page HoldsWords number 0 size (λ k lt. code_words) (λ k lt. data_words number k fits);
    }

-- the image of these parts
pub parts_of_image : (number size : ℕ) (slots : List Slot) (pages : List (ℕ × List Cell)) (frames : ℕ) → slots ≡ map slot_at (range_with_len 0 size)
    → pages ≡ flat_map (slot_pages number) (range_with_len 0 size) → frames ≡ 2 * size → image_from 1 false slots pages frames ≡ generated number size
unfolding generated
parts_of_image number size slots pages frames es ep ef = rw (es, ep, ef) refl
