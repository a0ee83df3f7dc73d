-- A swept image is an image.
use Rattle.std.proofs.Common.{◌≡◌, ℕ, Bool, true, false, ◌&&◌, if◌then◌else◌, List, [], ◌∷◌, map, Option, Some, None}
use Rattle.std.proofs.{Common.{refl, sym, ap, ◌∙◌, subst, arith}, lemmas.List.length-map}
use Rattle.std.specs.{Prelude.IfSome, List.{AllByRecursion, Sorted.IsStrictlyIncreasing}, Ordering.{nat_cmp, is_lt}}
use Rattle.std.specs.FinMap.{is_sorted, Entries.below_all}
use Rattle.mm_word.specs.{declared.word.{Word.{Word, TheVariants.{Int, Ptr}}, Cell.Cell}, Word.IsWord}
use Rattle.mm_model.specs.{Memory.{Memory, IsPage, IsPaged}, Slot.Slot, Image.{Image, slot_limit}}
use Rattle.mm_model.specs.Spelling.{numbers_of, IsOther, IsFresh, HoldsWords, IsImage}
use Rattle.mm_image.specs.Images.{image_from}
use Rattle.mm_sweep.specs.Swept.{meets, swept_word, swept_slot, swept_cell, swept_page, swept_memory, swept}
use Rattle.mm_sweep.proofs.SweptWords.{into_map}

-- what holds of what each element is mapped to holds of each element of the mapped list
each_mapped : {A B : Type 0} (P : A → Type 0) (Q : B → Type 0) (f : A → B) → ((x : A) → P x → Q (f x)) → (xs : List A) → AllByRecursion P xs → AllByRecursion Q (map f xs)
each_mapped P Q f g [] h = tt
each_mapped P Q f g (x ∷ xs) h = (g x h.0, each_mapped P Q f g xs h.1)

module _ (range : ℕ × ℕ) where
  -- 1. Words and slots.

  word_fits : (x : Word) → IsWord x → IsWord (swept_word range x)
  word_fits (Int bits) h = h
  word_fits (Ptr p) h = by (meets range p)
    where
      by : (b : Bool) → IsWord (if b then Int 0 else Ptr p)
      by true = omega arith
      by false = h

  same_numbers : (slots : List Slot) → numbers_of (map (swept_slot range) slots) ≡ numbers_of slots
  same_numbers [] = refl
  same_numbers (s ∷ slots) = ap (λ (ns : List ℕ). s.number ∷ ns) (same_numbers slots)

  handler_stands : (slots : List Slot) (n : ℕ) (o : Option ℕ) → IfSome o (IsOther slots n) → IfSome o (IsOther (map (swept_slot range) slots) n)
  handler_stands slots n None h = tt
  handler_stands slots n (Some v) h = (h.0, (swept_slot range h.1.0, into_map (swept_slot range) slots h.1.0 h.1.1, h.1.2))

  slot_fresh : (limit : ℕ) (slots : List Slot) (s : Slot) → IsFresh limit slots s → IsFresh limit (map (swept_slot range) slots) (swept_slot range s)
  slot_fresh limit slots s h = record {
    number = h.number;
    group = h.group;
    handler = handler_stands slots s.number s.handler h.handler;
    begins = h.begins;
    executable = h.executable;
    ip = h.ip;
    registers = length-map s.regs (swept_word range) ∙ h.registers;
    words = each_mapped IsWord IsWord (swept_word range) word_fits s.regs h.words;
    past = h.past;
    turns = h.turns;
    empty = h.empty;
    pending = h.pending;
  }

  -- 2. Pages.

  same_below : (n : ℕ) (pages : List (ℕ × List Cell)) → below_all nat_cmp n (map (swept_page range) pages) ≡ below_all nat_cmp n pages
  same_below n [] = refl
  same_below n (page ∷ pages) = ap (λ b. is_lt (nat_cmp n page.0) && b) (same_below n pages)

  same_sorted : (pages : List (ℕ × List Cell)) → is_sorted nat_cmp (map (swept_page range) pages) ≡ is_sorted nat_cmp pages
  same_sorted [] = refl
  same_sorted (page ∷ pages) =
      ap (λ b. b && is_sorted nat_cmp (map (swept_page range) pages)) (same_below page.0 pages) ∙ ap (λ b. below_all nat_cmp page.0 pages && b) (same_sorted pages)

  page_whole : (page : ℕ × List Cell) → IsPage page → IsPage (swept_page range page)
  page_whole page h = record { number = h.number; cells = length-map page.1 (swept_cell range) ∙ h.cells }

  page_holds : (page : ℕ × List Cell) → HoldsWords page → HoldsWords (swept_page range page)
  page_holds page h = each_mapped (λ (c : Cell). IsWord c.word) (λ (c : Cell). IsWord c.word) (swept_cell range) (λ c x. word_fits c.word x) page.1 h

  memory_paged : (m : Memory) → IsPaged m → IsPaged (swept_memory range m)
  memory_paged m h = record {
    pages = record {
      rising = same_sorted m.pages ∙ h.pages.rising;
      whole = each_mapped IsPage IsPage (swept_page range) page_whole m.pages h.pages.whole;
    };
    fitting = let fit = h.fitting in let same = length-map m.pages (swept_page range) in omega arith;
  }

  -- 3. Images.

  swept_image : (i : Image) → IsImage i → IsImage (swept range i)
  swept_image i h =
      let slots = length-map i.slots (swept_slot range) in
      let pages = length-map i.memory.pages (swept_page range) in
      record {
        version = h.version;
        mode = h.mode;
        some_slots = (let some = h.some_slots in omega arith);
        few_slots = (let few = h.few_slots in omega arith);
        rising = subst IsStrictlyIncreasing (sym (same_numbers i.slots)) h.rising;
        fresh = each_mapped (IsFresh (slot_limit i.version) i.slots)
            (IsFresh (slot_limit i.version) (map (swept_slot range) i.slots)) (swept_slot range)
            (slot_fresh (slot_limit i.version) i.slots) i.slots h.fresh;
        some_frames = h.some_frames;
        few_frames = h.few_frames;
        paged = memory_paged i.memory h.paged;
        words = each_mapped HoldsWords HoldsWords (swept_page range) page_holds i.memory.pages h.words;
      }

pub swept_is_image : (range : ℕ × ℕ) (i : Image) → IsImage i → IsImage (swept range i)
swept_is_image range i h = swept_image range i h
