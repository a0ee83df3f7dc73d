-- What a kernel in memory says of its image.
use Rattle.std.specs.Prelude.{◌≡◌, ◌⊎◌, ℕ, ◌%◌, ◌<◌, Bool, true, false, List, slice_index_or, ◌↔◌}
use Rattle.std.specs.List.{list_any}
use Rattle.mm_model.specs.{Image.Image, Spelling.IsImage}
use Rattle.mm_word.specs.Pointer.{Pointer}
use Rattle.mm_seg.specs.Segments.{Covered}
use Rattle.mm_kernel.specs.{Segments.{Segment, may_write, live_pointers}, Threads.{is_kernel, serves_some}}

-- an image with its kept segments
pub record Kernel : Type 0 where
  pub image : Image
  pub kept : List Segment

-- the set covers the words that these pointers can write
pub record CoversWritten (pointers : List Pointer) (set : List (ℕ × ℕ)) : Type 0 where
  pub covers : (w : ℕ) → w % 8 ≡ 0 → (list_any (may_write w) pointers ≡ true) ↔ Covered set w

-- the new set covers what the old one does and what a pointer can write
pub record WritesToo (p : Pointer) (old new : List (ℕ × ℕ)) : Type 0 where
  pub covers : (w : ℕ) → w % 8 ≡ 0 → Covered new w ↔ (Covered old w ⊎ (may_write w p ≡ true))

-- the flags of the numbers for which a test holds
pub record AreFlags (test : ℕ → Bool) (limit : ℕ) (flags : List Bool) : Type 0 where
  pub each : (n : ℕ) → n < limit → slice_index_or flags n false ≡ test n

-- what is kept in memory of an image and its kept segments is as they say
pub record IsKernel (i : Image) (kept : List Segment) (set : List (ℕ × ℕ)) (kernel_flags serving_flags : List Bool) : Type 0 where
  pub image : IsImage i
  pub written : CoversWritten (live_pointers i) set
  pub of_kernel : AreFlags (is_kernel i kept) 256 kernel_flags
  pub serving : AreFlags (serves_some i) 256 serving_flags
