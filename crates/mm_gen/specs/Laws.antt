-- Laws of generated images.
use Rattle.std.specs.Prelude.{ℕ, ◌≤◌, ◌<◌, ◌^◌}
use Rattle.mm_model.specs.Spelling.{IsImage}
use Rattle.mm_gen.specs.Generated.{generated}

-- generated images are images that a machine can start from
abbrev pub GeneratedImagesAreImages : Type 0
GeneratedImagesAreImages = (number size : ℕ) → number < 2 ^ 64 → 1 ≤ size → size ≤ 16 → IsImage (generated number size)
