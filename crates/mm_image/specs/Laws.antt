-- Laws of image files.
use Rattle.std.specs.Prelude.{◌≡◌, ℕ, List, None}
use Rattle.mm_model.specs.{Image.Image, Spelling.IsImage, Bytes.IsBytes}
use Rattle.mm_format.specs.Images.{spelling, Spells, image_fault}

-- bytes that spell an image have no fault, and bytes without a fault spell one
abbrev pub ImagesHaveNoFault : Type 0
ImagesHaveNoFault =
    (bytes : List ℕ) → ((i : Image) → Spells bytes i → image_fault bytes ≡ None)
    × (IsBytes bytes → image_fault bytes ≡ None → (i : Image) × Spells bytes i)

-- each image has exactly one spelling
abbrev pub ImagesAreSpelled : Type 0
ImagesAreSpelled =
    (i : Image) → IsImage i → Spells (spelling i) i × ((bytes : List ℕ) → Spells bytes i → bytes ≡ spelling i)

-- bytes spell one image at most
abbrev pub SpelledImagesAreOne : Type 0
SpelledImagesAreOne = (bytes : List ℕ) (i j : Image) → Spells bytes i → Spells bytes j → i ≡ j

-- different images have different spellings
abbrev pub SpellingIsInjective : Type 0
SpellingIsInjective = (i j : Image) → IsImage i → IsImage j → spelling i ≡ spelling j → i ≡ j
