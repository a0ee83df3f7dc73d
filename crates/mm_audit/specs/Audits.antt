-- The value of a finished audit, and what it says of an image.
use Rattle.std.specs.{Prelude.{◌≡◌, ℕ, ◌%◌, ◌^◌, ◌<◌, ◌↔◌, List, [], slice_index_or, length}, Int.bit_at}
use Rattle.mm_word.specs.Perm.{can_load, can_store}
use Rattle.mm_model.specs.{Image.Image, Spelling.IsImage, Reach.{Entries, CanTouch, CanWrite, Privileged}}
use Rattle.mm_model.specs.Audit.{MaximalSegments}
use Rattle.mm_seg.specs.Segments.{IsSet, Covered}
use Rattle.mm_audit.specs.{declared.{handlers.Served.Served, shared_words.Meets.Meets}, Serving.served_of}
use Rattle.mm_audit.specs.Surveys.{IsLeastTable}

-- an audit as contracts see it: the mask of the privileged groups, each group's segments, the slots with the groups of
-- their handlers, and for each two groups the least word that the one writes and the other touches
pub record ReachValue : Type 0 where
  pub privileged : ℕ
  pub touch : List (List (ℕ × ℕ))
  pub write : List (List (ℕ × ℕ))
  pub served : List Served
  pub least : List Meets

abbrev pub set_of : List (List (ℕ × ℕ)) → ℕ → List (ℕ × ℕ)
set_of sets g = slice_index_or sets g []

-- the value is the audit of an image, if these entries may be made
pub record Audits (i : Image) (e : Entries) (r : ReachValue) : Type 0 where
  pub image : IsImage i
  pub served : r.served ≡ served_of i.slots
  pub least : IsLeastTable i e r.least
  pub touch_len : length r.touch ≡ 64
  pub write_len : length r.write ≡ 64
  pub touch_sets : (g : ℕ) → IsSet (set_of r.touch g)
  pub write_sets : (g : ℕ) → IsSet (set_of r.write g)
  pub privileged : (g : ℕ) → (bit_at r.privileged g ≡ 1) ↔ Privileged i e g
  pub touch_covers : (g w : ℕ) → w % 8 ≡ 0 → w < 2 ^ 54 → Covered (set_of r.touch g) w ↔ CanTouch i e g w
  pub write_covers : (g w : ℕ) → w % 8 ≡ 0 → w < 2 ^ 54 → Covered (set_of r.write g) w ↔ CanWrite i e g w
  pub touch_maximal : (g : ℕ) → MaximalSegments i e g can_load (set_of r.touch g)
  pub write_maximal : (g : ℕ) → MaximalSegments i e g can_store (set_of r.write g)
