-- An image as version 2 is an image.
use Rattle.std.proofs.Common.{◌≡◌, ℕ, ◌≤◌, ◌⊎◌, inl, inr, Bool, refl, sym, subst, arith}
use Rattle.mm_machine.proofs.Starting.{at_most_64, widened}
use Rattle.mm_model.specs.{Image.{Image, slot_limit, frame_limit}, Spelling.{IsImage, IsFresh}, Worlds.migrated}
use Rattle.mm_model.proofs.CoreRows.{each_map}

more_frames : (version : ℕ) → (version ≡ 1) ⊎ (version ≡ 2) → frame_limit version ≤ 4096
more_frames version (inl is) = subst (λ (v : ℕ). frame_limit v ≤ 4096) (sym is) (omega arith)
more_frames version (inr is) = subst (λ (v : ℕ). frame_limit v ≤ 4096) (sym is) (omega arith)

pub migrated_is : (i : Image) (split : Bool) → IsImage i → IsImage (migrated i split)
migrated_is i split is =
    let slots : slot_limit i.version ≤ 64 = at_most_64 i.version is.version in
    record {
      version = inr refl;
      mode = λ one. absurd (omega (arith, one));
      some_slots = is.some_slots;
      few_slots = omega (arith, is.few_slots);
      rising = is.rising;
      fresh = each_map (IsFresh (slot_limit i.version) i.slots) (IsFresh 64 i.slots) (widened (slot_limit i.version) i.slots slots) i.slots is.fresh;
      some_frames = is.some_frames;
      few_frames = omega (arith, is.few_frames, more_frames i.version is.version);
      paged = is.paged;
      words = is.words;
    }
