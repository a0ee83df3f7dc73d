-- A run's snapshot brings the run's state back to a machine at the image's start, and the run goes on.
use Rattle.std.proofs.Common.{◌≡◌, ℕ, List, refl, ap, sym, ◌∙◌}
use Rattle.mm_model.{specs.{State.State, Image.{Image, start}, Run.run, Spelling.IsImage}, proofs.Starts.start_fits}
use Rattle.mm_machine.specs.Snapshot.{IsAlike, restored}
use Rattle.mm_machine.proofs.{Keeping.valid_core, Returning.put_back, Went.run_both}
use Rattle.mm_checkpoint.{specs.Laws.RestoredRunsGoOn, proofs.Reached.reached}

alike : (i : Image) (items : List ℕ) → IsImage i → IsAlike (start i) (run (start i) items)
alike i items image =
    let first = start_fits i image in
    let r = reached i items image in
    record {
      version = r.fits.version ∙ sym first.version;
      split = r.fits.split ∙ sym first.split;
      frames = r.fits.frames ∙ sym first.frames;
      core = ∣ valid_core (run (start i) items) r.kept ∣₁;
    }

pub goes_on : RestoredRunsGoOn
goes_on i items more p image is = (back, ap (λ (s : State). run s more) back ∙ sym (run_both (start i) items more))
  where
    back : restored (start i) p ≡ run (start i) items
    back = put_back (start i) (run (start i) items) p (restored (start i) p) refl (alike i items image) is
