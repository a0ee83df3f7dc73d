-- A machine of an image can be put back to a checkpoint of it.
use Rattle.std.{proofs.Common.{ℕ, ◌≤◌, length, sym, ◌∙◌, subst}, specs.{Prelude.Option, List.AllByRecursion}}
use Rattle.mm_model.{specs.{Image.{Image, start, output_limit}, Spelling.IsImage}, proofs.Starts.start_fits}
use Rattle.mm_thread.specs.Output.{Output}
use Rattle.mm_machine.specs.Snapshot.{Parts, CanRestore}
use Rattle.mm_checkpoint.specs.Checkpoints.{IsCheckpoint}

pub can_begin : (i : Image) (p : Parts) (last : Option ℕ) → IsImage i → IsCheckpoint i p last → CanRestore (start i) p
can_begin i p last image checkpoint =
    let fits = start_fits i image in
    record {
      slots = checkpoint.slots ∙ sym fits.same_slots;
      mode = λ off. checkpoint.mode (sym fits.split ∙ off);
      outputs = subst (λ (v : ℕ). AllByRecursion (λ (o : Output). length o.bytes ≤ output_limit v) p.outputs) (sym fits.version) checkpoint.outputs;
      pages = subst (λ (n : ℕ). length p.pages ≤ n) (sym fits.frames) checkpoint.pages;
    }
