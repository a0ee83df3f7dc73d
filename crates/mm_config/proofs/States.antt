-- A machine of an image stays one.
use Rattle.std.proofs.Common.{ℕ, List, [], ◌∷◌}
use Rattle.mm_model.specs.{Image.{Image, start}, Run.{after, run}, Spelling.IsImage, State.State}
use Rattle.mm_model.proofs.Starts.{start_state, start_fits, start_kept}
use Rattle.mm_model.proofs.{StateKeeps.{after_state, after_fits, after_kept}, OutputBytes.{after_bytes, start_bytes}}
use Rattle.mm_config.specs.States.{IsStateOf}

pub after_state_of : (i : Image) (s : State) (n : ℕ) → IsImage i → IsStateOf i s → IsStateOf i (after s n)
after_state_of i s n img h = record {
  state = after_state s n h.state;
  fits = after_fits i s n img h.state h.fits;
  kept = after_kept i s n img h.state h.fits h.kept;
  bytes = after_bytes s n h.bytes;
}

pub start_state_of : (i : Image) → IsImage i → IsStateOf i (start i)
start_state_of i img = record {
  state = start_state i img;
  fits = start_fits i img;
  kept = start_kept i img.rising img.fresh;
  bytes = start_bytes i;
}

run_state_of : (i : Image) (s : State) (items : List ℕ) → IsImage i → IsStateOf i s → IsStateOf i (run s items)
unfolding run
run_state_of i s [] img h = h
run_state_of i s (n ∷ items) img h = run_state_of i (after s n) items img (after_state_of i s n img h)

pub runs_state_of : (i : Image) (items : List ℕ) → IsImage i → IsStateOf i (run (start i) items)
runs_state_of i items img = run_state_of i (start i) items img (start_state_of i img)
