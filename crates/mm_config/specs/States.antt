-- States of the machines of an image.
use Rattle.std.specs.{Prelude.{◌<◌}, List.AllByRecursion}
use Rattle.mm_model.specs.{State.State, Image.Image, Fits.{IsState, Fits, IsConsistent}}

-- a state of a machine of an image
pub record IsStateOf (i : Image) (s : State) : Type 0 where
  pub state : IsState s
  pub fits : Fits i s
  pub kept : IsConsistent s.core
  -- outputs are bytes
  pub bytes : AllByRecursion (λ output. AllByRecursion (λ byte. byte < 256) output) s.core.outputs
