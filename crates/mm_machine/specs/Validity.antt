-- What is true of a machine at every moment.
use Rattle.mm_model.specs.{State.State, Image.Image, Spelling.IsImage, Fits.{IsState, Fits, IsConsistent, TurnsWithin}}

-- the state fits an image and keeps the invariants of the types, and no slot has taken more turns than there were
-- cycles
pub record IsValid (s : State) : Type 0 where
  pub image : Image
  pub is_image : IsImage image
  pub state : IsState s
  pub fits : Fits image s
  pub types : IsConsistent s.core
  pub turns : TurnsWithin s
