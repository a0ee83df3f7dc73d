use Rattle.mm_line.proofs.TokenPlaces.{token_stands}
use Rattle.mm_line.proofs.laws.tokens_stand_in_their_line.Goals as goal

pub returns : goal.returns
returns c = token_stands
