use Rattle.mm_laws.proofs.Left.{turn_leaves}
use Rattle.mm_laws.proofs.frames.turns_leave_the_rest.Goals as goal

pub returns : goal.returns
returns c i s n img h fits = turn_leaves s.core s.memory h.core fits.matched n
