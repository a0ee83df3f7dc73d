use Rattle.mm_sweep.proofs.Sharing.{meeting_is_sharing}
use Rattle.mm_sweep.proofs.laws.meeting_is_sharing.Goals as goal

pub returns : goal.returns
returns c = meeting_is_sharing
