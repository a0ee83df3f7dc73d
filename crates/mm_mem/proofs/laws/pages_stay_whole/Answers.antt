use Rattle.mm_mem.proofs.Kept.{paged_stay, frames_stay}
use Rattle.mm_mem.proofs.laws.pages_stay_whole.Goals as goal

pub returns : goal.returns
returns c = record { paged = paged_stay; frames = frames_stay }
