-- The errors of texts of links and of events are those of texts of words.
use Rattle.std.proofs.Common.{◌≡◌, ℕ, ap}
use Rattle.mm_sched.specs.declared.text.SchedError.{SchedError}
use Rattle.mm_net.specs.{declared.fault.NetError.TheVariants.Fault, Errors.net_error}
use Rattle.mm_sched.specs.declared.text.SchedError.TheVariants as words

pub fault_of : (error : SchedError) (offset : ℕ) → net_error error ≡ Fault offset → error ≡ words.Fault offset
fault_of (words.Fault place) offset e = let same : place ≡ offset = cc in ap words.Fault same
fault_of words.NoMemory offset e = absurd (cc)
