-- Errors of texts of links and of events.
use Rattle.mm_sched.specs.declared.text.SchedError.{SchedError}
use Rattle.mm_net.specs.declared.fault.NetError.{NetError, TheVariants.{Fault, NoMemory}}
use Rattle.mm_sched.specs.declared.text.SchedError.TheVariants as words

-- the error of a text of words, as one of links or of events
abbrev pub net_error : SchedError → NetError
net_error (words.Fault offset) = Fault offset
net_error words.NoMemory = NoMemory
