use Rattle.mm_why.specs.Reasons.{NoMeeting}
use Rattle.mm_why.proofs.reasons.meeting.Given as goal

abbrev pub invariant-loop-giver : goal.invariant-loop-giver
invariant-loop-giver l = NoMeeting l.meets l.now l.by l.to l.giver
