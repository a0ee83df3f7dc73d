use Rattle.mm_audit.proofs.solo.alone.Goals as goal

pub returns-in-Some-Crosses-clause-refused : goal.returns-in-Some-Crosses-clause-refused
returns-in-Some-Crosses-clause-refused c =
    let r = rw c.in-Some-Crosses.field-0-is at c.in-Some-Crosses.ensures in
    rw c.in-Some-Crosses.slot-is r
