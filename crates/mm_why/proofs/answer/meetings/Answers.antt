use Rattle.mm_why.proofs.answer.meetings.Goals as goal

pub returns : goal.returns
returns c = rw (c.deref.ensures.value, c.deref-2.ensures.value) at c.in_ok-sharing_edges.ensures
