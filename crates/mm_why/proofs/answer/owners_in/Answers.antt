use Rattle.mm_why.proofs.Deciding.{either_bit}
use Rattle.mm_why.proofs.answer.owners_in.Goals as goal

pub returns : goal.returns
returns c h =
    let makers = rw c.deref.ensures.value at c.any-makers.ensures in
    either_bit c.givers-by_pointers.result c.any-makers.result h _ _ (c.givers-by_pointers.ensures h) (makers h)
