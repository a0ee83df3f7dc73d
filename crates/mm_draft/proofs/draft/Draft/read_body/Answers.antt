use Rattle.std.proofs.Common.{◌∙◌, sym}
use Rattle.mm_draft.proofs.Allowed.{may_add_reading}
use Rattle.mm_draft.proofs.draft.Draft.read_body.Goals as goal

pub add_reading-requires : goal.add_reading-requires
add_reading-requires c = may_add_reading c.args.self.now c.args.source.size c.in-Some.body
    (rw c.in-Some.is at c.requires.in_range) (rw c.in-Some.is at c.requires.claims) (sym c.body_fault.ensures
    ∙ c.in-None.is)
