use Rattle.std.proofs.Common.{◌∙◌, ap}
use Rattle.mm_draft.{specs.Drafts.{Draft, place_of}, proofs.Names.found}
use Rattle.mm_draft.proofs.draft.Draft.place_of.Goals as goal

pub returns : goal.returns
returns c = c.copied.ensures ∙ c.get.ensures.value ∙ found c.self.inside.names.entries c.args.name.now ∙ ap (λ (d : Draft). place_of d c.args.name.now) c.self.view_is
