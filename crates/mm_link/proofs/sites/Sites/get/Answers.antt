use Rattle.std.{proofs.Common.{◌∙◌, List, ap}, specs.Option.option_map}
use Rattle.mm_link.{specs.{Placing.{Site, site_in}, Steps.place_of}, proofs.Places.found}
use Rattle.mm_link.proofs.sites.Sites.get.Goals as goal

pub returns-clause-place : goal.returns-clause-place
returns-clause-place c =
    c.copied.ensures ∙ c.get.ensures.value ∙ found c.self.inside.by_name.entries c.args.name.now
    ∙ ap (λ (sites : List Site). option_map place_of (site_in sites c.args.name.now)) c.self.view_is
