use Rattle.std.proofs.Common.{sym, ap, ◌∙◌}
use Rattle.mm_config.{specs.Places.page_place, proofs.Placing.no_place}
use Rattle.mm_config.proofs.places.Places.find.Goals as goal

pub returns-in-None : goal.returns-in-None
returns-in-None c =
    c.len.ensures.len ∙ sym (no_place c.self.inside.numbers.keys c.args.number (sym c.in-None.ensures.index)) ∙ ap (λ pages. page_place pages c.args.number) c.self.view_is
