use Rattle.std.proofs.Common.{◌∙◌, refl, sym}
use Rattle.mm_net.proofs.LinkWords.{arrow_unique}
use Rattle.mm_net.proofs.link_words.link.Goals as goal

pub returns-in_err-from-2-clause-none : goal.returns-in_err-from-2-clause-none
returns-in_err-from-2-clause-none c _ link range e =
    let parts = arrow_unique c.in_ok-from.from.now c.in_ok-from.to.now link c.in_ok-from.ensures.0 range (sym c.in_ok-from.ensures.1 ∙ e) in
    c.in_err-from-2.ensures.none refl link.from link.take range.takes parts.0

pub returns-in_err-to-clause-none : goal.returns-in_err-to-clause-none
returns-in_err-to-clause-none c _ link range e =
    let parts = arrow_unique c.in_ok-from.from.now c.in_ok-from.to.now link c.in_ok-from.ensures.0 range (sym c.in_ok-from.ensures.1 ∙ e) in
    c.in_err-to.ensures.none refl link.to link.put range.puts parts.1
