use Rattle.std.proofs.Common.{◌∙◌, sym, refl}
use Rattle.mm_config.proofs.NotedMemory.{no_page_noted, other_page, page_is_noted}
use Rattle.mm_config.proofs.configs.Configs.note_mapped.Goals as goal

pub returns-then-pages : goal.returns-then-pages
returns-then-pages c = λ touched w. no_page_noted touched c.args.pages c.args.self.now w (sym c.pages.ensures.count ∙ c.if-pages.true) c.pages.ensures.paged

pub note_page-requires : goal.note_page-requires
note_page-requires c =
    let touched = c.requires.0 in
    let w = c.requires.1 in
    record { known = (w.memory, other_page touched c.args.pages c.args.self.now w (λ same. c.if-pages.false (c.pages.ensures.count ∙ same)), w.whole.pages.rising, w.mapped, w.names) }

pub returns : goal.returns
returns c =
    let me = c.args.self.now in
    let store = c.note_page.new.store in
    let names = c.note_page.new.names in
    let e = c.in_ok-note_page.ensures in
    λ touched w. page_is_noted touched c.args.pages me w store names (record me { store = store; names = names; mapped = c.note_page.new.mapped }) refl c.pages.ensures.paged e.names e.mapped e.still e.others
