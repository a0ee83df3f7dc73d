use Rattle.std.{proofs.Common.{ℕ, ◌≡◌, None, IfErr, subst}, specs.Option.IfNone}
use Rattle.mm_model.specs.Memory.{Memory, page_of, page_at, cell_at}
use Rattle.mm_mem.{specs.Places.IsGap, proofs.Flats.{Pages, flat, unmapped_unless, absent_unless}}
use Rattle.mm_mem.proofs.flat.FlatPages.find.Goals as goal

pub returns-clause-absent : goal.returns-clause-absent
returns-clause-absent c =
    let here = subst (λ (k : ℕ). IfErr c.search.result (IsGap k c.deref.result.now)) c.page_of.ensures c.search.ensures.absent in
    let gap = subst (λ (es : Pages). IfErr c.search.result (IsGap (page_of c.args.word) es)) c.deref.ensures.value here in
    subst (λ (m : Memory). IfNone c.ok.result (cell_at m c.args.word ≡ None)) c.self.view_is
    (absent_unless (flat c.self.inside.pages.items c.self.inside.frames) c.args.word c.search.result c.ok.result c.ok.ensures.value gap)

pub returns-clause-unmapped : goal.returns-clause-unmapped
returns-clause-unmapped c =
    let here = subst (λ (k : ℕ). IfErr c.search.result (IsGap k c.deref.result.now)) c.page_of.ensures c.search.ensures.absent in
    let gap = subst (λ (es : Pages). IfErr c.search.result (IsGap (page_of c.args.word) es)) c.deref.ensures.value here in
    subst (λ (m : Memory). IfNone c.ok.result (page_at m (page_of c.args.word) ≡ None)) c.self.view_is
    (unmapped_unless (flat c.self.inside.pages.items c.self.inside.frames) c.args.word c.search.result c.ok.result c.ok.ensures.value gap)
