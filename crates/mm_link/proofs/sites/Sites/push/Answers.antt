use Rattle.std.{proofs.Common.{◌≡◌, ◌∷◌, [], ◌++◌, None, List, ap, sym, ◌∙◌, subst}, specs.List.AllByRecursion}
use Rattle.mm_link.{specs.{Placing.{Site, site_in}, Steps.{entries_of, FitsSite}}, proofs.Places.{inserted, fits_push}}
use Rattle.mm_link.proofs.sites.Sites.push.Goals as goal

pub invariant_of-self-2 : goal.invariant_of-self-2
invariant_of-self-2 c =
    let es = c.self.inside.by_name.entries in
    let new : site_in (entries_of es) c.args.name.now ≡ None = ap (λ (ss : List Site). site_in ss c.args.name.now) c.self.view_is ∙ c.requires.new in
    let s : Site = record { name = c.args.name.now; log = c.args.place.log; base = c.args.place.base } in
    subst (AllByRecursion FitsSite) (sym (ap entries_of c.in_ok-insert.ensures.entries ∙ inserted es c.args.name c.args.place new))
    (fits_push (entries_of es) s c.self.invariant (record { length_fits = c.requires.length_fits; base_fits = c.requires.base_fits }))

pub returns-clause-sites : goal.returns-clause-sites
returns-clause-sites c =
    let es = c.self.inside.by_name.entries in
    let new : site_in (entries_of es) c.args.name.now ≡ None = ap (λ (ss : List Site). site_in ss c.args.name.now) c.self.view_is ∙ c.requires.new in
    let s : Site = record { name = c.args.name.now; log = c.args.place.log; base = c.args.place.base } in
    ap entries_of c.in_ok-insert.ensures.entries ∙ inserted es c.args.name c.args.place new ∙ ap (λ (ss : List Site). ss ++ s ∷ []) c.self.view_is
