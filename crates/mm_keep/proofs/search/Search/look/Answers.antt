use Rattle.std.proofs.Common.{◌∙◌, ◌++◌, refl, ap, subst}
use Rattle.mm_kernel.specs.{Turns.outcomes}
use Rattle.mm_keep.specs.Claims.{Adds}
use Rattle.mm_keep.specs.Searching.{SomeAtOnce, noted}
use Rattle.mm_keep.proofs.Rounds.{looked_one}
use Rattle.mm_keep.proofs.search.Search.look.Goals as goal

pub returns-clause-searching : goal.returns-clause-searching
returns-clause-searching c =
    let s = c.args.self.now in
    let t = c.thread-t.result in
    let to = c.follow_all.new.tables in
    let all = c.as_slice.ensures ∙ c.outcomes-all.ensures in
    let all_again = c.as_slice-2.ensures ∙ c.outcomes-all.ensures in
    let adds = subst (λ l. Adds c.args.kernel.now.image c.args.kernel.now.kept (SomeAtOnce c.args.kernel.now.image c.args.kernel.now.kept l t (outcomes c.args.kernel.now.image c.args.kernel.now.kept t)) s.tables to) c.deref.ensures.value
    (subst (λ os. Adds c.args.kernel.now.image c.args.kernel.now.kept (SomeAtOnce c.args.kernel.now.image c.args.kernel.now.kept c.deref.result.now t os) s.tables to) all c.in_ok-follow_all.ensures) in
    looked_one c.args.kernel.now.image c.args.kernel.now.kept s _ t c.requires.searching c.requires.next c.requires.few c.thread-t.ensures adds refl refl refl refl
    (c.in_ok-note_reader.ensures ∙ ap (λ os. s.readers.items ++ noted s.looked os) all_again)
