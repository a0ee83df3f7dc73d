use Rattle.std.proofs.Common.{◌≡◌, ◌⊎◌, refl, sym, subst}
use Rattle.std.specs.Prelude.{Contains}
use Rattle.mm_keep_text.specs.Parts.{AreAll, Use, IsFetch}
use Rattle.mm_keep_text.proofs.Uses.{fetch_used, none_added}
use Rattle.mm_keep_text.proofs.parts.put_fetch.Goals as goal

pub returns-in_ok-insert-in-Some : goal.returns-in_ok-insert-in-Some
returns-in_ok-insert-in-Some c =
    let o = c.args.origin in
    let t = c.args.t.now in
    let word = c.in-Some.word in
    subst (AreAll (λ (u : Use). Contains c.args.uses.now.keys u ⊎ ((u.0 ≡ o) × IsFetch t u.1))) (sym c.in_ok-insert-in-Some.ensures.keys)
    (fetch_used c.args.uses.now.keys o t word ((c.in-Some.ensures.exact word).0 refl) c.in-Some.ensures.aligned)

pub returns-in-None : goal.returns-in-None
returns-in-None c =
    none_added (IsFetch c.args.t.now) c.args.uses.now.keys c.args.origin
    (λ part f. let wrong = (c.in-None.ensures.exact f.word).1 f.fetches in cc)
