use Rattle.std.proofs.Common.{◌≡◌, ◌⊎◌, sym, subst}
use Rattle.std.specs.Prelude.{Contains}
use Rattle.mm_keep_text.specs.Parts.{AreAll, Use, IsLoad}
use Rattle.mm_keep_text.proofs.Uses.{load_added}
use Rattle.mm_keep_text.proofs.parts.put_load.Goals as goal

pub returns-in_ok-insert-in-Loads : goal.returns-in_ok-insert-in-Loads
returns-in_ok-insert-in-Loads c =
    let o = c.args.origin in
    let x = c.args.outcome.now in
    subst (AreAll (λ (u : Use). Contains c.args.uses.now.keys u ⊎ ((u.0 ≡ o) × IsLoad x u.1))) (sym c.in_ok-insert-in-Loads.ensures.keys)
    (load_added c.args.uses.now.keys o c.in-Loads.part _ _ x c.in-Loads.is)
