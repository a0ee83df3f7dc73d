use Rattle.std.proofs.Common.{◌≡◌, ◌⊎◌, sym, subst}
use Rattle.std.specs.Prelude.{Contains}
use Rattle.mm_keep_text.specs.Parts.{AreAll, Use, IsStore}
use Rattle.mm_keep_text.proofs.Uses.{store_added}
use Rattle.mm_keep_text.proofs.parts.put_store.Goals as goal

pub returns-in_ok-insert-in-Stores : goal.returns-in_ok-insert-in-Stores
returns-in_ok-insert-in-Stores c =
    let o = c.args.origin in
    let x = c.args.outcome.now in
    subst (AreAll (λ (u : Use). Contains c.args.uses.now.keys u ⊎ ((u.0 ≡ o) × IsStore x u.1))) (sym c.in_ok-insert-in-Stores.ensures.keys)
    (store_added c.args.uses.now.keys o c.in-Stores.part _ x c.in-Stores.is)
