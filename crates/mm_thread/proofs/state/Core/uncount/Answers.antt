use Rattle.std.proofs.Common.{length, sym, ap, subst, arith}
use Rattle.std.proofs.lemmas.List.{length-map}
use Rattle.mm_model.specs.{State.{ThreadRow, Core}, Fits.{slots_of, IsCore}}
use Rattle.mm_thread.proofs.Sound.{uncounted_whole}
use Rattle.mm_thread.proofs.state.Core.uncount.Goals as goal

pub invariant_of-self : goal.invariant_of-self
invariant_of-self c =
    let t = c.self.inside.tables in
    let long = length-map t.rows (λ (row : ThreadRow). row.slot) in
    let same = ap (λ (k : Core). length (slots_of k)) c.self.view_is in
    subst IsCore (sym c.uncount.ensures) (uncounted_whole t c.args.at (omega (arith, long, same, c.requires)) c.self.invariant)
