use Rattle.std.proofs.Common.{◌≡◌, ◌↔◌, ◌<◌, ℕ, true, ap, subst}
use Rattle.std.specs.Int.{bit_at}
use Rattle.mm_model.specs.Slot.{Slot}
use Rattle.mm_kernel.specs.Threads.{is_kernel}
use Rattle.mm_hold.proofs.PartySets.{party_is, mask_as}
use Rattle.mm_hold.proofs.sharing.parties_of.Goals as goal

pub returns : goal.returns
returns c =
    let i = c.args.kernel.now.image in
    let kept = c.args.kernel.now.kept in
    let s = c.args.slot.now in
    let m = c.mask_of.result in
    let k = c.kernel_mask.result in
    party_is i kept s m k (mask_as m c.slot.inside.group s.group (ap (λ (t : Slot). t.group) c.slot.view_is) c.mask_of.ensures)
    (subst (λ v. (n : ℕ) → (bit_at k n ≡ 1) ↔ ((is_kernel i kept v ≡ true) × (n ≡ v) × (n < 64))) (ap (λ (t : Slot). t.number) c.slot.view_is) c.kernel_mask.ensures)
