use Rattle.std.proofs.Common.{sym, ◌∙◌}
use Rattle.mm_flow.proofs.Bits.{zero_bit}
use Rattle.mm_hold.proofs.sharing.kernel_mask.Goals as goal

pub returns-then-is_kernel : goal.returns-then-is_kernel
returns-then-is_kernel c = λ n.
    let e = c.mask_of.ensures n in (
      λ h. let r = e.0 h in (sym c.is_kernel.ensures ∙ c.if-is_kernel.true, r.0, r.1),
      λ h. e.1 (h.1, h.2),
    )

pub returns-else-is_kernel : goal.returns-else-is_kernel
returns-else-is_kernel c = λ n. (
  λ h. absurd (zero_bit n h),
  λ h. let yes = h.0 in let is = c.is_kernel.ensures in let no = c.if-is_kernel.false in absurd (cc),
)
