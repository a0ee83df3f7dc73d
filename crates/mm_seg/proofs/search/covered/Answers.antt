use Rattle.std.proofs.Common.{leb-true, le-leb}
use Rattle.mm_seg.proofs.Commons.{covered_by, covered_from}
use Rattle.mm_seg.proofs.search.covered.Goals as goal

pub returns-then-i-items : goal.returns-then-i-items
returns-then-i-items c = (
  λ h. covered_by c.args.items.now c.args.a c.ends_by-i.result c.ends_by-i.ensures c.if-i-items.true (leb-true _ _ h),
  λ h. le-leb _ _ (covered_from c.args.items.now c.args.a c.ends_by-i.result c.requires c.ends_by-i.ensures c.if-i-items.true h),
)
