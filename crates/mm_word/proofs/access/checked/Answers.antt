use Rattle.std.proofs.Common.{◌≡◌, rules, ℕ, ◌<◌, ◌+◌, ◌%◌, ◌^◌, pos, ◌+ℤ◌, arith, add-zero}
use Rattle.std.{proofs.{lemmas.Grind.common_steps, Math.Facts.to_z-of_z}, specs.Int.{w64, cast_unsigned}}
use Rattle.mm_word.{specs.Pointer.InSegment, proofs.{Segments.segment_below, Checked.touch_wraps}}
use Rattle.mm_word.specs.Access.{touch_at}
use Rattle.mm_word.proofs.access.checked.Goals as goal

pub invariant_of-result : goal.invariant_of-result
invariant_of-result c =
    let p = c.in-Ptr.ptr in
    let a = c.wrapping_add_signed-addr.result in
    let w = c.addr.ensures.well_formed in
    let whole : (i : ℕ) → i < 8 → InSegment p (a + i) = search rules in
    let first : InSegment p a = rw add-zero at (whole 0 (omega arith)) in (
      record {
        right = search rules;
        inside = whole;
        aligned = search rules;
        below = segment_below p.log a p.addr w.log_in_range w.addr_in_range first;
      },
      search rules,
    )

pub returns-clause-granted : goal.returns-clause-granted
returns-clause-granted c = (invariant_of-result c).0

pub returns-clause-value : goal.returns-clause-value
returns-clause-value c =
    let p = c.in-Ptr.ptr in
    let same : c.wrapping_add_signed-addr.result ≡ (p.addr + cast_unsigned w64 c.args.by) % 2 ^ 64 = rw (to_z-of_z c.ranges.by, c.addr.ensures.addr) at c.wrapping_add_signed-addr.ensures in
    let touch : touch_at p (pos p.addr +ℤ c.args.by) c.args.kind ≡ touch_at p (pos c.wrapping_add_signed-addr.result) c.args.kind =
    touch_wraps p c.wrapping_add_signed-addr.result c.args.by c.args.kind c.addr.ensures.well_formed c.ranges.by same in
    grind (arith, common_steps)

pub returns-then-addr-ne0-clause-value : goal.returns-then-addr-ne0-clause-value
returns-then-addr-ne0-clause-value c =
    let p = c.in-Ptr.ptr in
    let same : c.wrapping_add_signed-addr.result ≡ (p.addr + cast_unsigned w64 c.args.by) % 2 ^ 64 = rw (to_z-of_z c.ranges.by, c.addr.ensures.addr) at c.wrapping_add_signed-addr.ensures in
    let touch : touch_at p (pos p.addr +ℤ c.args.by) c.args.kind ≡ touch_at p (pos c.wrapping_add_signed-addr.result) c.args.kind =
    touch_wraps p c.wrapping_add_signed-addr.result c.args.by c.args.kind c.addr.ensures.well_formed c.ranges.by same in
    grind (arith, common_steps)
