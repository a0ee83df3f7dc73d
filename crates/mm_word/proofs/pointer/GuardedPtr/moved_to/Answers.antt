use Rattle.std.proofs.Common.{◌≡◌, ◌+◌, ◌%◌, ◌^◌, pos, ◌+ℤ◌, arith}
use Rattle.std.{proofs.{lemmas.Grind.common_steps, Math.Facts.to_z-of_z}, specs.Int.{w64, cast_unsigned}}
use Rattle.mm_word.{specs.Pointer.moved_to, proofs.Segments.moved_wraps}
use Rattle.mm_word.proofs.pointer.GuardedPtr.moved_to.Goals as goal

pub returns-then-contains : goal.returns-then-contains
returns-then-contains c =
    let p = c.args.self in
    let w = c.wrapping_add_signed-addr.result in
    let same : w ≡ (c.args.from + cast_unsigned w64 c.args.by) % 2 ^ 64 = rw (to_z-of_z c.ranges.by) at c.wrapping_add_signed-addr.ensures in
    let moved : moved_to p (pos c.args.from +ℤ c.args.by) ≡ moved_to p (pos w) = moved_wraps p w c.args.from c.args.by c.requires.form c.requires.from c.ranges.by same in
    grind (arith, common_steps)

pub returns-else-contains : goal.returns-else-contains
returns-else-contains c =
    let p = c.args.self in
    let w = c.wrapping_add_signed-addr.result in
    let same : w ≡ (c.args.from + cast_unsigned w64 c.args.by) % 2 ^ 64 = rw (to_z-of_z c.ranges.by) at c.wrapping_add_signed-addr.ensures in
    let moved : moved_to p (pos c.args.from +ℤ c.args.by) ≡ moved_to p (pos w) = moved_wraps p w c.args.from c.args.by c.requires.form c.requires.from c.ranges.by same in
    grind (arith, common_steps)
