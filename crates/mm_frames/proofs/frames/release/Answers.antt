use Rattle.std.proofs.Common.{◌≡◌, ◌+◌, ◌-◌, nat_lt, ap, ◌∙◌, arith}
use Rattle.mm_model.specs.Flags.{one_if}
use Rattle.mm_frames.{specs.Framed.times, proofs.Counts.{times_push, below_more}}
use Rattle.mm_frames.proofs.frames.release.Goals as goal

pub loop-frame-preserved : goal.loop-frame-preserved
loop-frame-preserved c =
    let one_less : (c.loop-frame.frame - 1) + 1 ≡ c.loop-frame.frame = omega (arith, c.loop-frame-test.true) in
    record {
      least = omega (arith, c.loop-frame-test.true);
      len = omega (arith, c.loop-frame-test.true, c.loop-frame.invariant.len, c.in-Ok.ensures.len);
      once = λ n.
          let pushed = ap (times n) c.in-Ok.ensures.items ∙ times_push n (c.loop-frame.frame - 1) c.loop-frame.free.items in
          let below = below_more n (c.loop-frame.frame - 1) ∙ ap (λ k. one_if (nat_lt n k)) one_less in
          omega (arith, pushed, below, c.loop-frame.invariant.once n);
      capacity = omega (arith, c.loop-frame.invariant.capacity, c.in-Ok.ensures.capacity);
    }
