use Rattle.std.proofs.Common.{length, ap, arith}
use Rattle.mm_model.proofs.CoreRows.{slot_limit-few}
use Rattle.mm_checkpoint.proofs.reading.read_front.Goals as goal

pub returns-clause-few : goal.returns-clause-few
returns-clause-few c =
    let known = ap length c.slots.ensures.slots in
    omega (
      arith,
      c.in_ok-rows.ensures.count,
      known,
      c.slots.ensures.image.few_slots,
      slot_limit-few c.args.img.now.version,
    )
