use Rattle.std.proofs.Common.{append_assoc}
use Rattle.mm_format.proofs.ImagesWhole.{image_spelled}
use Rattle.mm_image.proofs.writing.write.Goals as goal

pub returns-clause-written : goal.returns-clause-written
returns-clause-written c =
    rw (
      image_spelled c.args.img.now,
      c.in_ok-put_pages.ensures,
      c.pages-2.ensures.pages,
      c.in_ok-put_slots.ensures,
      c.slots-2.ensures.slots,
      c.in_ok-put_header.ensures,
      c.in_ok-out.ensures.items,
    ) (simp append_assoc)

pub returns-clause-spelled : goal.returns-clause-spelled
returns-clause-spelled c = record { image = c.slots.ensures.image; spelled = returns-clause-written c }
