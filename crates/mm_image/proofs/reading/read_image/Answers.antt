use Rattle.std.proofs.Common.{arith, rules}
use Rattle.mm_format.proofs.{Headers.{header_is, header_long}, Images.image_is, ImagesFit.image_fits}
use Rattle.mm_format.specs.Images.{image}
use Rattle.mm_image.proofs.reading.read_image.Goals as goal

-- the header ends where the slots begin
pub read_slots-requires : goal.read_slots-requires
read_slots-requires c =
    let r = c.args.reader.now in
    let h = c.in_ok-header.header in
    let ends = header_is.sound r.bytes.now c.requires.bytes r.at h c.read_header.new.reader.at c.in_ok-header.ensures.read.0
    in
    omega (arith, ends.2, header_long h, c.requires.front)

pub returns : goal.returns
unfolding image
returns c = search rules

pub invariant_of-result : goal.invariant_of-result
invariant_of-result c =
    let r = c.args.reader.now in
    image_fits _ (image_is.sound r.bytes.now c.requires.bytes r.at _ _ (returns c).read.0).0
