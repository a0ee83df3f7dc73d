use Rattle.std.proofs.Common.{[], rules}
use Rattle.mm_format.proofs.Lists.{times_is}
use Rattle.mm_object.specs.Format.{segment_row, push, object}
use Rattle.mm_object.proofs.{FormatFits.object_fits, FormatIs.{header_is, segment_is, object_is, read_within}}
use Rattle.mm_object.proofs.reading.read_object.Goals as goal

pub read_used-requires-clause-start : goal.read_used-requires-clause-start
read_used-requires-clause-start c =
    let r = c.args.reader.now in
    let h = c.in_ok-header.header in
    let middle = c.read_header.new.reader.at in
    let same = c.in_ok-header.ensures.read.1 in
    let low = read_within header_is r.bytes.now c.requires.bytes r.at h middle c.requires.front c.in_ok-header.ensures.read.0 in
    let segments = rw same at c.in_ok-segments.ensures.read.0 in
    let end = read_within (times_is segment_row push segment_is h.segments []) r.bytes.now c.requires.bytes middle _ _ low
    segments in
    rw (c.in_ok-segments.ensures.read.1, same) end

pub returns : goal.returns
unfolding object
returns c = search rules

pub invariant_of-result : goal.invariant_of-result
invariant_of-result c =
    let r = c.args.reader.now in
    object_fits _ (object_is.sound r.bytes.now c.requires.bytes r.at _ _ (returns c).read.0).0
