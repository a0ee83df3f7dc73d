use Rattle.std.proofs.Common.{rules, ◌≡◌, ◌++◌, ◌∙◌, take, length, ap, arith, length-append}
use Rattle.std.{proofs.lemmas.List.length-take-le, specs.Io.KnownBytes.prepend_known}
use Rattle.mm_io.proofs.Reading.{left_longer, drawn_more, prepend-++}
use Rattle.mm_io.proofs.read.read_input_pieces.Goals as goal

pub returns-then-len-count-clause-too_long : goal.returns-then-len-count-clause-too_long
returns-then-len-count-clause-too_long g c _ =
    let len : c.len.result ≡ length c.loop-bytes.bytes.items = search rules in
    left_longer (c.loop-bytes.bytes.items ++ take c.in_ok-count.count c.read.new.buf) (g.I.Source.left c.read.new.self) c.args.limit
    (c.loop-bytes.invariant.left ∙ ap (prepend_known c.loop-bytes.bytes.items) c.in_ok-count.ensures.bytes
    ∙ prepend-++ c.loop-bytes.bytes.items (take c.in_ok-count.count c.read.new.buf) (g.I.Source.left c.read.new.self))
    (omega (
      arith,
      length-append c.loop-bytes.bytes.items (take c.in_ok-count.count c.read.new.buf),
      length-take-le c.in_ok-count.count c.read.new.buf c.in_ok-count.ensures.bound,
    ))

pub returns-then-len-count-clause-drawn : goal.returns-then-len-count-clause-drawn
returns-then-len-count-clause-drawn g c =
    drawn_more c.loop-bytes.bytes.items (take c.in_ok-count.count c.read.new.buf) (g.I.Source.left c.read.new.self) c.loop-bytes.invariant.left c.in_ok-count.ensures.bytes

pub returns-in_err-extend_from_slice-clause-drawn : goal.returns-in_err-extend_from_slice-clause-drawn
returns-in_err-extend_from_slice-clause-drawn g c =
    drawn_more c.loop-bytes.bytes.items (take c.in_ok-count.count c.read.new.buf) (g.I.Source.left c.read.new.self) c.loop-bytes.invariant.left c.in_ok-count.ensures.bytes
