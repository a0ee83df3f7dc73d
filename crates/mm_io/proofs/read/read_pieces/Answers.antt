use Rattle.std.proofs.{Common.{rules, ◌≡◌, length, arith, ◌∙◌, refl}, lemmas.Grind.common_steps}
use Rattle.mm_io.specs.Files.{ReadsAt}
use Rattle.mm_io.proofs.Asking.{front_again, front_only, front_ends, front_beyond, same_room}
use Rattle.mm_io.proofs.Reading.{Begins-++, Begins-longer, reads_same}
use Rattle.mm_io.proofs.read.read_pieces.Goals as goal

pub returns-then-len-count-clause-too_long : goal.returns-then-len-count-clause-too_long
returns-then-len-count-clause-too_long g c _ =
    let at : c.len.result ≡ length c.loop-bytes.bytes.items = search rules in
    let reads : ReadsAt (g.F.Files.held c.args.files.now c.args.name.now) (length c.loop-bytes.bytes.items) c.in_ok-count.count c.read_at.new.buf =
    reads_same c.args.name.now c.in_ok-count.count c.read_at.new.buf c.loop-bytes.invariant.kept at c.in_ok-count.ensures.bytes in
    let len : c.len-in-loop-bytes.result ≡ length c.loop-bytes.bytes.items = search rules in
    Begins-longer (g.F.Files.held c.args.files.now c.args.name.now) c.loop-bytes.bytes.items c.in_ok-count.count c.read_at.new.buf c.args.limit c.loop-bytes.invariant.begins
    c.in_ok-count.ensures.bound reads (omega arith)

pub loop-bytes-preserved : goal.loop-bytes-preserved
loop-bytes-preserved g c =
    let at : c.len.result ≡ length c.loop-bytes.bytes.items = search rules in
    let reads : ReadsAt (g.F.Files.held c.args.files.now c.args.name.now) (length c.loop-bytes.bytes.items) c.in_ok-count.count c.read_at.new.buf =
    reads_same c.args.name.now c.in_ok-count.count c.read_at.new.buf c.loop-bytes.invariant.kept at c.in_ok-count.ensures.bytes in
    let begins = Begins-++ (g.F.Files.held c.args.files.now c.args.name.now) c.loop-bytes.bytes.items c.in_ok-count.count c.read_at.new.buf c.loop-bytes.invariant.begins
    c.in_ok-count.ensures.bound reads in
    record {
      inside = grind (arith, common_steps);
      begins = rw c.in_ok-extend_from_slice.ensures.items begins;
      room = search rules;
      kept = c.in_ok-count.ensures.kept ∙ c.loop-bytes.invariant.kept;
      later = λ name. omega (arith, c.in_ok-count.ensures.later name, c.loop-bytes.invariant.later name);
      asks = front_again c.in_ok-count.count c.loop-bytes.invariant.asks at (omega arith) (search rules)
          (same_room c.loop-bytes.invariant.room c.in_ok-count.ensures.asks);
    }

pub returns-in_err-count-clause-asks : goal.returns-in_err-count-clause-asks
returns-in_err-count-clause-asks g c = front_only _ c.loop-bytes.invariant.asks refl c.in_err-count.ensures.asks

pub returns-then-count-eq0-clause-asks : goal.returns-then-count-eq0-clause-asks
returns-then-count-eq0-clause-asks g c = front_only _ c.loop-bytes.invariant.asks refl c.in_ok-count.ensures.asks

pub returns-then-count-eq0-clause-whole : goal.returns-then-count-eq0-clause-whole
returns-then-count-eq0-clause-whole g c =
    let at : c.len.result ≡ length c.loop-bytes.bytes.items = search rules in
    front_ends c.in_ok-count.count c.loop-bytes.invariant.asks c.requires.room at (search rules)
    (same_room (search rules) c.in_ok-count.ensures.asks)

pub returns-then-len-count-clause-asks : goal.returns-then-len-count-clause-asks
returns-then-len-count-clause-asks g c = front_only _ c.loop-bytes.invariant.asks refl c.in_ok-count.ensures.asks

pub returns-in_err-extend_from_slice-clause-asks : goal.returns-in_err-extend_from_slice-clause-asks
returns-in_err-extend_from_slice-clause-asks g c = front_only _ c.loop-bytes.invariant.asks refl c.in_ok-count.ensures.asks

pub returns-then-len-count-clause-beyond : goal.returns-then-len-count-clause-beyond
returns-then-len-count-clause-beyond g c _ =
    let at : c.len.result ≡ length c.loop-bytes.bytes.items = search rules in
    let len : c.len-in-loop-bytes.result ≡ length c.loop-bytes.bytes.items = search rules in
    front_beyond c.in_ok-count.count c.loop-bytes.invariant.asks at (omega arith)
    (same_room c.loop-bytes.invariant.room c.in_ok-count.ensures.asks)
