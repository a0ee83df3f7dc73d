use Rattle.std.proofs.Common.{◌≡◌, ◌<◌, [], ◌∷◌, ◌++◌, length, slice_index_or, subst, sym, ap, ◌∙◌, arith}
use Rattle.std.specs.{Prelude.{Contains, slice_range}}
use Rattle.mm_endless.specs.Stages.{Stage, stage_of, marked, marked_all}
use Rattle.mm_endless.proofs.{Closing.{marks_len, numbers_len, marked_push}, Lists.range_more, Marks.{read_in, read_as}}
use Rattle.mm_endless.proofs.walk.Walk.mark_from.Goals as goal

pub mark-requires-clause-marks : goal.mark-requires-clause-marks
mark-requires-clause-marks c =
    let s = c.args.self.now in
    let k = c.loop-k.k in
    let same = ap (λ (x : Stage). x.finished) c.loop-k.invariant.stage in
    let long = ap length same in
    let test = c.loop-k-test.true in
    let all = c.len-k-end.ensures in
    let node = read_in c.loop-k.self.finished.items k c.index-node.result.now (omega (arith, long, test, all)) c.index-node.ensures in
    let low = c.requires.marks c.index-node.result.now (subst (λ l. Contains l c.index-node.result.now) same node) in
    let now = ap (λ (x : Stage). length x.marks) c.loop-k.invariant.stage in
    let was = marks_len c.args.first s.marks.items (slice_range s.finished.items c.args.from k) in
    omega (arith, low, now, was)

pub mark-requires-clause-numbers : goal.mark-requires-clause-numbers
mark-requires-clause-numbers c =
    let s = c.args.self.now in
    let k = c.loop-k.k in
    let same = ap (λ (x : Stage). x.finished) c.loop-k.invariant.stage in
    let long = ap length same in
    let test = c.loop-k-test.true in
    let all = c.len-k-end.ensures in
    let node = read_in c.loop-k.self.finished.items k c.index-node.result.now (omega (arith, long, test, all)) c.index-node.ensures in
    let low = c.requires.marks c.index-node.result.now (subst (λ l. Contains l c.index-node.result.now) same node) in
    let now = ap (λ (x : Stage). length x.numbers) c.loop-k.invariant.stage in
    let was = numbers_len s.numbers.items (slice_range s.finished.items c.args.from k) c.args.first in
    let both = c.requires.numbers in
    omega (arith, low, now, was, both)

pub loop-k-preserved : goal.loop-k-preserved
loop-k-preserved c =
    let s : Stage = stage_of c.args.self.now in
    let xs = c.args.self.now.finished.items in
    let k = c.loop-k.k in
    let from = c.args.from in
    let first = c.args.first in
    let same = ap (λ (x : Stage). x.finished) c.loop-k.invariant.stage in
    let long = ap length same in
    let test = c.loop-k-test.true in
    let all = c.len-k-end.ensures in
    let x = c.index-node.result.now in
    let lt : k < length xs = omega (arith, long, test, all) in
    let node : slice_index_or xs k 0 ≡ x = ap (λ l. slice_index_or l k 0) (sym same) ∙ read_as c.loop-k.self.finished.items k x 0 (omega (arith, long, lt)) c.index-node.ensures in
    let low = c.loop-k.auto.k in
    record {
      stage =
          c.mark.ensures.stage ∙ ap (λ t. marked t x first) c.loop-k.invariant.stage ∙ marked_push s (slice_range xs from k) x first
          ∙ ap (λ l. marked_all s l first) (ap (λ y. slice_range xs from k ++ y ∷ []) (sym node) ∙ sym (range_more xs from k (omega (arith, low)) lt));
      graph = c.mark.ensures.graph ∙ c.loop-k.invariant.graph;
      end = omega (arith, lt);
    }
