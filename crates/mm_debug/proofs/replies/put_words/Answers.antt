use Rattle.std.proofs.Common.{◌≡◌, ◌+◌, ◌*◌, ◌<◌, ℕ, List, get_or, ap, arith}
use Rattle.std.proofs.lemmas.List.{take_all, FromFn.{get_or-range_with_len, length-range_with_len}}
use Rattle.std.specs.List.{flat_map, range_with_len}
use Rattle.mm_model.specs.Memory.{Memory, cell_at}
use Rattle.mm_text.proofs.Appending.{appends_item, appends_same}
use Rattle.mm_debug.specs.Session.{word_line}
use Rattle.mm_debug.proofs.replies.put_words.Goals as goal

pub loop-k-preserved : goal.loop-k-preserved
loop-k-preserved g c =
    let memory : Memory = g.M.Memory.meaning c.args.memory.now in
    let n : ℕ = c.loop-k.k in
    let inside : n < c.args.count = omega arith in
    let same : n ≡ get_or (range_with_len 0 c.args.count) n n = omega (arith, get_or-range_with_len 0 c.args.count n n inside) in
    appends_item (λ k. word_line (c.args.word + 8 * k) (cell_at memory (c.args.word + 8 * k))) (range_with_len 0 c.args.count) n n
    (omega (arith, length-range_with_len 0 c.args.count)) same c.loop-k.invariant c.put_word_line.ensures

pub returns : goal.returns
returns g c =
    let memory : Memory = g.M.Memory.meaning c.args.memory.now in
    let line : ℕ → List ℕ = λ k. word_line (c.args.word + 8 * k) (cell_at memory (c.args.word + 8 * k)) in
    appends_same c.loop-k.invariant (ap (flat_map line) (take_all c.loop-k.k (range_with_len 0 c.args.count) (omega (arith, length-range_with_len 0 c.args.count))))
