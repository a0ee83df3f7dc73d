use Rattle.std.proofs.Common.{length, take, drop, sym, ap, ◌∙◌, slice_index_or, arith}
use Rattle.mm_endless.specs.Rows.{begin_of}
use Rattle.mm_endless.proofs.Rows.{row_inside, row_at, cut}
use Rattle.mm_config.proofs.rows.row.Goals as goal

pub split_at-requires : goal.split_at-requires
split_at-requires c = let r = row_inside c.args.ends.now (length c.args.numbers.now) c.args.at c.requires.ends c.requires.at in let low = r.inside in omega (arith, low)

pub split_at-requires-2 : goal.split_at-requires-2
split_at-requires-2 c =
    let r = row_inside c.args.ends.now (length c.args.numbers.now) c.args.at c.requires.ends c.requires.at in
    let order = r.order in
    let low = r.inside in
    let begin = c.begin.ensures in
    let front = c.split_at.ensures.front_len in
    omega (arith, order, low, begin, front)

pub returns : goal.returns
returns c =
    let rows = c.args.numbers.now in
    let ends = c.args.ends.now in
    let n = c.args.at in
    let r = row_inside ends (length rows) n c.requires.ends c.requires.at in
    c.split_at-2.ensures.back ∙ ap (drop c.begin.result) c.split_at.ensures.front ∙ ap (λ b. drop b (take (slice_index_or ends n 0) rows)) c.begin.ensures
    ∙ cut rows (begin_of ends n) (slice_index_or ends n 0) r.order ∙ sym (row_at rows ends n c.requires.at)
