use Rattle.std.proofs.Common.{◌≡◌, ◌+◌, ap, sym, ◌∙◌}
use Rattle.mm_gen.specs.Generated.{next_number, nth_number}
use Rattle.mm_gen.proofs.Numbers.{nth_number-none, nth_number-more, cells_behind-none, cells_behind-more}
use Rattle.mm_gen.proofs.pages.data_cells.Goals as goal

pub loop-init : goal.loop-init
loop-init c = record { last = nth_number-none c.args.number.now; cells = c.in_ok-cells.ensures.items ∙ cells_behind-none c.args.number.now }

pub loop-preserved : goal.loop-preserved
loop-preserved c =
    let first = c.args.number.now in
    let k = c.loop.counter in
    let last : c.next_number.result ≡ nth_number first (k + 1) = c.next_number.ensures ∙ ap next_number c.loop.invariant.last ∙ sym (nth_number-more first k) in
    let more = cells_behind-more first k in
    record { last = last; cells = cc (more, c.in_ok-push.ensures.items) }
