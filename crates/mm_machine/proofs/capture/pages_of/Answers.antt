use Rattle.std.proofs.{Common.{ℕ, ◌<◌, List, length, arith}, lemmas.List.take_more}
use Rattle.mm_word.specs.declared.word.Cell.{Cell}
use Rattle.mm_model.specs.Memory.{Memory}
use Rattle.mm_machine.{specs.Capture.cells_of, proofs.Collecting.place_page}
use Rattle.mm_mem.proofs.PagePlaces.{place_mapped, place_number}
use Rattle.mm_machine.proofs.capture.pages_of.Goals as goal

pub page_copy-requires-clause-number : goal.page_copy-requires-clause-number
page_copy-requires-clause-number g c = place_number (g.M.Memory.meaning c.args.mem.now) c.loop-i.i c.page_at-number.result c.requires c.page_at-number.ensures

pub page_copy-requires-clause-mapped : goal.page_copy-requires-clause-mapped
page_copy-requires-clause-mapped g c = place_mapped (g.M.Memory.meaning c.args.mem.now) c.loop-i.i c.page_at-number.result c.requires c.page_at-number.ensures

pub loop-i-preserved : goal.loop-i-preserved
loop-i-preserved g c =
    let m : Memory = g.M.Memory.meaning c.args.mem.now in
    let n : ℕ = c.page_at-number.result in
    let page : ℕ × List Cell = (n, cells_of m n) in
    let within : c.loop-i.i < length m.pages = omega arith in
    let more = take_more m.pages c.loop-i.i page within in
    let here = place_page m c.loop-i.i n c.requires c.page_at-number.ensures in
    let copied = c.in_ok-page_copy.ensures in
    let pushed = c.in_ok-push.ensures.items in
    let before = c.loop-i.invariant in
    cc
