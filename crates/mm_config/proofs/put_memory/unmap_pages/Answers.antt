use Rattle.std.proofs.Common.{◌≡◌, ◌+◌, ◌<◌, ℕ, slice_index_or, None, sym, subst, arith}
use Rattle.std.proofs.lemmas.Option.{slice_get-get_or}
use Rattle.mm_config.specs.Putting.{HasPut, IsPutSoFar}
use Rattle.mm_config.proofs.{PutCells.unmapped_page, PutPages.{unmap_begins, unmap_skips, unmap_makes, unmap_ends, page_of_change}}
use Rattle.mm_config.proofs.put_memory.unmap_pages.Goals as goal
use Rattle.mm_config.proofs.put_memory.unmap_pages.Goals.{then-page-eq0, else-page-eq0}

pub number-requires : goal.number-requires
number-requires c =
    let list = c.args.changes.now.list.now in
    let i = c.loop-place.place-index in
    (page_of_change c.args.store.now c.args.changes.now c.args.mem.now c.requires i (slice_index_or list i (0, 0)) (slice_get-get_or list i (0, 0) c.loop-place-test.true)).within

pub unmap-requires : goal.unmap-requires
unmap-requires c =
    let list = c.args.changes.now.list.now in
    let i = c.loop-place.place-index in
    let page = page_of_change c.args.store.now c.args.changes.now c.args.mem.now c.requires i (slice_index_or list i (0, 0)) (slice_get-get_or list i (0, 0) c.loop-place-test.true) in
    let small = page.small in
    let is = c.number.ensures in
    omega (arith, small, is)

pub loop-place-init : goal.loop-place-init
loop-place-init c = unmap_begins c.args.store.now c.args.changes.now c.args.mem.now c.requires

pub loop-place-preserved : goal.loop-place-preserved
loop-place-preserved c =
    let k = c.args.store.now in
    let ch = c.args.changes.now in
    let old = c.args.mem.now in
    let l = c.loop-place in
    let i = l.place-index in
    let e : ℕ × ℕ = slice_index_or ch.list.now i (0, 0) in
    let got = slice_get-get_or ch.list.now i (0, 0) c.loop-place-test.true in
    elim c.if-page-eq0.branch [
      | then-page-eq0 w ↦
          let now = w.unmap.new.self in
          let put = subst (λ q. HasPut l.mem now q None) w.number.ensures (unmapped_page l.mem now w.number.result w.unmap.ensures.after w.unmap.ensures.count) in
          subst (IsPutSoFar k ch (λ index name. (index < i + 1) × (name ≡ 0)) old) (sym w.mem-is) (unmap_makes k ch old c.requires i l.mem e got l.invariant w.if-page-eq0.true now put)
      | else-page-eq0 w ↦ subst (IsPutSoFar k ch (λ index name. (index < i + 1) × (name ≡ 0)) old) (sym w.mem-is) (unmap_skips k ch old c.requires i l.mem e got l.invariant w.if-page-eq0.false)
    ]

pub returns : goal.returns
returns c =
    unmap_ends c.args.store.now c.args.changes.now c.args.mem.now c.requires c.loop-place.place-index c.loop-place.mem c.loop-place-test.false c.loop-place.invariant
