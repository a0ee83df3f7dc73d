use Rattle.std.proofs.Common.{◌≡◌, ◌++◌, ◌∷◌, [], Some, length, slice_get, take, sym, ap, ◌∙◌, arith}
use Rattle.std.proofs.lemmas.{List.{take_more, length-map, take_all}, Option.{get_or_from_slice_get, slice_get_within}}
use Rattle.mm_config.specs.declared.configs.Configs as code
use Rattle.mm_config.specs.Noting.{mapped_pages}
use Rattle.mm_config.proofs.configs.Configs.list_mapped.Goals as goal

pub page_at-requires : goal.page_at-requires
page_at-requires c =
    let same = ap (λ (d : code.Configs). length d.mem.memory.pages) c.loop-i.invariant.others in
    let count = c.pages-i-end.ensures.count in
    omega (arith, same, count, c.loop-i-test.true)

pub loop-i-preserved : goal.loop-i-preserved
loop-i-preserved c =
    let pages = mapped_pages c.args.self.now.mem.memory in
    let l = c.loop-i in
    let n = c.page_at.result in
    let got : slice_get pages l.i ≡ Some n = ap (λ (d : code.Configs). slice_get (mapped_pages d.mem.memory) l.i) (sym l.invariant.others) ∙ c.page_at.ensures in
    let next = take_more pages l.i 0 (slice_get_within pages l.i n got) ∙ ap (λ x. take l.i pages ++ x ∷ []) (get_or_from_slice_get pages l.i n 0 got) in
    record {
      list = c.in_ok-push.ensures.items ∙ ap (λ xs. xs ++ n ∷ []) l.invariant.list ∙ sym next;
      others = ap (λ (d : code.Configs). record d { mapped = c.push.new.self }) l.invariant.others;
    }

pub returns : goal.returns
returns c =
    let pages = mapped_pages c.args.self.now.mem.memory in
    let l = c.loop-i in
    let long = length-map c.args.self.now.mem.memory.pages (λ e. e.0) in
    let count = c.pages-i-end.ensures.count in
    (l.invariant.list ∙ take_all l.i pages (omega (arith, long, count, c.loop-i-test.false)), l.invariant.others)
