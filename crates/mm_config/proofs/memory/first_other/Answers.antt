use Rattle.std.proofs.Common.{◌≡◌, ◌∙◌, arith}
use Rattle.std.proofs.lemmas.List.{length-map}
use Rattle.mm_config.{specs.Noting.mapped_pages, proofs.PageLists.{other_here, same_here, all_walked}}
use Rattle.mm_config.proofs.memory.first_other.Goals as goal

pub returns-then-page_at-mapped : goal.returns-then-page_at-mapped
returns-then-page_at-mapped c =
    other_here c.args.mapped.now (mapped_pages c.args.mem.now.memory) c.loop-at.at c.page_at.result c.loop-at.invariant c.if-at-mapped.false c.page_at.ensures c.if-page_at-mapped.true

pub loop-at-preserved : goal.loop-at-preserved
loop-at-preserved c =
    same_here c.args.mapped.now (mapped_pages c.args.mem.now.memory) c.loop-at.at c.page_at.result c.loop-at.invariant c.if-at-mapped.false c.page_at.ensures c.if-page_at-mapped.false

pub returns : goal.returns
returns c =
    let long = length-map c.args.mem.now.memory.pages (λ e. e.0) in
    let count = c.pages-count.ensures.count in
    let end = c.loop-at-test.false in
    let before = c.loop-at.auto.at-end in
    let at : c.pages-count.result ≡ c.loop-at.at = omega (arith, end, before) in
    at ∙ all_walked c.args.mapped.now (mapped_pages c.args.mem.now.memory) c.loop-at.at c.loop-at.invariant (omega (arith, long, count, end))
